-- The state of a solver, and the results of a search in it.
use Rattle.std.specs.Prelude.{◌≡◌, ℕ, ◌+◌, ⊤, Bool, List, [], length, take, Contains, Option, Some, None, Result, Ok, Err}
use Rattle.std.specs.Global.{Vec}
use Rattle.resolvo_pool_core.specs.declared.id.ClauseId.{ClauseId}
use Rattle.resolvo_pool_core.specs.RuleKeeping.{Packages, Rules}
use Rattle.resolvo_pool_core.specs.declared.requirement.Requirement.{Requirement}
use Rattle.resolvo_sat.specs.First.{ArePreferred}
use Rattle.resolvo_proof.specs.Proof.{EndsEmpty}
use Rattle.resolvo_proof.specs.declared.step.ProofStep.{ProofStep}
use Rattle.resolvo_sat.specs.declared.analyze.FinalConflict.{FinalConflict}
use Rattle.resolvo_encoder.specs.declared.encoder.Encoder.{Encoder}
use Rattle.resolvo.specs.Solution.{IsUnsolvable}
use Rattle.resolvo.specs.SoftTurns.{AreCandidates}
use Rattle.resolvo_graph.specs.Graph.{Graph}
use Rattle.resolvo_graph.specs.Message.{IsMessage}
use Rattle.resolvo_graph.specs.declared.display_line.MessageLine.{MessageLine}
use Rattle.resolvo_proof.specs.Draw.{conflict_drawing}
use Rattle.resolvo_proof.specs.Offered.{offered_by}
use Rattle.resolvo_proof.specs.Order.{conflict_rules}
use Rattle.resolvo_proof.specs.Truth.{IsTrueConflictGraph}
use Rattle.resolvo.specs.Conflicts.{Left, AreOffers, conflict_clauses}
use Rattle.resolvo.specs.Turns.{AreSolvedByTurn, first_of}
use Rattle.resolvo.specs.Solve.{AreOnTrail, AreRightSteps, HasProof, IsCounted}
use Rattle.resolvo.specs.declared.prove.Solved.{Solved}
use Rattle.resolvo.specs.declared.prove.Steps.{Steps}
use Rattle.resolvo.specs.declared.prove.Steps.TheVariants.{All, Reasons}
use Rattle.resolvo.specs.declared.turns.Turn.{Turn}
use Rattle.resolvo_pool.specs.declared.cache.CacheFault.{CacheFault}
use Rattle.resolvo_pool.specs.declared.cache.CacheFault.TheVariants as fault
use Rattle.resolvo.specs.declared.search.SearchResult.TheVariants.{Chosen, Unsat}
use Rattle.resolvo.specs.declared.problem.Problem.{Problem}
use Rattle.resolvo.specs.declared.solver.UnsolvableOrCancelled.{UnsolvableOrCancelled}
use Rattle.resolvo.specs.declared.solver.UnsolvableOrCancelled.TheVariants.{Unsolvable, Cancelled, Memory, Ids}

-- The provider; the last search's counts of clauses and deferred cases, its turns and proof, and
-- its conflict, if any.
pub record Kept (P N S : Type 0) : Type 0 where
  pub provider : P
  pub clause_count : ℕ
  pub deferred_count : ℕ
  pub turns : List (Turn S)
  pub proof : List (ProofStep N S)
  pub conflict : Option (Left S)

-- The solver keeps a conflict of these clauses.
abbrev pub HoldsConflict : {P N S : Type 0} → Kept P N S → List ClauseId → Type 0
HoldsConflict {P} {N} {S} k clauses = (l : Left S) × (k.conflict ≡ Some l) × (l.clauses ≡ clauses)

-- The graph of the conflict that is kept, with the offers.
abbrev pub IsGraphOf : {P N S : Type 0} → (N → N → Bool) → (S → S → Bool) → (S → N) → Kept P N S → Graph S → Type 0
IsGraphOf {P} {N} {S} same_name same name_of k g = (l : Left S) → k.conflict ≡ Some l
    → g ≡ conflict_drawing same_name same name_of (offered_by l.offers) (conflict_rules k.proof)

-- Each edge of the graph is true of packages with these names, and of a root, where the kept steps
-- are a proof. The offers must be right.
abbrev pub IsTrueOf : {P N S : Type 0} → (S → S → Bool) → (S → N) → Kept P N S → Graph S → Type 0
IsTrueOf {P} {N} {S} same name_of k g = (l : Left S) → k.conflict ≡ Some l
    → IsTrueConflictGraph same name_of (offered_by l.offers) k.proof g

-- the lines are those of that graph's message
abbrev pub IsConflictMessage : {P N S : Type 0} → (N → N → Bool) → (S → S → Bool) → (S → N) → Kept P N S → List (MessageLine S) → Type 0
IsConflictMessage {P} {N} {S} same_name same name_of k lines = (g : Graph S)
    × IsGraphOf same_name same name_of k g × IsMessage same_name same name_of g lines

-- no clause, no case, no turn, no step and no conflict are left
pub record HasNothing {P N S : Type 0} (k : Kept P N S) : Type 0 where
  pub clauses : k.clause_count ≡ 0
  pub deferred : k.deferred_count ≡ 0
  pub turns : k.turns ≡ []
  pub steps : k.proof ≡ []
  pub unkept : k.conflict ≡ None

-- the rules of a problem's root
abbrev pub root_of : {Id I : Type 0} → Problem Id I → Rules
root_of q = record { requirements = q.requirements.items; constraints = q.constraints.items }

-- the property, if the search ended
abbrev pub IfEnded : {S C : Type 0} → Result (Vec S) (UnsolvableOrCancelled C) → Type 0 → Type 0
IfEnded (Ok v) P = P
IfEnded (Err (Unsolvable conflict)) P = P
IfEnded (Err (Cancelled value)) P = ⊤
IfEnded (Err Memory) P = ⊤
IfEnded (Err Ids) P = ⊤

-- the value of a cancellation may be given
abbrev pub IsStopped : {S C : Type 0} → (C → Type 0) → Result (Vec S) (UnsolvableOrCancelled C) → Type 0
IsStopped may (Ok v) = ⊤
IsStopped may (Err (Unsolvable conflict)) = ⊤
IsStopped may (Err (Cancelled value)) = may value
IsStopped may (Err Memory) = ⊤
IsStopped may (Err Ids) = ⊤

module _ {N S : Type 0} (same : S → S → Bool) (p : Packages N S) (root : Rules) (orders : Requirement → List S → Type 0) (softs : List S) where
  -- The answer for these soft requirements: the turns chose these solvables, in the root's turn by
  -- an order in which candidates may be tried. Each refused soft requirement has a step as its
  -- reason. Or there is no solution, and the offers of the conflict are right. The steps of the
  -- proof are right. The counts are those of an encoding of the problem with these steps, whose
  -- trail chooses these solvables.
  abbrev pub IsAnswer : {C P : Type 0} → Result (Vec S) (UnsolvableOrCancelled C) → Kept P N S → Type 0
  IsAnswer (Ok v) k = AreSolvedByTurn same p root v.items (first_of v.items k.turns) softs k.turns
      × ArePreferred same p orders root (take (first_of v.items k.turns) v.items)
      × ((t : Turn S) → Contains k.turns t → HasProof k.proof v.items t)
      × AreRightSteps same p root k.proof
      × ((e : Encoder N S) × IsCounted same p root e k.clause_count k.deferred_count k.proof
      × AreOnTrail e v.items)
  IsAnswer (Err (Unsolvable conflict)) k = IsUnsolvable same p root
      × AreRightSteps same p root k.proof
      × ((e : Encoder N S) × IsCounted same p root e k.clause_count k.deferred_count k.proof)
      × ((l : Left S) × (k.conflict ≡ Some l) × AreOffers same p orders k.proof l.offers)
  IsAnswer (Err (Cancelled value)) k = ⊤
  IsAnswer (Err Memory) k = ⊤
  IsAnswer (Err Ids) k = ⊤

  -- The answer, where the soft requirements are solvables that the packages have.
  abbrev pub AnswersCandidates : {C P : Type 0} → Result (Vec S) (UnsolvableOrCancelled C) → Kept P N S → Type 0
  AnswersCandidates result k = AreCandidates same p softs → IsAnswer result k

-- The results: a step for each clause but the root's. Without a solution there is one more, which
-- has no literals, no turn, and the conflict, whose clauses are its causes. After a stop there is
-- nothing.
abbrev pub Leaves : {N S C P : Type 0} → Result (Vec S) (UnsolvableOrCancelled C) → Kept P N S → Type 0
Leaves (Ok v) k = (k.clause_count ≡ length k.proof + 1) × (k.conflict ≡ None)
Leaves (Err (Unsolvable conflict)) k = (k.clause_count ≡ length k.proof) × EndsEmpty k.proof
    × (k.turns ≡ []) × HoldsConflict k conflict.clauses.items
    × (conflict.clauses.items ≡ conflict_clauses k.proof)
Leaves (Err (Cancelled value)) k = HasNothing k
Leaves (Err Memory) k = HasNothing k
Leaves (Err Ids) k = HasNothing k

-- The results for the steps that are wanted: of a choice where reasons alone are wanted, no
-- conflict.
abbrev pub LeavesBy : {N S C P : Type 0} → Result (Vec S) (UnsolvableOrCancelled C) → Steps → Kept P N S → Type 0
LeavesBy {N} {S} {C} {P} (Ok v) All k = Leaves {C = C} (Ok v) k
LeavesBy {N} {S} {C} {P} (Ok v) Reasons k = k.conflict ≡ None
LeavesBy {N} {S} {C} {P} (Err e) steps k = Leaves (Err e) k

-- the results of a search are kept, and returned
abbrev pub Keeps : {P N S C : Type 0} → Solved N S → Vec ClauseId → Option (Left S) → Kept P N S → Result (Vec S) (UnsolvableOrCancelled C) → Kept P N S → Type 0
Keeps {P} {N} {S} {C} s ids left old (Ok v) new = (turns : Vec (Turn S))
    × (s.found ≡ Chosen v turns)
    × (new ≡ record old { clause_count = s.clause_count; deferred_count = s.deferred_count; turns = turns.items; proof = s.proof.items; conflict = left })
Keeps {P} {N} {S} {C} s ids left old (Err (Unsolvable conflict)) new = (r : FinalConflict)
    × (s.found ≡ Unsat r) × (conflict.clauses ≡ ids)
    × (new ≡ record old { clause_count = s.clause_count; deferred_count = s.deferred_count; proof = s.proof.items; conflict = left })
Keeps {P} {N} {S} {C} s ids left old (Err (Cancelled value)) new = ⊥
Keeps {P} {N} {S} {C} s ids left old (Err Memory) new = ⊥
Keeps {P} {N} {S} {C} s ids left old (Err Ids) new = ⊥

-- the same reason
abbrev pub stopped_by : {C : Type 0} → CacheFault C → UnsolvableOrCancelled C
stopped_by fault.Memory = Memory
stopped_by fault.Ids = Ids
stopped_by (fault.Cancelled c) = Cancelled c
