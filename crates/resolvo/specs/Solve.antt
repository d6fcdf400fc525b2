-- The result of a search for a problem's solvables.
use Rattle.std.specs.Prelude.{◌≡◌, ◌⊎◌, ℕ, suc, ◌+◌, ◌<◌, ⊤, Bool, true, false, take, List, [], length, Option, Some, None, Contains, slice_get}
use Rattle.std.specs.Global.{Vec}
use Rattle.resolvo_pool_core.specs.declared.id.VersionSetId.{VersionSetId}
use Rattle.resolvo_pool_core.specs.declared.requirement.ConditionalRequirement.{ConditionalRequirement}
use Rattle.resolvo_pool_core.specs.declared.requirement.Requirement.{Requirement}
use Rattle.resolvo_pool_core.specs.RuleKeeping.{Packages, Rules}
use Rattle.resolvo_sat.specs.declared.analyze.FinalConflict.{FinalConflict}
use Rattle.resolvo_sat.specs.Analysis.{IsRefusal}
use Rattle.resolvo_sat.specs.First.{ArePreferred}
use Rattle.resolvo_state.specs.declared.solver_state.SolverState.{SolverState}
use Rattle.resolvo_state.specs.declared.atom.ProofAtom.TheVariants.{Solvable}
use Rattle.resolvo_state.specs.Keys.{AreOnce}
use Rattle.resolvo_state.specs.Registered.{AreTied}
use Rattle.resolvo_state.specs.Spelled.{Spelled}
use Rattle.resolvo_state.specs.declared.registry.Registry.{Registry}
use Rattle.resolvo_encoder.specs.Conditions.{waiting_count}
use Rattle.resolvo_encoder.specs.Encoded.{IsEncoding}
use Rattle.resolvo_encoder.specs.Steps.{IsBuilt}
use Rattle.resolvo_encoder.specs.TurnLevels.{AreAmongEncoded}
use Rattle.resolvo_proof.specs.Drawn.{AreDrawn, HaveOneSigns}
use Rattle.resolvo_proof.specs.Places.{HaveOnePlace, AreNamedBy}
use Rattle.resolvo_proof.specs.Proof.{IsProof, EndsEmpty, DenyRoot, Proves}
use Rattle.resolvo_sat.specs.RuleClauses.{Atom, IsExact}
use Rattle.resolvo_proof.specs.declared.step.ProofLiteral.{ProofLiteral}
use Rattle.resolvo_proof.specs.declared.step.ProofStep.{ProofStep}
use Rattle.resolvo_proof.specs.declared.step.ProofStep.TheVariants.{Derived}
use Rattle.resolvo_proof.specs.Written.{AreSteps, AreStepsThen, IsStepAt}
use Rattle.resolvo_encoder.specs.declared.encoder.Encoder.{Encoder}
use Rattle.resolvo.specs.Solution.{IsUnsolvable}
use Rattle.resolvo.specs.Turns.{AreAccepted, AreSolvedByTurn, HasReason, IsDeniable, first_of, on_trail}
use Rattle.resolvo.specs.declared.turns.Turn.{Turn}
use Rattle.resolvo.specs.declared.turns.Turns.{Turns}
use Rattle.resolvo.specs.declared.search.SearchResult.{SearchResult}
use Rattle.resolvo.specs.declared.search.SearchResult.TheVariants.{Chosen, Unsat}
use Rattle.resolvo.specs.declared.prove.Solved.{Solved}
use Rattle.resolvo.specs.declared.prove.Steps.{Steps}
use Rattle.resolvo.specs.declared.prove.Steps.TheVariants.{All, Reasons}

-- the root has no requirements and no constraints, and there are no soft requirements
abbrev pub AskNothing : {S : Type 0} → List ConditionalRequirement → List VersionSetId → List S → Type 0
AskNothing requirements constraints softs = (requirements ≡ []) × (constraints ≡ []) × (softs ≡ [])

-- the result of turns: their choices, or the conflict
abbrev pub IsFoundIn : {S : Type 0} → Turns S → Option FinalConflict → SearchResult S → Type 0
IsFoundIn t None (Chosen v turns) = (v.items ≡ t.chosen.keys) × (turns ≡ t.turns)
IsFoundIn t None (Unsat q) = ⊥
IsFoundIn t (Some r) (Chosen v turns) = ⊥
IsFoundIn t (Some r) (Unsat q) = q ≡ r

-- The choices of the trail, in its order, each once. Their rules and the root's are encoded.
pub record AreOnTrail {N S : Type 0} (e : Encoder N S) (solvables : List S) : Type 0 where
  pub in_order : solvables ≡ on_trail e
  pub once : AreOnce solvables
  pub encoded : AreAmongEncoded e solvables

-- the chosen solvables are those of the trail; nothing is claimed of a conflict
abbrev pub IsListedIn : {N S : Type 0} → Encoder N S → SearchResult S → Type 0
IsListedIn e (Chosen v turns) = AreOnTrail e v.items
IsListedIn e (Unsat r) = ⊤

-- nothing was chosen twice
abbrev pub AreChosenOnce : {S : Type 0} → SearchResult S → Type 0
AreChosenOnce (Chosen v turns) = AreOnce v.items
AreChosenOnce (Unsat r) = ⊤

-- the conflict was derived from the clauses, and denies the root alone
abbrev pub IsDenial : {N S : Type 0} → SolverState N S → SearchResult S → Type 0
IsDenial c (Chosen v turns) = ⊤
IsDenial c (Unsat r) = IsRefusal c.search r.literals.items r.causes.items
    × DenyRoot r.literals.items

-- The encoding is built, whatever the packages are, and a conflict follows from its clauses: its
-- proof can be written.
pub record IsProvable {N S : Type 0} (e : Encoder N S) (f : SearchResult S) : Type 0 where
  pub built : IsBuilt e
  pub denial : IsDenial e.coding f

-- The step of this number is derived, and denies nothing but these solvables.
pub record DeniesOnly {N S : Type 0} (steps : List (ProofStep N S)) (among : S → Type 0) (k : ℕ) : Type 0 where
  pub literals : Vec (ProofLiteral N S)
  pub causes : Vec ℕ
  pub derived : slice_get steps k ≡ Some (Derived literals causes)
  pub denies : (l : ProofLiteral N S) → Contains literals.items l
      → (l.positive ≡ false) × ((s : S) × (l.atom ≡ Solvable s) × among s)

-- The turn's step, which a refused soft requirement has, is derived. It denies only the soft
-- requirement and the choices before its turn.
pub record HasProof {N S : Type 0} (steps : List (ProofStep N S)) (chosen : List S) (t : Turn S) : Type 0 where
  pub accepted : t.accepted ≡ true → t.step ≡ None
  pub refused : t.accepted ≡ false
      → (k : ℕ) × (t.step ≡ Some k) × DeniesOnly steps (IsDeniable chosen t) k

-- each turn has its proof
abbrev pub HaveProofs : {N S : Type 0} → List (ProofStep N S) → SearchResult S → Type 0
HaveProofs {N} {S} steps (Chosen v turns) = (t : Turn S) → Contains turns.items t
    → HasProof steps v.items t
HaveProofs {N} {S} steps (Unsat r) = ⊤

-- each turn has a learnt clause for its step
abbrev pub HaveClauses : {N S : Type 0} → SolverState N S → SearchResult S → Type 0
HaveClauses {N} {S} c (Chosen v turns) = (t : Turn S) → Contains turns.items t
    → HasReason c v.items t
HaveClauses {N} {S} c (Unsat r) = ⊤

module _ {N S : Type 0} (same : S → S → Bool) (p : Packages N S) (root : Rules) (softs : List S) where
  -- The result: the turns of the soft requirements, each with its reason. Or a clause that denies
  -- the root alone, and no solvables keep all rules.
  abbrev pub IsFound : Encoder N S → SearchResult S → Type 0
  IsFound e (Chosen v turns) = AreSolvedByTurn same p root v.items (first_of v.items turns.items) softs turns.items
      × HaveClauses e.coding (Chosen v turns)
  IsFound e (Unsat r) = IsUnsolvable same p root
      × IsRefusal e.coding.search r.literals.items r.causes.items

  -- the result holds: the choices of the turns, or that no solvables keep all rules
  abbrev pub Holds : SearchResult S → Type 0
  Holds (Chosen v turns) = AreSolvedByTurn same p root v.items (first_of v.items turns.items) softs turns.items
  Holds (Unsat r) = IsUnsolvable same p root

module _ {N S : Type 0} (same : S → S → Bool) (p : Packages N S) (root : Rules) where
  -- each of these steps is valid at its place
  abbrev pub AreProved : List (ProofStep N S) → Type 0
  AreProved steps = (same_atom : Atom N S → Atom N S → Bool) → IsExact same_atom
      → IsProof same_atom same p root steps

  -- Each of these steps is valid at its place, and each literal of a derived one is in an earlier
  -- one. An atom has one sign in it, and each solvable has one place.
  pub record AreRightSteps (steps : List (ProofStep N S)) : Type 0 where
    pub proof : AreProved steps
    pub drawn : AreDrawn same p steps
    pub signs : HaveOneSigns steps
    pub one_place : HaveOnePlace steps

  -- An encoding of the problem has so many clauses, of which these are the steps, and so many
  -- deferred cases.
  pub record IsCounted (e : Encoder N S) (clauses deferred : ℕ) (steps : List (ProofStep N S)) : Type 0 where
    pub encoding : IsEncoding same p root e
    pub count : clauses ≡ length e.coding.search.clauses
    pub waiting : deferred ≡ waiting_count e
    pub each : (place : ℕ) (step : ProofStep N S) → suc place < clauses
        → slice_get steps place ≡ Some step → IsStepAt e.coding (suc place) step

module _ {N S : Type 0} (same : S → S → Bool) (p : Packages N S) (orders : Requirement → List S → Type 0) (root : Rules) where
  -- in the root's turn candidates were chosen in the order in which they are tried
  abbrev pub IsPreferred : SearchResult S → Type 0
  IsPreferred (Chosen v turns) = ArePreferred same p orders root (take (first_of v.items turns.items) v.items)
  IsPreferred (Unsat r) = Unit {0}

  -- The encoding and the result are those of the problem, by an order in which each requirement's
  -- candidates may be tried.
  pub record IsSearch (softs : List S) (e : Encoder N S) (f : SearchResult S) : Type 0 where
    pub encoding : IsEncoding same p root e
    pub found : IsFound same p root softs e f
    pub preferred : IsPreferred f

  -- The result holds, and the steps of the proof are right. Candidates were chosen in the order in
  -- which they are tried, and each refused soft requirement has a step. The counts are those of an
  -- encoding, whose trail chooses these solvables.
  pub record IsSolved (softs : List S) (s : Solved N S) : Type 0 where
    pub found : Holds same p root softs s.found
    pub proof : AreProved same p root s.proof.items
    pub drawn : AreDrawn same p s.proof.items
    pub signs : HaveOneSigns s.proof.items
    pub one_place : HaveOnePlace s.proof.items
    pub preferred : IsPreferred s.found
    pub proofs : HaveProofs s.proof.items s.found
    pub counted : (e : Encoder N S)
        × IsCounted same p root e s.clause_count s.deferred_count s.proof.items
        × IsListedIn e s.found

-- after a conflict the last step has no literals
abbrev pub EndsSo : {N S : Type 0} → SearchResult S → List (ProofStep N S) → Type 0
EndsSo (Chosen v turns) steps = ⊤
EndsSo (Unsat r) steps = EndsEmpty steps

-- Each clause but the root's has a step; after a conflict there is one step more.
abbrev pub Counts : {S : Type 0} → SearchResult S → ℕ → ℕ → Type 0
Counts (Chosen v turns) clauses steps = clauses ≡ steps + 1
Counts (Unsat r) clauses steps = clauses ≡ steps

-- The same for the steps that are wanted: a choice may have any number of reasons.
abbrev pub CountsBy : {S : Type 0} → Steps → SearchResult S → ℕ → ℕ → Type 0
CountsBy All f clauses steps = Counts f clauses steps
CountsBy Reasons (Chosen v turns) clauses steps = ⊤
CountsBy Reasons (Unsat r) clauses steps = clauses ≡ steps

-- nothing was refused, neither the problem nor a soft requirement
abbrev pub RefusesNothing : {S : Type 0} → SearchResult S → Type 0
RefusesNothing (Chosen v turns) = AreAccepted turns.items
RefusesNothing (Unsat r) = ⊥

-- reasons alone are wanted, and nothing needs one
abbrev pub NeedsNone : {S : Type 0} → Steps → SearchResult S → Type 0
NeedsNone steps f = (steps ≡ Reasons) × RefusesNothing f

-- a search gives a step for each clause after the root's, and a conflict one more for itself
abbrev pub HasSteps : {N S : Type 0} → SolverState N S → SearchResult S → List (ProofStep N S) → Type 0
HasSteps c (Chosen v turns) steps = AreSteps c steps
HasSteps c (Unsat r) steps = AreStepsThen c r.literals.items r.causes.items steps

-- The steps are right wherever the clauses are those of a problem. They are all steps of the
-- clauses, or none, where nothing was refused.
pub record AreStepsOf {N S : Type 0} (c : SolverState N S) (f : SearchResult S) (steps : List (ProofStep N S)) : Type 0 where
  pub proof : Proves c steps
  pub drawn : (same : S → S → Bool) (p : Packages N S) → Spelled same p c → AreDrawn same p steps
  pub signs : HaveOneSigns steps
  pub places : (r : Registry N) (package_of : S → N) → AreTied r c → AreNamedBy r c package_of
      → HaveOnePlace steps
  pub ends : EndsSo f steps
  pub clauses : HasSteps c f steps ⊎ (RefusesNothing f × (steps ≡ []))
