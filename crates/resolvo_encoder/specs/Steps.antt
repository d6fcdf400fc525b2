-- The steps of encoding.
use Rattle.std.specs.Prelude.{◌≡◌, ℕ, ◌<◌, ◌≤◌, ◌⊎◌, Bool, true, false, List, [], ◌∷◌, ◌++◌, length, Option, Some, None, IsSome, leb, Contains, slice_get}
use Rattle.resolvo_pool_core.specs.declared.id.ClauseId.{ClauseId}
use Rattle.resolvo_pool_core.specs.declared.id.VariableId.{VariableId}
use Rattle.resolvo_pool_core.specs.declared.requirement.Requirement.{Requirement}
use Rattle.resolvo_pool_core.specs.declared.id.DenseId.{DenseId}
use Rattle.resolvo_pool_core.specs.declared.id.DisjunctionTag.{DisjunctionTag}
use Rattle.resolvo_store_core.specs.Clauses.{yes, no, candidate_literals}
use Rattle.resolvo_store_core.specs.Signed.{Signed, has}
use Rattle.resolvo_store_core.specs.declared.pick.NeedClause.{NeedClause}
use Rattle.resolvo_store_core.specs.declared.lists.Candidate.{Candidate}
use Rattle.resolvo_store_core.specs.declared.lists.FixedLists.{FixedLists}
use Rattle.resolvo_store_core.specs.Lists.{has_candidates, candidates_in, condition_in, disjunction_count, FixesCandidates, IsEmpty}
use Rattle.resolvo_pool_core.specs.ByRequirement.{index_in, slot_of}
use Rattle.resolvo_pool_core.specs.declared.solver_id.SolvableIdOrRoot.TheVariants.{Root}
use Rattle.resolvo_packages.specs.declared.package_source.Offered.{Offered}
use Rattle.resolvo_packages.specs.PackageSource.{offered_solvables}
use Rattle.resolvo_pool_core.specs.Provider.{listed}
use Rattle.resolvo_pool_core.specs.RuleKeeping.{Packages, Rules, IsLawful, is_in, rules_for, is_many}
use Rattle.resolvo_pool_core.specs.declared.requirement.ConditionalRequirement.{ConditionalRequirement}
use Rattle.resolvo_store_core.specs.Trail.{IsSeenOf}
use Rattle.resolvo_decide.specs.Queue.{needs_of, IsNew, IsSound, KeepsSound}
use Rattle.resolvo_sat.specs.RuleClauses.{Rule, cases_for, AreMatched, IsRule}
use Rattle.resolvo_sat.specs.Known.{clause_at}
use Rattle.resolvo_sat.specs.State.{lists}
use Rattle.resolvo_sat.specs.Clauses.{SatClause}
use Rattle.resolvo_state.specs.declared.atom.ProofAtom.{ProofAtom}
use Rattle.resolvo_state.specs.declared.atom.ProofAtom.TheVariants.{Solvable, Gate}
use Rattle.resolvo_pool_core.specs.Text.{solvable_of}
use Rattle.resolvo_pool_core.specs.declared.solver_id.SolvableIdOrRoot.{SolvableIdOrRoot}
use Rattle.resolvo_store_core.specs.AtMostOne.{IsPrefixOf}
use Rattle.resolvo_encoder.specs.Encoded.{IsParentVariable, IsCondition, IsParentEncoded, IsMarkKnown, IsEncoding, AreCandidates}
use Rattle.resolvo_state.specs.Kinds.{Kind}
use Rattle.resolvo_state.specs.declared.solver_state.SolverState.{SolverState}
use Rattle.resolvo_state.specs.declared.registry.Registry.{Registry}
use Rattle.resolvo_state.specs.Atoms.{Represents}
use Rattle.resolvo_state.specs.SolverState.{IsCoding, IsBegun, Grows, LacksNumber, SameTrail, AddsRule}
use Rattle.resolvo_state.specs.Registered.{AreTied, IsTracked, IsQueued, IsMany, IsNothing, Registers}
use Rattle.resolvo_encoder.specs.declared.encoder.Encoder.{Encoder}

-- the need's clause exists, and has no literals but the denial of the parent, those of the
-- condition and those of the candidates
pub record HasNeedLiterals {N : Type 0} (ls : FixedLists N) (clauses : List SatClause) (q : NeedClause) : Type 0 where
  pub in_range : q.clause.0 < length clauses
  pub each : (l : Signed) → has (clause_at (lists clauses) q.clause.0) l ≡ true
      → has (no q.parent ∷ (condition_in ls q.condition ++ candidate_literals (candidates_in ls q.requirement))) l ≡ true

-- The precondition of the calls, for any packages: the search is ready, and registered solvables
-- are tied to their packages. Candidates are positive literals of solvables, and each gate is its
-- requirement's. The clauses of the queue have their needs' literals, and what the queue knows of
-- them is right. What it saw of the trail, as far as the trail's least length, is there.
pub record IsBuilt {N S : Type 0} (e : Encoder N S) : Type 0 where
  pub coding : IsCoding e.coding
  pub tied : AreTied e.registry e.coding
  pub candidates : (r : Requirement) (c : Candidate N) → Contains (candidates_in e.lists r) c
      → (c.literal.positive ≡ true)
      × ((s : S) × Represents e.coding.atoms.keys c.literal.variable (Solvable s))
  pub gates : (r : Requirement) (v : VariableId) → slot_of e.gates r ≡ Some v
      → Represents e.coding.atoms.keys v (Gate r)
  pub within : e.encoded ≤ length e.parents.keys
  pub clauses : (q : NeedClause) → Contains (needs_of e.queue) q
      → HasNeedLiterals e.lists e.coding.search.clauses q
  pub queue : IsSound e.lists e.queue
  pub seen : IsSeenOf e.coding.search.tracker e.queue.undecided.seen.items

-- No number is left for a variable, clause or disjunction that a call adds for a requirement. Or
-- the requirement's own index exceeds those that can have candidates.
pub data LacksNumberFor {N S : Type 0} (r : Requirement) (e : Encoder N S) : Type 0 where
  coding : LacksNumber e.coding → LacksNumberFor r e
  disjunctions : disjunction_count e.lists ≡ 4294967295 → LacksNumberFor r e
  requirement : index_in r ≡ 4294967295 → LacksNumberFor r e

-- clauses with their kinds were added; trail, soft requirements, parents and deferred cases are
-- unchanged
pub record Extends {N S : Type 0} (old new : Encoder N S) : Type 0 where
  pub grows : Grows old.coding new.coding
  pub trail : SameTrail old.coding new.coding
  pub softs : new.recorded.softs.items ≡ old.recorded.softs.items
  pub parents : new.parents ≡ old.parents
  pub encoded : new.encoded ≡ old.encoded
  pub deferred : new.deferred ≡ old.deferred
  pub fired : new.fired ≡ old.fired

-- the candidate is the positive literal of the offered, registered solvable
pub record IsOfferedAs {N S : Type 0} (r : Registry N) (c : SolverState N S) (o : Offered N S) (candidate : Candidate N) : Type 0 where
  pub positive : candidate.literal.positive ≡ true
  pub present : Represents c.atoms.keys candidate.literal.variable (Solvable o.solvable)
  pub tracked : IsTracked r o.name candidate.literal.variable

-- The offered solvable is registered, and returned as a candidate.
pub record RegistersOne {N S : Type 0} (o : Offered N S) (candidate : Candidate N) (r : Registry N) (old : SolverState N S) (t : Registry N) (new : SolverState N S) : Type 0 where
  pub literal : candidate.literal.positive ≡ true
  pub registers : Registers o.name o.solvable candidate.literal.variable r old t new

-- The offered solvables are registered, no others, and returned as candidates. New ones wait for
-- their digits. No clause was added.
pub record RegistersAll {N S : Type 0} (offered : List (Offered N S)) (given : List (Candidate N)) (r : Registry N) (old : SolverState N S) (t : Registry N) (new : SolverState N S) : Type 0 where
  pub coding : IsCoding new
  pub grows : Grows old new
  pub trail : SameTrail old new
  pub tied : AreTied t new
  pub keeps : (m : N) (u : VariableId) → IsTracked r m u → IsTracked t m u
  pub waits : (m : N) (u : VariableId) → IsQueued r m u → IsQueued t m u
  pub only : (m : N) (u : VariableId) → IsTracked t m u
      → IsTracked r m u
      ⊎ ((o : Offered N S) × Contains offered o × (m ≡ o.name)
      × Represents new.atoms.keys u (Solvable o.solvable) × IsQueued t m u)
  pub many : t.many ≡ r.many
  pub clauses : new.search.clauses ≡ old.search.clauses
  pub kinds : new.kinds ≡ old.kinds
  pub each : (o : Offered N S) → Contains offered o
      → (c : Candidate N) × Contains given c × IsOfferedAs t new o c
  pub all : (c : Candidate N) → Contains given c
      → (o : Offered N S) × Contains offered o × IsOfferedAs t new o c
  pub ordered : AreCandidates new.atoms.keys given (offered_solvables offered)

-- a requirement that has candidates keeps them
abbrev pub KeepsLists : {N S : Type 0} → Encoder N S → Encoder N S → Type 0
KeepsLists old new = (r : Requirement) → has_candidates old.lists r ≡ true
    → slot_of new.lists.candidates r ≡ slot_of old.lists.candidates r

-- a requirement that has candidates had them, or it is this one and has the offered ones, in their
-- order
abbrev pub AddsCandidates : {N S : Type 0} → Requirement → List (Offered N S) → Encoder N S → Encoder N S → Type 0
AddsCandidates r offered old new = (q : Requirement) → has_candidates new.lists q ≡ true
    → (slot_of new.lists.candidates q ≡ slot_of old.lists.candidates q)
    ⊎ ((q ≡ r)
    × AreCandidates new.coding.atoms.keys (candidates_in new.lists q) (offered_solvables offered))

-- the solvable is offered with its package, of which it is a candidate
abbrev pub IsListed : {N S : Type 0} → (S → S → Bool) → Packages N S → Offered N S → Type 0
IsListed same p o = (o.name ≡ p.package_of o.solvable)
    × (is_in same p (listed (p.candidates_of o.name)) o.solvable ≡ true)

-- the same, and the package's mark is known
abbrev pub IsAddable : {N S : Type 0} → (S → S → Bool) → Packages N S → Encoder N S → Offered N S → Type 0
IsAddable same p e o = IsListed same p o × IsMarkKnown same p e o.name

-- The offered solvables are registered, and returned as candidates.
pub record Enrols {N S : Type 0} (same : S → S → Bool) (offered : List (Offered N S)) (given : List (Candidate N)) (old new : Encoder N S) : Type 0 where
  pub built : IsBuilt new
  pub extends : Extends old new
  pub lists : new.lists ≡ old.lists
  pub recorded : new.recorded ≡ old.recorded
  pub many : new.registry.many ≡ old.registry.many
  pub keeps : (m : N) (u : VariableId) → IsTracked old.registry m u → IsTracked new.registry m u
  pub each : (o : Offered N S) → Contains offered o
      → (c : Candidate N) × Contains given c × IsOfferedAs new.registry new.coding o c
  pub all : (c : Candidate N) → Contains given c
      → (o : Offered N S) × Contains offered o × IsOfferedAs new.registry new.coding o c
  pub ordered : AreCandidates new.coding.atoms.keys given (offered_solvables offered)
  pub encoding : (p : Packages N S) (root : Rules) → IsLawful p → IsEncoding same p root old
      → ((o : Offered N S) → Contains offered o → IsAddable same p old o)
      → IsEncoding same p root new

-- the offered solvables are the requirement's candidates, unless it had some
pub record Fixes {N S : Type 0} (same : S → S → Bool) (r : Requirement) (offered : List (Offered N S)) (old new : Encoder N S) : Type 0 where
  pub fixed : ((has_candidates old.lists r ≡ true) × (new ≡ old))
      ⊎ ((has_candidates old.lists r ≡ false) × (middle : Encoder N S)
      × (given : List (Candidate N)) × Enrols same offered given old middle
      × FixesCandidates r given middle.lists new.lists
      × (new ≡ record middle { lists = new.lists }))

-- A requires clause of this kind was added: the variable is false, a literal of the condition is
-- true, or a candidate is chosen. It is in the decision queue.
pub record EncodesNeed {N S : Type 0} (kinds : Kind N S) (v : VariableId) (condition : Option (DenseId DisjunctionTag ℕ)) (r : Requirement) (old new : Encoder N S) : Type 0 where
  pub number : ClauseId
  pub states : AddsRule kinds (no v ∷ (condition_in old.lists condition ++ candidate_literals (candidates_in old.lists r))) number old.coding new.coding
  pub queue : needs_of new.queue ≡ needs_of old.queue ++ (let q : NeedClause = record { parent = v; requirement = r; condition = condition; clause = number } in q) ∷ []
  pub sound : KeepsSound old.queue new.queue
  pub seen : new.queue.undecided.seen ≡ old.queue.undecided.seen
  pub registry : new.registry ≡ old.registry
  pub lists : new.lists ≡ old.lists
  pub gates : new.gates ≡ old.gates
  pub recorded : new.recorded ≡ old.recorded
  pub parents : new.parents ≡ old.parents
  pub encoded : new.encoded ≡ old.encoded
  pub deferred : new.deferred ≡ old.deferred
  pub fired : new.fired ≡ old.fired

-- The kind is a case of a parent's requirement, or the gate of a requirement that some solvable
-- has. The variable is the parent's or the gate's, the condition's literals are the case's.
abbrev pub IsNeed : {N S : Type 0} → (S → S → Bool) → Packages N S → Rules → FixedLists N → List (ProofAtom N S) → Kind N S → VariableId → Option (DenseId DisjunctionTag ℕ) → Requirement → Type 0
IsNeed same p root lists atoms Kind.Root v condition r = ⊥
IsNeed same p root lists atoms (Kind.Needs parent need case) v condition r = (need.requirement ≡ r)
    × IsParentVariable atoms parent v × IsCondition same p lists atoms condition case
    × Contains (rules_for same p root parent).requirements need
    × Contains (cases_for same p need) case × AreMatched same p case
IsNeed same p root lists atoms (Kind.Gated s w) v condition r = ⊥
IsNeed same p root lists atoms (Kind.Shared w) v condition r = (w ≡ r) × (condition ≡ None)
    × Represents atoms v (Gate w) × IsRule same p root (Rule.shared w)
IsNeed same p root lists atoms (Kind.Limits parent w s) v condition r = ⊥
IsNeed same p root lists atoms (Kind.LimitsOutside parent w) v condition r = ⊥
IsNeed same p root lists atoms (Kind.IsOut w s) v condition r = ⊥
IsNeed same p root lists atoms (Kind.Locked locked s) v condition r = ⊥
IsNeed same p root lists atoms (Kind.Excluded s why) v condition r = ⊥
IsNeed same p root lists atoms (Kind.Digit n s place bit) v condition r = ⊥
IsNeed same p root lists atoms (Kind.IsThere n s) v condition r = ⊥
IsNeed same p root lists atoms (Kind.Matches w s) v condition r = ⊥
IsNeed same p root lists atoms Kind.Learnt v condition r = ⊥

-- only the clauses, the variables, their origins, and what the queue knows of its clauses changed
pub record SameButCoding {N S : Type 0} (old new : Encoder N S) : Type 0 where
  pub registry : new.registry ≡ old.registry
  pub lists : new.lists ≡ old.lists
  pub queue : needs_of new.queue ≡ needs_of old.queue
  pub gates : new.gates ≡ old.gates
  pub recorded : new.recorded ≡ old.recorded
  pub parents : new.parents ≡ old.parents
  pub encoded : new.encoded ≡ old.encoded
  pub deferred : new.deferred ≡ old.deferred
  pub fired : new.fired ≡ old.fired

-- the parent has the requirement, without condition
pub record Needs {N S : Type 0} (same : S → S → Bool) (p : Packages N S) (root : Rules) (parent : Option S) (need : ConditionalRequirement) : Type 0 where
  pub listed : Contains (rules_for same p root parent).requirements need
  pub free : need.condition ≡ None

-- the requirement has so many candidates that a solvable uses a gate for it
abbrev pub is_gated : {N : Type 0} → FixedLists N → Requirement → Bool
is_gated ls r = leb 4 (length (candidates_in ls r))

-- A solvable's requirement with many candidates has a gate. For any other no gate was added.
pub record UsesGate {N S : Type 0} (parent : Option S) (r : Requirement) (old new : Encoder N S) : Type 0 where
  pub gate : IsSome parent → is_gated old.lists r ≡ true → IsSome (slot_of new.gates r)
  pub root : parent ≡ None → new.gates ≡ old.gates
  pub few : is_gated old.lists r ≡ false → new.gates ≡ old.gates

-- the requirement without condition
abbrev pub unconditional : Requirement → ConditionalRequirement
unconditional r = record { condition = None; requirement = r }

-- the clause of the parent's requirement, which has no condition, was added
abbrev pub NeedsDirectly : {N S : Type 0} → Option S → Requirement → VariableId → Encoder N S → Encoder N S → Type 0
NeedsDirectly parent r v old new = EncodesNeed (Kind.Needs parent (unconditional r) []) v None r old new

-- the clause from the solvable to the gate was added
pub record Opens {N S : Type 0} (s : S) (v gate : VariableId) (r : Requirement) (old new : Encoder N S) : Type 0 where
  pub number : ClauseId
  pub states : AddsRule (Kind.Gated s r) (no v ∷ yes gate ∷ []) number old.coding new.coding
  pub rest : SameButCoding old new
  pub same_queue : new.queue ≡ old.queue

-- there is only the root, whose requirements aren't encoded yet
pub record IsBegunEncoding {N S : Type 0} (e : Encoder N S) : Type 0 where
  pub coding : IsBegun e.coding
  pub registry : IsNothing e.registry
  pub lists : IsEmpty e.lists
  pub queue : IsNew e.queue
  pub gates : (r : Requirement) → slot_of e.gates r ≡ None
  pub packages : e.recorded.packages.keys ≡ []
  pub version_sets : e.recorded.version_sets.keys ≡ []
  pub matches : e.recorded.matches.keys ≡ []
  pub at_least_one : e.recorded.at_least_one.keys ≡ []
  pub queued : e.recorded.queued.keys ≡ []
  pub there : e.recorded.there.keys ≡ []
  pub softs : e.recorded.softs.items ≡ []
  pub parents : e.parents.keys ≡ Root ∷ []
  pub encoded : e.encoded ≡ 0
  pub deferred : e.deferred.items ≡ []
  pub fired : e.fired.keys ≡ []

-- The registry knows whether the package is marked `many`, and nothing else changed.
pub record MarksPackage {N S : Type 0} (same : S → S → Bool) (name : N) (many : Bool) (old new : Encoder N S) : Type 0 where
  pub built : IsBuilt new
  pub rest : new ≡ record old { registry = record old.registry { many = new.registry.many } }
  pub keeps : (n : N) → IsMany old.registry n → IsMany new.registry n
  pub encoding : (p : Packages N S) (root : Rules) → IsLawful p → IsEncoding same p root old
      → many ≡ is_many p name → IsEncoding same p root new × IsMarkKnown same p new name

-- parents were added behind the others, or none
pub record AddsParent {N S : Type 0} (old new : Encoder N S) : Type 0 where
  pub prefix : IsPrefixOf old.parents.keys new.parents.keys
  pub rest : new ≡ record old { parents = new.parents }

-- the requirements and constraints of the next parent are encoded, except deferred cases
abbrev pub IsNextEncoded : {N S : Type 0} → (S → S → Bool) → Packages N S → Rules → Encoder N S → Type 0
IsNextEncoded {N} {S} same p root e = (parent : SolvableIdOrRoot S)
    → slice_get e.parents.keys e.encoded ≡ Some parent
    → IsParentEncoded same p e root (solvable_of parent)
