-- The lists that clauses name by an id.
use Rattle.std.specs.Prelude.{◌≡◌, ℕ, ◌<◌, nat_lt, ⊤, Bool, true, false, List, [], ◌∷◌, ◌++◌, length, Option, Some, None, Vec, is_some, slice_get}
use Rattle.std.specs.declared.alloc.Global.{Global}
use Rattle.resolvo_pool_core.specs.declared.requirement.Requirement.{Requirement}
use Rattle.resolvo_pool_core.specs.declared.id.DenseId.{DenseId}
use Rattle.resolvo_pool_core.specs.declared.id.DisjunctionTag.{DisjunctionTag}
use Rattle.resolvo_pool_core.specs.declared.id.LearntClauseTag.{LearntClauseTag}
use Rattle.resolvo_pool_core.specs.ByRequirement.{slot_of, PutsAt}
use Rattle.resolvo_store_core.specs.Signed.{Signed}
use Rattle.resolvo_store_core.specs.declared.lists.Candidate.{Candidate}
use Rattle.resolvo_store_core.specs.declared.lists.FixedLists.{FixedLists}

abbrev pub items_or_none : {X : Type 0} → Option (Vec X Global) → List X
items_or_none None = []
items_or_none (Some v) = v.items

-- a list, or none
abbrev pub list_or_none : {X : Type 0} → Option (List X) → List X
list_or_none None = []
list_or_none (Some xs) = xs

-- the requirement has candidates
abbrev pub has_candidates : {N : Type 0} → FixedLists N → Requirement → Bool
has_candidates ls r = is_some (slot_of ls.candidates r)

-- the candidates of a requirement, in order; none before they are set
abbrev pub candidates_in : {N : Type 0} → FixedLists N → Requirement → List (Candidate N)
candidates_in ls r = list_or_none (slot_of ls.candidates r)

abbrev pub disjunction_count : {N : Type 0} → FixedLists N → ℕ
disjunction_count ls = length ls.disjunctions

abbrev pub learnt_count : {N : Type 0} → FixedLists N → ℕ
learnt_count ls = length ls.learnt

-- the literals of a disjunction
abbrev pub disjunction_in : {N : Type 0} → FixedLists N → DenseId DisjunctionTag ℕ → List Signed
disjunction_in ls d = list_or_none (slice_get ls.disjunctions d.raw)

-- the literals of a learnt clause
abbrev pub learnt_in : {N : Type 0} → FixedLists N → DenseId LearntClauseTag ℕ → List Signed
learnt_in ls l = list_or_none (slice_get ls.learnt l.raw)

-- the literals of a condition's case, if there is a condition
abbrev pub condition_in : {N : Type 0} → FixedLists N → Option (DenseId DisjunctionTag ℕ) → List Signed
condition_in ls None = []
condition_in ls (Some d) = disjunction_in ls d

-- the disjunction of a condition's case is there, if there is a condition
abbrev pub HasDisjunction : {N : Type 0} → FixedLists N → Option (DenseId DisjunctionTag ℕ) → Type 0
HasDisjunction ls None = ⊤
HasDisjunction ls (Some d) = d.raw < disjunction_count ls

-- the same as a test
abbrev pub has_disjunction : {N : Type 0} → FixedLists N → Option (DenseId DisjunctionTag ℕ) → Bool
has_disjunction ls None = true
has_disjunction ls (Some d) = nat_lt d.raw (disjunction_count ls)

-- there is a condition, and the disjunction of its case is there
abbrev pub names_disjunction : {N : Type 0} → FixedLists N → Option (DenseId DisjunctionTag ℕ) → Bool
names_disjunction ls None = false
names_disjunction ls (Some d) = nat_lt d.raw (disjunction_count ls)

abbrev pub has_learnt : {N : Type 0} → FixedLists N → DenseId LearntClauseTag ℕ → Bool
has_learnt ls l = nat_lt l.raw (learnt_count ls)

-- the lists that ids name, however the lists are stored
pub record Named (N : Type 0) : Type 0 where
  pub candidates : Requirement → List (Candidate N)
  pub condition : Option (DenseId DisjunctionTag ℕ) → List Signed
  pub learnt : DenseId LearntClauseTag ℕ → List Signed

abbrev pub named_by : {N : Type 0} → FixedLists N → Named N
named_by ls = record { candidates = candidates_in ls; condition = condition_in ls; learnt = learnt_in ls }

-- no list was given
pub record IsEmpty {N : Type 0} (ls : FixedLists N) : Type 0 where
  pub candidates : (r : Requirement) → slot_of ls.candidates r ≡ None
  pub disjunctions : ls.disjunctions ≡ []
  pub learnt : ls.learnt ≡ []

-- the requirement has these candidates now
pub record FixesCandidates {N : Type 0} (r : Requirement) (given : List (Candidate N)) (old new : FixedLists N) : Type 0 where
  pub put : PutsAt old.candidates new.candidates r given
  pub disjunctions : new.disjunctions ≡ old.disjunctions
  pub learnt : new.learnt ≡ old.learnt

-- the disjunction was added under this number
pub record FixesDisjunction {N : Type 0} (number : ℕ) (given : List Signed) (old new : FixedLists N) : Type 0 where
  pub next : number ≡ length old.disjunctions
  pub put : new.disjunctions ≡ old.disjunctions ++ given ∷ []
  pub candidates : new.candidates ≡ old.candidates
  pub learnt : new.learnt ≡ old.learnt

-- the learnt literals were added under this number
pub record FixesLearnt {N : Type 0} (number : ℕ) (given : List Signed) (old new : FixedLists N) : Type 0 where
  pub next : number ≡ length old.learnt
  pub put : new.learnt ≡ old.learnt ++ given ∷ []
  pub candidates : new.candidates ≡ old.candidates
  pub disjunctions : new.disjunctions ≡ old.disjunctions
