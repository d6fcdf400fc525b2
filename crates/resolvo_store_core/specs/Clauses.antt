-- The clauses as lists of literals.
use Rattle.std.specs.Prelude.{◌≡◌, ℕ, ◌<◌, ◌&&◌, nat_lt, ⊤, Bool, true, false, List, [], ◌∷◌, ◌++◌, map, Option, Some, None, All, Contains}
use Rattle.resolvo_pool_core.specs.declared.id.VariableId.{VariableId}
use Rattle.resolvo_pool_core.specs.declared.id.DenseId.{DenseId}
use Rattle.resolvo_pool_core.specs.declared.id.DisjunctionTag.{DisjunctionTag}
use Rattle.resolvo_pool_core.specs.declared.id.LearntClauseTag.{LearntClauseTag}
use Rattle.resolvo_pool_core.specs.declared.requirement.Requirement.{Requirement}
use Rattle.resolvo_store_core.specs.Signed.{Signed}
use Rattle.resolvo_store_core.specs.declared.lists.Candidate.{Candidate}
use Rattle.resolvo_store_core.specs.declared.lists.FixedLists.{FixedLists}
use Rattle.resolvo_store_core.specs.Lists.{Named, named_by, has_candidates, has_disjunction, HasDisjunction, has_learnt, learnt_count}
use Rattle.resolvo_store_core.specs.declared.store_clause.Clause.{Clause}
use Rattle.resolvo_store_core.specs.declared.store_clause.Clause.TheVariants.{InstallRoot, Requires, ForbidMultipleInstances, Constrains, ConstrainsParent, ConstrainsExcluded, Lock, Learnt, Excluded, AnyOf}

-- the variable is true
abbrev pub yes : VariableId → Signed
yes v = record { variable = v; positive = true }

-- the variable is false
abbrev pub no : VariableId → Signed
no v = record { variable = v; positive = false }

-- the variable of the problem itself
abbrev pub root : VariableId
root = record { 0 = 0 }

-- the candidates of a requirement are true
abbrev pub candidate_literals : {N : Type 0} → List (Candidate N) → List Signed
candidate_literals cs = map (λ c. c.literal) cs

-- the literals of a clause, over the lists that its ids name
abbrev pub literals_by : {N : Type 0} → Named N → Clause N → List Signed
literals_by ls InstallRoot = yes root ∷ []
literals_by ls (Requires p d r) = no p ∷ (ls.condition d ++ candidate_literals (ls.candidates r))
literals_by ls (ForbidMultipleInstances v l n) = no v ∷ l ∷ []
literals_by ls (Constrains p c s) = no p ∷ no c ∷ []
literals_by ls (ConstrainsParent p x s) = no p ∷ no x ∷ []
literals_by ls (ConstrainsExcluded c x s) = no c ∷ yes x ∷ []
literals_by ls (Lock l o) = no root ∷ no o ∷ []
literals_by ls (Learnt l) = ls.learnt l
literals_by ls (Excluded v s) = no v ∷ []
literals_by ls (AnyOf x v) = yes x ∷ no v ∷ []

-- the literals of a clause, one of which is true
abbrev pub literals_of : {N : Type 0} → FixedLists N → Clause N → List Signed
literals_of ls c = literals_by (named_by ls) c

-- the kinds that always have two literals
abbrev pub is_binary_kind : {N : Type 0} → Clause N → Bool
is_binary_kind InstallRoot = false
is_binary_kind (Requires p d r) = false
is_binary_kind (ForbidMultipleInstances v l n) = true
is_binary_kind (Constrains p c s) = true
is_binary_kind (ConstrainsParent p x s) = true
is_binary_kind (ConstrainsExcluded c x s) = true
is_binary_kind (Lock l o) = true
is_binary_kind (Learnt l) = false
is_binary_kind (Excluded v s) = false
is_binary_kind (AnyOf x v) = true

-- the variable has an index that a literal can have
abbrev pub InRange : VariableId → Type 0
InRange v = v.0 < 2147483648

-- the variables that the clause names itself are in range
abbrev pub OwnInRange : {N : Type 0} → Clause N → Type 0
OwnInRange InstallRoot = ⊤
OwnInRange (Requires p d r) = InRange p
OwnInRange (ForbidMultipleInstances v l n) = InRange v
OwnInRange (Constrains p c s) = InRange p × InRange c
OwnInRange (ConstrainsParent p x s) = InRange p × InRange x
OwnInRange (ConstrainsExcluded c x s) = InRange c × InRange x
OwnInRange (Lock l o) = InRange o
OwnInRange (Learnt l) = ⊤
OwnInRange (Excluded v s) = InRange v
OwnInRange (AnyOf x v) = InRange x × InRange v

-- a literal can have the variable
abbrev pub is_in_range : VariableId → Bool
is_in_range v = nat_lt v.0 2147483648

-- literals can have the variables that the clause names itself
abbrev pub is_own_in_range : {N : Type 0} → Clause N → Bool
is_own_in_range InstallRoot = true
is_own_in_range (Requires p d r) = is_in_range p
is_own_in_range (ForbidMultipleInstances v l n) = is_in_range v
is_own_in_range (Constrains p c s) = is_in_range p && is_in_range c
is_own_in_range (ConstrainsParent p x s) = is_in_range p && is_in_range x
is_own_in_range (ConstrainsExcluded c x s) = is_in_range c && is_in_range x
is_own_in_range (Lock l o) = is_in_range o
is_own_in_range (Learnt l) = true
is_own_in_range (Excluded v s) = is_in_range v
is_own_in_range (AnyOf x v) = is_in_range x && is_in_range v

-- the lists that the clause names are there
abbrev pub HasLists : {N : Type 0} → FixedLists N → Clause N → Type 0
HasLists ls InstallRoot = ⊤
HasLists ls (Requires p d r) = HasDisjunction ls d × (has_candidates ls r ≡ true)
HasLists ls (ForbidMultipleInstances v l n) = ⊤
HasLists ls (Constrains p c s) = ⊤
HasLists ls (ConstrainsParent p x s) = ⊤
HasLists ls (ConstrainsExcluded c x s) = ⊤
HasLists ls (Lock l o) = ⊤
HasLists ls (Learnt l) = l.raw < learnt_count ls
HasLists ls (Excluded v s) = ⊤
HasLists ls (AnyOf x v) = ⊤

-- the same by tests of ids: the condition's case, the candidates or the learnt literals are there
abbrev pub lists_exist : {N : Type 0} → (Option (DenseId DisjunctionTag ℕ) → Bool) → (Requirement → Bool) → (DenseId LearntClauseTag ℕ → Bool) → Clause N → Bool
lists_exist condition candidates learnt InstallRoot = true
lists_exist condition candidates learnt (Requires p d r) = condition d && candidates r
lists_exist condition candidates learnt (ForbidMultipleInstances v l n) = true
lists_exist condition candidates learnt (Constrains p c s) = true
lists_exist condition candidates learnt (ConstrainsParent p x s) = true
lists_exist condition candidates learnt (ConstrainsExcluded c x s) = true
lists_exist condition candidates learnt (Lock l o) = true
lists_exist condition candidates learnt (Learnt l) = learnt l
lists_exist condition candidates learnt (Excluded v s) = true
lists_exist condition candidates learnt (AnyOf x v) = true

abbrev pub has_lists : {N : Type 0} → FixedLists N → Clause N → Bool
has_lists ls c = lists_exist (has_disjunction ls) (has_candidates ls) (has_learnt ls) c

-- the lists that the clause names exist
pub record Fits {N : Type 0} (ls : FixedLists N) (c : Clause N) : Type 0 where
  pub in_range : OwnInRange c
  pub lists : HasLists ls c

-- the value of a clause: true where a literal is true, false where all are false, else none
abbrev pub IsValueOf : (Signed → Option Bool) → List Signed → Option Bool → Type 0
IsValueOf value literals (Some true) = (l : Signed) × Contains literals l × (value l ≡ Some true)
IsValueOf value literals (Some false) = All (λ l. value l ≡ Some false) literals
IsValueOf value literals None = (l : Signed) × Contains literals l × (value l ≡ None) × All (λ m. value m ≡ Some true → ⊥) literals
