-- The lists that clauses name, by id and as plain lists.
use Rattle.std.proofs.Common.{◌≡◌, ℕ, ◌&&◌, Bool, ◌∷◌, ◌++◌, Option, Some, None, refl, ◌∙◌, ap}
use Rattle.resolvo_pool_core.specs.declared.id.DenseId.{DenseId}
use Rattle.resolvo_pool_core.specs.declared.id.DisjunctionTag.{DisjunctionTag}
use Rattle.resolvo_pool_core.specs.declared.id.LearntClauseTag.{LearntClauseTag}
use Rattle.resolvo_pool_core.specs.declared.requirement.Requirement.{Requirement}
use Rattle.resolvo_store_core.specs.Lists.{Named, has_candidates, has_disjunction, has_learnt}
use Rattle.resolvo_store_core.specs.Clauses.{no, candidate_literals, literals_by, lists_exist, has_lists}
use Rattle.resolvo_store.specs.Stored.{Kept, plain}
use Rattle.resolvo_store.specs.Calls.{has_condition, has_candidates_for, has_learnt_in}
use Rattle.resolvo_store_core.specs.declared.store_clause.Clause.{Clause}
use Rattle.resolvo_store_core.specs.declared.store_clause.Clause.TheVariants.{InstallRoot, Requires, ForbidMultipleInstances, Constrains, ConstrainsParent, ConstrainsExcluded, Lock, Learnt, Excluded, AnyOf}
use Rattle.resolvo_store.proofs.Picks.{SameNames}

-- equal names give equal literals
pub literals_same : {N : Type 0} (n m : Named N) → SameNames n m → (c : Clause N) → literals_by n c ≡ literals_by m c
literals_same n m same InstallRoot = refl
literals_same n m same (Requires p d r) = ap (λ ls. no p ∷ (ls ++ candidate_literals (n.candidates r))) (same.condition d) ∙ ap (λ cs. no p ∷ (m.condition d ++ candidate_literals cs)) (same.candidates r)
literals_same n m same (ForbidMultipleInstances v l p) = refl
literals_same n m same (Constrains p c s) = refl
literals_same n m same (ConstrainsParent p x s) = refl
literals_same n m same (ConstrainsExcluded c x s) = refl
literals_same n m same (Lock l o) = refl
literals_same n m same (Learnt l) = same.learnt l
literals_same n m same (Excluded v s) = refl
literals_same n m same (AnyOf x v) = refl

-- tests of ids that agree
pub exist_same : {N : Type 0} (f g : Option (DenseId DisjunctionTag ℕ) → Bool) (h k : Requirement → Bool) (i j : DenseId LearntClauseTag ℕ → Bool) → ((d : Option (DenseId DisjunctionTag ℕ)) → f d ≡ g d) → ((r : Requirement) → h r ≡ k r) → ((l : DenseId LearntClauseTag ℕ) → i l ≡ j l)
    → (c : Clause N) → lists_exist f h i c ≡ lists_exist g k j c
exist_same f g h k i j fg hk ij InstallRoot = refl
exist_same f g h k i j fg hk ij (Requires p d r) = ap (λ b. b && h r) (fg d) ∙ ap (λ b. g d && b) (hk r)
exist_same f g h k i j fg hk ij (ForbidMultipleInstances v l p) = refl
exist_same f g h k i j fg hk ij (Constrains p c s) = refl
exist_same f g h k i j fg hk ij (ConstrainsParent p x s) = refl
exist_same f g h k i j fg hk ij (ConstrainsExcluded c x s) = refl
exist_same f g h k i j fg hk ij (Lock l o) = refl
exist_same f g h k i j fg hk ij (Learnt l) = ij l
exist_same f g h k i j fg hk ij (Excluded v s) = refl
exist_same f g h k i j fg hk ij (AnyOf x v) = refl

-- the lists of a clause exist where the plain lists have them
pub lists_plain : {N S : Type 0} (score : S → N → ℕ) (k : Kept N S) (c : Clause N) → has_lists k.lists c ≡ lists_exist (has_condition (plain score k)) (has_candidates_for (plain score k)) (has_learnt_in (plain score k)) c
lists_plain score k c = exist_same (has_disjunction k.lists) (has_condition (plain score k)) (has_candidates k.lists) (has_candidates_for (plain score k)) (has_learnt k.lists) (has_learnt_in (plain score k)) condition (λ r. refl)
    (λ l. refl) c
  where
    condition : (d : Option (DenseId DisjunctionTag ℕ)) → has_disjunction k.lists d ≡ has_condition (plain score k) d
    condition None = refl
    condition (Some d) = refl
