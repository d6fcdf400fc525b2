-- A condition holds exactly if all version sets of some case are met.
use Rattle.std.proofs.Common.{◌≡◌, ℕ, zero, suc, ◌<◌, Bool, true, false, ◌&&◌, ◌||◌, List, [], ◌∷◌, ◌++◌, map, refl, sym, ap, ◌∙◌, arith}
use Rattle.std.specs.List.{list_all}
use Rattle.std.proofs.lemmas.List.Folds.{list_all-append}
use Rattle.std.proofs.lemmas.List.{append-nil}
use Rattle.std.proofs.lemmas.Grind.{flat_map-append}
use Rattle.resolvo_pool_core.specs.declared.id.ConditionId.{ConditionId}
use Rattle.resolvo_pool_core.specs.declared.id.VersionSetId.{VersionSetId}
use Rattle.resolvo_pool_core.specs.declared.condition.Condition.{Condition}
use Rattle.resolvo_pool_core.specs.declared.condition.Condition.TheVariants.{Binary, Requirement}
use Rattle.resolvo_pool_core.specs.declared.condition.LogicalOperator.{LogicalOperator}
use Rattle.resolvo_pool_core.specs.declared.condition.LogicalOperator.TheVariants.{And, Or}
use Rattle.resolvo_pool_core.specs.Provider.{OperandsBelow}
use Rattle.resolvo_pool_core.specs.RuleKeeping.{truth_of}
use Rattle.resolvo_store_core.specs.Cases.{pairs, cases_by, cases_within, cases, truth_within, condition_holds, some_case_met}

or_assoc : (a b c : Bool) → ((a || b) || c) ≡ (a || (b || c))
or_assoc true b c = refl
or_assoc false b c = refl

and_or : (a b c : Bool) → (a && (b || c)) ≡ ((a && b) || (a && c))
and_or true b c = refl
and_or false b c = refl

or_and : (a b c : Bool) → ((a || b) && c) ≡ ((a && c) || (b && c))
or_and true true c = or_same c
  where
    or_same : (c : Bool) → c ≡ (c || c)
    or_same true = refl
    or_same false = refl
or_and true false c = or_none c
  where
    or_none : (c : Bool) → c ≡ (c || false)
    or_none true = refl
    or_none false = refl
or_and false b c = refl

and_false : (a : Bool) → false ≡ (a && false)
and_false true = refl
and_false false = refl

list_any-append : (cs ds : List (List VersionSetId)) (met : VersionSetId → Bool) → some_case_met met (cs ++ ds) ≡ (some_case_met met cs || some_case_met met ds)
list_any-append [] ds met = refl
list_any-append (c ∷ cs) ds met = ap (λ (b : Bool). list_all met c || b) (list_any-append cs ds met) ∙ sym (or_assoc (list_all met c) (some_case_met met cs) (some_case_met met ds))

with_each : (l : List VersionSetId) (right : List (List VersionSetId)) (met : VersionSetId → Bool) → some_case_met met (map (λ r. l ++ r) right) ≡ (list_all met l && some_case_met met right)
with_each l [] met = and_false (list_all met l)
with_each l (r ∷ right) met =
    ap (λ (b : Bool). b || some_case_met met (map (λ x. l ++ x) right)) (list_all-append met l r)
    ∙ ap (λ (b : Bool). (list_all met l && list_all met r) || b) (with_each l right met)
    ∙ sym (and_or (list_all met l) (list_all met r) (some_case_met met right))

of_pairs : (left right : List (List VersionSetId)) (met : VersionSetId → Bool) → some_case_met met (pairs left right) ≡ (some_case_met met left && some_case_met met right)
of_pairs [] right met = refl
of_pairs (l ∷ left) right met =
    list_any-append (map (λ r. l ++ r) right) (pairs left right) met
    ∙ ap (λ (b : Bool). b || some_case_met met (pairs left right)) (with_each l right met)
    ∙ ap (λ (b : Bool). (list_all met l && some_case_met met right) || b) (of_pairs left right met)
    ∙ sym (or_and (list_all met l) (some_case_met met left) (some_case_met met right))

one_case : (b : Bool) → ((b && true) || false) ≡ b
one_case true = refl
one_case false = refl

step_exact : (met : VersionSetId → Bool) (below : ConditionId → List (List VersionSetId)) (holds : ConditionId → Bool) → ((a : ConditionId) → some_case_met met (below a) ≡ holds a) → (q : Condition) → some_case_met met (cases_by below q) ≡ truth_of met holds q
step_exact met below holds h (Requirement v) = one_case (met v)
step_exact met below holds h (Binary And a b) = of_pairs (below a) (below b) met ∙ ap (λ (x : Bool). x && some_case_met met (below b)) (h a) ∙ ap (λ (x : Bool). holds a && x) (h b)
step_exact met below holds h (Binary Or a b) = list_any-append (below a) (below b) met ∙ ap (λ (x : Bool). x || some_case_met met (below b)) (h a) ∙ ap (λ (x : Bool). holds a || x) (h b)

within_exact : (condition_of : ConditionId → Condition) (met : VersionSetId → Bool) (n : ℕ) (c : ConditionId) → some_case_met met (cases_within condition_of n c) ≡ truth_within met condition_of n c
within_exact condition_of met zero c = refl
within_exact condition_of met (suc n) c = step_exact met (cases_within condition_of n) (truth_within met condition_of n) (within_exact condition_of met n) (condition_of c)

pub exact_cases : (condition_of : ConditionId → Condition) (met : VersionSetId → Bool) (c : ConditionId) → some_case_met met (cases condition_of c) ≡ condition_holds met condition_of c
exact_cases condition_of met c = within_exact condition_of met (suc c.0) c

-- the bound on the steps down never shows
by_alike : (f g : ConditionId → List (List VersionSetId)) (q : Condition) (c : ConditionId) → OperandsBelow q c → ((a : ConditionId) → a.0 < c.0 → f a ≡ g a) → cases_by f q ≡ cases_by g q
by_alike f g (Requirement v) c below h = refl
by_alike f g (Binary And a b) c below h = ap (λ x. pairs x (f b)) (h a below.0) ∙ ap (λ x. pairs (g a) x) (h b below.1)
by_alike f g (Binary Or a b) c below h = ap (λ x. x ++ f b) (h a below.0) ∙ ap (λ x. g a ++ x) (h b below.1)

within_alike : (condition_of : ConditionId → Condition) → ((c : ConditionId) → OperandsBelow (condition_of c) c) → (n m : ℕ) (c : ConditionId) → c.0 < n → c.0 < m → cases_within condition_of n c ≡ cases_within condition_of m c
within_alike of below zero m c h k = absurd (omega arith)
within_alike of below (suc n) zero c h k = absurd (omega arith)
within_alike of below (suc n) (suc m) c h k = by_alike (cases_within of n) (cases_within of m) (of c) c (below c) (λ a l. within_alike of below n m a (omega arith) (omega arith))

-- a condition's cases are those that its operands' give
pub cases_by_cases : (condition_of : ConditionId → Condition) → ((c : ConditionId) → OperandsBelow (condition_of c) c) → (c : ConditionId) → cases condition_of c ≡ cases_by (cases condition_of) (condition_of c)
cases_by_cases of below c = by_alike (cases_within of c.0) (cases of) (of c) c (below c) (λ a l. within_alike of below c.0 (suc a.0) a l (omega arith))

pub pairs_more : (left : List (List VersionSetId)) (l : List VersionSetId) (right : List (List VersionSetId)) → pairs (left ++ l ∷ []) right ≡ pairs left right ++ map (λ r. l ++ r) right
pairs_more left l right = flat_map-append (λ x. map (λ r. x ++ r) right) left (l ∷ []) ∙ ap (λ (cs : List (List VersionSetId)). pairs left right ++ cs) (append-nil (map (λ r. l ++ r) right))

pub cases_and : (condition_of : ConditionId → Condition) → ((c : ConditionId) → OperandsBelow (condition_of c) c) → (c : ConditionId) (op : LogicalOperator) (a b : ConditionId) → Binary op a b ≡ condition_of c → op ≡ And → pairs (cases condition_of a) (cases condition_of b) ≡ cases condition_of c
cases_and of below c op a b is e = sym (cases_by_cases of below c ∙ ap (cases_by (cases of)) (sym is) ∙ ap (λ (o : LogicalOperator). cases_by (cases of) (Binary o a b)) e)

pub cases_or : (condition_of : ConditionId → Condition) → ((c : ConditionId) → OperandsBelow (condition_of c) c) → (c : ConditionId) (op : LogicalOperator) (a b : ConditionId) → Binary op a b ≡ condition_of c → op ≡ Or → cases condition_of a ++ cases condition_of b ≡ cases condition_of c
cases_or of below c op a b is e = sym (cases_by_cases of below c ∙ ap (cases_by (cases of)) (sym is) ∙ ap (λ (o : LogicalOperator). cases_by (cases of) (Binary o a b)) e)
