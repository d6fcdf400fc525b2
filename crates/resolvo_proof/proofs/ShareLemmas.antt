-- One more rule among those that are drawn together with others.
use Rattle.std.proofs.Common.{◌≡◌, inl, inr, ℕ, ◌+◌, ◌<◌, Bool, true, false, cond, List, [], ◌∷◌, ◌++◌, map, filter, take, length, get_or, Option, Some, refl, sym, ap, ◌∙◌}
use Rattle.std.specs.List.{filter_map}
use Rattle.std.specs.Option.{option_to_list}
use Rattle.std.proofs.lemmas.Bool.{eqb-true, both_ways, cases_Bool}
use Rattle.std.proofs.lemmas.List.{append-nil, map-append}
use Rattle.std.proofs.lemmas.List.Elements.{filter-append}
use Rattle.resolvo_pool_core.specs.declared.id.VersionSetId.{VersionSetId}
use Rattle.resolvo_pool_core.specs.declared.requirement.Requirement.{Requirement}
use Rattle.resolvo_pool_core.specs.declared.requirement.Requirement.TheVariants.{Single, Union}
use Rattle.resolvo_sat.specs.RuleClauses.{same_requirement}
use Rattle.resolvo_graph.specs.Tree.{same_set}
use Rattle.resolvo_proof.specs.declared.step.ProofRule.{ProofRule}
use Rattle.resolvo_proof.specs.declared.step.ProofStep.{ProofStep}
use Rattle.resolvo_proof.specs.Order.{rules_at}
use Rattle.resolvo_proof.proofs.RuleLemmas.{rule_of}
use Rattle.resolvo_proof.proofs.LinkLemmas.{kind_more}

pub one_requirement : (q r : Requirement) → same_requirement q r ≡ true → q ≡ r
one_requirement (Single v) (Single w) h = ap (λ (n : ℕ). Single (record { 0 = n })) (eqb-true v.0 w.0 h)
one_requirement (Single v) (Union w) h = absurd (both_ways false refl h)
one_requirement (Union v) (Single w) h = absurd (both_ways false refl h)
one_requirement (Union v) (Union w) h = ap (λ (n : ℕ). Union (record { 0 = n })) (eqb-true v.0 w.0 h)

pub one_set : (v w : VersionSetId) → same_set v w ≡ true → v ≡ w
one_set v w h = ap (λ (n : ℕ). record { 0 = n }) (eqb-true v.0 w.0 h)

-- the entries of a key, after one more entry
pub listed_more : {K X : Type 0} (same : K → K → Bool) → ((a b : K) → same a b ≡ true → a ≡ b) → (entries : K → List X) (key q : K) (x : X) → cond (same key q) (entries key ++ x ∷ []) (entries q) ≡ entries q ++ map (λ (e : K × X). e.1) (filter (λ (e : K × X). same e.0 q) ((key, x) ∷ []))
listed_more same one entries key q x =
    elim (cases_Bool (same key q)) [
      | inl here ↦ rw here (ap (λ k. entries k ++ x ∷ []) (one key q here))
      | inr apart ↦ rw apart (sym (append-nil (entries q)))
    ]

-- the entries with a key, of two lists, are those of the first and then those of the second
pub picked_append : {X Y : Type 0} (is : X → Bool) (of : X → Y) (xs ys : List X) → map of (filter is (xs ++ ys)) ≡ map of (filter is xs) ++ map of (filter is ys)
picked_append is of xs ys = ap (map of) (filter-append is xs ys) ∙ map-append of (filter is xs) (filter is ys)

-- the entries of a kind with a key, after one more rule
pub shared_more : {N S X Y : Type 0} (kind : ProofRule N S → Option X) (is : X → Bool) (of : X → Y) (steps : List (ProofStep N S)) (places : List ℕ) (k : ℕ) (r : ProofRule N S) (old new : List Y) → k < length places → rule_of steps (get_or places k 0) ≡ Some r
    → old ≡ map of (filter is (filter_map kind (rules_at steps (take k places)))) → new ≡ old ++ map of (filter is (option_to_list (kind r))) → new ≡ map of (filter is (filter_map kind (rules_at steps (take (k + 1) places))))
shared_more kind is of steps places k r old new l at was put =
    let before = filter_map kind (rules_at steps (take k places)) in
    put ∙ ap (λ xs. xs ++ map of (filter is (option_to_list (kind r)))) was ∙ sym (picked_append is of before (option_to_list (kind r)))
    ∙ ap (λ xs. map of (filter is xs)) (kind_more kind steps places k r before (before ++ option_to_list (kind r)) l at refl refl)
