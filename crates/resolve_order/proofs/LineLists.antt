-- Lists of lines, in which a line may be twice.
use Rattle.std.proofs.Common.{◌≡◌, ℕ, true, List, [], sym, subst}
use Rattle.std.specs.Prelude.{◌==◌, Contains}
use Rattle.std.specs.List.{list_any}
use Rattle.std.specs.List.Retain.{IsFiltered, DiffersFromLast}
use Rattle.std.specs.List.Sorted.{IsPermutation}
use Rattle.std.proofs.lemmas.List.Sorted.{Contains-permutation}
use Rattle.std.proofs.lemmas.List.Filters.{dedup_is}
use Rattle.std.proofs.lemmas.List.Kept.{Contains-dedup_nat}
use Rattle.resolve_order.proofs.Elements.{any_element, any_from}

-- a sort and a `dedup` keep each line
pub kept_once : (xs ys zs : List ℕ) → IsPermutation xs ys → IsFiltered (DiffersFromLast (λ x y. x == y)) [] ys zs → (i : ℕ) → list_any (λ j. j == i) xs ≡ true → list_any (λ j. j == i) zs ≡ true
kept_once xs ys zs turned filtered i h =
    let f = any_element (λ j. j == i) xs h in
    any_from (λ j. j == i) zs f.0 (subst (λ (us : List ℕ). Contains us f.0) (sym (dedup_is (λ x y. x == y) ys zs filtered)) (Contains-dedup_nat ys f.0 (Contains-permutation xs ys f.0 turned f.1))) f.2
