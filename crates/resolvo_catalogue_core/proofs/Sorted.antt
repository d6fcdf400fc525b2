-- A sorted map whose keys are numbers, after one key is set.
use Rattle.std.proofs.Common.{◌≡◌, ◌∙◌, ℕ, Bool, cond, Option, ap, arith}
use Rattle.std.specs.Prelude.{nat_eq}
use Rattle.std.specs.BTreeMap.{BTreeMap, get, is_at}
use Rattle.std.specs.Ordering.{is_eq, nat_cmp}
use Rattle.std.specs.Map.{update}
use Rattle.std.proofs.lemmas.Bool.Decides.{nat_tests}

is_equal : (j k : ℕ) → is_eq (nat_cmp j k) ≡ nat_eq j k
is_equal j k = grind (arith, nat_tests)

pub updates_number : {X : Type 0} (k : ℕ) (m n : BTreeMap ℕ X) (w : Option X) → ((j : ℕ) → get nat_cmp n j ≡ cond (is_at (nat_cmp k) j) w (get nat_cmp m j)) → (j : ℕ) → get nat_cmp n j ≡ update nat_eq (get nat_cmp m) k w j
updates_number k m n w set j = set j ∙ ap (λ (b : Bool). cond b w (get nat_cmp m j)) (is_equal k j)
