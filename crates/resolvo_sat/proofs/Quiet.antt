-- What short clauses leave no choice about.
use Rattle.std.proofs.Common.{◌≡◌, ◌⊎◌, inl, inr, List, [], ◌∷◌, subst, sym}
use Rattle.std.specs.Prelude.{Contains}
use Rattle.resolvo_pool_core.specs.OnePass.{Literal, negate}
use Rattle.resolvo_sat.specs.SearchEnd.{AreFalse, IsQuiet}
use Rattle.resolvo_sat.proofs.Lists.{contains_cases, contains_one, contains_first, contains_second}

module _ {A : Type 0} where
  -- the literals of a clause of two
  pub two_cases : (x y m : Literal A) → Contains (x ∷ y ∷ []) m → (m ≡ x) ⊎ (m ≡ y)
  two_cases x y m a = elim (contains_cases m x (y ∷ []) a) [ inl e ↦ inl e | inr b ↦ inr (contains_one m y b) ]

  -- the second is true where the first is false
  pub quiet_second : (known : List (Literal A)) (x y : Literal A) → IsQuiet known (x ∷ y ∷ []) → Contains known (negate x) → Contains known y
  quiet_second known x y q k = q.complete y (contains_second x y) (λ m a. elim (two_cases x y m a) [
    | inl e ↦ inr (subst (λ z. Contains known (negate z)) (sym e) k)
    | inr e ↦ inl e
  ])

  -- the first is true where the second is false
  pub quiet_first : (known : List (Literal A)) (x y : Literal A) → IsQuiet known (x ∷ y ∷ []) → Contains known (negate y) → Contains known x
  quiet_first known x y q k = q.complete x (contains_first x x (y ∷ []) (λ i. x)) (λ m a. elim (two_cases x y m a) [
    | inl e ↦ inl e
    | inr e ↦ inr (subst (λ z. Contains known (negate z)) (sym e) k)
  ])

  pub false_single : (known : List (Literal A)) (x : Literal A) → Contains known (negate x) → AreFalse known (x ∷ [])
  false_single known x k m a = subst (λ z. Contains known (negate z)) (sym (contains_one m x a)) k

  -- a clause's only literal is not false
  pub quiet_single : (known : List (Literal A)) (x : Literal A) → IsQuiet known (x ∷ []) → Contains known (negate x) → ⊥
  quiet_single known x q k = q.unbroken (false_single known x k)
