-- The one element of a list.
use Rattle.std.proofs.Common.{◌≡◌, ℕ, [], ◌∷◌, get_or, subst, arith}
use Rattle.std.specs.Prelude.{Contains}

pub only_one : {A : Type 0} (x y : A) → Contains (x ∷ []) y → x ≡ y
only_one {A} x y h = at h.0 (omega (arith, h.1)) h.2
  where
    at : (k : ℕ) → k ≡ 0 → get_or (x ∷ []) k y ≡ y → x ≡ y
    at k first e = subst (λ (i : ℕ). get_or (x ∷ []) i y ≡ y) first e
