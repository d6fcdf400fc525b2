-- The hot packages.
use Rattle.std.specs.Prelude.{◌≡◌, ℕ, ◌<◌, List, Contains}

-- the packages in the list are those with a score above 0
pub record AreHot {N : Type 0} (score : N → ℕ) (hot : List N) : Type 0 where
  pub listed : (name : N) → (Contains hot name → ⊥) → score name ≡ 0
  pub scored : (name : N) → Contains hot name → 0 < score name
