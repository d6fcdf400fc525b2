-- The index of a value in a list without repetition.
pub use Rattle.resolvo_pool_core.specs.Ordered.{IsPlace}
use Rattle.std.specs.Prelude.{◌≡◌, ◌⊎◌, ℕ, List, length, Some, Contains, slice_get}
use Rattle.resolvo_store_core.specs.AtMostOne.{IsPrefixOf}

-- no value is there twice
abbrev pub AreOnce : {X : Type 0} → List X → Type 0
AreOnce {X} xs = (i j : ℕ) (x : X) → slice_get xs i ≡ Some x → slice_get xs j ≡ Some x → i ≡ j

-- the value is in the longer list: it was in the shorter one, or is behind it
pub record Includes {X : Type 0} (xs ys : List X) (x : X) : Type 0 where
  pub prefix : IsPrefixOf xs ys
  pub present : Contains ys x
  pub only : (y : X) → Contains ys y → Contains xs y ⊎ ((y ≡ x) × (slice_get ys (length xs) ≡ Some x))
