-- Names that are known to be spelt as names.
use Rattle.std.specs.Prelude.{◌≡◌, ◌<◌, ◌≤◌, ℕ, true, List, Some, length, slice_get}
use Rattle.resolvo_text.specs.Spelling.{is_name}

-- So many of the first texts are names.
pub record AreChecked (texts : List (List ℕ)) (count : ℕ) : Type 0 where
  pub few : count ≤ length texts
  pub names : (i : ℕ) (text : List ℕ) → i < count → slice_get texts i ≡ Some text → is_name text ≡ true
