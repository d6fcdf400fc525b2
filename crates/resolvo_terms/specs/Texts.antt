-- Texts that lie in one list of bytes.
use Rattle.std.specs.Prelude.{◌≡◌, ◌≤◌, ℕ, List, length, Some, slice_get, slice_range}
use Rattle.std.specs.Str.{IsUtf8}
use Rattle.resolvo_terms.specs.declared.text_list.Bounds.{Bounds}

-- a text by its bounds
abbrev pub text_between : List ℕ → Bounds → List ℕ
text_between bytes b = slice_range bytes b.begin b.end

-- Each text's bounds lie within the bytes, and what is between them is UTF-8.
pub record AreTexts (bytes : List ℕ) (bounds : List Bounds) : Type 0 where
  pub rising : (i : ℕ) (b : Bounds) → slice_get bounds i ≡ Some b → b.begin ≤ b.end
  pub within : (i : ℕ) (b : Bounds) → slice_get bounds i ≡ Some b → b.end ≤ length bytes
  pub utf8 : (i : ℕ) (b : Bounds) → slice_get bounds i ≡ Some b → IsUtf8 (text_between bytes b)
