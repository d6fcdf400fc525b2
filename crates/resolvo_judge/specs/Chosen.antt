-- A set of versions as the judge keeps it: the numbers of the chosen versions of each package.
use Rattle.std.specs.Prelude.{◌≡◌, ℕ, ◌+◌, length, false, ⊤, if◌then◌else◌, [], ◌∷◌, Option, Some, None}
use Rattle.std.specs.Ordering.{nat_cmp}
use Rattle.std.specs.Option.{option_and_then}
use Rattle.std.specs.BTreeMap.{BTreeMap, get, get_by_text}
use Rattle.resolvo_text.specs.Line.{Version}
use Rattle.resolvo_text.specs.Matches.{Set, same_version, is_member}
use Rattle.resolvo_judge.specs.declared.chosen.Chosen.{Chosen}

-- the number of versions before this one, counted from i
abbrev pub index_from : ℕ → Set → Version → Option ℕ
index_from i [] v = None
index_from i (w ∷ set) v = if same_version w v then Some i else index_from (i + 1) set v

-- the same, of the versions of one package by their numbers
abbrev pub index_in : Option (BTreeMap ℕ ℕ) → ℕ → Option ℕ
index_in numbers n = option_and_then (λ m. get nat_cmp m n) numbers

-- no version twice
abbrev pub AreOnce : Set → Type 0
AreOnce [] = ⊤
AreOnce (v ∷ set) = (is_member v set ≡ false) × AreOnce set

-- These are the chosen versions.
pub record Holds (chosen : Chosen) (set : Set) : Type 0 where
  pub indexes : (v : Version) → index_in (get_by_text chosen.packages v.name) v.number ≡ index_from 0 set v
  pub count : chosen.count ≡ length set
  pub once : AreOnce set
