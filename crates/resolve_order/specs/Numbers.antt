-- Versions by their packages and numbers, as the code keeps them.
use Rattle.std.specs.Prelude.{◌≡◌, ℕ, ◌≤◌, ◌==◌, nat_lt, IsTrue, Bool, true, if◌then◌else◌, List, Option, Some, None, slice_index_or}
use Rattle.std.specs.Option.{option_and_then}
use Rattle.std.specs.BTreeMap.{BTreeMap, get}
use Rattle.std.specs.Ordering.{nat_cmp}
use Rattle.resolvo_text.specs.declared.spec.Span.{Span}
use Rattle.resolvo_text.specs.Matches.{is_in_span}
use Rattle.resolvo_catalogue_core.specs.declared.rule.VersionNo.{VersionNo}
use Rattle.resolve_order.specs.Keys.{number_of, places_of}
use Rattle.resolve_order.specs.declared.version_table.Numbered.{Numbered}
use Rattle.resolve_order.specs.declared.version_table.VersionTable.{VersionTable}

-- the versions of a package by their numbers
abbrev pub number_at : Option (BTreeMap ℕ VersionNo) → ℕ → Option VersionNo
number_at numbers n = option_and_then (λ m. get nat_cmp m n) numbers

-- the version in place k
abbrev pub single_at : List (Option Numbered) → ℕ → Option Numbered
single_at single k = slice_index_or single k None

-- the same by a number that a package may have
abbrev pub slot : List (Option Numbered) → Option ℕ → Option Numbered
slot single None = None
slot single (Some n) = single_at single n

-- the version in the place of package k of a table
abbrev pub single_of : VersionTable → ℕ → Option Numbered
single_of t k = slot t.single.items (number_of (places_of t.keys.places) k)

-- A place has no version, or that of this number.
abbrev pub is_free : Option Numbered → ℕ → Bool
is_free None n = true
is_free (Some x) n = x.number == n

-- the version of this number: that in the place, or the other one
abbrev pub single_or : Option Numbered → Option VersionNo → ℕ → Option VersionNo
single_or None other n = other
single_or (Some x) other n = if x.number == n then Some x.version else other

-- the version of number n of package k
abbrev pub version_in : VersionTable → ℕ → ℕ → Option VersionNo
version_in t k n = single_or (single_of t k) (number_at (get nat_cmp t.beside k) n) n

-- the version, if it is in the span
abbrev pub single_within : Option Numbered → Span → Option Numbered
single_within None span = None
single_within (Some x) span = if is_in_span span x.number then Some x else None

-- that of the higher number, or the one that there is
abbrev pub newer : Option Numbered → Option Numbered → Option Numbered
newer None other = other
newer (Some x) None = Some x
newer (Some x) (Some y) = if nat_lt x.number y.number then Some y else Some x

-- It has the highest number in the span, or none is in it.
abbrev pub IsNewest : (ℕ → Option VersionNo) → Span → Option Numbered → Type 0
IsNewest numbers span None = (n : ℕ) (k : VersionNo) → numbers n ≡ Some k → IsTrue (is_in_span span n) → ⊥
IsNewest numbers span (Some x) = (numbers x.number ≡ Some x.version) × IsTrue (is_in_span span x.number)
    × ((m : ℕ) (j : VersionNo) → numbers m ≡ Some j → IsTrue (is_in_span span m) → m ≤ x.number)

-- the same, of a version without its number
abbrev pub IsNewestIn : (ℕ → Option VersionNo) → Span → Option VersionNo → Type 0
IsNewestIn numbers span None = (n : ℕ) (k : VersionNo) → numbers n ≡ Some k → IsTrue (is_in_span span n) → ⊥
IsNewestIn numbers span (Some k) = (n : ℕ) × (numbers n ≡ Some k) × IsTrue (is_in_span span n)
    × ((m : ℕ) (j : VersionNo) → numbers m ≡ Some j → IsTrue (is_in_span span m) → m ≤ n)
