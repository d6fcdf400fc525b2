-- The listed versions of a catalogue, by their numbers from 0 in line order.
use Rattle.std.specs.Prelude.{◌≡◌, ℕ, Bool, false, nat_lt, List, [], Option, Some, option_to_list, map, slice_index_or}
use Rattle.std.specs.Option.{option_map_or}
use Rattle.std.specs.List.{filter_map, flat_map, list_all, slice_get}
use Rattle.resolvo_text.specs.Line.{Version, Spec, Line}
use Rattle.resolvo_text.specs.Matches.{Set, matches}
use Rattle.resolvo_catalogue_core.specs.Grammar.{version_of}
use Rattle.resolvo_catalogue_core.specs.declared.rule.VersionNo.{VersionNo}
use Rattle.resolvo_catalogue_core.specs.declared.versions.KeptVersion.{KeptVersion}

-- the versions that the lines list, in line order
abbrev pub listed : List Line → List Version
listed lines = filter_map version_of lines

-- the version of this number
abbrev pub version_at : List Line → ℕ → Option Version
version_at lines n = slice_get (listed lines) n

-- The versions of these numbers, as a set. A number that no version has gives none.
abbrev pub members : List Version → List VersionNo → Set
members versions numbers = flat_map (λ n. option_to_list (slice_get versions n.0)) numbers

-- No version is listed twice.
abbrev pub AreDistinct : List Version → Type 0
AreDistinct versions = (v : Version) (j k : ℕ) → slice_get versions j ≡ Some v → slice_get versions k ≡ Some v → j ≡ k

-- The version of this number is matched.
abbrev pub is_match : List Version → Spec → ℕ → Bool
is_match versions s n = option_map_or (λ v. matches s v) (slice_get versions n) false

-- ---- versions as the code keeps them: each by the number of its package's name, and its own

abbrev pub version_by : List ℕ → ℕ → Version
version_by name number = record { name = name; number = number }

-- the name of a number among these
abbrev pub name_at : List (List ℕ) → ℕ → List ℕ
name_at names k = slice_index_or names k []

abbrev pub kept_version : List (List ℕ) → KeptVersion → Version
kept_version names v = version_by (name_at names v.«package».raw) v.number

abbrev pub kept_versions : List (List ℕ) → List KeptVersion → List Version
kept_versions names kept = map (kept_version names) kept

-- the name of each version is one of so many
abbrev pub is_kept : ℕ → KeptVersion → Bool
is_kept count v = nat_lt v.«package».raw count

abbrev pub are_kept : ℕ → List KeptVersion → Bool
are_kept count kept = list_all (is_kept count) kept
