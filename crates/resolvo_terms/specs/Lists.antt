-- Lists of version sets that lie in one list, and where they are found.
use Rattle.std.specs.Prelude.{◌≡◌, ◌≤◌, ℕ, Bool, List, Option, length, map, Some, slice_get, slice_range}
use Rattle.std.specs.Global.{Vec}
use Rattle.std.specs.List.{fold}
use Rattle.std.specs.Str.{bytes_eq}
use Rattle.resolvo_pool_core.specs.declared.id.VersionSetId.{VersionSetId}
use Rattle.resolvo_terms.specs.declared.set_lists.Part.{Part}
use Rattle.resolvo_terms.specs.Hash.{mix}
use Rattle.resolvo_terms.specs.Found.{AreIndexed, list_number_in}

-- a list by its bounds
abbrev pub part_of : List VersionSetId → Part → List VersionSetId
part_of members p = slice_range members p.begin p.end

-- Each list's bounds lie within the members.
pub record AreParts (members : List VersionSetId) (parts : List Part) : Type 0 where
  pub rising : (i : ℕ) (p : Part) → slice_get parts i ≡ Some p → p.begin ≤ p.end
  pub within : (i : ℕ) (p : Part) → slice_get parts i ≡ Some p → p.end ≤ length members

abbrev pub set_numbers : List VersionSetId → List ℕ
set_numbers list = map (λ v. v.0) list

abbrev pub list_eq : List VersionSetId → List VersionSetId → Bool
list_eq x y = bytes_eq (set_numbers x) (set_numbers y)

-- a hash of a list
unfoldable pub list_hash : List VersionSetId → ℕ
list_hash list = fold (λ (hash : ℕ) (v : VersionSetId). mix hash v.0) 0 list

-- the number of a list in a sorted map
abbrev pub map_number : List (Vec ℕ × ℕ) → List VersionSetId → Option ℕ
map_number others list = list_number_in others (set_numbers list)

-- The first so many lists are found.
abbrev pub AreListsFound : List (List VersionSetId) → List ℕ → List (Vec ℕ × ℕ) → ℕ → Type 0
AreListsFound lists slots others count = AreIndexed list_eq list_hash lists slots (map_number others) count
