-- Versions beside their numbers.
use Rattle.std.specs.Prelude.{◌≡◌, ℕ, ◌<◌, ◌==◌, if◌then◌else◌, ⊤, List, [], ◌∷◌, length, Option, Some, None, slice_index_or}
use Rattle.std.specs.BTreeMap.{BTreeMap, get}
use Rattle.std.specs.Ordering.{nat_cmp}
use Rattle.resolvo_catalogue_core.specs.declared.rule.VersionNo.{VersionNo}
use Rattle.resolvo_catalogue_core.specs.declared.package.Package.{Package}
use Rattle.resolvo_catalogue_core.specs.declared.package.Package.TheVariants.{Absent, One, Several}
use Rattle.resolvo_catalogue_core.specs.declared.version_list.VersionList.{VersionList}

-- the version beside the first number that is this one
abbrev pub beside : List ℕ → List VersionNo → ℕ → Option VersionNo
beside [] vs k = None
beside (n ∷ ns) [] k = None
beside (n ∷ ns) (v ∷ vs) k = if n == k then Some v else beside ns vs k

-- each number is above those before it
abbrev pub AreRising : List ℕ → Type 0
AreRising ns = (i j : ℕ) → i < j → j < length ns → slice_index_or ns i 0 < slice_index_or ns j 0

-- the number is above these
abbrev pub IsAbove : ℕ → List ℕ → Type 0
IsAbove n ns = (j : ℕ) → j < length ns → slice_index_or ns j 0 < n

-- the numbers rise, or a map finds the versions by them
abbrev pub IsSought : Option (BTreeMap ℕ VersionNo) → List ℕ → List VersionNo → Type 0
IsSought None ns vs = AreRising ns
IsSought (Some m) ns vs = (k : ℕ) → get nat_cmp m k ≡ beside ns vs k

-- each version is beside its number, and is found by it
pub record AreNumbered (l : VersionList) : Type 0 where
  pub paired : length l.numbers.items ≡ length l.versions.items
  pub sought : IsSought l.by_number l.numbers.items l.versions.items

-- a package that has a version
abbrev pub present : Package → Option Package
present Absent = None
present (One n v) = Some (One n v)
present (Several l) = Some (Several l)

-- the numbers of a package's versions
abbrev pub numbers_of : Package → List ℕ
numbers_of Absent = []
numbers_of (One n v) = n ∷ []
numbers_of (Several l) = l.value.numbers.items

-- its versions
abbrev pub versions_of : Package → List VersionNo
versions_of Absent = []
versions_of (One n v) = v ∷ []
versions_of (Several l) = l.value.versions.items

abbrev pub IsNumbered : Package → Type 0
IsNumbered Absent = ⊤
IsNumbered (One n v) = ⊤
IsNumbered (Several l) = AreNumbered l.value
