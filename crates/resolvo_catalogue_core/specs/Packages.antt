-- The packages of a catalogue, by the numbers of their names.
use Rattle.std.specs.Prelude.{ℕ, List, Option, option_and_then, slice_index_or}
use Rattle.resolvo_terms.specs.Known.{place_of}
use Rattle.resolvo_catalogue_core.specs.declared.package.Package.{Package}
use Rattle.resolvo_catalogue_core.specs.declared.package.Package.TheVariants.{Absent}
use Rattle.resolvo_catalogue_core.specs.declared.package_table.PackageTable.{PackageTable}
use Rattle.resolvo_catalogue_core.specs.Numbered.{present}

-- the package at a number; behind the last place there is none
abbrev pub package_at : List Package → ℕ → Option Package
package_at places n = present (slice_index_or places n Absent)

-- the package of a name, whose number is its place among these names
abbrev pub package_in : List (List ℕ) → PackageTable → List ℕ → Option Package
package_in names t name = option_and_then (λ n. package_at t.places.items n) (place_of names name)
