-- A set of versions as the judge keeps it: the numbers of each package.
use Rattle.std.specs.Prelude.{◌≡◌, ℕ, List, [], ◌∷◌, ◌++◌, Option, Some, None, if◌then◌else◌}
use Rattle.std.specs.Global.{Vec}
use Rattle.std.specs.BTreeMap.{get_by_text}
use Rattle.std.specs.Str.{bytes_eq}
use Rattle.resolvo_text.specs.Line.{Version}
use Rattle.resolvo_text.specs.Matches.{Set}
use Rattle.resolvo_judge.specs.declared.versions.Versions.{Versions}

-- the numbers of the package's versions, in order
abbrev pub numbers_for : Set → List ℕ → List ℕ
numbers_for [] name = []
numbers_for (v ∷ set) name = if bytes_eq v.name name then v.number ∷ numbers_for set name else numbers_for set name

abbrev pub numbers_kept : Option (Vec ℕ) → List ℕ
numbers_kept None = []
numbers_kept (Some v) = v.items

-- These are the versions.
abbrev pub HoldsAll : Versions → Set → Type 0
HoldsAll versions set = (name : List ℕ) → numbers_kept (get_by_text versions.numbers name) ≡ numbers_for set name

-- The version's number is added to those of its package.
abbrev pub AddsNumber : (List ℕ → Option (Vec ℕ)) → Version → (List ℕ → Option (Vec ℕ)) → Type 0
AddsNumber before v after = (name : List ℕ) → numbers_kept (after name) ≡ (if bytes_eq v.name name then numbers_kept (before name) ++ v.number ∷ [] else numbers_kept (before name))
