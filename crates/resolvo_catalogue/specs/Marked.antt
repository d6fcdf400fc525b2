-- The marks of a version in lines: locked, favoured, excluded.
use Rattle.std.specs.Prelude.{◌≡◌, ℕ, Bool, false, List, Option, Some, None, Contains, slice_get, slice_index_or, length}
use Rattle.std.specs.Bool.{Decides}
use Rattle.resolvo_text.specs.Line.{Version, Line, Lock, Favour, Exclude}
use Rattle.resolvo_catalogue_core.specs.Grammar.{line_at}
use Rattle.resolvo_catalogue_core.specs.Listed.{listed}
use Rattle.resolvo_catalogue_core.specs.Sets.{is_many}
use Rattle.resolvo_pool_core.specs.declared.id.StringId.{StringId}
use Rattle.resolvo_catalogue.specs.Ids.{Ids, IsWord}
use Rattle.resolvo_catalogue.specs.declared.candidate_flags.CandidateFlags.{CandidateFlags}

-- The word is that of a line that excludes the version, or there is no such line.
abbrev pub IsExclusion : Ids → List Line → Version → Option StringId → Type 0
IsExclusion ids lines v None = (word : List ℕ) → Contains lines (Exclude v word) → ⊥
IsExclusion ids lines v (Some w) = (word : List ℕ) × Contains lines (Exclude v word) × IsWord ids w word

-- The marks of a version are those that these lines give it, favours being among lines of their own.
pub record IsMarked (ids : Ids) (lines favours : List Line) (v : Version) (m : CandidateFlags) : Type 0 where
  pub locked : Decides m.locked (Contains lines (Lock v))
  pub favored : Decides m.favored (Contains favours (Favour v))
  pub excluded : IsExclusion ids lines v m.excluded
  -- the line that excludes it
  pub line : (w : StringId) → m.excluded ≡ Some w → (word : List ℕ) × (line_at lines m.line ≡ Some (Exclude v word))

-- Of each listed version, whether its package is marked `many`. That of a version without a place isn't.
abbrev pub AreMany : List Line → List Bool → Type 0
AreMany lines flags = (k : ℕ) (v : Version) → slice_get (listed lines) k ≡ Some v → slice_index_or flags k false ≡ is_many lines v.name

pub record AreMarked (ids : Ids) (lines favours : List Line) (versions : List Version) (marks : List CandidateFlags) : Type 0 where
  pub as_many : length marks ≡ length versions
  pub each : (k : ℕ) (m : CandidateFlags) (v : Version) → slice_get marks k ≡ Some m → slice_get versions k ≡ Some v → IsMarked ids lines favours v m

abbrev pub no_marks : CandidateFlags
no_marks = record { locked = false; favored = false; excluded = None; line = 0 }

-- The marks of each version stand at its number. A version without a place has none.
abbrev pub AreMarksOf : Ids → List Line → List Version → List CandidateFlags → Type 0
AreMarksOf ids lines versions marks = (k : ℕ) (v : Version) → slice_get versions k ≡ Some v → IsMarked ids lines lines v (slice_index_or marks k no_marks)

-- No line locks or excludes one of these versions.
abbrev pub HaveNoMarks : List Line → List Version → Type 0
HaveNoMarks lines versions = (k : ℕ) (v : Version) → slice_get versions k ≡ Some v → (Contains lines (Lock v) → ⊥) × ((word : List ℕ) → Contains lines (Exclude v word) → ⊥)
