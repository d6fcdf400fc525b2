-- A provider over the lines of a catalogue, and a request as its ids.
use Rattle.std.specs.Prelude.{◌≡◌, ℕ, List, Some, length, map, slice_get}
use Rattle.std.specs.List.{flat_map}
use Rattle.resolvo_text.specs.Line.{Line}
use Rattle.resolvo_catalogue_core.specs.Grammar.{AreCatalogueLines}
use Rattle.resolvo_catalogue_core.specs.Listed.{listed, AreDistinct}
use Rattle.resolvo_catalogue_core.specs.Questions.{ReadRequest, AreAll, IsVersionLine, BelongsTo}
use Rattle.resolvo_catalogue.specs.Ids.{Ids, Interns, AreSound, AreVersions, IsNeed, IsSpec, solvable_id}
use Rattle.resolvo_terms.specs.Terms.{AreEach}
use Rattle.resolvo_catalogue.specs.Dependencies.{VersionDependencies, AreDependenciesOf, lines_at, need_in, limit_in}
use Rattle.resolvo_catalogue.specs.Marked.{AreMarksOf, AreMany}
use Rattle.resolvo_catalogue.specs.Provider.{Provider}
use Rattle.resolvo_catalogue.specs.declared.provider.RequestIds.{RequestIds}

-- These are the dependencies of version k, by the lines that belong to it.
abbrev pub AreDependenciesAt : Ids → List Line → ℕ → VersionDependencies → Type 0
AreDependenciesAt ids lines k deps = (numbers : List ℕ) × AreAll numbers (IsVersionLine (listed lines) lines k BelongsTo) × AreDependenciesOf ids (lines_at lines numbers) deps

pub record AreDependencies (ids : Ids) (lines : List Line) (deps : List VersionDependencies) : Type 0 where
  pub as_many : length deps ≡ length (listed lines)
  pub each : (k : ℕ) (t : VersionDependencies) → slice_get deps k ≡ Some t → AreDependenciesAt ids lines k t

-- The provider is one over a catalogue with these lines.
pub record IsOver (lines : List Line) (p : Provider) : Type 0 where
  -- solvable k is version k
  pub versions : AreVersions p.ids (listed lines)
  -- its requirements, constraints and marks are those of its lines
  pub deps : AreDependencies p.ids lines p.deps
  pub marks : AreMarksOf p.ids lines (listed lines) p.marks
  pub many : AreMany lines p.many
  -- no value has two ids
  pub once : AreSound p.ids
  pub distinct : AreDistinct (listed lines)
  pub grammatical : AreCatalogueLines lines

-- The requirements, constraints and wishes are those of the request's lines, in order.
pub record AreAsked (ids : Ids) (written : ReadRequest) (asked : RequestIds) : Type 0 where
  pub requirements : AreEach (IsNeed ids) asked.requirements.items (flat_map need_in written.lines)
  pub constraints : AreEach (IsSpec ids) asked.constraints.items (flat_map limit_in written.lines)
  pub wishes : asked.wishes.items ≡ map (λ f. solvable_id f.1.0) written.wishes

-- More is interned, and nothing else is changed.
pub record ChangesIds (old new : Provider) : Type 0 where
  pub interns : Interns old.ids new.ids
  pub deps : new.deps ≡ old.deps
  pub marks : new.marks ≡ old.marks
  pub many : new.many ≡ old.many
  pub hint : new.hint ≡ old.hint
  pub budget : new.has_budget ≡ old.has_budget
