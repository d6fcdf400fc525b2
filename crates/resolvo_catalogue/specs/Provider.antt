-- The answers of a provider over a catalogue.
use Rattle.std.specs.Prelude.{◌-◌, ◌==◌, ◌&&◌, ℕ, Bool, false, List, [], ◌∷◌, Option, Some, None, slice_index_or, option_map, option_to_list}
use Rattle.std.specs.List.{find, flat_map}
use Rattle.std.specs.List.Sorted.{IsPermutation, IsNonDecreasingBy}
use Rattle.resolvo_text.specs.Matches.{is_in_span}
use Rattle.resolvo_pool_core.specs.declared.id.VersionSetId.{VersionSetId}
use Rattle.resolvo_pool_core.specs.declared.id.StringId.{StringId}
use Rattle.resolvo_pool_core.specs.Provider.{Listing, Hint, none, all, Needs, known, unknown}
use Rattle.resolvo_pool_core.specs.RuleKeeping.{Packages}
use Rattle.resolvo_catalogue.specs.Ids.{Ids, SolvableId, solvables_of}
use Rattle.resolvo_terms.specs.Terms.{NameId}
use Rattle.resolvo_catalogue.specs.Known.{solvable_at, name_of, set_at, members_of, condition_at}
use Rattle.resolvo_catalogue.specs.Sorted.{sorted_by}
use Rattle.resolvo_catalogue.specs.Dependencies.{VersionDependencies, no_lines}
use Rattle.resolvo_catalogue.specs.Marked.{no_marks}
use Rattle.resolvo_catalogue.specs.declared.candidate_flags.CandidateFlags.{CandidateFlags}
use Rattle.resolvo_catalogue.specs.declared.provider.Hint as hints
use Rattle.resolvo_catalogue.specs.declared.provider.Hint.TheVariants as hint

-- The model of a provider: the interned values, the dependencies and marks of each version and of its package, and
-- whether it may cancel.
pub record Provider : Type 0 where
  pub ids : Ids
  pub deps : List VersionDependencies
  pub marks : List CandidateFlags
  -- of each version, whether its package is marked `many`
  pub many : List Bool
  pub hint : hints.Hint
  pub has_budget : Bool

-- ---- matching

-- The solvable is of the version set's package, and its number lies in the span.
abbrev pub matches : Provider → VersionSetId → SolvableId → Bool
matches p v s = (name_of p.ids s).raw == (set_at p.ids v).0.raw && is_in_span (set_at p.ids v).1.0 (solvable_at p.ids s).version

-- ---- candidates

abbrev pub marks_at : Provider → SolvableId → CandidateFlags
marks_at p s = slice_index_or p.marks s.raw no_marks

abbrev pub many_at : Provider → SolvableId → Bool
many_at p s = slice_index_or p.many s.raw false

-- whether the package of these candidates is marked: all of them are, or none
abbrev pub are_many : Provider → List SolvableId → Bool
are_many p [] = false
are_many p (s ∷ candidates) = many_at p s

abbrev pub hint_of : {S : Type 0} → hints.Hint → Hint S
hint_of hint.None = none
hint_of hint.All = all

-- the solvable with its reason, if it is excluded
abbrev pub exclusion_of : Provider → SolvableId → List (SolvableId × StringId)
exclusion_of p s = option_to_list (option_map (λ w. (s, w)) (marks_at p s).excluded)

-- the line that excludes it
abbrev pub line_of_exclusion : Provider → SolvableId × StringId → ℕ
line_of_exclusion p e = (marks_at p e.0).line

-- those that are excluded, each with its reason, in the order of the lines
abbrev pub exclusions_of : Provider → List SolvableId → List (SolvableId × StringId)
exclusions_of p candidates = sorted_by (line_of_exclusion p) (flat_map (exclusion_of p) candidates)

abbrev pub listing_of : Provider → List SolvableId → Listing SolvableId
listing_of p candidates = record {
  candidates = candidates;
  favored = find (λ s. (marks_at p s).favored) candidates;
  locked = find (λ s. (marks_at p s).locked) candidates;
  hint = hint_of p.hint;
  excluded = exclusions_of p candidates;
  many = are_many p candidates;
}

-- There are no candidates of a package without a version.
abbrev pub listing_if_any : Provider → List SolvableId → Option (Listing SolvableId)
listing_if_any p [] = None
listing_if_any p (s ∷ ss) = Some (listing_of p (s ∷ ss))

abbrev pub candidates_of : Provider → NameId → Option (Listing SolvableId)
candidates_of p n = listing_if_any p (solvables_of p.ids n.raw)

-- ---- dependencies

-- an unknown version's needs aren't handed out
abbrev pub needs_of : VersionDependencies → Option StringId → Needs
needs_of deps (Some why) = unknown why
needs_of deps None = known deps.requirements deps.constrains

abbrev pub deps_at : Provider → SolvableId → VersionDependencies
deps_at p s = slice_index_or p.deps s.raw no_lines

abbrev pub dependencies_of : Provider → SolvableId → Needs
dependencies_of p s = needs_of (deps_at p s) (deps_at p s).unknown

-- ---- sorting

-- how far a version is below the newest that there may be
abbrev pub age_of : Provider → SolvableId → ℕ
age_of p s = 4294967295 - (solvable_at p.ids s).version

-- The second list is the first, newest first.
pub record IsSorted (p : Provider) (xs ys : List SolvableId) : Type 0 where
  pub permutation : IsPermutation xs ys
  pub newest_first : IsNonDecreasingBy (age_of p) ys

-- ---- its ghost members in one record

abbrev pub packages_of : Provider → Packages NameId SolvableId
packages_of p = record {
  package_of = name_of p.ids;
  set_package = λ v. (set_at p.ids v).0;
  members_of = members_of p.ids;
  condition_of = condition_at p.ids;
  candidates_of = candidates_of p;
  matches = matches p;
  dependencies_of = dependencies_of p;
}
