-- How many ids a table has given, and how many the lines of a catalogue need at most.
use Rattle.std.specs.Prelude.{◌+◌, ◌≤◌, ℕ, List, length, sum_by}
use Rattle.resolvo_text.specs.Line.{Line, Listed}
use Rattle.resolvo_text.specs.View.{specs_of, list_of, condition_of}
use Rattle.resolvo_terms.specs.TermCounts.{ids_for_need, ids_for_dependency, ids_for_mark}
use Rattle.resolvo_catalogue_core.specs.declared.rule.Rule.{Rule}
use Rattle.resolvo_catalogue_core.specs.declared.rule.Rule.TheVariants as rule
use Rattle.resolvo_catalogue.specs.Ids.{Ids, LacksNumber}

-- the ids of all kinds that are given
abbrev pub id_count : Ids → ℕ
id_count ids = length ids.names + length ids.words + length ids.solvables + length ids.version_sets + length ids.unions + length ids.conditions

-- ---- the most ids that may be needed

-- a listed version and its package
abbrev pub ids_for_version : Line → ℕ
ids_for_version (Listed v) = 2
ids_for_version _ = 0

-- the same of a rule of a request
abbrev pub dependency_ids : Rule → ℕ
dependency_ids (rule.Needs of alternatives condition) = ids_for_need (specs_of (list_of alternatives), condition_of condition)
dependency_ids (rule.Limits of spec) = 2
dependency_ids (rule.Unknown of word) = 1
dependency_ids _ = 0

abbrev pub ids_for_line : Line → ℕ
ids_for_line line = ids_for_version line + ids_for_dependency line + ids_for_mark line

-- A table has given the last number of some kind, and no more ids than the lines need at most.
pub record LacksNumberFor (lines : List Line) : Type 0 where
  pub ids : Ids
  pub lacks : LacksNumber ids
  pub few : id_count ids ≤ sum_by ids_for_line lines
