-- How many numbers are given, and how many a need asks for at most.
use Rattle.std.specs.Prelude.{◌+◌, ◌*◌, ℕ, List, Option, Some, None, length}
use Rattle.resolvo_text.specs.Line.{Spec, Cond, Is, And, Or, Line, Listed, Needs, Limits, Unknown, Exclude}
use Rattle.resolvo_terms.specs.Terms.{Terms}

-- the numbers of all kinds that are given
abbrev pub term_count : Terms → ℕ
term_count t = length t.names + length t.words + length t.version_sets + length t.unions + length t.conditions

-- for each SPEC of a condition one of its package, its span and itself, and one for each two that are joined
abbrev pub ids_for_condition : Cond → ℕ
ids_for_condition (Is s) = 3
ids_for_condition (And a b) = ids_for_condition a + ids_for_condition b + 1
ids_for_condition (Or a b) = ids_for_condition a + ids_for_condition b + 1

abbrev pub ids_for_any_condition : Option Cond → ℕ
ids_for_any_condition None = 0
ids_for_any_condition (Some condition) = ids_for_condition condition

-- for each alternative of a need one of its package and its span, one of all of them, and those of its condition
abbrev pub ids_for_need : List Spec × Option Cond → ℕ
ids_for_need written = 2 * length written.0 + 1 + ids_for_any_condition written.1

-- what a line asks of its version
abbrev pub ids_for_dependency : Line → ℕ
ids_for_dependency (Needs alternatives condition) = ids_for_need (alternatives, condition)
ids_for_dependency (Limits s) = 2
ids_for_dependency (Unknown reason) = 1
ids_for_dependency _ = 0

-- the word of an exclusion
abbrev pub ids_for_mark : Line → ℕ
ids_for_mark (Exclude v reason) = 1
ids_for_mark _ = 0

-- the package of a listed version
abbrev pub ids_for_package : Line → ℕ
ids_for_package (Listed v) = 1
ids_for_package _ = 0

-- all three
abbrev pub terms_for_line : Line → ℕ
terms_for_line line = ids_for_dependency line + ids_for_mark line + ids_for_package line
