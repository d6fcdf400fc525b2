-- The values of ids: packages, versions, spans, conditions, and their texts.
-- An id that was never handed out has no value; the answer is then the first of its kind, or empty.
use Rattle.std.specs.Prelude.{ℕ, List, [], ◌∷◌, ◌++◌, map, slice_index_or, codes}
use Rattle.std.specs.List.{flat_map}
use Rattle.std.specs.Fmt.{decimal}
use Rattle.resolvo_text.specs.declared.spec.Span.{Span}
use Rattle.resolvo_text.specs.declared.spec.Span.TheVariants.{Any, One, Range}
use Rattle.resolvo_pool_core.specs.declared.id.VersionSetId.{VersionSetId}
use Rattle.resolvo_pool_core.specs.declared.id.VersionSetUnionId.{VersionSetUnionId}
use Rattle.resolvo_pool_core.specs.declared.id.ConditionId.{ConditionId}
use Rattle.resolvo_pool_core.specs.declared.id.StringId.{StringId}
use Rattle.resolvo_intern.specs.declared.pool.Solvable.{Solvable}
use Rattle.resolvo_pool_core.specs.declared.condition.Condition.{Condition}
use Rattle.resolvo_pool_core.specs.declared.requirement.Requirement.{Requirement as Alternatives}
use Rattle.resolvo_pool_core.specs.Text.{alternatives_of}
use Rattle.resolvo_text.specs.Line.{Spec}
use Rattle.resolvo_terms.specs.declared.terms.Numbers.{Numbers}
use Rattle.resolvo_terms.specs.Terms.{NameId}
use Rattle.resolvo_terms.specs.Known.{name_id}
use Rattle.resolvo_terms.specs.Known as terms
use Rattle.resolvo_catalogue.specs.Ids.{Ids, SolvableId, terms_of}

abbrev pub solvable_at : Ids → SolvableId → Solvable ℕ
solvable_at ids s = slice_index_or ids.solvables s.raw (record { version = 0; name = name_id 0 })

abbrev pub name_of : Ids → SolvableId → NameId
name_of ids s = (solvable_at ids s).name

abbrev pub set_at : Ids → VersionSetId → NameId × Numbers
set_at ids v = terms.set_at (terms_of ids) v

abbrev pub members_of : Ids → VersionSetUnionId → List VersionSetId
members_of ids u = terms.members_of (terms_of ids) u

abbrev pub condition_at : Ids → ConditionId → Condition
condition_at ids c = terms.condition_at (terms_of ids) c

-- the SPEC of a version set
abbrev pub spec_at : Ids → VersionSetId → Spec
spec_at ids v = record { name = slice_index_or ids.names (set_at ids v).0.raw []; span = (set_at ids v).1.0 }

abbrev pub alternatives_at : Ids → Alternatives → List Spec
alternatives_at ids r = map (spec_at ids) (alternatives_of (members_of ids) r)

-- ---- texts

abbrev pub name_text : Ids → NameId → List ℕ
name_text ids n = terms.name_text (terms_of ids) n

abbrev pub solvable_text : Ids → SolvableId → List ℕ
solvable_text ids s = name_text ids (name_of ids s) ++ (codes " " ++ decimal (solvable_at ids s).version)

-- the package, and each version, those but the first after a bar
abbrev pub merged_text : Ids → List SolvableId → List ℕ
merged_text ids [] = []
merged_text ids (s ∷ ss) = solvable_text ids s ++ flat_map (λ t. codes " | " ++ decimal (solvable_at ids t).version) ss

abbrev pub span_text : Span → List ℕ
span_text Any = codes "*"
span_text (One n) = decimal n
span_text (Range low high) = decimal low ++ (codes ".." ++ decimal high)

abbrev pub word_text : Ids → StringId → List ℕ
word_text ids w = terms.word_text (terms_of ids) w
