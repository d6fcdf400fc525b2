-- The values of numbers: packages, spans, SPECs, conditions, words.
-- A number that was never handed out has no value; the answer is then the first of its kind, or empty.
use Rattle.std.specs.Prelude.{◌&&◌, nat_lt, ℕ, zero, suc, List, [], ◌∷◌, map, Option, Some, None, slice_get, slice_index_or, if◌then◌else◌}
use Rattle.std.specs.Option.{option_map}
use Rattle.std.specs.Option.{option_map_or}
use Rattle.std.specs.Str.{bytes_eq}
use Rattle.resolvo_text.specs.declared.spec.Span.TheVariants.{Any}
use Rattle.resolvo_text.specs.Line.{Spec, Cond, Is, And, Or}
use Rattle.resolvo_pool_core.specs.declared.id.VersionSetId.{VersionSetId}
use Rattle.resolvo_pool_core.specs.declared.id.VersionSetUnionId.{VersionSetUnionId}
use Rattle.resolvo_pool_core.specs.declared.id.ConditionId.{ConditionId}
use Rattle.resolvo_pool_core.specs.declared.id.StringId.{StringId}
use Rattle.resolvo_pool_core.specs.declared.condition.Condition.{Condition}
use Rattle.resolvo_pool_core.specs.declared.condition.Condition.TheVariants.{Binary, Requirement}
use Rattle.resolvo_pool_core.specs.declared.condition.LogicalOperator.TheVariants as joins
use Rattle.resolvo_pool_core.specs.declared.requirement.Requirement.{Requirement as Alternatives}
use Rattle.resolvo_pool_core.specs.declared.requirement.ConditionalRequirement.{ConditionalRequirement}
use Rattle.resolvo_pool_core.specs.Text.{alternatives_of}
use Rattle.resolvo_terms.specs.Terms.{Terms, NameId}
use Rattle.resolvo_terms.specs.declared.terms.Numbers.{Numbers}

abbrev pub name_id : ℕ → NameId
name_id n = record { raw = n; tag = record {} }

abbrev pub set_at : Terms → VersionSetId → NameId × Numbers
set_at t v = slice_index_or t.version_sets v.0 (name_id 0, record { 0 = Any })

abbrev pub members_of : Terms → VersionSetUnionId → List VersionSetId
members_of t u = slice_index_or t.unions u.0 []

-- the condition, if its operands have smaller numbers
abbrev pub sound : ConditionId → Condition → Condition
sound c (Requirement v) = Requirement v
sound c (Binary op a b) = if nat_lt a.0 c.0 && nat_lt b.0 c.0 then Binary op a b else Requirement (record { 0 = 0 })

abbrev pub condition_at : Terms → ConditionId → Condition
condition_at t c = option_map_or (sound c) (slice_get t.conditions c.0) (Requirement (record { 0 = 0 }))

abbrev pub name_text : Terms → NameId → List ℕ
name_text t n = slice_index_or t.names n.raw []

abbrev pub word_text : Terms → StringId → List ℕ
word_text t w = slice_index_or t.words w.0 []

-- the number of a text, if it is one of these
abbrev pub place_of : List (List ℕ) → List ℕ → Option ℕ
place_of [] text = None
place_of (first ∷ texts) text = if bytes_eq first text then Some 0 else option_map (λ n. suc n) (place_of texts text)

-- ---- what lines say

abbrev pub spec_at : Terms → VersionSetId → Spec
spec_at t v = record { name = name_text t (set_at t v).0; span = (set_at t v).1.0 }

abbrev pub alternatives_at : Terms → Alternatives → List Spec
alternatives_at t r = map (spec_at t) (alternatives_of (members_of t) r)

-- a condition by its operands
abbrev pub cond_by : Terms → (ConditionId → Cond) → Condition → Cond
cond_by t below (Requirement v) = Is (spec_at t v)
cond_by t below (Binary joins.And a b) = And (below a) (below b)
cond_by t below (Binary joins.Or a b) = Or (below a) (below b)

-- the condition, looked at n steps down; operands have smaller numbers, so its own number and one are enough
abbrev pub cond_within : Terms → ℕ → ConditionId → Cond
cond_within t zero c = Is (spec_at t (record { 0 = 0 }))
cond_within t (suc n) c = cond_by t (cond_within t n) (condition_at t c)

abbrev pub cond_at : Terms → ConditionId → Cond
cond_at t c = cond_within t (suc c.0) c

-- the alternatives and the condition of a need
abbrev pub need_at : Terms → ConditionalRequirement → List Spec × Option Cond
need_at t need = (alternatives_at t need.requirement, option_map (cond_at t) need.condition)
