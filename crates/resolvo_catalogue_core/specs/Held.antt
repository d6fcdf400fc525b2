-- The stored form of a catalogue's lines, the longer rules apart.
use Rattle.std.specs.Prelude.{ℕ, zero, suc, nat_lt, Bool, true, List, map, Option, Some, None, slice_get}
use Rattle.std.specs.List.{list_all}
use Rattle.std.specs.Global.{Global}
use Rattle.std.specs.declared.string.String.{String}
use Rattle.resolvo_pool_core.specs.declared.id.VersionSetId.{VersionSetId}
use Rattle.resolvo_pool_core.specs.declared.id.VersionSetUnionId.{VersionSetUnionId}
use Rattle.resolvo_pool_core.specs.declared.requirement.Requirement.{Requirement}
use Rattle.resolvo_pool_core.specs.declared.requirement.Requirement.TheVariants.{Single, Union}
use Rattle.resolvo_pool_core.specs.declared.requirement.ConditionalRequirement.{ConditionalRequirement}
use Rattle.resolvo_catalogue_core.specs.declared.kept_rule.KeptRule.{KeptRule}
use Rattle.resolvo_catalogue_core.specs.declared.kept_rule.KeptRule.TheVariants as kept
use Rattle.resolvo_catalogue_core.specs.LineKind.{LineKind}
use Rattle.resolvo_catalogue_core.specs.LineKind as line_kinds
use Rattle.resolvo_catalogue_core.specs.declared.stored_lines.StoredLine.{StoredLine}

-- a rule's place is one of so many, and so is that of a marked package's name
abbrev pub is_held : ℕ → ℕ → StoredLine → Bool
is_held count marked StoredLine.Nothing = true
is_held count marked (StoredLine.Listed v) = true
is_held count marked (StoredLine.Favour v) = true
is_held count marked (StoredLine.Many place) = nat_lt place marked
is_held count marked (StoredLine.Need owner spec) = true
is_held count marked (StoredLine.AnyOf owner union) = true
is_held count marked (StoredLine.Limit owner spec) = true
is_held count marked (StoredLine.Rule place) = nat_lt place count

abbrev pub are_held : ℕ → ℕ → List StoredLine → Bool
are_held count marked held = list_all (is_held count marked) held

abbrev pub kind_of_rule : Option KeptRule → LineKind
kind_of_rule None = line_kinds.Nothing
kind_of_rule (Some r) = line_kinds.Rule r

abbrev pub kind_of_name : Option (String Global) → LineKind
kind_of_name None = line_kinds.Nothing
kind_of_name (Some name) = line_kinds.Many name

-- a need without condition
abbrev pub plain : Requirement → ConditionalRequirement
plain requirement = record { condition = None; requirement = requirement }

-- the need of one SPEC
abbrev pub alone : VersionSetId → ConditionalRequirement
alone spec = plain (Single spec)

-- the need of one of several SPECs
abbrev pub any_of : VersionSetUnionId → ConditionalRequirement
any_of union = plain (Union union)

-- the line in whose place this is kept
abbrev pub kind_in : List KeptRule → List (String Global) → StoredLine → LineKind
kind_in rules marked StoredLine.Nothing = line_kinds.Nothing
kind_in rules marked (StoredLine.Listed v) = line_kinds.Listed v
kind_in rules marked (StoredLine.Favour v) = line_kinds.Favour v
kind_in rules marked (StoredLine.Many place) = kind_of_name (slice_get marked place)
kind_in rules marked (StoredLine.Need owner spec) = line_kinds.Rule (kept.Needs owner (alone spec))
kind_in rules marked (StoredLine.AnyOf owner union) = line_kinds.Rule (kept.Needs owner (any_of union))
kind_in rules marked (StoredLine.Limit owner spec) = line_kinds.Rule (kept.Limits owner spec)
kind_in rules marked (StoredLine.Rule place) = kind_of_rule (slice_get rules place)

abbrev pub kind_list : List KeptRule → List (String Global) → List StoredLine → List LineKind
kind_list rules marked held = map (kind_in rules marked) held

-- the stored form of line n, from 1
abbrev pub held_at : List StoredLine → ℕ → Option StoredLine
held_at held zero = None
held_at held (suc n) = slice_get held n

-- line n, from 1
abbrev pub kind_at : List LineKind → ℕ → Option LineKind
kind_at kinds zero = None
kind_at kinds (suc n) = slice_get kinds n

abbrev pub rule_of : LineKind → Option KeptRule
rule_of (line_kinds.Rule r) = Some r
rule_of line_kinds.Nothing = None
rule_of (line_kinds.Listed v) = None
rule_of (line_kinds.Favour v) = None
rule_of (line_kinds.Many name) = None
