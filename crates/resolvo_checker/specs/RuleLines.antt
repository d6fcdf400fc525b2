-- The lines that rules encode, and the literals of their owners.
use Rattle.std.specs.Prelude.{◌≡◌, ⊤, Bool, true, false, List, [], ◌∷◌, Option, Some, None, slice_get, if◌then◌else◌}
use Rattle.std.specs.String.{string_bytes}
use Rattle.std.specs.Option.{option_map, option_map_or}
use Rattle.resolvo_text.specs.Line.{Version, Line, Needs, Limits, Unknown, Lock, Exclude}
use Rattle.resolvo_text.specs.View.{spec_of, specs_of, list_of, condition_of}
use Rattle.resolvo_catalogue_core.specs.Questions.{is_rule}
use Rattle.resolvo_catalogue_core.specs.declared.rule.VersionNo.{VersionNo}
use Rattle.resolvo_catalogue_core.specs.declared.rule.Rule.{Rule}
use Rattle.resolvo_catalogue_core.specs.declared.rule.Rule.TheVariants as rule
use Rattle.resolvo_catalogue_core.specs.declared.kept_rule.KeptRule.{KeptRule}
use Rattle.resolvo_catalogue_core.specs.declared.kept_rule.KeptRule.TheVariants as kept
use Rattle.resolvo_pool_core.specs.declared.requirement.ConditionalRequirement.{ConditionalRequirement}
use Rattle.resolvo_terms.specs.Terms.{Terms}
use Rattle.resolvo_terms.specs.Known.{need_at, spec_at, word_text}
use Rattle.resolvo_pool_core.specs.OnePass as pass
use Rattle.resolvo_report.specs.Value.{Atom}
use Rattle.resolvo_checker.specs.StepClauses.{is_owner}
use Rattle.resolvo_checker.specs.Built.{member_of}

-- the line that the rule encodes, with versions by their numbers
abbrev pub line_of_rule : List Version → Rule → Option Line
line_of_rule versions (rule.Needs of alternatives condition) = Some (Needs (specs_of (list_of alternatives)) (condition_of condition))
line_of_rule versions (rule.Limits of spec) = Some (Limits (spec_of spec))
line_of_rule versions (rule.Unknown of word) = Some (Unknown (string_bytes word))
line_of_rule versions (rule.Lock locked) = option_map Lock (slice_get versions locked.0)
line_of_rule versions (rule.Exclude excluded word) = option_map (λ v. Exclude v (string_bytes word)) (slice_get versions excluded.0)

-- the line, if it has a rule
abbrev pub rule_line : Option Line → Option Line
rule_line None = None
rule_line (Some line) = if is_rule line then Some line else None

-- a line that belongs to a version, or to none in a request
abbrev pub is_owned : Line → Bool
is_owned (Needs alternatives condition) = true
is_owned (Limits s) = true
is_owned line = false

abbrev pub owned_line : Option Line → Option Line
owned_line None = None
owned_line (Some line) = if is_owned line then Some line else None

-- the owner that a `needs` or `limits` rule has
abbrev pub owner_in : Rule → Option VersionNo
owner_in (rule.Needs of alternatives condition) = of
owner_in (rule.Limits of spec) = of
owner_in r = None

-- the literal that the owner isn't in the set
abbrev pub owner_literals : List Version → Option VersionNo → List (Option (pass.Literal Atom))
owner_literals versions None = []
owner_literals versions (Some n) = member_of versions false n.0 ∷ []

-- the number is the version's
abbrev pub is_owner_at : List Version → Option VersionNo → Version → Bool
is_owner_at versions of v = option_map_or (λ n. is_owner v (slice_get versions n.0)) of false

-- a `needs` or `limits` rule of the version
abbrev pub is_owned_by : List Version → Rule → Version → Bool
is_owned_by versions (rule.Needs of alternatives condition) v = is_owner_at versions of v
is_owned_by versions (rule.Limits of spec) v = is_owner_at versions of v
is_owned_by versions r v = false

-- the line, if it is a `needs` line
abbrev pub need_line : Option Line → Option Line
need_line (Some (Needs alternatives condition)) = Some (Needs alternatives condition)
need_line line = None

-- the line of a need that is kept by numbers
abbrev pub line_of_need : Terms → ConditionalRequirement → Line
line_of_need t need = Needs (need_at t need).0 (need_at t need).1

-- the need of a rule that is kept by numbers, if it is the version's
abbrev pub need_kept : List Version → KeptRule → Version → Option ConditionalRequirement
need_kept versions (kept.Needs of need) v = if is_owner v (slice_get versions of.0) then Some need else None
need_kept versions (kept.Limits of spec) v = None
need_kept versions (kept.Unknown of word) v = None
need_kept versions (kept.Lock locked) v = None
need_kept versions (kept.Exclude excluded word) v = None

-- the line that a rule encodes, where it is kept by numbers
abbrev pub line_of_kept : Terms → List Version → KeptRule → Option Line
line_of_kept t versions (kept.Needs of need) = Some (line_of_need t need)
line_of_kept t versions (kept.Limits of spec) = Some (Limits (spec_at t spec))
line_of_kept t versions (kept.Unknown of word) = Some (Unknown (word_text t word))
line_of_kept t versions (kept.Lock locked) = option_map Lock (slice_get versions locked.0)
line_of_kept t versions (kept.Exclude excluded word) = option_map (λ v. Exclude v (word_text t word)) (slice_get versions excluded.0)

-- The version of an `exclude` rule is listed. So is that of an `unknown` rule, which is its owner.
abbrev pub IsValid : List Version → Option Version → KeptRule → Type 0
IsValid versions owner (kept.Unknown of word) = (v : Version) × (slice_get versions of.0 ≡ Some v) × (owner ≡ Some v)
IsValid versions owner (kept.Exclude excluded word) = (v : Version) × (slice_get versions excluded.0 ≡ Some v)
IsValid versions owner (kept.Needs of need) = ⊤
IsValid versions owner (kept.Limits of spec) = ⊤
IsValid versions owner (kept.Lock locked) = ⊤
