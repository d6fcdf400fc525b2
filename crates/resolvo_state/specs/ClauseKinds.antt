-- The rules that clauses encode.
use Rattle.std.specs.Prelude.{◌≡◌, ℕ, zero, suc, List, [], ◌∷◌, Option, Some, None, slice_get}
use Rattle.resolvo_store_core.specs.AtMostOne.{digit}
use Rattle.resolvo_sat.specs.RuleClauses.{Rule, ForbidReason}
use Rattle.resolvo_state.specs.Kinds.{Kind}
use Rattle.resolvo_state.specs.Kinds.{Root, Needs, Gated, Shared, Limits, LimitsOutside, IsOut, Locked, Excluded, Digit, IsThere, Matches, Learnt}

-- the rule of a kind of clause; the root's clause and a learnt one encode none
abbrev pub rule_of : {N S : Type 0} → Kind N S → Option (Rule N S)
rule_of Root = None
rule_of (Needs parent need case) = Some (Rule.needs parent need case)
rule_of (Gated s r) = Some (Rule.gated s r)
rule_of (Shared r) = Some (Rule.shared r)
rule_of (Limits parent v s) = Some (Rule.limits parent v s)
rule_of (LimitsOutside parent v) = Some (Rule.limits_outside parent v)
rule_of (IsOut v s) = Some (Rule.is_out v s)
rule_of (Locked locked s) = Some (Rule.forbids (ForbidReason.lock locked) s)
rule_of (Excluded s reason) = Some (Rule.forbids (ForbidReason.word reason) s)
rule_of (Digit n s place bit) = Some (Rule.has_digit s bit (digit place bit))
rule_of (IsThere n s) = Some (Rule.is_there n s)
rule_of (Matches v s) = Some (Rule.matches v s)
rule_of Learnt = None

-- the kind of the clause of this number
abbrev pub kind_at : {N S : Type 0} → List (Kind N S) → ℕ → Option (Kind N S)
kind_at kinds n = slice_get kinds n

-- the rule that the clause of this number encodes
abbrev pub rule_at : {N S : Type 0} → List (Kind N S) → ℕ → Option (Rule N S)
rule_at [] n = None
rule_at (x ∷ kinds) zero = rule_of x
rule_at (x ∷ kinds) (suc n) = rule_at kinds n

-- some clause encodes the rule
abbrev pub rules_in : {N S : Type 0} → List (Kind N S) → Rule N S → Type 0
rules_in kinds r = (n : ℕ) × (rule_at kinds n ≡ Some r)
