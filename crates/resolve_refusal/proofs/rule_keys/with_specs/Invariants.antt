use Rattle.std.proofs.Common.{◌≡◌, ◌++◌, take}
use Rattle.std.specs.String.{string_bytes}
use Rattle.resolvo_text.specs.View.{specs_of}
use Rattle.resolve_refusal.specs.RuleKeys.{barred_texts}
use Rattle.resolve_refusal.proofs.rule_keys.with_specs.Given as goal

-- the texts of the SPECs so far
abbrev pub invariant-loop-spec : goal.invariant-loop-spec
invariant-loop-spec l = string_bytes l.text ≡ l.start ++ barred_texts (specs_of (take l.spec-index l.specs))
