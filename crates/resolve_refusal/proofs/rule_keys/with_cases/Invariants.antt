use Rattle.std.proofs.Common.{◌≡◌, ◌++◌, map, take}
use Rattle.std.specs.String.{string_bytes}
use Rattle.resolvo_text.specs.View.{specs_of}
use Rattle.resolve_refusal.specs.RuleKeys.{barred_texts}
use Rattle.resolve_refusal.proofs.rule_keys.with_cases.Given as goal

-- the texts of the cases so far
abbrev pub invariant-loop-case : goal.invariant-loop-case
invariant-loop-case l = map string_bytes l.keys.items ≡ map (λ case. l.start ++ barred_texts (specs_of case.items)) (take l.case-index l.cases)
