use Rattle.std.proofs.Common.{◌≡◌, map, take}
use Rattle.resolve_refusal.specs.RefusedReport.{number_of}
use Rattle.resolve_refusal.proofs.steps.numbers_of.Given as goal

-- the numbers of the causes so far
abbrev pub invariant-loop-cause : goal.invariant-loop-cause
invariant-loop-cause l = l.numbers.items ≡ map number_of (take l.cause-index l.causes)
