use Rattle.std.proofs.Common.{take}
use Rattle.resolvo_report.specs.View.{steps_of}
use Rattle.resolve_refusal.specs.Named.{AreFlagged}
use Rattle.resolve_refusal.proofs.named_lines.flag_lines.Given as goal

-- the lines of the steps so far are flagged
abbrev pub invariant-loop-step : goal.invariant-loop-step
invariant-loop-step l = AreFlagged l.text l.count (steps_of (take l.step-index l.steps)) l.flags.items
