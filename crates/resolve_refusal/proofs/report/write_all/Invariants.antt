use Rattle.std.proofs.Common.{take}
use Rattle.std.specs.List.{AllZip}
use Rattle.resolvo_report.specs.View.{steps_of}
use Rattle.resolve_refusal.specs.RefusedReport.{IsWritten}
use Rattle.resolve_refusal.specs.StepRules.{NamesRule}
use Rattle.resolve_refusal.proofs.report.write_all.Given as goal

-- the steps so far are written
abbrev pub invariant-loop-step : goal.invariant-loop-step
invariant-loop-step l = AllZip (NamesRule l.writing.texts.catalogue.now l.writing.texts.request.now.lines l.writing.provider.now.ids) (take l.step-index l.steps) (steps_of l.written.items) × AllZip (IsWritten l.writing.texts.catalogue.now l.writing.provider.now.ids) (take l.step-index l.steps) (steps_of l.written.items)
