use Rattle.std.proofs.Common.{List, ◌++◌, ◌<◌, drop, length}
use Rattle.resolve_order.specs.declared.entry.Turn.{Turn}
use Rattle.resolvo_report.specs.Value.{Step}
use Rattle.resolvo_report.specs.View.{steps_of}
use Rattle.resolve_answer.specs.ReportTurns.{AreReportTurns, AreTurnsFor}
use Rattle.resolve_answer.proofs.turns.report_turns.Given as goal

-- the turns of the other wishes follow those that are there
abbrev pub invariant-loop-wish : goal.invariant-loop-wish
invariant-loop-wish l = record {
  goes : (rest : List Turn) (after : List Step) → AreTurnsFor l.outcome.chosen.now l.outcome.turns.now l.outcome.places.now (drop (length l.yielded) l.fn.wishes.items) l.next (steps_of l.steps.items) rest after
      → AreReportTurns l.outcome l.fn.wishes.items (steps_of l.initial.steps.items) (l.matched.items ++ rest) after;
  few : l.next < length l.matched.items;
}
