use Rattle.std.proofs.Common.{◌≡◌}
use Rattle.resolvo_report.specs.View.{report_of}
use Rattle.resolvo_report.specs.Text.{report_lines}
use Rattle.resolvo_report.specs.Stream.{left}
use Rattle.resolvo_report.specs.Draft.{part_of}
use Rattle.resolvo_report.proofs.StreamLemmas.{ReadTo}
use Rattle.resolvo_report.proofs.report.Report.read.Given as goal

abbrev pub invariant-loop-report : goal.invariant-loop-report
invariant-loop-report g l = ReadTo (g.S.Source.left l.fn.source) (left l.reader (g.S.Source.left l.source)) (report_lines (report_of l.report)) l.reader.part l.reader.number l.reader.lines.room
    × (l.reader.part ≡ part_of (report_of l.report))
    × (g.S.Source.failures l.source ≡ g.S.Source.failures l.fn.source)

abbrev pub decreases-loop-report : goal.decreases-loop-report
decreases-loop-report g l = l.reader.lines.room
