use Rattle.resolvo_report.proofs.ReportLaws.{no_fault}
use Rattle.resolvo_report.proofs.laws.reports_are_read.Goals as goal

pub returns : goal.returns
returns c = no_fault
