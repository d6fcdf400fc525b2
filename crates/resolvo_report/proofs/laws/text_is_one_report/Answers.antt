use Rattle.resolvo_report.proofs.ReportLaws.{one_report}
use Rattle.resolvo_report.proofs.laws.text_is_one_report.Goals as goal

pub returns : goal.returns
returns c = one_report
