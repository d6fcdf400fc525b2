use Rattle.std.proofs.Common.{rules, codes}
use Rattle.resolvo_report.proofs.TextLemmas.{causes_joined}
use Rattle.resolvo_report.proofs.text.StepDisplay.fmt.Goals as goal

pub returns-in-Derive-clause-writes : goal.returns-in-Derive-clause-writes
returns-in-Derive-clause-writes g c = rw (c.in-Derive.is, causes_joined (codes "by") c.in-Derive.causes.items) (search rules)
