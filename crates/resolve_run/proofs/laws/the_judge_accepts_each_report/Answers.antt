use Rattle.resolve_run.proofs.AnswerLaws.{accepted, judged_yes, not_too_long, refused_nowhere}
use Rattle.resolve_run.proofs.laws.the_judge_accepts_each_report.Goals as goal

pub returns-clause-judged : goal.returns-clause-judged
returns-clause-judged c = judged_yes

pub returns-clause-refused_nowhere : goal.returns-clause-refused_nowhere
returns-clause-refused_nowhere c = refused_nowhere

pub returns-clause-not_too_long : goal.returns-clause-not_too_long
returns-clause-not_too_long c = not_too_long

pub returns-clause-checked : goal.returns-clause-checked
returns-clause-checked c = accepted
