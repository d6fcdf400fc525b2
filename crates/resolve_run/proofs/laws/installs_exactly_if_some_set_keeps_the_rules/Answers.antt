use Rattle.resolve_run.proofs.AnswerLaws.{installs_if_any}
use Rattle.resolve_run.proofs.laws.installs_exactly_if_some_set_keeps_the_rules.Goals as goal

pub returns : goal.returns
returns c = installs_if_any
