use Rattle.resolvo_checker.proofs.NumberLemmas.{number-updated}
use Rattle.resolvo_checker.proofs.rule_steps.RuleSteps.put.Goals as goal

pub returns : goal.returns
returns c = λ other. rw (← c.self.view_is) (number-updated c.self.inside.map c.insert.new.self c.args.key.items _ c.in_ok-insert.ensures.updates other)
