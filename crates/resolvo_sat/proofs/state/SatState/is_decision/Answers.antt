use Rattle.resolvo_sat.proofs.WalkLemmas.{meets, decision_or_forced}
use Rattle.resolvo_sat.proofs.state.SatState.is_decision.Goals as goal

pub returns : goal.returns
returns c = decision_or_forced c.args.self.now c.args.place c.args.entry c.level_before.result (meets c.args.self.now c.args.place c.args.entry c.requires.state c.requires.in_range c.requires.next) c.level_before.ensures
