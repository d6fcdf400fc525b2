use Rattle.std.proofs.Common.{◌∙◌}
use Rattle.resolvo_sat.specs.State.{count_of, clauses_of}
use Rattle.resolvo_sat.proofs.Values.{true_is}
use Rattle.resolvo_sat.proofs.state.SatState.is_true.Goals as goal

pub returns : goal.returns
returns c = c.is_true.ensures ∙ true_is (count_of c.args.self.now) (clauses_of c.args.self.now) c.args.self.now.tracker.trail c.map.result.now c.args.literal c.requires.trail c.map.ensures
