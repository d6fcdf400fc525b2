use Rattle.std.proofs.Common.{◌≡◌, ◌<◌, length, ap, is_ok, arith}
use Rattle.std.proofs.ResultArms.{chosen}
use Rattle.resolvo_sat.proofs.Variables.{variable_added}
use Rattle.resolvo_sat.proofs.state.SatState.add_variable.Goals as goal

pub returns-clause-added : goal.returns-clause-added
returns-clause-added c =
    let number : c.len-number.result ≡ length c.args.self.now.variables.items = omega arith in
    let few : length c.args.self.now.variables.items < 2147483647 = omega arith in
    variable_added c.args.self.now c.push.new.self c.args.kind (record { 0 = c.len-number.result }) c.requires number few
    (chosen _ _ _ _ c.push.ensures.items (ap is_ok c.in_ok-push.was))
