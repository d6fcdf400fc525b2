use Rattle.std.proofs.Common.{◌≡◌, ◌≤◌, ◌<◌, length, ap, arith}
use Rattle.resolvo_state.proofs.registry.next_digit.Goals as goal

pub overflow_cast-bit : goal.overflow_cast-bit
overflow_cast-bit g c =
    let same : length c.variables-count.result.now ≡ length c.args.tracker.now.variables = ap length c.variables-count.ensures in
    let long : length c.variables-count.result.now < 18446744073709551616 = c.variables-count.type_inv.0 in
    let few : length c.args.tracker.now.helpers ≤ 64 = c.helpers.ensures.least.1 64 (omega arith) in
    let one : length c.helpers.result.now ≡ length c.args.tracker.now.helpers = ap length c.helpers.ensures.helpers in
    omega arith
