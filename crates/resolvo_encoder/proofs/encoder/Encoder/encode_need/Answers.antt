use Rattle.std.proofs.Common.{◌<◌, refl, arith}
use Rattle.resolvo_store_core.specs.Clauses.{no, candidate_literals}
use Rattle.resolvo_store_core.specs.Lists.{candidates_in}
use Rattle.resolvo_sat.specs.State.{count_of}
use Rattle.resolvo_sat.proofs.Literals.{has_here}
use Rattle.resolvo_encoder.proofs.encoder.Encoder.encode_need.Goals as goal

pub put_literals-requires : goal.put_literals-requires
put_literals-requires g c =
    let rest = candidate_literals (candidates_in c.args.self.now.lists c.args.requirement) in
    let below : c.args.variable.0 < count_of c.args.self.now.coding.search = c.requires.in_range (no c.args.variable) (has_here (no c.args.variable) rest (no c.args.variable) refl) in
    let small : count_of c.args.self.now.coding.search < 2147483648 = c.requires.coding.ready.state.small in
    omega arith
