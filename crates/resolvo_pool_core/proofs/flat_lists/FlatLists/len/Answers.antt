use Rattle.std.proofs.Common.{◌≡◌, length, ap, arith}
use Rattle.resolvo_pool_core.specs.Flat.{lists_in}
use Rattle.resolvo_pool_core.proofs.FlatLemmas.{lists_count}
use Rattle.resolvo_pool_core.proofs.flat_lists.FlatLists.len.Goals as goal

pub returns : goal.returns
returns g c =
    let inside = c.self.inside in
    let view : lists_in inside.items.items inside.ends.items ≡ c.args.self.now = c.self.view_is in
    omega (arith, c.len.ensures, inside.ends.ok.0, lists_count inside.items.items 0 inside.ends.items, ap length view)
