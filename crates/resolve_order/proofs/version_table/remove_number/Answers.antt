use Rattle.std.proofs.Common.{Some, None, rules}
use Rattle.std.specs.BTreeMap.{get}
use Rattle.std.specs.Ordering.{nat_cmp}
use Rattle.resolvo_catalogue_core.proofs.Sorted.{updates_number}
use Rattle.resolve_order.proofs.NumberLemmas.{put_number, number_updated}
use Rattle.resolve_order.proofs.version_table.remove_number.Goals as goal

pub returns-in-Some : goal.returns-in-Some
returns-in-Some c =
    let w = c.remove.new.self in
    let kept = c.args.packages.now in
    let p = c.args.place.0 in
    let number = c.args.place.1 in
    let updates = (c.get_mut.follows.holds w).3 (search rules) in
    put_number kept (c.get_mut.follows.lender w) p number None w
    (updates_number p kept (c.get_mut.follows.lender w) (Some w) updates.0)
    (number_updated c.in-Some.numbers.now w (get nat_cmp kept p) number None c.in-Some.ensures.value (updates_number number c.in-Some.numbers.now w _ c.remove.ensures.updates.0))
