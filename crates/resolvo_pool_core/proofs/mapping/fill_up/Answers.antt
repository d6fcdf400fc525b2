use Rattle.std.proofs.Common.{arith, ◌≤◌, ◌+◌, ◌∙◌, ap}
use Rattle.resolvo_pool_core.proofs.SlotLemmas.{replicate_up}
use Rattle.resolvo_pool_core.proofs.mapping.fill_up.Goals as goal

pub loop-i-preserved : goal.loop-i-preserved
loop-i-preserved g c =
    let low : c.len-before.result ≤ c.loop-i._i = omega (arith, c.loop-i.auto._i) in
    let pushed = rw c.unwrap.ensures at c.push.ensures.items in
    let longer = rw c.unwrap.ensures at c.push.ensures.len in
    (replicate_up c.reserve.new.self.items c.push.new.self.items c.loop-i.slots.items c.loop-i._i c.len-before.result low c.loop-i.invariant.0 pushed, longer ∙ ap (λ n. n + 1) c.loop-i.invariant.1, omega (arith, c.push.ensures.capacity))
