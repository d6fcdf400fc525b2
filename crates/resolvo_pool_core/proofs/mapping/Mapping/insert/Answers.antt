use Rattle.std.proofs.Common.{arith}
use Rattle.resolvo_pool_core.proofs.SlotLemmas.{filled-le}
use Rattle.resolvo_pool_core.proofs.mapping.Mapping.insert.Goals as goal

pub overflow_add-self : goal.overflow_add-self
overflow_add-self g c = omega (arith, filled-le c.self.inside.slots.items)
