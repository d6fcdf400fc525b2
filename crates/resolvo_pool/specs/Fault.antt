-- How a refusal shows at the cache.
use Rattle.resolvo_pool_core.specs.declared.want.Want.{Want}
use Rattle.resolvo_pool_core.specs.declared.want.Want.TheVariants as W
use Rattle.resolvo_pool.specs.declared.cache.CacheFault.{CacheFault}
use Rattle.resolvo_pool.specs.declared.cache.CacheFault.TheVariants.{Memory, Ids}

abbrev pub fault_of : {C : Type 0} → Want → CacheFault C
fault_of W.Memory = Memory
fault_of W.Ids = Ids
