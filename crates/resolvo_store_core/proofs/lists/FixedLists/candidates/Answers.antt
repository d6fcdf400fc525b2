use Rattle.resolvo_pool_core.specs.ByRequirement.{slot_of}
use Rattle.resolvo_store_core.proofs.PlaceLemmas.{candidates_none}
use Rattle.resolvo_store_core.proofs.lists.FixedLists.candidates.Goals as goal

pub returns : goal.returns
returns g c = candidates_none c.get.result (slot_of c.args.self.now.candidates c.args.requirement) c.get.ensures
