use Rattle.std.proofs.Common.{eqb-true}
use Rattle.resolvo_store_core.proofs.WatchLemmas.{marked_free}
use Rattle.resolvo_store_core.proofs.watch_map.WatchMap.is_unlinked.Goals as goal

pub returns : goal.returns
returns c = λ e. marked_free c.args.self.now c.args.link c.index.result.now c.requires c.index.ensures (eqb-true c.index.result.now 4294967295 e)
