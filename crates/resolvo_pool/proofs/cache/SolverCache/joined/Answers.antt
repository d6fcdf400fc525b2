use Rattle.resolvo_pool.proofs.KeptLemmas.{joined_more}
use Rattle.resolvo_pool.proofs.cache.SolverCache.joined.Goals as goal

pub loop-version_set-preserved : goal.loop-version_set-preserved
loop-version_set-preserved g c =
    joined_more c.args.self.now.sorted c.args.members.now c.loop-version_set.version_set-index _ c.loop-version_set.joined.items c.extend_from_slice.new.self.items c.sorted_of_set.result.now c.loop-version_set-test.true c.loop-version_set.invariant c.sorted_of_set.ensures.kept c.in_ok-extend_from_slice.ensures.items
