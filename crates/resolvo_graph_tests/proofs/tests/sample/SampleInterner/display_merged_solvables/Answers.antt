use Rattle.resolvo_pool_core.proofs.Texts.{wrote_nothing}
use Rattle.resolvo_graph_tests.proofs.tests.sample.SampleInterner.display_merged_solvables.Goals as goal

pub loop-other-init : goal.loop-other-init
loop-other-init g c plain = wrote_nothing g.W.Write.write_str_gives c.write.new.self plain
