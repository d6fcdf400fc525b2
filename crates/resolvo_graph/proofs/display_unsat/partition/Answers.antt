use Rattle.resolvo_graph.specs.Message.{misses, fits}
use Rattle.resolvo_graph.proofs.ListLemmas.{filter_put, whole}
use Rattle.std.proofs.Common.{refl, filter}
use Rattle.resolvo_graph.proofs.display_unsat.partition.Goals as goal

pub loop-edge-preserved : goal.loop-edge-preserved
loop-edge-preserved g c =
    let es = c.args.edges.now in
    let i = c.loop-edge.edge-index in
    let e = c.edge-item.result in
    let keys = c.args.missing.now.keys in
    record {
      missing = filter_put es i e e c.loop-edge-test.true c.edge-item.is (misses keys) c.loop-edge.without.items c.add_edge.new.without.items c.loop-edge.invariant.missing c.in_ok-add_edge.ensures.missing;
      others = filter_put es i e e c.loop-edge-test.true c.edge-item.is (fits keys) c.loop-edge.others.items c.add_edge.new.others.items c.loop-edge.invariant.others c.in_ok-add_edge.ensures.others;
    }

pub returns-clause-missing : goal.returns-clause-missing
returns-clause-missing g c = whole (filter (misses c.args.missing.now.keys)) c.args.edges.now c.args.edges.now c.loop-edge.edge-index c.loop-edge.without.items c.loop-edge-test.false refl c.loop-edge.invariant.missing

pub returns-clause-others : goal.returns-clause-others
returns-clause-others g c = whole (filter (fits c.args.missing.now.keys)) c.args.edges.now c.args.edges.now c.loop-edge.edge-index c.loop-edge.others.items c.loop-edge-test.false refl c.loop-edge.invariant.others
