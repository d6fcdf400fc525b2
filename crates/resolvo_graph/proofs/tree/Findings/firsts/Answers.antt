use Rattle.resolvo_graph.specs.Kept.{findings}
use Rattle.resolvo_graph.specs.Tree.{firsts_after}
use Rattle.std.proofs.Common.{[], ◌++◌, ◌∙◌, ap, sym}
use Rattle.std.proofs.lemmas.List.{append-nil}
use Rattle.resolvo_graph.proofs.ListLemmas.{left}
use Rattle.resolvo_graph.proofs.MergeLemmas.{dropped}
use Rattle.resolvo_graph.proofs.TreeLemmas.{first_more}
use Rattle.resolvo_graph.proofs.tree.Findings.firsts.Goals as goal

pub loop-node-preserved : goal.loop-node-preserved
loop-node-preserved g c =
    let f = findings g.S.PartialEq.eq c.args.self.now in
    let cs = c.args.candidates.now in
    let v = c.loop-node-item.result in
    first_more f cs c.loop-node.node-index v c.loop-node.covered.keys c.add_first.new.covered.keys (firsts_after f [] cs) c.loop-node.found.items c.add_first.new.found.items (left cs c.loop-node.node-index v v c.loop-node-test.true c.loop-node-item.is) c.loop-node.invariant c.in_ok-add_first.ensures.covered c.in_ok-add_first.ensures.found

pub returns-clause-firsts : goal.returns-clause-firsts
returns-clause-firsts g c =
    let found = c.loop-node.found.items in
    sym (c.loop-node.invariant ∙ ap (λ cs. found ++ firsts_after (findings g.S.PartialEq.eq c.args.self.now) c.loop-node.covered.keys cs) (dropped c.args.candidates.now c.loop-node.node-index c.loop-node-test.false) ∙ append-nil found)
