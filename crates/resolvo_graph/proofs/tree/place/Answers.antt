use Rattle.std.proofs.Common.{◌≡◌, ◌++◌, ◌∙◌, ap, reverse}
use Rattle.std.proofs.lemmas.Iterator.Consumers.{YieldsList-end}
use Rattle.std.proofs.lemmas.Iterator.Adapters.{YieldsList-from_vec}
use Rattle.resolvo_graph.specs.Tree.{siblings}
use Rattle.resolvo_graph.proofs.TreeLemmas.{all_yielded, more_before, sibling_more}
use Rattle.resolvo_graph.proofs.tree.place.Goals as goal

pub returns-clause-stack : goal.returns-clause-stack
returns-clause-stack g c =
    let given = c.into_iter-op-iterator.ensures.into_iter_gives in
    let ended = YieldsList-end (YieldsList-from_vec {s = c.into_iter-op-iterator.result} c.args.ops.items given.0 (given.1 ∙ c.args.ops.ok.0)) c.loop-op.yielded c.loop-op.op-iterator c.loop-op.yielded_by c.next.result c.next.new.self c.in-None.is c.next.ensures.steps in
    let all : c.loop-op.yielded ≡ c.args.ops.items = all_yielded c.loop-op.yielded c.args.ops.items ended.0 in
    c.loop-op.invariant.stack ∙ ap (λ os. c.args.stack.now.items ++ reverse (siblings c.args.indenter.now c.args.above.now (reverse os))) all

pub loop-op-preserved : goal.loop-op-preserved
loop-op-preserved g c = record {
  order = more_before c.loop-op.yielded c.in-Some.op;
  stack = sibling_more c.args.indenter.now c.args.above.now c.loop-op.yielded c.in-Some.op c.args.stack.now.items c.loop-op.stack.items c.push.new.self.items c.loop-op.order c.in_ok-sibling.field-0 c.loop-op.invariant.stack c.loop-op.invariant.order c.in_ok-sibling.ensures.entry c.in_ok-push.ensures.items;
}
