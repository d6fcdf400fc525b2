use Rattle.std.proofs.Common.{◌≡◌, ◌++◌, reverse}
use Rattle.resolvo_graph.specs.Tree.{siblings, order_before}
use Rattle.resolvo_graph.proofs.tree.place.Given as goal

-- the siblings so far are on the stack; the first of them has no sibling below it
abbrev pub invariant-loop-op : goal.invariant-loop-op
invariant-loop-op g l = record {
  order : l.order ≡ order_before (reverse l.yielded);
  stack : l.stack.items ≡ l.initial.stack.items ++ reverse (siblings l.indenter l.above (reverse l.yielded));
}
