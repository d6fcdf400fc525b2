use Rattle.std.proofs.Common.{arith}
use Rattle.resolvo_graph.proofs.MessageLemmas.{conflict_more, no_conflict_left}
use Rattle.resolvo_graph.proofs.display_unsat.conflict_lines.Goals as goal

pub loop-edge-smaller : goal.loop-edge-smaller
loop-edge-smaller g c = let shorter = c.in-Some.ensures.cases.1 in omega arith

pub loop-edge-preserved : goal.loop-edge-preserved
loop-edge-preserved g c = conflict_more c.args.edges.now c.loop-edge.rest.now c.in-Some.below.now c.in-Some.edge.now c.order_before.result c.loop-edge.lines.items c.add_conflict.new.lines.items c.loop-edge.invariant c.in-Some.ensures.cases.0 c.order_before.ensures c.in_ok-add_conflict.ensures.line

pub returns-clause-lines : goal.returns-clause-lines
returns-clause-lines g c = no_conflict_left c.args.edges.now c.loop-edge.rest.now c.loop-edge.lines.items c.loop-edge.invariant c.in_default.ensures.cases
