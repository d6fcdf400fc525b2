use Rattle.std.proofs.Common.{arith}
use Rattle.resolvo_graph.proofs.MessageLemmas.{admitted_more, none_admitted_left}
use Rattle.resolvo_graph.proofs.tree.admitted_lines.Goals as goal

pub loop-version_set-smaller : goal.loop-version_set-smaller
loop-version_set-smaller g c = let shorter = c.in-Some.ensures.cases.1 in omega arith

pub loop-version_set-preserved : goal.loop-version_set-preserved
loop-version_set-preserved g c = admitted_more c.args.indenter.now c.args.version_sets.now c.loop-version_set.rest.now c.in-Some.below.now c.in-Some.version_set.now c.order_before.result c.loop-version_set.lines.items c.add_line.new.lines.items c.loop-version_set.invariant c.in-Some.ensures.cases.0 c.order_before.ensures c.in_ok-add_line.ensures.line

pub returns-clause-lines : goal.returns-clause-lines
returns-clause-lines g c = none_admitted_left c.args.indenter.now c.args.version_sets.now c.loop-version_set.rest.now c.loop-version_set.lines.items c.loop-version_set.invariant c.in_default.ensures.cases
