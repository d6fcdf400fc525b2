use Rattle.resolvo_sat.proofs.BothLemmas.{seen_both, collects_both, marks_both}
use Rattle.resolvo_sat.proofs.analyze.mark_seen.Goals as goal

pub returns-clause-marked : goal.returns-clause-marked
returns-clause-marked c = seen_both c.args.own.now c.args.shared.now c.args.seen.now c.mark_each.new.seen c.mark_each-2.new.seen c.in_ok-first.ensures.marked c.in_ok-more.ensures.marked

pub returns-clause-collected : goal.returns-clause-collected
returns-clause-collected c = collects_both c.args.own.now c.args.shared.now c.args.seen.now c.mark_each.new.seen c.mark_each-2.new.seen c.args.met.now.items c.mark_each.new.met.items c.mark_each-2.new.met.items c.in_ok-first.ensures.marked c.in_ok-first.ensures.collected c.in_ok-more.ensures.collected

pub returns-clause-few : goal.returns-clause-few
returns-clause-few c = marks_both c.in_ok-first.first.all c.in_ok-more.more.all c.in_ok-all.all.all c.args.seen.now c.mark_each.new.seen c.mark_each-2.new.seen c.in_ok-all.ensures.sum c.in_ok-first.ensures.few c.in_ok-more.ensures.few
