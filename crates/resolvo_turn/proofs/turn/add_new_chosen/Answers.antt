use Rattle.resolvo_turn.proofs.AddLemmas.{parents_none, parents_then}
use Rattle.resolvo_turn.proofs.turn.add_new_chosen.Goals as goal

pub loop-place-init : goal.loop-place-init
loop-place-init g c = parents_none c.args.encoding.now

pub loop-place-preserved : goal.loop-place-preserved
loop-place-preserved g c = parents_then c.args.encoding.now c.loop-place.encoding c.add_if_chosen.new.encoding c.loop-place.invariant c.in_ok-add_if_chosen.ensures.added
