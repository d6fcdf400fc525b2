use Rattle.resolvo_catalogue_core.proofs.Sorted.{updates_number}
use Rattle.resolvo_catalogue_core.proofs.NumberedLemmas.{mapped_next}
use Rattle.resolvo_catalogue_core.proofs.version_list.map_of.Goals as goal

pub loop-place-preserved : goal.loop-place-preserved
loop-place-preserved c = mapped_next c.args.numbers.now c.args.versions.now c.loop-place.place _ _ c.loop-place.map c.insert.new.self c.requires.paired c.requires.rising c.loop-place-test.true c.loop-place.invariant (updates_number _ c.loop-place.map c.insert.new.self _ c.in_ok-insert.ensures.updates.0)
