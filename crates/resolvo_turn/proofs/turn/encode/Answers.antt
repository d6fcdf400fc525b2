use Rattle.resolvo_encoder.proofs.Bases.{turns_then}
use Rattle.resolvo_turn.proofs.AddLemmas.{goes_in_order}
use Rattle.resolvo_turn.proofs.EndLemmas.{all_goes, whole_goes}
use Rattle.resolvo_turn.proofs.turn.encode.Goals as goal

pub returns-clause-encoded : goal.returns-clause-encoded
returns-clause-encoded g c = λ root is e.
    let same = g.A.SolvableId.PartialEq.eq in
    goes_in_order same (g.A.PackageSource.packages c.args.answers.now) (g.A.PackageSource.orders c.args.answers.now) root c.encode_parents.new.encoding c.undo_broken.new.encoding c.undo_broken.ensures.goes_on
    (c.undo_broken.ensures.stays (g.A.PackageSource.packages c.args.answers.now) root (g.met.A.PackageSource.lawful c.args.answers.now)) (c.in_ok-encode_parents.ensures.encoded root is e)

pub returns-clause-all : goal.returns-clause-all
returns-clause-all g c = all_goes c.args.encoding.now c.encode_parents.new.encoding c.undo_broken.new.encoding c.in_ok-encode_parents.ensures.all c.undo_broken.ensures.goes_on

pub returns-clause-turn : goal.returns-clause-turn
returns-clause-turn g c = turns_then c.args.encoding.now c.encode_parents.new.encoding c.undo_broken.new.encoding c.in_ok-encode_parents.ensures.turn c.undo_broken.ensures.turn

pub returns-clause-placed : goal.returns-clause-placed
returns-clause-placed g c = whole_goes c.encode_parents.new.encoding c.undo_broken.new.encoding c.undo_broken.ensures.goes_on c.in_ok-encode_parents.ensures.placed
