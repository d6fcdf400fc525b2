use Rattle.std.proofs.Common.{[], refl}
use Rattle.resolvo_checker.proofs.WholeProofs.{invariant_empty}
use Rattle.resolvo_checker.proofs.proof.begin.Goals as goal

pub returns-clause-represents : goal.returns-clause-represents
returns-clause-represents c = invariant_empty c.args.catalogue.now c.args.request.now.lines c.new.result [] c.in_ok-places.places.items c.new-3.result _ refl c.in_ok-places.ensures c.new-3.ensures
