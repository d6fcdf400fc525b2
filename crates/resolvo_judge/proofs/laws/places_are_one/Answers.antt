use Rattle.resolvo_judge.proofs.PlaceLaws.{one_place}
use Rattle.resolvo_judge.proofs.laws.places_are_one.Goals as goal

pub returns : goal.returns
returns c = one_place
