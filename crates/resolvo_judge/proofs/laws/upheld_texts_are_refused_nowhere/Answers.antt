use Rattle.resolvo_judge.proofs.PlaceLaws.{upheld_nowhere}
use Rattle.resolvo_judge.proofs.laws.upheld_texts_are_refused_nowhere.Goals as goal

pub returns : goal.returns
returns c = upheld_nowhere
