use Rattle.resolvo_judge.proofs.MessageLaws.{upheld_with}
use Rattle.resolvo_judge.proofs.laws.messages_change_nothing.Goals as goal

pub returns : goal.returns
returns c = λ catalogue request catalogue_lines request_lines steps message other texts upheld. upheld_with catalogue_lines request_lines steps catalogue request message other texts upheld
