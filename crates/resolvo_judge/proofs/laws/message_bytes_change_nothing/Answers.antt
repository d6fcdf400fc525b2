use Rattle.resolvo_judge.proofs.MessageLines.{refused_with}
use Rattle.resolvo_judge.proofs.laws.message_bytes_change_nothing.Goals as goal

pub returns : goal.returns
returns c = λ catalogue request above bytes other below n all fits too refused. refused_with catalogue request bytes other fits too below above n all refused
