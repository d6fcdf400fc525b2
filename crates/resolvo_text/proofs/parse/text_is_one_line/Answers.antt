use Rattle.resolvo_text.proofs.TextLaws.{one_line}
use Rattle.resolvo_text.proofs.parse.text_is_one_line.Goals as goal

pub returns : goal.returns
returns c = one_line
