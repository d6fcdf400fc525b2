use Rattle.resolvo_text.proofs.SearchLemmas.{is_position}
use Rattle.resolvo_text.proofs.lines.newline_in.Goals as goal

pub returns : goal.returns
returns c = is_position c.args.bytes.now c.memchr.result c.memchr.ensures
