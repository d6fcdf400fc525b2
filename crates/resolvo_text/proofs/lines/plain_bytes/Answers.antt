use Rattle.std.proofs.Common.{◌∙◌, sym}
use Rattle.resolvo_text.proofs.LineLemmas.{plain_above}
use Rattle.resolvo_text.proofs.lines.plain_bytes.Goals as goal

pub returns-in-Some-clause-plain : goal.returns-in-Some-clause-plain
returns-in-Some-clause-plain c = plain_above c.args.bytes.now _ (sym c.in-Some.is ∙ c.newline_in.ensures)

pub returns-in-None-clause-plain : goal.returns-in-None-clause-plain
returns-in-None-clause-plain c = plain_above c.args.bytes.now _ (sym c.in-None.is ∙ c.newline_in.ensures)
