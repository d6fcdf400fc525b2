use Rattle.std.proofs.Common.{◌∙◌, sym}
use Rattle.resolvo_text.proofs.BeginLemmas.{dotted, undotted}
use Rattle.resolvo_text.proofs.words.span_in.Goals as goal

pub returns-in-Some : goal.returns-in-Some
returns-in-Some c = c.range_at.ensures ∙ dotted c.args.word.now c.in-Some.dot (sym c.in-Some.ensures)

pub returns-in-None-number_in : goal.returns-in-None-number_in
returns-in-None-number_in c = undotted c.args.word.now (sym c.in-None.ensures) c.in-None-number_in.ensures
