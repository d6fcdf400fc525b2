use Rattle.std.proofs.Common.{sym, ap, ◌∙◌}
use Rattle.std.specs.List.{join_with_byte}
use Rattle.std.proofs.lemmas.List.Splits.{join_with_byte-slice_split}
use Rattle.resolvo_text.specs.Parse.{words_in}
use Rattle.resolvo_report.proofs.parse.text_of.Goals as goal

pub returns-in-Some : goal.returns-in-Some
returns-in-Some c = sym (ap (λ ws. join_with_byte 32 (words_in ws)) c.in-Some.ensures.cases.0 ∙ join_with_byte-slice_split 32 c.in-Some.text.now)
