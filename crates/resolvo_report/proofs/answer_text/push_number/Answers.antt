use Rattle.std.proofs.Common.{◌++◌, List, ℕ, sym, ap, ◌∙◌}
use Rattle.std.proofs.lemmas.Fmt.{decimal_digit}
use Rattle.resolvo_report.proofs.answer_text.push_number.Goals as goal

pub returns : goal.returns
returns c = c.in_ok-push.ensures.items ∙ ap (λ (ds : List ℕ). c.args.out.now.items ++ ds) (sym (decimal_digit c.args.number c.if-number-ge10.false))
