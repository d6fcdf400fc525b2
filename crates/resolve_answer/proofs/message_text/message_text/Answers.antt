use Rattle.std.proofs.Common.{true, [], ◌++◌, ap, ◌∙◌}
use Rattle.resolve_answer.specs.Marked.{marked}
use Rattle.resolve_answer.specs.declared.message_text.MessageText.{MessageText}
use Rattle.resolve_answer.proofs.WriterLemmas.{if_text, text_after}
use Rattle.resolve_answer.proofs.message_text.message_text.Goals as goal

pub returns-in-Ok-clause-text : goal.returns-in-Ok-clause-text
returns-in-Ok-clause-text g c = if_text (g.D.Display.output c.args.value.now) (λ text wrote.
    let (is, begins) = text_after _ (λ (m : MessageText). m.begins) (λ (m : MessageText). m.bytes.items) (λ _ _ _ t. t) _ text _ wrote in
    is ∙ ap (λ before. before ++ marked true text) c.new.ensures.items)
    c.in-Ok.ensures.writes
