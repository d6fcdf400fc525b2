use Rattle.std.proofs.Common.{◌≡◌, [], ◌++◌, List, ℕ, ap, ◌∙◌}
use Rattle.std.specs.Global.{Vec}
use Rattle.resolvo_report.specs.Value.{Report}
use Rattle.resolvo_report.specs.Text.{report_text}
use Rattle.resolvo_report.specs.View.{messages_of, report_of, steps_of}
use Rattle.resolve_refusal.specs.Parts.{report_with}
use Rattle.resolve_answer.proofs.MarkLemmas.{message_behind}
use Rattle.resolve_answer.proofs.answer.told.Goals as goal

pub returns : goal.returns
returns c = λ lines shown.
    let r = c.args.refusal in
    let bare : report_of c.with_message-report.result ≡ report_with [] r = c.with_message-report.ensures ∙ ap (λ (ms : List (Vec ℕ)). report_with (messages_of ms) r) c.new.ensures.items in
    ap (λ (t : List ℕ). t ++ c.args.message.items) (c.in_ok-head.ensures.text ∙ ap (λ (x : Report). report_text x) bare)
    ∙ (ap (λ (t : List ℕ). report_text (report_with [] r) ++ t) shown ∙ message_behind r.catalogue.items r.request.items (steps_of r.steps.items) lines)
