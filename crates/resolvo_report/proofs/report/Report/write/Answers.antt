use Rattle.std.proofs.Common.{◌≡◌, List, ℕ, [], sym, ap, ◌∙◌, append-nil}
use Rattle.std.specs.Global.{Vec}
use Rattle.resolvo_report.specs.declared.report.Report.{Report}
use Rattle.resolvo_report.specs.declared.report.AnswerLine.{AnswerLine}
use Rattle.resolvo_report.specs.declared.step.Step.{Step}
use Rattle.resolvo_report.specs.Value as model
use Rattle.resolvo_report.specs.View.{report_of, answer_lines_of, steps_of, messages_of}
use Rattle.resolvo_report.specs.Text.{report_text}
use Rattle.resolvo_report.proofs.WriteLemmas.{wrote_more, wrote_nothing, on_ok}
use Rattle.resolvo_report.proofs.report.Report.write.Goals as goal

pub returns-in-Install-clause-whole : goal.returns-in-Install-clause-whole
returns-in-Install-clause-whole g c =
    let text : report_text (model.Install (answer_lines_of c.deref.result.now) (steps_of c.deref-in-Install.result.now)) ≡ report_text (report_of c.args.self.now) =
    ap (λ (ls : List AnswerLine). report_text (model.Install (answer_lines_of ls) (steps_of c.deref-in-Install.result.now))) c.deref.ensures.value
    ∙ ap (λ (ss : List Step). report_text (model.Install (answer_lines_of c.in-Install.lines.items) (steps_of ss))) c.deref-in-Install.ensures.value
    ∙ sym (ap (λ (r : Report). report_text (report_of r)) c.in-Install.is) in
    on_ok c.write_install.result (λ w. wrote_more _ _ _ _ _ _ _ _ _ _ [] _ w (wrote_nothing _ _ _) (append-nil (report_text (model.Install (answer_lines_of c.deref.result.now) (steps_of c.deref-in-Install.result.now))) ∙ text)) c.write_install.ensures.whole

pub returns-in-Refused-clause-whole : goal.returns-in-Refused-clause-whole
returns-in-Refused-clause-whole g c =
    let r = c.in-Refused in
    let cs = c.deref-in-Refused.result.now in
    let rs = c.deref-in-Refused-2.result.now in
    let ss = c.deref-in-Refused-3.result.now in
    let ms = c.deref-in-Refused-4.result.now in
    let text : report_text (model.Refused cs rs (steps_of ss) (messages_of ms)) ≡ report_text (report_of c.args.self.now) =
    ap (λ (x : List ℕ). report_text (model.Refused x rs (steps_of ss) (messages_of ms))) c.deref-in-Refused.ensures.value
    ∙ ap (λ (x : List ℕ). report_text (model.Refused r.catalogue.items x (steps_of ss) (messages_of ms))) c.deref-in-Refused-2.ensures.value
    ∙ ap (λ (x : List Step). report_text (model.Refused r.catalogue.items r.request.items (steps_of x) (messages_of ms))) c.deref-in-Refused-3.ensures.value
    ∙ ap (λ (x : List (Vec ℕ)). report_text (model.Refused r.catalogue.items r.request.items (steps_of r.steps.items) (messages_of x))) c.deref-in-Refused-4.ensures.value
    ∙ sym (ap (λ (x : Report). report_text (report_of x)) r.is) in
    on_ok c.write_refused.result (λ w. wrote_more _ _ _ _ _ _ _ _ _ _ [] _ w (wrote_nothing _ _ _) (append-nil (report_text (model.Refused cs rs (steps_of ss) (messages_of ms))) ∙ text)) c.write_refused.ensures.whole
