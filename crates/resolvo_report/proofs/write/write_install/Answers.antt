use Rattle.std.proofs.Common.{List, ℕ, [], ◌++◌, map, refl, sym, ap, ◌∙◌, append_assoc, append-nil}
use Rattle.std.specs.Prelude.{codes}
use Rattle.std.proofs.lemmas.Result.{err_from_is_err_and}
use Rattle.resolvo_report.specs.Value as model
use Rattle.resolvo_report.specs.View.{answer_lines_of, steps_of}
use Rattle.resolvo_report.specs.Text.{lines_text, numbered, report_text}
use Rattle.resolvo_report.proofs.WriteLemmas.{wrote_more, stops_first, stops_later, install_text, if_err, on_ok}
use Rattle.resolvo_report.proofs.write.write_install.Goals as goal

pub returns-in_err-write_line-clause-fault : goal.returns-in_err-write_line-clause-fault
returns-in_err-write_line-clause-fault g c =
    let h = codes "install\n" in
    let a = lines_text (map model.Answer (answer_lines_of c.args.lines.now)) in
    let n = lines_text (numbered 1 (steps_of c.args.steps.now)) in
    let all = report_text (model.Install (answer_lines_of c.args.lines.now) (steps_of c.args.steps.now)) in
    let is = install_text (answer_lines_of c.args.lines.now) (steps_of c.args.steps.now) in
    let p = err_from_is_err_and c.from_residual.result c.from_residual.ensures.1 in
    rw (p.1, p.2) (stops_first c.in_err-write_line.field-0.0 _ _ _ _ _ _ _ h (a ++ n) all c.in_err-write_line.ensures.fault is)

pub returns-in_err-write_answers-clause-fault : goal.returns-in_err-write_answers-clause-fault
returns-in_err-write_answers-clause-fault g c =
    let h = codes "install\n" in
    let a = lines_text (map model.Answer (answer_lines_of c.args.lines.now)) in
    let n = lines_text (numbered 1 (steps_of c.args.steps.now)) in
    let all = report_text (model.Install (answer_lines_of c.args.lines.now) (steps_of c.args.steps.now)) in
    let is = install_text (answer_lines_of c.args.lines.now) (steps_of c.args.steps.now) in
    let p = err_from_is_err_and c.from_residual-in_err-write_answers.result c.from_residual-in_err-write_answers.ensures.1 in
    rw (p.1, p.2) (stops_later c.in_err-write_answers.field-0.0 _ _ _ _ _ _ _ _ _ _ h a n all c.in_ok-write_line.ensures.whole c.in_err-write_answers.ensures.fault is)

pub returns-clause-whole : goal.returns-clause-whole
returns-clause-whole g c =
    let h = codes "install\n" in
    let a = lines_text (map model.Answer (answer_lines_of c.args.lines.now)) in
    let n = lines_text (numbered 1 (steps_of c.args.steps.now)) in
    let all = report_text (model.Install (answer_lines_of c.args.lines.now) (steps_of c.args.steps.now)) in
    let is = install_text (answer_lines_of c.args.lines.now) (steps_of c.args.steps.now) in
    let so_far = wrote_more _ _ _ _ _ _ _ _ _ h a (h ++ a) c.in_ok-write_line.ensures.whole c.in_ok-write_answers.ensures.whole refl in
    on_ok c.write_steps.result (λ w. wrote_more _ _ _ _ _ _ _ _ _ (h ++ a) n all so_far w (append_assoc h a n ∙ sym is)) c.write_steps.ensures.whole

pub returns-clause-fault : goal.returns-clause-fault
returns-clause-fault g c =
    let h = codes "install\n" in
    let a = lines_text (map model.Answer (answer_lines_of c.args.lines.now)) in
    let n = lines_text (numbered 1 (steps_of c.args.steps.now)) in
    let all = report_text (model.Install (answer_lines_of c.args.lines.now) (steps_of c.args.steps.now)) in
    let is = install_text (answer_lines_of c.args.lines.now) (steps_of c.args.steps.now) in
    let so_far = wrote_more _ _ _ _ _ _ _ _ _ h a (h ++ a) c.in_ok-write_line.ensures.whole c.in_ok-write_answers.ensures.whole refl in
    if_err c.write_steps.result (λ e f. stops_later e _ _ _ _ _ _ _ _ _ _ (h ++ a) n [] all so_far f (is ∙ sym (append_assoc h a n) ∙ ap (λ (t : List ℕ). (h ++ a) ++ t) (sym (append-nil n)))) c.write_steps.ensures.fault
