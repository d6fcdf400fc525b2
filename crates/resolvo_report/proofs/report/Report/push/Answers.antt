use Rattle.std.proofs.Common.{◌≡◌, ℕ, List, [], ◌∷◌, ◌++◌, Some, sym, ap, subst, ◌∙◌}
use Rattle.std.proofs.lemmas.List.{map_push}
use Rattle.resolvo_report.specs.declared.report.Report as code
use Rattle.resolvo_report.specs.declared.report.ReportLine as code_line
use Rattle.resolvo_report.specs.declared.grammar.Part.{Part}
use Rattle.resolvo_report.specs.Value as model
use Rattle.resolvo_report.specs.View.{report_of, report_line_of, answer_lines_of, step_of, steps_of, messages_of}
use Rattle.resolvo_report.specs.Grammar.{next_part}
use Rattle.resolvo_report.specs.Draft.{part_of, Grows}
use Rattle.resolvo_report.proofs.DraftLemmas.{push_install_step, push_catalogue, push_request, push_refused_step, push_message}
use Rattle.resolvo_report.proofs.report.Report.push.Goals as goal

-- where the line is allowed in this report
placed : (r s : code.Report) (l m : code_line.ReportLine) (q : Part) → r ≡ s → l ≡ m → next_part (part_of (report_of r)) (report_line_of l) ≡ Some q → next_part (part_of (report_of s)) (report_line_of m) ≡ Some q
placed r s l m q is same e = subst (λ (x : code.Report). next_part (part_of (report_of x)) (report_line_of m) ≡ Some q) is (subst (λ (x : code_line.ReportLine). next_part (part_of (report_of r)) (report_line_of x) ≡ Some q) same e)

-- and so it grows
grown : (r s : code.Report) (l m : code_line.ReportLine) (t u : model.Report) → r ≡ s → l ≡ m → t ≡ u → Grows (report_of s) (report_line_of m) u → Grows (report_of r) (report_line_of l) t
grown r s l m t u is same same_too g =
    subst (λ (x : code.Report). Grows (report_of x) (report_line_of l) t) (sym is) (subst (λ (x : code_line.ReportLine). Grows (report_of s) (report_line_of x) t) (sym same) (subst (λ (x : model.Report). Grows (report_of s) (report_line_of m) x) (sym same_too) g))

pub returns-in_ok-push-in-Step : goal.returns-in_ok-push-in-Step
returns-in_ok-push-in-Step c =
    let ls = answer_lines_of c.in-Install.lines.items in
    let ss = steps_of c.in-Install.steps.items in
    let pushed : steps_of c.push-in-Step.new.self.items ≡ ss ++ step_of c.in-Step.step ∷ [] = ap steps_of c.in_ok-push-in-Step.ensures.items ∙ map_push step_of c.in-Install.steps.items c.in-Step.step in
    grown _ _ _ _ _ _ c.in-Install.is c.in-Step.is (ap (λ (x : List model.Step). model.Install ls x) pushed)
    (push_install_step ls ss c.in-Step.number (step_of c.in-Step.step) c.requires.0 (placed _ _ _ _ c.requires.0 c.in-Install.is c.in-Step.is c.requires.1))

pub returns-in_ok-push-in-Catalogue : goal.returns-in_ok-push-in-Catalogue
returns-in_ok-push-in-Catalogue c =
    let r = c.in-Refused in
    grown _ _ _ _ _ _ r.is c.in-Catalogue.is (ap (λ (x : List ℕ). model.Refused x r.request.items (steps_of r.steps.items) (messages_of r.message.items)) c.in_ok-push-in-Catalogue.ensures.items)
    (push_catalogue r.catalogue.items r.request.items (steps_of r.steps.items) (messages_of r.message.items) c.in-Catalogue.line c.requires.0 (placed _ _ _ _ c.requires.0 r.is c.in-Catalogue.is c.requires.1))

pub returns-in_ok-push-in-Request : goal.returns-in_ok-push-in-Request
returns-in_ok-push-in-Request c =
    let r = c.in-Refused in
    grown _ _ _ _ _ _ r.is c.in-Request.is (ap (λ (x : List ℕ). model.Refused r.catalogue.items x (steps_of r.steps.items) (messages_of r.message.items)) c.in_ok-push-in-Request.ensures.items)
    (push_request r.catalogue.items r.request.items (steps_of r.steps.items) (messages_of r.message.items) c.in-Request.line c.requires.0 (placed _ _ _ _ c.requires.0 r.is c.in-Request.is c.requires.1))

pub returns-in_ok-push-in-Step-line : goal.returns-in_ok-push-in-Step-line
returns-in_ok-push-in-Step-line c =
    let r = c.in-Refused in
    let s = c.in-Step-line in
    let pushed : steps_of c.push-in-Step-line.new.self.items ≡ steps_of r.steps.items ++ step_of s.step ∷ [] = ap steps_of c.in_ok-push-in-Step-line.ensures.items ∙ map_push step_of r.steps.items s.step in
    grown _ _ _ _ _ _ r.is s.is (ap (λ (x : List model.Step). model.Refused r.catalogue.items r.request.items x (messages_of r.message.items)) pushed)
    (push_refused_step r.catalogue.items r.request.items (steps_of r.steps.items) (messages_of r.message.items) s.number (step_of s.step) c.requires.0 (placed _ _ _ _ c.requires.0 r.is s.is c.requires.1))

pub returns-in_ok-push-in-Message : goal.returns-in_ok-push-in-Message
returns-in_ok-push-in-Message c =
    let r = c.in-Refused in
    let m = c.in-Message.bytes.items in
    let pushed : messages_of c.push-in-Message.new.self.items ≡ messages_of r.message.items ++ m ∷ [] = ap messages_of c.in_ok-push-in-Message.ensures.items ∙ map_push (λ v. v.items) r.message.items c.in-Message.bytes in
    grown _ _ _ _ _ _ r.is c.in-Message.is (ap (λ (x : List (List ℕ)). model.Refused r.catalogue.items r.request.items (steps_of r.steps.items) x) pushed)
    (push_message r.catalogue.items r.request.items (steps_of r.steps.items) (messages_of r.message.items) m c.requires.0 (placed _ _ _ _ c.requires.0 r.is c.in-Message.is c.requires.1))
