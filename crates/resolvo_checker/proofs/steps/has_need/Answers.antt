use Rattle.std.proofs.Common.{◌≡◌, ap, sym, subst, ◌∙◌, Option, IfOk, is_some}
use Rattle.resolvo_catalogue_core.specs.Grammar.{line_at}
use Rattle.resolvo_catalogue_core.specs.Listed.{listed}
use Rattle.resolvo_report.specs.Value.{Place}
use Rattle.resolvo_report.specs.View.{place_of}
use Rattle.resolvo_checker.specs.StepClauses.{Clause, line_of, need_clause}
use Rattle.resolvo_checker.proofs.StepLines.{need_owned}
use Rattle.resolvo_checker.proofs.steps.has_need.Goals as goal

pub returns-in-Request : goal.returns-in-Request
returns-in-Request c =
    let cat = c.args.catalogue.now in
    let req = c.args.request.now.lines in
    let p = place_of c.args.place.now in
    subst (λ (x : Option Clause). IfOk c.has_case.result (λ fine. fine ≡ is_some x))
    (ap (need_clause cat p c.args.case) (sym (c.rule_asked.ensures.from_line (listed cat)))
    ∙ need_owned cat p c.args.case (line_at req c.args.line)
    ∙ ap (λ (q : Place). need_clause cat p c.args.case (line_of cat req q c.args.line)) (sym (ap place_of c.in-Request.is)))
    (c.has_case.ensures cat p (listed cat))

pub returns-in-Version : goal.returns-in-Version
returns-in-Version c =
    let cat = c.args.catalogue.now in
    let req = c.args.request.now.lines in
    subst (λ (x : Option Clause). IfOk c.has_kept_case.result (λ fine. fine ≡ is_some x))
    (ap (λ (q : Place). need_clause cat q c.args.case (line_of cat req q c.args.line)) (sym (ap place_of c.in-Version.is)))
    (c.has_kept_case.ensures req)
