use Rattle.std.proofs.Common.{◌≡◌, ap, sym, subst, ◌∙◌, Option, IfOk}
use Rattle.std.specs.Option.{option_map}
use Rattle.resolvo_catalogue_core.specs.Listed.{listed}
use Rattle.resolvo_report.specs.View.{place_of}
use Rattle.resolvo_checker.specs.StepClauses.{Clause, line_of, limit_clause}
use Rattle.resolvo_checker.specs.Built.{seen, somes}
use Rattle.resolvo_checker.specs.RuleLines.{owner_in, owner_literals}
use Rattle.resolvo_checker.specs.StepClauses.{place_fails}
use Rattle.resolvo_checker.proofs.StepLines.{if_found, line_lent, limit_owned}
use Rattle.resolvo_checker.proofs.steps.limit_at.Goals as goal

pub returns : goal.returns
returns c =
    let vs = listed c.args.catalogue.now in
    let p = place_of c.args.place.now in
    subst (λ (x : Option Clause). IfOk c.limit_in.result (λ o. seen vs o ≡ option_map somes x))
    (ap (limit_clause (place_of c.args.place.now)) (line_lent vs _ _ _ c.found.ensures c.in_ok-rule.ensures.from_line) ∙ limit_owned (place_of c.args.place.now) (line_of c.args.catalogue.now c.args.request.now.lines (place_of c.args.place.now) c.args.line))
    (c.limit_in.ensures p (if_found (λ r. owner_literals vs (owner_in r) ≡ somes (place_fails p)) c.in_ok-rule.rule _ c.found.ensures c.in_ok-rule.ensures.owner))
