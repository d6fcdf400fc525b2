use Rattle.std.proofs.Common.{◌≡◌, ap, sym, subst, ◌∙◌, Option, IfOk}
use Rattle.std.specs.Option.{option_map}
use Rattle.resolvo_text.specs.View.{version_of}
use Rattle.resolvo_catalogue_core.specs.Listed.{listed}
use Rattle.resolvo_report.specs.Value.{OfVersion}
use Rattle.resolvo_checker.specs.StepClauses.{Clause, line_of, gate_clause}
use Rattle.resolvo_checker.specs.Built.{seen, somes}
use Rattle.resolvo_checker.specs.RuleLines.{owner_in, owner_literals}
use Rattle.resolvo_checker.specs.StepClauses.{place_fails}
use Rattle.resolvo_checker.proofs.StepLines.{if_lent, line_lent, gate_owned}
use Rattle.resolvo_checker.proofs.steps.gate_at.Goals as goal

pub returns : goal.returns
returns c = λ request.
    let vs = listed c.args.catalogue.now in
    let v = version_of c.args.version.now in
    subst (λ (x : Option Clause). IfOk c.gate_in.result (λ o. seen vs o ≡ option_map somes x))
    (ap (gate_clause v) (line_lent vs _ _ _ c.as_ref.ensures.value (c.in_ok-rule.ensures.from_line request)) ∙ gate_owned v (line_of c.args.catalogue.now request (OfVersion v) c.args.line))
    (c.gate_in.ensures v (if_lent (λ r. owner_literals vs (owner_in r) ≡ somes (place_fails (OfVersion v))) _ _ c.as_ref.ensures.value c.in_ok-rule.ensures.owner))
