use Rattle.std.proofs.Common.{◌≡◌, sym, subst, IfOk}
use Rattle.std.specs.Option.{option_map}
use Rattle.resolvo_catalogue_core.specs.Listed.{listed}
use Rattle.resolvo_report.specs.View.{step_of}
use Rattle.resolvo_report.specs.declared.step.Step.{Step}
use Rattle.resolvo_checker.specs.Built.{seen, somes, rule_clause_of}
use Rattle.resolvo_checker.proofs.steps.clause_of.Goals as goal

pub returns-in-Gate : goal.returns-in-Gate
returns-in-Gate c =
    subst (λ (s : Step). IfOk c.gate_at.result (λ o. seen (listed c.args.catalogue.now) o ≡ option_map somes (rule_clause_of c.args.catalogue.now c.args.request.now.lines (step_of s))))
    (sym c.in-Gate.is) (c.gate_at.ensures c.args.request.now.lines)
