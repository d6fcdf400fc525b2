use Rattle.std.proofs.Common.{◌≡◌, ap, sym, subst, ◌∙◌, Option, IfOk}
use Rattle.std.specs.Option.{option_map}
use Rattle.resolvo_text.specs.View.{version_of}
use Rattle.resolvo_catalogue_core.specs.Grammar.{line_at}
use Rattle.resolvo_catalogue_core.specs.Listed.{listed}
use Rattle.resolvo_checker.specs.StepClauses.{Clause, lock_clause}
use Rattle.resolvo_checker.specs.Built.{seen, somes}
use Rattle.resolvo_checker.proofs.StepLines.{lock_rule}
use Rattle.resolvo_checker.proofs.steps.lock_at.Goals as goal

pub returns : goal.returns
returns c =
    let vs = listed c.args.catalogue.now in
    let f = c.rule_of.ensures.from_line in
    subst (λ (x : Option Clause). IfOk c.lock_in.result (λ o. seen vs o ≡ option_map somes x))
    (ap (lock_clause c.args.catalogue.now (version_of c.args.version.now)) (sym f.1) ∙ lock_rule c.args.catalogue.now (version_of c.args.version.now) (line_at c.args.catalogue.now c.args.line))
    (c.lock_in.ensures f.0)
