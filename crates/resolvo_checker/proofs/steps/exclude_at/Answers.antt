use Rattle.std.proofs.Common.{◌≡◌, ap, sym, subst, ◌∙◌, Option, IfOk}
use Rattle.std.specs.Option.{option_map}
use Rattle.resolvo_catalogue_core.specs.Grammar.{line_at, owner_of}
use Rattle.resolvo_catalogue_core.specs.Listed.{listed}
use Rattle.resolvo_checker.specs.StepClauses.{Clause, exclude_clause}
use Rattle.resolvo_checker.specs.Built.{seen, somes}
use Rattle.resolvo_checker.proofs.StepLines.{exclude_rule}
use Rattle.resolvo_checker.proofs.steps.exclude_at.Goals as goal

pub returns : goal.returns
returns c =
    let vs = listed c.args.catalogue.now in
    let f = c.rule_of.ensures.from_line in
    subst (λ (x : Option Clause). IfOk c.exclude_in.result (λ o. seen vs o ≡ option_map somes x))
    (ap (exclude_clause) (sym f.1) ∙ exclude_rule (line_at c.args.catalogue.now c.args.line))
    (c.exclude_in.ensures f.0 (owner_of c.args.catalogue.now c.args.line) c.rule_of.ensures.valid)
