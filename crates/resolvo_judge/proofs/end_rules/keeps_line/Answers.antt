use Rattle.std.proofs.Common.{◌≡◌, false, Option, Some, IfNone, subst}
use Rattle.resolvo_text.specs.Line.{Line}
use Rattle.resolvo_catalogue_core.specs.Grammar.{line_at}
use Rattle.resolvo_catalogue_core.specs.Questions.{is_rule}
use Rattle.resolvo_catalogue_core.specs.declared.rule.Rule.{Rule}
use Rattle.resolvo_catalogue_core.proofs.CatalogueFacts.{keeps_no_rule}
use Rattle.resolvo_judge.proofs.end_rules.keeps_line.Goals as goal

pub returns-in-None : goal.returns-in-None
returns-in-None c = λ set h. keeps_no_rule c.args.catalogue.now c.args.line set
    (subst (λ (o : Option Rule). IfNone o ((l : Line) → line_at c.args.catalogue.now c.args.line ≡ Some l → is_rule l ≡ false)) c.in-None.is c.in_ok-rule.ensures.none)
