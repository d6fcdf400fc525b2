use Rattle.std.proofs.Common.{◌≡◌, false, Option, Some, IfNone, subst}
use Rattle.resolvo_text.specs.Line.{Line}
use Rattle.resolvo_catalogue_core.specs.Grammar.{line_at}
use Rattle.resolvo_catalogue_core.specs.Questions.{is_rule}
use Rattle.resolvo_catalogue_core.specs.declared.rule.Rule.{Rule}
use Rattle.resolvo_checker.proofs.RuleLineLemmas.{none_owned_by}
use Rattle.resolvo_checker.proofs.line_rule.rule_owned.Goals as goal

pub returns-in-None-clause-from_line : goal.returns-in-None-clause-from_line
returns-in-None-clause-from_line c = λ request. none_owned_by _ _
    (subst (λ (o : Option Rule). IfNone o ((l : Line) → line_at c.args.catalogue.now c.args.line ≡ Some l → is_rule l ≡ false)) c.in-None.is c.in_ok-rule.ensures.none)
