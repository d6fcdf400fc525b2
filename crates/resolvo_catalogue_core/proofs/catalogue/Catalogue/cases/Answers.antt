use Rattle.std.proofs.Common.{◌≡◌, false, Option, Some, ◌∙◌, ap, subst}
use Rattle.std.specs.Prelude.{IfNone}
use Rattle.resolvo_text.specs.Line.{Line}
use Rattle.resolvo_text.specs.View.{cases_of}
use Rattle.resolvo_catalogue_core.specs.Grammar.{line_at}
use Rattle.resolvo_catalogue_core.specs.Questions.{is_rule}
use Rattle.resolvo_catalogue_core.specs.declared.rule.Rule.{Rule}
use Rattle.resolvo_catalogue_core.proofs.CatalogueFacts.{no_cases}
use Rattle.resolvo_catalogue_core.proofs.catalogue.Catalogue.cases.Goals as goal

pub returns-in-None : goal.returns-in-None
returns-in-None c =
    let lines = c.args.self.now in
    let n = c.args.line in
    ap cases_of c.new.ensures.items ∙ no_cases lines n (subst (λ (o : Option Rule). IfNone o ((l : Line) → line_at lines n ≡ Some l → is_rule l ≡ false)) c.in-None.is c.in_ok-rule.ensures.none)
