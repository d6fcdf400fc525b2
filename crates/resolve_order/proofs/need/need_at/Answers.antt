use Rattle.std.proofs.Common.{◌∙◌, Option, Some, sym, ap, subst}
use Rattle.resolvo_text.specs.Line.{Line}
use Rattle.resolvo_catalogue_core.specs.Grammar.{line_at}
use Rattle.resolvo_catalogue_core.specs.Listed.{listed}
use Rattle.resolve_order.specs.Need.{IsNeedAt}
use Rattle.resolve_order.proofs.NeedLemmas.{no_need_of}
use Rattle.resolve_order.proofs.need.need_at.Goals as goal

pub returns-in-Some-clause-need : goal.returns-in-Some-clause-need
returns-in-Some-clause-need c =
    let found = c.in-Some.ensures.of_line in
    subst (λ (line : Option Line). IsNeedAt line c.kept_need.result) (ap Some found.2.is ∙ sym found.1) (c.kept_need.ensures.need (listed c.args.kept.lines))

pub returns-in-None-clause-need : goal.returns-in-None-clause-need
returns-in-None-clause-need c = no_need_of (line_at c.args.kept.lines c.args.line) c.in-None.ensures.none
