use Rattle.std.proofs.Common.{◌≡◌, true, List, sym, subst}
use Rattle.resolvo_text.specs.Line.{Line}
use Rattle.resolvo_catalogue_core.specs.Rules.{keeps}
use Rattle.resolvo_catalogue_core.proofs.CatalogueFacts.{keeps_no_rule}
use Rattle.resolvo_judge.proofs.end_rules.is_idle.Goals as goal

pub returns-in-None : goal.returns-in-None
returns-in-None c = λ set h _. subst (λ (lines : List Line). keeps lines c.args.line set ≡ true) c.kept.ensures (sym (keeps_no_rule c.kept.result.lines c.args.line set c.in-None.ensures.none))
