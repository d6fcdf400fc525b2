use Rattle.std.proofs.Common.{◌∙◌, Option, sym, ap}
use Rattle.std.specs.Option.{option_map}
use Rattle.resolvo_text.specs.Matches.{condition_holds}
use Rattle.resolvo_pool_core.specs.declared.id.ConditionId.{ConditionId}
use Rattle.resolvo_terms.specs.Known.{cond_at}
use Rattle.resolve_order.proofs.chosen.Chosen.kept_condition_holds.Goals as goal

pub returns-in-Some : goal.returns-in-Some
returns-in-Some c = λ chosen entries h. c.kept_holds.ensures chosen entries h ∙ ap (λ (o : Option ConditionId). condition_holds (option_map (cond_at c.args.kept.now.terms) o) entries) (sym c.in-Some.is)
