use Rattle.std.proofs.Common.{◌∙◌, sym, ap}
use Rattle.resolvo_text.specs.Matches.{condition_holds}
use Rattle.resolve_order.specs.Need.{condition_in}
use Rattle.resolve_order.proofs.chosen.Chosen.may_give.Goals as goal

pub returns-in-Text : goal.returns-in-Text
returns-in-Text c = λ chosen entries h. c.condition_holds.ensures chosen entries h ∙ ap (λ n. condition_holds (condition_in n) entries) (sym c.in-Text.is)

pub returns-in-Numbered : goal.returns-in-Numbered
returns-in-Numbered c = λ chosen entries h. c.kept_condition_holds.ensures chosen entries h ∙ ap (λ n. condition_holds (condition_in n) entries) (sym c.in-Numbered.is)
