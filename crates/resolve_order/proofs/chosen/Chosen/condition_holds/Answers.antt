use Rattle.std.proofs.Common.{◌∙◌, sym, ap}
use Rattle.resolvo_text.specs.Matches.{condition_holds, holds}
use Rattle.resolvo_text.specs.View.{cond_of, condition_of}
use Rattle.resolvo_text.specs.declared.condition.Cond.{Cond}
use Rattle.resolve_order.proofs.chosen.Chosen.condition_holds.Goals as goal

pub returns-in-Some : goal.returns-in-Some
returns-in-Some c = λ chosen entries h.
    c.holds.ensures chosen entries h ∙ (ap (λ (x : Cond). holds (cond_of x) entries) c.deref.ensures ∙ ap (λ x. condition_holds (condition_of x) entries) (sym c.in-Some.is))
