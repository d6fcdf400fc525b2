use Rattle.std.proofs.Common.{◌≡◌, ◌&&◌, Bool, IfOk, sym, subst, ◌∙◌, ap}
use Rattle.resolvo_text.specs.Matches.{condition_holds}
use Rattle.resolvo_terms.specs.Known.{need_at}
use Rattle.resolvo_judge.proofs.kept_reasons.need_gives.Goals as goal

pub returns-then-not-meets : goal.returns-then-not-meets
returns-then-not-meets c = λ set h. ap (λ (b : Bool). b && condition_holds (need_at c.args.terms.now c.args.need).1 set) (sym c.if-not-meets.true ∙ c.meets.ensures)

pub returns : goal.returns
returns c = λ set h.
    subst (λ (b : Bool). IfOk c.condition_holds.result (λ gives. gives ≡ b))
    (ap (λ (b : Bool). b && condition_holds (need_at c.args.terms.now c.args.need).1 set) (sym c.if-not-meets.false ∙ c.meets.ensures))
    (c.condition_holds.ensures set h)
