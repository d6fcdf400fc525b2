use Rattle.std.proofs.Common.{◌≡◌, ◌∙◌, Bool, true, false, ◌&&◌, ◌||◌, sym, ap}
use Rattle.resolvo_text.specs.Matches.{holds}
use Rattle.resolvo_text.specs.View.{spec_of, cond_of}
use Rattle.resolve_order.proofs.chosen.Chosen.+holds.Goals as goal

both : (a b x y : Bool) → x ≡ a → y ≡ b → x ≡ true → y ≡ a && b
both a b x y e f t = f ∙ ap (λ (z : Bool). z && b) (sym t ∙ e)

first_fails : (a b x : Bool) → x ≡ a → x ≡ false → x ≡ a && b
first_fails a b x e t = t ∙ ap (λ (z : Bool). z && b) (sym t ∙ e)

first_does : (a b x : Bool) → x ≡ a → x ≡ true → x ≡ a || b
first_does a b x e t = t ∙ ap (λ (z : Bool). z || b) (sym t ∙ e)

other : (a b x y : Bool) → x ≡ a → y ≡ b → x ≡ false → y ≡ a || b
other a b x y e f t = f ∙ ap (λ (z : Bool). z || b) (sym t ∙ e)

pub returns-in-Spec : goal.returns-in-Spec
returns-in-Spec t c = λ chosen entries h. c.is_met.ensures c.args.catalogue.now chosen entries (spec_of c.in-Spec.spec) c.span_of.ensures h ∙ ap (λ x. holds (cond_of x) entries) (sym c.in-Spec.is)

pub returns-then-holds : goal.returns-then-holds
returns-then-holds t c = λ chosen entries h.
    both _ _ _ _ (c.holds.ensures chosen entries h ∙ ap (λ x. holds (cond_of x) entries) c.deref.ensures) (c.holds-then-holds.ensures chosen entries h ∙ ap (λ x. holds (cond_of x) entries) c.deref-then-holds.ensures) c.if-holds.true
    ∙ ap (λ x. holds (cond_of x) entries) (sym c.in-And.is)

pub returns-else-holds : goal.returns-else-holds
returns-else-holds t c = λ chosen entries h.
    first_fails _ (holds (cond_of c.in-And.right.value) entries) _ (c.holds.ensures chosen entries h ∙ ap (λ x. holds (cond_of x) entries) c.deref.ensures) c.if-holds.false
    ∙ ap (λ x. holds (cond_of x) entries) (sym c.in-And.is)

pub returns-then-holds-2 : goal.returns-then-holds-2
returns-then-holds-2 t c = λ chosen entries h.
    first_does _ (holds (cond_of c.in-Or.right.value) entries) _ (c.holds-in-Or.ensures chosen entries h ∙ ap (λ x. holds (cond_of x) entries) c.deref-in-Or.ensures) c.if-holds-2.true
    ∙ ap (λ x. holds (cond_of x) entries) (sym c.in-Or.is)

pub returns-else-holds-2 : goal.returns-else-holds-2
returns-else-holds-2 t c = λ chosen entries h.
    other _ _ _ _ (c.holds-in-Or.ensures chosen entries h ∙ ap (λ x. holds (cond_of x) entries) c.deref-in-Or.ensures) (c.holds-else-holds-2.ensures chosen entries h ∙ ap (λ x. holds (cond_of x) entries) c.deref-else-holds-2.ensures) c.if-holds-2.false
    ∙ ap (λ x. holds (cond_of x) entries) (sym c.in-Or.is)
