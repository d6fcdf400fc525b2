use Rattle.std.proofs.Common.{[], ◌∷◌, ◌+◌, drop, sym, ap, ◌∙◌, get_or, Bor, List, ℕ}
use Rattle.std.specs.Ordering.{is_lt}
use Rattle.std.proofs.lemmas.List.{drop_more}
use Rattle.resolvo_literal_order.specs.Order.{are_rising}
use Rattle.resolvo_literal_order.specs.Order.{texts_of}
use Rattle.resolvo_literal_order.proofs.OrderLemmas.{rising_on, rising_stops}
use Rattle.resolvo_literal_order.proofs.are_rising.Goals as goal

pub returns-then-not-is_lt : goal.returns-then-not-is_lt
returns-then-not-is_lt c =
    let others = c.in-Some.others.now in
    let d : Bor (List ℕ) = record { ref_ptr = (0, 0); now = [] } in
    let next = drop_more others c.loop-text.text-index d c.loop-text-test.true in
    rising_stops c.loop-text.before.now (get_or others c.loop-text.text-index d).now (texts_of (drop (c.loop-text.text-index + 1) others)) _ (ap (λ ts. are_rising (c.loop-text.before.now ∷ texts_of ts)) (sym next) ∙ c.loop-text.invariant) (ap is_lt (sym c.cmp.ensures) ∙ sym c.is_lt.ensures ∙ c.if-not-is_lt.true)

pub loop-text-preserved : goal.loop-text-preserved
loop-text-preserved c =
    let others = c.in-Some.others.now in
    let d : Bor (List ℕ) = record { ref_ptr = (0, 0); now = [] } in
    let next = drop_more others c.loop-text.text-index d c.loop-text-test.true in
    rising_on c.loop-text.before.now (get_or others c.loop-text.text-index d).now (texts_of (drop (c.loop-text.text-index + 1) others)) _ (ap (λ ts. are_rising (c.loop-text.before.now ∷ texts_of ts)) (sym next) ∙ c.loop-text.invariant) (ap is_lt (sym c.cmp.ensures) ∙ sym c.is_lt.ensures ∙ c.if-not-is_lt.false)
