use Rattle.std.proofs.Common.{◌≡◌, ◌+◌, ℕ, suc, subst, arith}
use Rattle.resolvo_terms.specs.Found.{AreTextsFound}
use Rattle.resolvo_terms.proofs.IndexLemmas.{texts_all, texts_next}
use Rattle.resolvo_terms.proofs.text_ids.TextIndex.of.Goals as goal

pub loop-number-init : goal.loop-number-init
loop-number-init c = c.in_ok-index.ensures c.args.texts.now

pub loop-number-preserved : goal.loop-number-preserved
loop-number-preserved c =
    subst (λ (n : ℕ). AreTextsFound c.args.texts.now c.put.new.self.slots.numbers.items c.put.new.self.others.entries n) (let next : suc c.loop-number.number ≡ c.loop-number.number + 1 = omega arith in next)
    (texts_next c.loop-number.index.slots.numbers.items c.put.new.self.slots.numbers.items c.loop-number.index.others.entries c.put.new.self.others.entries c.at-text.result.now c.args.texts.now c.loop-number.number c.requires.once c.loop-number.invariant c.at-text.ensures.text c.in_ok-put.ensures.put)

pub returns : goal.returns
returns c = texts_all c.loop-number.index.slots.numbers.items c.loop-number.index.others.entries c.args.texts.now c.loop-number.number c.loop-number.invariant (λ less. omega (arith, less, c.loop-number-test.false))
