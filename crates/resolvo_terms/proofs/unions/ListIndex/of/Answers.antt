use Rattle.std.proofs.Common.{◌≡◌, ◌+◌, ℕ, suc, subst, arith}
use Rattle.resolvo_terms.specs.Lists.{AreListsFound}
use Rattle.resolvo_terms.proofs.ListLemmas.{lists_all, lists_next}
use Rattle.resolvo_terms.proofs.unions.ListIndex.of.Goals as goal

pub loop-number-init : goal.loop-number-init
loop-number-init c = c.in_ok-index.ensures c.args.lists.now

pub loop-number-preserved : goal.loop-number-preserved
loop-number-preserved c =
    subst (λ (n : ℕ). AreListsFound c.args.lists.now c.put.new.self.slots.numbers.items c.put.new.self.others.entries n) (let next : suc c.loop-number.number ≡ c.loop-number.number + 1 = omega arith in next)
    (lists_next c.loop-number.index.slots.numbers.items c.put.new.self.slots.numbers.items c.loop-number.index.others.entries c.put.new.self.others.entries c.at-list.result.now c.args.lists.now c.loop-number.number c.requires.once c.loop-number.invariant c.at-list.ensures c.in_ok-put.ensures.put)

pub returns : goal.returns
returns c = lists_all c.loop-number.index.slots.numbers.items c.loop-number.index.others.entries c.args.lists.now c.loop-number.number c.loop-number.invariant (λ less. omega (arith, less, c.loop-number-test.false))
