use Rattle.std.proofs.Common.{◌≡◌, ◌∙◌, Some, None, refl, ap, arith}
use Rattle.resolvo_terms.specs.Found.{place_from, list_number_in}
use Rattle.resolvo_terms.specs.Lists.{list_eq, list_hash, map_number}
use Rattle.resolvo_terms.proofs.IndexLemmas.{number_first, number_here, number_free, number_last}
use Rattle.resolvo_terms.proofs.unions.ListIndex.number.Goals as goal

pub loop-tried-init : goal.loop-tried-init
loop-tried-init c =
    let place : c.first_place-first.result ≡ place_from (list_hash c.args.list.now) = c.first_place-first.ensures.place ∙ ap place_from c.requires in
    number_first list_eq c.args.lists.now c.args.self.now.slots.numbers.items (map_number c.args.self.now.others.entries c.args.list.now) c.args.list.now c.first_place-first.result (list_hash c.args.list.now) place

pub returns-then-is_free : goal.returns-then-is_free
returns-then-is_free c =
    number_free list_eq c.args.lists.now c.args.self.now.slots.numbers.items (map_number c.args.self.now.others.entries c.args.list.now) c.args.list.now c.loop-tried.tried c.first_place-first.result _
    c.loop-tried-test.true c.loop-tried.invariant (c.if-is_free.ensures.free refl)

pub returns-in-Some : goal.returns-in-Some
returns-in-Some c =
    number_here list_eq c.args.lists.now c.args.self.now.slots.numbers.items (map_number c.args.self.now.others.entries c.args.list.now) c.args.list.now c.loop-tried.tried c.first_place-first.result _
    c.loop-tried-test.true c.loop-tried.invariant (Some c.in-Some.number) (λ later. c.in-Some.ensures later)

pub loop-tried-preserved : goal.loop-tried-preserved
loop-tried-preserved c =
    number_here list_eq c.args.lists.now c.args.self.now.slots.numbers.items (map_number c.args.self.now.others.entries c.args.list.now) c.args.list.now c.loop-tried.tried c.first_place-first.result _
    c.loop-tried-test.true c.loop-tried.invariant None (λ later. c.in_default.ensures later)

pub returns : goal.returns
returns c =
    c.copied.ensures ∙ c.get.ensures.value ∙ ap (λ k. list_number_in c.args.self.now.others.entries k) (c.as_slice.ensures.value ∙ c.in_ok-key.ensures)
    ∙ number_last list_eq c.args.lists.now c.args.self.now.slots.numbers.items (map_number c.args.self.now.others.entries c.args.list.now) c.args.list.now c.loop-tried.tried c.first_place-first.result _
    (λ less. omega (arith, less, c.loop-tried-test.false)) c.loop-tried.invariant
