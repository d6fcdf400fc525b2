use Rattle.std.proofs.Common.{◌≡◌, ◌∙◌, Some, None, map, refl, ap, arith}
use Rattle.resolvo_terms.specs.Found.{key_eq, key_hash, number_in, place_from}
use Rattle.resolvo_terms.proofs.IndexLemmas.{number_first, number_here, number_free, number_last}
use Rattle.resolvo_terms.proofs.key_index.KeyIndex.find.Goals as goal

pub loop-tried-init : goal.loop-tried-init
loop-tried-init g c =
    let place : c.first_place-first.result ≡ place_from (key_hash c.args.key.now) = c.first_place-first.ensures.place ∙ ap place_from c.hash_of_key.ensures in
    number_first key_eq (map g.T.HasKey.key_of c.args.values.now) c.args.self.now.slots.numbers.items (number_in c.args.self.now.others.entries c.args.key.now) c.args.key.now c.first_place-first.result (key_hash c.args.key.now) place

pub returns-then-is_free : goal.returns-then-is_free
returns-then-is_free g c =
    number_free key_eq (map g.T.HasKey.key_of c.args.values.now) c.args.self.now.slots.numbers.items (number_in c.args.self.now.others.entries c.args.key.now) c.args.key.now c.loop-tried.tried c.first_place-first.result _
    c.loop-tried-test.true c.loop-tried.invariant (c.if-is_free.ensures.free refl)

pub returns-in-Some : goal.returns-in-Some
returns-in-Some g c =
    number_here key_eq (map g.T.HasKey.key_of c.args.values.now) c.args.self.now.slots.numbers.items (number_in c.args.self.now.others.entries c.args.key.now) c.args.key.now c.loop-tried.tried c.first_place-first.result _
    c.loop-tried-test.true c.loop-tried.invariant (Some c.in-Some.at) (λ later. c.in-Some.ensures later)

pub loop-tried-preserved : goal.loop-tried-preserved
loop-tried-preserved g c =
    number_here key_eq (map g.T.HasKey.key_of c.args.values.now) c.args.self.now.slots.numbers.items (number_in c.args.self.now.others.entries c.args.key.now) c.args.key.now c.loop-tried.tried c.first_place-first.result _
    c.loop-tried-test.true c.loop-tried.invariant None (λ later. c.in_default.ensures later)

pub returns : goal.returns
returns g c =
    c.copied.ensures ∙ c.get.ensures.value
    ∙ number_last key_eq (map g.T.HasKey.key_of c.args.values.now) c.args.self.now.slots.numbers.items (number_in c.args.self.now.others.entries c.args.key.now) c.args.key.now c.loop-tried.tried c.first_place-first.result _
    (λ less. omega (arith, less, c.loop-tried-test.false)) c.loop-tried.invariant
