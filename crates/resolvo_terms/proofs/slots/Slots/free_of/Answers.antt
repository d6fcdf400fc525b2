use Rattle.std.proofs.Common.{◌≡◌, ◌∙◌, ◌+◌, ℕ, Some, length, refl, ap, arith}
use Rattle.std.specs.Prelude.{slice_get}
use Rattle.resolvo_terms.specs.Found.{place_among}
use Rattle.resolvo_terms.proofs.IndexLemmas.{free_first, free_found, free_later, free_none}
use Rattle.resolvo_terms.proofs.slots.Slots.free_of.Goals as goal

pub loop-tried-init : goal.loop-tried-init
loop-tried-init c = free_first c.args.self.now.numbers.items c.first_place-first.result c.args.hash c.first_place-first.ensures.place

pub returns-then-is_free-clause-first : goal.returns-then-is_free-clause-first
returns-then-is_free-clause-first c =
    let count : c.len.result ≡ length c.args.self.now.numbers.items = omega (arith, c.args.self.now.numbers.ok, c.len.ensures) in
    let place : c.place_among.result ≡ place_among (length c.args.self.now.numbers.items) (c.first_place-first.result + c.loop-tried.tried) = c.place_among.ensures ∙ ap (λ (n : ℕ). place_among n (c.first_place-first.result + c.loop-tried.tried)) count in
    ap (λ (n : ℕ). Some n) place ∙ free_found c.args.self.now.numbers.items c.loop-tried.tried c.first_place-first.result c.args.hash c.loop-tried-test.true c.loop-tried.invariant (c.if-is_free.ensures.free refl)

pub returns-then-is_free-clause-free : goal.returns-then-is_free-clause-free
returns-then-is_free-clause-free c =
    let count : c.len.result ≡ length c.args.self.now.numbers.items = omega (arith, c.args.self.now.numbers.ok, c.len.ensures) in
    let place : c.place_among.result ≡ place_among (length c.args.self.now.numbers.items) (c.first_place-first.result + c.loop-tried.tried) = c.place_among.ensures ∙ ap (λ (n : ℕ). place_among n (c.first_place-first.result + c.loop-tried.tried)) count in
    ap (λ (n : ℕ). slice_get c.args.self.now.numbers.items n) place ∙ c.if-is_free.ensures.free refl

pub loop-tried-preserved : goal.loop-tried-preserved
loop-tried-preserved c = free_later c.args.self.now.numbers.items c.loop-tried.tried c.first_place-first.result c.args.hash c.loop-tried-test.true c.loop-tried.invariant (c.if-is_free.ensures.taken refl)

pub returns-clause-first : goal.returns-clause-first
returns-clause-first c = free_none c.args.self.now.numbers.items c.loop-tried.tried c.first_place-first.result c.args.hash (λ less. omega (arith, less, c.loop-tried-test.false)) c.loop-tried.invariant
