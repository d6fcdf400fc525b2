use Rattle.std.proofs.Common.{◌≡◌, ◌∙◌, ℕ, Option, Some, None, refl, sym, ap, subst, arith}
use Rattle.std.specs.Str.{bytes_eq}
use Rattle.resolvo_terms.specs.Found.{place_from, list_number_in, text_hash, number_of_slot, or_later}
use Rattle.resolvo_terms.proofs.IndexLemmas.{number_first, number_here, number_free, number_last}
use Rattle.resolvo_terms.proofs.text_ids.TextIndex.number.Goals as goal

pub loop-tried-init : goal.loop-tried-init
loop-tried-init c =
    let place : c.first_place-first.result ≡ place_from (text_hash c.args.text.now) = c.first_place-first.ensures.place ∙ ap place_from c.requires in
    number_first bytes_eq c.args.texts.now c.args.self.now.slots.numbers.items (list_number_in c.args.self.now.others.entries c.args.text.now) c.args.text.now c.first_place-first.result (text_hash c.args.text.now) place

pub returns-then-is_free_slot : goal.returns-then-is_free_slot
returns-then-is_free_slot c =
    number_free bytes_eq c.args.texts.now c.args.self.now.slots.numbers.items (list_number_in c.args.self.now.others.entries c.args.text.now) c.args.text.now c.loop-tried.tried c.first_place-first.result _
    c.loop-tried-test.true c.loop-tried.invariant (sym c.slot-slot.ensures ∙ c.if-is_free_slot.ensures.free refl)

pub returns-in-Some : goal.returns-in-Some
returns-in-Some c =
    number_here bytes_eq c.args.texts.now c.args.self.now.slots.numbers.items (list_number_in c.args.self.now.others.entries c.args.text.now) c.args.text.now c.loop-tried.tried c.first_place-first.result _
    c.loop-tried-test.true c.loop-tried.invariant (Some c.in-Some.number) (λ later. subst (λ (s : Option ℕ). number_of_slot bytes_eq c.args.texts.now s later c.args.text.now ≡ or_later (Some c.in-Some.number) later) c.slot-slot.ensures (c.in-Some.ensures later))

pub loop-tried-preserved : goal.loop-tried-preserved
loop-tried-preserved c =
    number_here bytes_eq c.args.texts.now c.args.self.now.slots.numbers.items (list_number_in c.args.self.now.others.entries c.args.text.now) c.args.text.now c.loop-tried.tried c.first_place-first.result _
    c.loop-tried-test.true c.loop-tried.invariant None (λ later. subst (λ (s : Option ℕ). number_of_slot bytes_eq c.args.texts.now s later c.args.text.now ≡ or_later None later) c.slot-slot.ensures (c.in_default.ensures later))

pub returns : goal.returns
returns c =
    c.other.ensures
    ∙ number_last bytes_eq c.args.texts.now c.args.self.now.slots.numbers.items (list_number_in c.args.self.now.others.entries c.args.text.now) c.args.text.now c.loop-tried.tried c.first_place-first.result _
    (λ less. omega (arith, less, c.loop-tried-test.false)) c.loop-tried.invariant
