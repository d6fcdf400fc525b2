use Rattle.std.proofs.Common.{◌<◌, None, length, subst, arith}
use Rattle.std.proofs.lemmas.List.{take_all}
use Rattle.resolve_order.specs.Kept.{IsFirstMatch, IsUnlistedMatch}
use Rattle.resolve_order.specs.Need.{alternatives_in}
use Rattle.resolve_order.proofs.Elements.{no_element}
use Rattle.resolve_order.proofs.PickLemmas.{none_of_first, found_first}
use Rattle.resolve_order.proofs.chosen.Chosen.first_match.Goals as goal

pub loop-place-init : goal.loop-place-init
loop-place-init c = λ chosen entries h t w among m in_chosen. absurd (no_element t among)

pub loop-place-preserved : goal.loop-place-preserved
loop-place-preserved c = λ chosen entries h.
    let lines = c.args.catalogue.now in
    let within : c.loop-place.place < length (alternatives_in c.args.need.now) = omega (arith, c.loop-place-test.true, c.len-place-end.ensures) in
    none_of_first lines chosen entries (alternatives_in c.args.need.now) c.loop-place.place within (c.loop-place.invariant chosen entries h)
    (λ s at. subst (IsUnlistedMatch lines chosen entries s) c.in_default.is (c.match_at.ensures.matched chosen entries s at h))

pub returns-in-Some-clause-matched : goal.returns-in-Some-clause-matched
returns-in-Some-clause-matched c = λ chosen entries h.
    let lines = c.args.catalogue.now in
    let within : c.loop-place.place < length (alternatives_in c.args.need.now) = omega (arith, c.loop-place-test.true, c.len-place-end.ensures) in
    found_first lines chosen entries (alternatives_in c.args.need.now) c.loop-place.place c.in-Some.version within (c.loop-place.invariant chosen entries h)
    (λ s at. subst (IsUnlistedMatch lines chosen entries s) c.in-Some.is (c.match_at.ensures.matched chosen entries s at h))

pub returns-clause-matched : goal.returns-clause-matched
returns-clause-matched c = λ chosen entries h.
    subst (λ specs. IsFirstMatch c.args.catalogue.now chosen entries specs None) (take_all c.loop-place.place (alternatives_in c.args.need.now) (omega (arith, c.loop-place-test.false, c.len-place-end.ensures))) (c.loop-place.invariant chosen entries h)
