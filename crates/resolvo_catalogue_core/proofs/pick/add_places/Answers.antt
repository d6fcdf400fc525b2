use Rattle.std.proofs.Common.{ℕ, subst, arith}
use Rattle.resolvo_catalogue_core.specs.Picked.{IsPlaced, AddsEach}
use Rattle.resolvo_catalogue_core.proofs.PickedLemmas.{place_more, no_place}
use Rattle.resolvo_catalogue_core.proofs.pick.add_places.Goals as goal

pub loop-place-init : goal.loop-place-init
loop-place-init c = (omega arith, c.requires.order, no_place c.args.versions.now c.args.first c.args.out.now)

pub loop-place-preserved : goal.loop-place-preserved
loop-place-preserved c =
    let so_far = c.loop-place.invariant in (
      omega (arith, so_far.0),
      omega (arith, c.loop-place-test.true),
      place_more c.args.versions.now c.args.first c.loop-place.place _ c.args.out.now c.loop-place.out c.insert.new.self so_far.0 (omega (arith, c.loop-place-test.true, c.requires.within)) so_far.2 c.in_ok-insert.ensures.updates.0,
    )

pub returns : goal.returns
returns c =
    let so_far = c.loop-place.invariant in
    subst (λ (i : ℕ). AddsEach c.args.out.now (IsPlaced c.args.versions.now c.args.first i) c.loop-place.out) (omega (arith, so_far.1, c.loop-place-test.false)) so_far.2
