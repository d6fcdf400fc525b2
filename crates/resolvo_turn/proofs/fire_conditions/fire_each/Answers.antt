use Rattle.std.proofs.Common.{◌≡◌, inl, inr, true, false, refl, ◌∙◌, subst, rules}
use Rattle.std.proofs.lemmas.Bool.{both_ways}
use Rattle.resolvo_turn.specs.Encoder.{StaysInOrder}
use Rattle.resolvo_turn.proofs.AddLemmas.{needs_none, needs_then}
use Rattle.resolvo_turn.proofs.PassLemmas.{IsFired, fires_on, stays_on}
use Rattle.resolvo_turn.specs.LacksIds.{StopsInOrder}
use Rattle.resolvo_turn.proofs.fire_conditions.fire_each.Goals as goal
use Rattle.resolvo_turn.proofs.fire_conditions.fire_each.Goals.{then-branch, else-branch}

pub loop-place-init : goal.loop-place-init
loop-place-init g c = record { same = refl; stays = λ root e. e; kept = needs_none c.args.encoding.now; fires = λ h. absurd (both_ways _ refl h); unchanged = λ h. refl; built = c.requires }

pub loop-place-preserved : goal.loop-place-preserved
loop-place-preserved g c =
    let same = g.A.SolvableId.PartialEq.eq in
    let before = c.loop-place.invariant in
    let start = c.args.encoding.now in
    let old = c.loop-place.encoding in
    let new = c.fire_if_due.new.encoding in
    let fired : IsFired c.loop-place.has_fired c.in_ok-fire_if_due.field-0 c.if-branch.has_fired = elim c.if-branch.branch [ then-branch w ↦ inl (w.if-branch.true, w.has_fired-is) | else-branch w ↦ inr (w.if-branch.false, w.has_fired-is) ] in
    let stays = subst (λ (a : g.row.A.Denot). StaysInOrder same g.A.PackageSource a old new) before.same c.in_ok-fire_if_due.ensures.stays in
    let same_if : c.in_ok-fire_if_due.field-0 ≡ false → new ≡ old = λ h. (c.in_ok-fire_if_due.ensures.spent h).0 in
    record {
      same = c.in_ok-fire_if_due.ensures.same ∙ before.same;
      stays = λ root e. stays root (before.stays root e);
      kept = needs_then start old new before.kept c.in_ok-fire_if_due.ensures.kept;
      fires = fires_on start old new c.loop-place.has_fired c.in_ok-fire_if_due.field-0 c.if-branch.has_fired before.kept before.fires c.in_ok-fire_if_due.ensures.fires same_if fired;
      unchanged = stays_on start old new c.loop-place.has_fired c.in_ok-fire_if_due.field-0 c.if-branch.has_fired before.unchanged same_if fired;
      built = c.in_ok-fire_if_due.ensures.built;
    }

pub returns-in_err-fire_if_due-clause-ids : goal.returns-in_err-fire_if_due-clause-ids
returns-in_err-fire_if_due-clause-ids g c = λ is root e.
    let stops = subst (λ (a : g.row.A.Denot). StopsInOrder g.A.SolvableId.PartialEq.eq g.A.PackageSource a c.loop-place.encoding c.fire_if_due.new.encoding) c.loop-place.invariant.same (search (rules, is)) in
    stops root (c.loop-place.invariant.stays root e)
