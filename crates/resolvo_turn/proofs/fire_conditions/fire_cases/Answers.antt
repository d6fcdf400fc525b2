use Rattle.std.proofs.Common.{◌≡◌, inl, inr, length, refl, ◌∙◌, ap, subst, arith, rules}
use Rattle.resolvo_encoder.specs.declared.encoder.Encoder.{Encoder}
use Rattle.resolvo_turn.specs.Encoder.{StaysInOrder}
use Rattle.resolvo_turn.proofs.AddLemmas.{needs_none, needs_then}
use Rattle.resolvo_turn.proofs.PassLemmas.{passed_none, passed_more, IsFired}
use Rattle.resolvo_turn.specs.LacksIds.{StopsInOrder}
use Rattle.resolvo_turn.proofs.fire_conditions.fire_cases.Goals as goal
use Rattle.resolvo_turn.proofs.fire_conditions.fire_cases.Goals.{then-branch, else-branch}

pub loop-index-init : goal.loop-index-init
loop-index-init g c = record { same = refl; stays = λ root e. e; kept = needs_none c.args.encoding.now; passed = passed_none g.A.SolvableId.PartialEq.eq c.args.encoding.now _ refl refl; built = c.requires }

pub loop-index-preserved : goal.loop-index-preserved
loop-index-preserved g c =
    let same = g.A.SolvableId.PartialEq.eq in
    let before = c.loop-index.invariant in
    let old = c.loop-index.encoding in
    let new = c.fire_if_due.new.encoding in
    let fired : IsFired c.loop-index.has_fired c.in_ok-fire_if_due.field-0 c.if-branch.has_fired = elim c.if-branch.branch [ then-branch w ↦ inl (w.if-branch.true, w.has_fired-is) | else-branch w ↦ inr (w.if-branch.false, w.has_fired-is) ] in
    let stays = subst (λ (a : g.row.A.Denot). StaysInOrder same g.A.PackageSource a old new) before.same c.in_ok-fire_if_due.ensures.stays in
    record {
      same = c.in_ok-fire_if_due.ensures.same ∙ before.same;
      stays = λ root e. stays root (before.stays root e);
      kept = needs_then c.args.encoding.now old new before.kept c.in_ok-fire_if_due.ensures.kept;
      passed = passed_more same c.args.encoding.now old new c.loop-index.has_fired c.in_ok-fire_if_due.field-0 c.if-branch.has_fired c.loop-index.index before.passed before.kept c.in_ok-fire_if_due.ensures.fires c.in_ok-fire_if_due.ensures.spent fired;
      built = c.in_ok-fire_if_due.ensures.built;
    }

pub returns-clause-spent : goal.returns-clause-spent
returns-clause-spent g c = λ none. (
  c.loop-index.invariant.passed.unchanged none,
  λ i below. c.loop-index.invariant.passed.spent none i (
      let whole : length c.loop-index.encoding.deferred.items ≡ length c.args.encoding.now.deferred.items = ap (λ (x : Encoder _ _). length x.deferred.items) (c.loop-index.invariant.passed.unchanged none) in
      omega (arith, below, whole, c.loop-index-test.false, c.len-index-end.ensures)),
)

pub returns-in_err-fire_if_due-clause-ids : goal.returns-in_err-fire_if_due-clause-ids
returns-in_err-fire_if_due-clause-ids g c = λ is root e.
    let stops = subst (λ (a : g.row.A.Denot). StopsInOrder g.A.SolvableId.PartialEq.eq g.A.PackageSource a c.loop-index.encoding c.fire_if_due.new.encoding) c.loop-index.invariant.same (search (rules, is)) in
    stops root (c.loop-index.invariant.stays root e)
