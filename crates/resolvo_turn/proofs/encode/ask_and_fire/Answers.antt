use Rattle.std.proofs.Common.{refl, ◌∙◌, subst, rules}
use Rattle.resolvo_turn.specs.Encoder.{StaysInOrder}
use Rattle.resolvo_turn.specs.LacksIds.{StopsInOrder}
use Rattle.resolvo_turn.specs.Tasks.{KeepsExcluded}
use Rattle.resolvo_turn.proofs.AddLemmas.{needs_none, needs_then}
use Rattle.resolvo_turn.proofs.encode.ask_and_fire.Goals as goal

pub loop-task-init : goal.loop-task-init
loop-task-init g c = record { same = refl; stays = λ root e. e; excluded = λ root e before. before; kept = needs_none c.args.encoding.now; built = c.requires }

pub loop-task-preserved : goal.loop-task-preserved
loop-task-preserved g c =
    let same = g.A.SolvableId.PartialEq.eq in
    let before = c.loop-task.invariant in
    let old = c.loop-task.encoding in
    let new = c.ask_or_fire.new.encoding in
    let after = c.in_ok-ask_or_fire.ensures in
    let stays = subst (λ (a : g.row.A.Denot). StaysInOrder same g.A.PackageSource a old new) before.same after.stays in
    let excluded = subst (λ (a : g.row.A.Denot). KeepsExcluded same g.A.PackageSource a c.loop-task.excluded.keys c.ask_or_fire.new.excluded.keys old new) before.same after.excluded in
    record {
      same = after.same ∙ before.same;
      stays = λ root e. stays root (before.stays root e);
      excluded = λ root e was. excluded root (before.stays root e) (before.excluded root e was);
      kept = needs_then c.args.encoding.now old new before.kept after.kept;
      built = after.built;
    }

pub returns-in_err-ask_or_fire-clause-ids : goal.returns-in_err-ask_or_fire-clause-ids
returns-in_err-ask_or_fire-clause-ids g c = λ is root e.
    let stops = subst (λ (a : g.row.A.Denot). StopsInOrder g.A.SolvableId.PartialEq.eq g.A.PackageSource a c.loop-task.encoding c.ask_or_fire.new.encoding) c.loop-task.invariant.same (search (rules, is)) in
    stops root (c.loop-task.invariant.stays root e)

pub returns-then-branch-clause-kept : goal.returns-then-branch-clause-kept
returns-then-branch-clause-kept g c = needs_then c.args.encoding.now c.loop-task.encoding c.ask_or_fire.new.encoding c.loop-task.invariant.kept c.in_ok-ask_or_fire.ensures.kept

pub returns-then-branch-clause-excluded : goal.returns-then-branch-clause-excluded
returns-then-branch-clause-excluded g c = λ root e was.
    let before = c.loop-task.invariant in
    let excluded = subst (λ (a : g.row.A.Denot). KeepsExcluded g.A.SolvableId.PartialEq.eq g.A.PackageSource a c.loop-task.excluded.keys c.ask_or_fire.new.excluded.keys c.loop-task.encoding c.ask_or_fire.new.encoding) before.same c.in_ok-ask_or_fire.ensures.excluded in
    excluded root (before.stays root e) (before.excluded root e was)
