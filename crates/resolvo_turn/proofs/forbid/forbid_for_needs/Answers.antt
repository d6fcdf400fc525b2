use Rattle.std.proofs.Common.{◌∙◌, subst, refl, rules}
use Rattle.resolvo_turn.specs.Encoder.{StaysInOrder}
use Rattle.resolvo_turn.specs.LacksIds.{StopsAnyhow}
use Rattle.resolvo_turn.proofs.AddLemmas.{needs_none, needs_then}
use Rattle.resolvo_turn.proofs.forbid.forbid_for_needs.Goals as goal

pub loop-need-init : goal.loop-need-init
loop-need-init g c = record { same = refl; stays = λ root e. e; kept = needs_none c.args.encoding.now; built = c.requires }

pub loop-need-preserved : goal.loop-need-preserved
loop-need-preserved g c =
    let before = c.loop-need.invariant in
    let stays = subst (λ (a : g.row.A.Denot). StaysInOrder g.A.SolvableId.PartialEq.eq g.A.PackageSource a c.loop-need.encoding c.forbid_for_need.new.encoding) before.same c.in_ok-forbid_for_need.ensures.stays in
    record {
      same = c.in_ok-forbid_for_need.ensures.same ∙ before.same;
      stays = λ root e. stays root (before.stays root e);
      kept = needs_then c.args.encoding.now c.loop-need.encoding c.forbid_for_need.new.encoding before.kept c.in_ok-forbid_for_need.ensures.kept;
      built = c.in_ok-forbid_for_need.ensures.built;
    }

pub returns-in_err-forbid_for_need-clause-ids : goal.returns-in_err-forbid_for_need-clause-ids
returns-in_err-forbid_for_need-clause-ids g c = λ is. subst (λ (a : g.row.A.Denot). StopsAnyhow g.A.SolvableId.PartialEq.eq g.A.PackageSource a c.forbid_for_need.new.encoding) c.loop-need.invariant.same (search (rules, is))
