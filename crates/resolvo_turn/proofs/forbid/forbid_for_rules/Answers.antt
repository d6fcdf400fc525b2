use Rattle.std.proofs.Common.{subst, rules}
use Rattle.resolvo_turn.specs.Encoder.{StaysInOrder}
use Rattle.resolvo_turn.specs.LacksIds.{StopsAnyhow}
use Rattle.resolvo_turn.proofs.AddLemmas.{needs_then}
use Rattle.resolvo_turn.proofs.forbid.forbid_for_rules.Goals as goal

pub returns-clause-stays : goal.returns-clause-stays
returns-clause-stays g c = λ root e.
    (subst (λ (a : g.row.A.Denot). StaysInOrder g.A.SolvableId.PartialEq.eq g.A.PackageSource a c.forbid_for_needs.new.encoding c.forbid_for_limits.new.encoding) c.in_ok-forbid_for_needs.ensures.same c.in_ok-forbid_for_limits.ensures.stays)
    root (c.in_ok-forbid_for_needs.ensures.stays root e)

pub returns-clause-kept : goal.returns-clause-kept
returns-clause-kept g c = needs_then c.args.encoding.now c.forbid_for_needs.new.encoding c.forbid_for_limits.new.encoding c.in_ok-forbid_for_needs.ensures.kept c.in_ok-forbid_for_limits.ensures.kept

pub returns-in_err-forbid_for_limits-clause-ids : goal.returns-in_err-forbid_for_limits-clause-ids
returns-in_err-forbid_for_limits-clause-ids g c = λ is. subst (λ (a : g.row.A.Denot). StopsAnyhow g.A.SolvableId.PartialEq.eq g.A.PackageSource a c.forbid_for_limits.new.encoding) c.in_ok-forbid_for_needs.ensures.same (search (rules, is))
