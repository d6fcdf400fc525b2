use Rattle.std.proofs.Common.{subst, rules}
use Rattle.resolvo_turn.specs.Effects.{EncodesKnown}
use Rattle.resolvo_turn.specs.LacksIds.{StopsAnyhow, StopsKnown}
use Rattle.resolvo_turn.proofs.AddLemmas.{needs_then}
use Rattle.resolvo_turn.proofs.rules.encode_rules.Goals as goal

pub returns-clause-encoded : goal.returns-clause-encoded
returns-clause-encoded g c = λ root are e.
    (subst (λ (a : g.row.A.Denot). EncodesKnown g.A.SolvableId.PartialEq.eq g.A.PackageSource a c.args.parent c.args.requirements.now c.args.constraints.now c.forbid_for_rules.new.encoding c.add_rules.new.encoding) c.in_ok-forbid_for_rules.ensures.same c.in_ok-add_rules.ensures.encoded)
    root are (c.in_ok-forbid_for_rules.ensures.stays root e)

pub returns-clause-kept : goal.returns-clause-kept
returns-clause-kept g c = needs_then c.args.encoding.now c.forbid_for_rules.new.encoding c.add_rules.new.encoding c.in_ok-forbid_for_rules.ensures.kept c.in_ok-add_rules.ensures.kept

pub returns-in_err-forbid_for_rules-clause-ids : goal.returns-in_err-forbid_for_rules-clause-ids
returns-in_err-forbid_for_rules-clause-ids g c = λ is root are e.
    let stops : StopsAnyhow g.A.SolvableId.PartialEq.eq g.A.PackageSource c.args.answers.now c.forbid_for_rules.new.encoding = search (rules, is) in
    stops root

pub returns-in_err-add_rules-clause-ids : goal.returns-in_err-add_rules-clause-ids
returns-in_err-add_rules-clause-ids g c = λ is root are e.
    let stops = subst (λ (a : g.row.A.Denot). StopsKnown g.A.SolvableId.PartialEq.eq g.A.PackageSource a c.args.parent c.args.requirements.now c.args.constraints.now c.forbid_for_rules.new.encoding c.add_rules.new.encoding) c.in_ok-forbid_for_rules.ensures.same (search (rules, is)) in
    stops root are (c.in_ok-forbid_for_rules.ensures.stays root e)
