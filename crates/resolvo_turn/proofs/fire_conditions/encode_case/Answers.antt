use Rattle.std.proofs.Common.{subst}
use Rattle.resolvo_sat.specs.RuleClauses.{IsExact}
use Rattle.resolvo_encoder.specs.Encoded.{rules_of}
use Rattle.resolvo_encoder.proofs.FireLemmas.{case_left_out}
use Rattle.resolvo_turn.specs.Effects.{RequiresGuardedCase}
use Rattle.resolvo_turn.proofs.AddLemmas.{needs_none, needs_then}
use Rattle.resolvo_turn.specs.LacksIds.{StopsNeed}
use Rattle.resolvo_turn.proofs.StopLemmas.{passed_on}
use Rattle.resolvo_turn.proofs.fire_conditions.encode_case.Goals as goal

pub returns-then-keeps_out-clause-encoded : goal.returns-then-keeps_out-clause-encoded
returns-then-keeps_out-clause-encoded g c = λ root e sets listed among matched.
    let same = g.A.SolvableId.PartialEq.eq in
    let exact : IsExact same = record { one = g.met.A.SolvableId.Exact.exact; own = g.met.A.SolvableId.Eq.laws.refl } in
    let p = g.A.PackageSource.packages c.args.answers.now in
    let (s, set, who, present, unmarked, there) = c.keeps_out.ensures.out c.if-keeps_out.true in
    (e, case_left_out same exact p (rules_of c.args.encoding.now) c.args.parent c.args.need c.args.sets.now s set sets who present unmarked there)

pub returns-then-keeps_out-clause-kept : goal.returns-then-keeps_out-clause-kept
returns-then-keeps_out-clause-kept g c = needs_none c.args.encoding.now

pub returns-clause-encoded : goal.returns-clause-encoded
returns-clause-encoded g c = λ root e sets listed among matched.
    let same = g.A.SolvableId.PartialEq.eq in
    let (first, guarded) = c.in_ok-forbid_named.ensures.encoded root e in
    (subst (λ (a : g.row.A.Denot). RequiresGuardedCase same g.A.PackageSource a c.args.parent c.args.need c.args.sets.now c.forbid_named.new.encoding c.add_case.new.encoding) c.in_ok-forbid_named.ensures.same c.in_ok-add_case.ensures.encoded)
    root first guarded sets listed among matched

pub returns-clause-kept : goal.returns-clause-kept
returns-clause-kept g c = needs_then c.args.encoding.now c.forbid_named.new.encoding c.add_case.new.encoding c.in_ok-forbid_named.ensures.kept c.in_ok-add_case.ensures.kept

pub returns-in_err-forbid_named-clause-ids : goal.returns-in_err-forbid_named-clause-ids
returns-in_err-forbid_named-clause-ids g c = λ is root listed.
    c.in_err-forbid_named.ensures.ids (passed_on c.from_residual.result _ _ c.from_residual.ensures.1 is) root

pub returns-in_err-add_case-clause-ids : goal.returns-in_err-add_case-clause-ids
returns-in_err-add_case-clause-ids g c = λ is. subst (λ (a : g.row.A.Denot). StopsNeed g.A.SolvableId.PartialEq.eq g.A.PackageSource a c.args.parent c.args.need c.add_case.new.encoding) c.in_ok-forbid_named.ensures.same (c.in_err-add_case.ensures.ids (passed_on c.from_residual-in_err-add_case.result _ _ c.from_residual-in_err-add_case.ensures.1 is))
