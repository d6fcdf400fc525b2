use Rattle.std.proofs.Common.{List, sym, subst}
use Rattle.resolvo_pool_core.specs.declared.id.VersionSetId.{VersionSetId}
use Rattle.std.specs.Prelude.{Contains}
use Rattle.resolvo_sat.specs.RuleClauses.{cases_for}
use Rattle.resolvo_encoder.specs.Conditions.{IsDeferred}
use Rattle.resolvo_turn.proofs.AddLemmas.{defers_in_order, defers_needs}
use Rattle.resolvo_turn.proofs.defer_conditions.defer_case.Goals as goal

pub returns-clause-encoded : goal.returns-clause-encoded
returns-clause-encoded g c = λ root e listed among.
    let same = g.A.SolvableId.PartialEq.eq in
    let p = g.A.PackageSource.packages c.args.answers.now in
    let new = c.defer.new.self in
    let (last, waits) = c.in_ok-defer.ensures.encoded p root e.encoding c.in_ok-conjuncts.ensures.matches listed (subst (λ (xs : List VersionSetId). Contains (cases_for same p c.args.need) xs) (sym c.in_ok-conjuncts.ensures.case) among) in (
      defers_in_order same p (g.A.PackageSource.orders c.args.answers.now) root c.args.encoding.now new c.in_ok-defer.ensures.kept (λ x. last) e,
      subst (λ (xs : List VersionSetId). IsDeferred new c.args.parent c.args.need xs) c.in_ok-conjuncts.ensures.case waits,
    )

pub returns-clause-kept : goal.returns-clause-kept
returns-clause-kept g c = defers_needs c.args.encoding.now c.defer.new.self c.in_ok-defer.ensures.kept
