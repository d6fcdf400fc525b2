use Rattle.std.proofs.Common.{inl, inr, Option, List, [], sym, subst, rules}
use Rattle.std.specs.Prelude.{Contains}
use Rattle.resolvo_pool_core.specs.declared.id.ConditionId.{ConditionId}
use Rattle.resolvo_pool_core.specs.declared.id.VersionSetId.{VersionSetId}
use Rattle.resolvo_sat.specs.RuleClauses.{cases_under}
use Rattle.resolvo_sat.specs.SearchEnd.{IsNeedEncoded}
use Rattle.resolvo_sat.proofs.Lists.{contains_one}
use Rattle.resolvo_encoder.specs.Encoded.{rules_of}
use Rattle.resolvo_turn.specs.LacksIds.{LacksIds, StopsNeed}
use Rattle.resolvo_turn.proofs.rules.encode_need.Goals as goal

pub returns-in_ok-encode_plain_need-in-None-clause-encoded : goal.returns-in_ok-encode_plain_need-in-None-clause-encoded
returns-in_ok-encode_plain_need-in-None-clause-encoded g c = λ root e listed.
    let same = g.A.SolvableId.PartialEq.eq in
    let p = g.A.PackageSource.packages c.args.answers.now in
    let new = c.encode_plain_need.new.encoding in
    let (last, is_encoded) = c.in_ok-encode_plain_need-in-None.ensures.encoded root e (record { listed = listed; free = c.in-None.is }) in (
      last,
      λ case one. (
          let none = contains_one case [] (subst (λ (o : Option ConditionId). Contains (cases_under p.condition_of o) case) c.in-None.is one) in
          inl (subst (λ (xs : List VersionSetId). IsNeedEncoded same p (rules_of new) c.args.parent c.args.need xs) (sym none) is_encoded)),
    )

pub returns-in_ok-push_from-in-Some-clause-encoded : goal.returns-in_ok-push_from-in-Some-clause-encoded
returns-in_ok-push_from-in-Some-clause-encoded g c = λ root e listed.
    let (before, waits) = c.in_ok-defer_need-in-Some.ensures.encoded root e listed in
    (before, λ case one. inr (waits case one))

pub returns-in_err-encode_plain_need-in-None-clause-ids : goal.returns-in_err-encode_plain_need-in-None-clause-ids
returns-in_err-encode_plain_need-in-None-clause-ids g c = λ is root e listed.
    let stops : StopsNeed g.A.SolvableId.PartialEq.eq g.A.PackageSource c.args.answers.now c.args.parent c.args.need c.encode_plain_need.new.encoding = search (rules, is) in
    stops root listed

pub returns-in_err-defer_need-in-Some-clause-ids : goal.returns-in_err-defer_need-in-Some-clause-ids
returns-in_err-defer_need-in-Some-clause-ids g c = search (rules, LacksIds.packages)
