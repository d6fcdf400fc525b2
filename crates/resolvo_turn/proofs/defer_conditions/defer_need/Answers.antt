use Rattle.std.proofs.Common.{◌≡◌, ◌∷◌, [], List, sym, ◌∙◌, ap, subst}
use Rattle.std.specs.Prelude.{Contains}
use Rattle.resolvo_pool_core.specs.declared.id.VersionSetId.{VersionSetId}
use Rattle.resolvo_store_core.specs.Cases.{cases_of, cases}
use Rattle.resolvo_sat.specs.RuleClauses.{cases_for, cases_under}
use Rattle.resolvo_sat.proofs.Lists.{contains_only, contains_one}
use Rattle.resolvo_encoder.specs.Conditions.{IsDeferred}
use Rattle.resolvo_turn.specs.Encoder.{AreDeferred}
use Rattle.resolvo_turn.proofs.defer_conditions.defer_need.Goals as goal

pub returns-in-Some-clause-encoded : goal.returns-in-Some-clause-encoded
returns-in-Some-clause-encoded g c = λ root e listed.
    let p = g.A.PackageSource.packages c.args.answers.now in
    let case : List VersionSetId = c.in-Some.only ∷ [] in
    let all : cases_for g.A.SolvableId.PartialEq.eq p c.args.need ≡ case ∷ [] = ap (cases_under p.condition_of) c.requires.condition ∙ c.in-Some.ensures in
    let (last, waits) = c.in_ok-defer_case.ensures.encoded root e listed (subst (λ (xs : List (List VersionSetId)). Contains xs case) (sym all) (contains_only case)) in
    (last, λ one h. subst (λ (xs : List VersionSetId). IsDeferred c.defer_case.new.encoding c.args.parent c.args.need xs) (sym (contains_one one case (subst (λ (xs : List (List VersionSetId)). Contains xs one) all h))) waits)

pub returns-clause-encoded : goal.returns-clause-encoded
returns-clause-encoded g c = λ root e listed.
    let p = g.A.PackageSource.packages c.args.answers.now in
    let under : cases_for g.A.SolvableId.PartialEq.eq p c.args.need ≡ cases p.condition_of c.args.condition = ap (cases_under p.condition_of) c.requires.condition in
    let all : cases_of c.as_slice.result.now ≡ cases_for g.A.SolvableId.PartialEq.eq p c.args.need = ap cases_of c.as_slice.ensures.value ∙ c.in_ok-cases.ensures.cases ∙ sym under in
    let (last, waits) = c.in_ok-defer_cases.ensures.encoded root e listed (λ case h. subst (λ (xs : List (List VersionSetId)). Contains xs case) all h) in
    (last, subst (λ (xs : List (List VersionSetId)). AreDeferred c.defer_cases.new.encoding c.args.parent c.args.need xs) all waits)
