use Rattle.std.proofs.Common.{◌≡◌, ◌∙◌, List, sym, ap, subst, rules}
use Rattle.std.specs.Prelude.{OnOk, IfErr, IsErrOf}
use Rattle.std.proofs.lemmas.Result.{on_ok_weaker}
use Rattle.resolvo_pool.specs.Cached.{IsCancelledBy}
use Rattle.resolvo_pool.specs.declared.cache.CacheFault.TheVariants.{Ids}
use Rattle.resolvo_store_core.specs.declared.conditions.DeferredConjunct.{DeferredConjunct}
use Rattle.resolvo_sat.specs.RuleClauses.{IsExact}
use Rattle.resolvo_encoder.specs.declared.conditions.ConditionSet.{ConditionSet}
use Rattle.resolvo_encoder.specs.Conditions.{case_of, sets_case, AreSets}
use Rattle.resolvo_turn.specs.Effects.{RequiresCase, RequiresDeferred}
use Rattle.resolvo_turn.specs.LacksIds.{LacksIds, StopsNeed}
use Rattle.resolvo_turn.proofs.CaseEncoded.{deferred_encoded, waiting_listed}
use Rattle.resolvo_turn.proofs.fire_conditions.encode_deferred.Goals as goal

pub returns-clause-same : goal.returns-clause-same
returns-clause-same g c = c.encode_case-done.ensures.same ∙ c.in_ok-sets.ensures.same

pub returns-clause-encoded : goal.returns-clause-encoded
returns-clause-encoded g c =
    let same = g.A.SolvableId.PartialEq.eq in
    let exact : IsExact same = record { one = g.met.A.SolvableId.Exact.exact; own = g.met.A.SolvableId.Eq.laws.refl } in
    let p = g.A.PackageSource.packages c.args.answers.now in
    let d = c.waiting-deferred.result.now in
    let sets = c.as_slice-2.result.now in
    let old = c.args.encoding.now in
    let new = c.encode_case-done.new.encoding in
    let case : sets_case sets ≡ case_of d.conjuncts.items =
    ap (λ (xs : List (ConditionSet _ _)). sets_case xs) c.as_slice-2.ensures.value ∙ (c.in_ok-sets.ensures.case ∙ ap (λ (xs : List (DeferredConjunct _)). case_of xs) c.as_slice.ensures.value) in
    let are : AreSets same p sets = subst (λ (xs : List (ConditionSet _ _)). AreSets same p xs) (sym c.as_slice-2.ensures.value) c.in_ok-sets.ensures.sets in
    let encodes : OnOk c.encode_case-done.result (RequiresCase same g.A.PackageSource c.args.answers.now d.parent d.need sets old new) =
    subst (λ (a : g.row.A.Denot). OnOk c.encode_case-done.result (RequiresCase same g.A.PackageSource a d.parent d.need sets old new)) c.in_ok-sets.ensures.same c.encode_case-done.ensures.encoded in
    on_ok_weaker {Q = RequiresDeferred same g.A.PackageSource c.args.answers.now c.args.index old new} c.encode_case-done.result (deferred_encoded same g.A.PackageSource c.args.answers.now c.args.index d sets old new exact c.waiting-deferred.ensures are case) encodes

pub returns-clause-cancelled : goal.returns-clause-cancelled
returns-clause-cancelled g c = subst (λ (a : g.row.A.Denot). IfErr c.encode_case-done.result (IsCancelledBy (g.A.PackageSource.may_cancel a))) c.in_ok-sets.ensures.same c.encode_case-done.ensures.cancelled

pub returns-clause-ids : goal.returns-clause-ids
returns-clause-ids g c = λ is root e.
    let same = g.A.SolvableId.PartialEq.eq in
    let d = c.waiting-deferred.result.now in
    let new = c.encode_case-done.new.encoding in
    let stops = subst (λ (a : g.row.A.Denot). IsErrOf c.encode_case-done.result Ids → StopsNeed same g.A.PackageSource a d.parent d.need new) c.in_ok-sets.ensures.same c.encode_case-done.ensures.ids in
    stops is root (waiting_listed same (g.A.PackageSource.packages c.args.answers.now) (g.A.PackageSource.orders c.args.answers.now) root c.args.index c.args.encoding.now d c.waiting-deferred.ensures e)

pub returns-in_err-sets-clause-ids : goal.returns-in_err-sets-clause-ids
returns-in_err-sets-clause-ids g c = search (rules, LacksIds.packages)
