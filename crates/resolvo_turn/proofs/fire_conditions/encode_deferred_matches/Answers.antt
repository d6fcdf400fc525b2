use Rattle.std.proofs.Common.{◌≡◌, ◌∙◌, List, sym, ap, subst, rules}
use Rattle.std.specs.Prelude.{OnOk, IfErr, IsErrOf}
use Rattle.std.proofs.lemmas.Result.{on_ok_weaker}
use Rattle.resolvo_pool.specs.Cached.{IsCancelledBy}
use Rattle.resolvo_pool.specs.declared.cache.CacheFault.TheVariants.{Ids}
use Rattle.resolvo_store_core.specs.declared.conditions.DeferredConjunct.{DeferredConjunct}
use Rattle.resolvo_encoder.specs.declared.conditions.ConditionSet.{ConditionSet}
use Rattle.resolvo_encoder.specs.Conditions.{case_of, sets_case, AreSets}
use Rattle.resolvo_turn.specs.Encoder.{StaysInOrder}
use Rattle.resolvo_turn.specs.LacksIds.{LacksIds, StopsAnyhow}
use Rattle.resolvo_turn.specs.Matches.{MatchesCase}
use Rattle.resolvo_turn.proofs.CaseEncoded.{deferred_matched}
use Rattle.resolvo_turn.proofs.fire_conditions.encode_deferred_matches.Goals as goal

pub returns-clause-same : goal.returns-clause-same
returns-clause-same g c = c.encode_matches-done.ensures.same ∙ c.in_ok-sets.ensures.same

pub returns-clause-stays : goal.returns-clause-stays
returns-clause-stays g c =
    let same = g.A.SolvableId.PartialEq.eq in
    let p = g.A.PackageSource.packages c.args.answers.now in
    let d = c.waiting-deferred.result.now in
    let sets = c.as_slice-2.result.now in
    let old = c.args.encoding.now in
    let new = c.encode_matches-done.new.encoding in
    let case : sets_case sets ≡ case_of d.conjuncts.items =
    ap (λ (xs : List (ConditionSet _ _)). sets_case xs) c.as_slice-2.ensures.value ∙ (c.in_ok-sets.ensures.case ∙ ap (λ (xs : List (DeferredConjunct _)). case_of xs) c.as_slice.ensures.value) in
    let are : AreSets same p sets = subst (λ (xs : List (ConditionSet _ _)). AreSets same p xs) (sym c.as_slice-2.ensures.value) c.in_ok-sets.ensures.sets in
    let matches : OnOk c.encode_matches-done.result (MatchesCase same g.A.PackageSource c.args.answers.now d.parent d.need sets old new) =
    subst (λ (a : g.row.A.Denot). OnOk c.encode_matches-done.result (MatchesCase same g.A.PackageSource a d.parent d.need sets old new)) c.in_ok-sets.ensures.same c.encode_matches-done.ensures.encoded in
    on_ok_weaker {Q = StaysInOrder same g.A.PackageSource c.args.answers.now old new} c.encode_matches-done.result (deferred_matched same g.A.PackageSource c.args.answers.now c.args.index d sets old new c.waiting-deferred.ensures are case) matches

pub returns-clause-cancelled : goal.returns-clause-cancelled
returns-clause-cancelled g c = subst (λ (a : g.row.A.Denot). IfErr c.encode_matches-done.result (IsCancelledBy (g.A.PackageSource.may_cancel a))) c.in_ok-sets.ensures.same c.encode_matches-done.ensures.cancelled

pub returns-clause-ids : goal.returns-clause-ids
returns-clause-ids g c = subst (λ (a : g.row.A.Denot). IsErrOf c.encode_matches-done.result Ids → StopsAnyhow g.A.SolvableId.PartialEq.eq g.A.PackageSource a c.encode_matches-done.new.encoding) c.in_ok-sets.ensures.same c.encode_matches-done.ensures.ids

pub returns-in_err-sets-clause-ids : goal.returns-in_err-sets-clause-ids
returns-in_err-sets-clause-ids g c = search (rules, LacksIds.packages)
