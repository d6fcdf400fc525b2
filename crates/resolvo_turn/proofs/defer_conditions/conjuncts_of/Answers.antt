use Rattle.std.proofs.Common.{◌≡◌, ◌+◌, ◌∷◌, ◌++◌, [], ◌∙◌, List, take, get_or, subst, sym, ap}
use Rattle.std.proofs.lemmas.List.{take_more}
use Rattle.resolvo_pool_core.specs.declared.id.VersionSetId.{VersionSetId}
use Rattle.resolvo_store_core.specs.declared.conditions.DeferredConjunct.{DeferredConjunct}
use Rattle.resolvo_store_core.specs.Deferred.{version_set_of}
use Rattle.resolvo_encoder.specs.Conditions.{IsMatching, AreConjuncts, case_of}
use Rattle.resolvo_turn.proofs.PushLemmas.{all_push, told_push}
use Rattle.resolvo_turn.proofs.defer_conditions.conjuncts_of.Goals as goal

pub loop-version_set-preserved : goal.loop-version_set-preserved
loop-version_set-preserved g c =
    let same = g.A.SolvableId.PartialEq.eq in
    let before = c.loop-version_set.invariant in
    let vs = c.args.case.now in
    let i = c.loop-version_set.version_set-index in
    let d : VersionSetId = record { 0 = 0 } in
    let conjunct = c.in_ok-conjunct.conjunct in
    let p = g.A.PackageSource.packages c.args.answers.now in
    let pushed : c.push.new.self.items ≡ c.loop-version_set.conjuncts.items ++ conjunct ∷ [] = c.in_ok-push.ensures.items in
    let more : take (i + 1) vs ≡ take i vs ++ get_or vs i d ∷ [] = take_more vs i d c.loop-version_set-test.true in
    let one : IsMatching same p conjunct = subst (λ (a : g.row.A.Denot). IsMatching same (g.A.PackageSource.packages a) conjunct) before.same c.in_ok-conjunct.ensures.matches in
    record {
      same = c.in_ok-conjunct.ensures.same ∙ before.same;
      matches = subst (λ (ys : List (DeferredConjunct _)). AreConjuncts same p ys) (sym pushed) (all_push (IsMatching same p) c.loop-version_set.conjuncts.items conjunct before.matches one);
      case = ap (λ (ys : List (DeferredConjunct _)). case_of ys) pushed
          ∙ (told_push (λ (y : DeferredConjunct _). version_set_of y) c.loop-version_set.conjuncts.items conjunct (take i vs) (get_or vs i d) before.case c.in_ok-conjunct.ensures.version_set ∙ sym more);
    }
