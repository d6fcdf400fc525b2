use Rattle.std.proofs.Common.{◌≡◌, ◌+◌, ◌∷◌, ◌++◌, [], ◌∙◌, List, take, subst, sym, ap}
use Rattle.std.proofs.lemmas.List.{take_more, map-append}
use Rattle.resolvo_store_core.specs.declared.conditions.DeferredConjunct.{DeferredConjunct}
use Rattle.resolvo_store_core.specs.Deferred.{version_set_of}
use Rattle.resolvo_encoder.specs.declared.conditions.ConditionSet.{ConditionSet}
use Rattle.resolvo_encoder.specs.Conditions.{IsSet, AreSets, sets_case, case_of}
use Rattle.resolvo_turn.proofs.PushLemmas.{all_push, told_push}
use Rattle.resolvo_turn.proofs.fire_conditions.sets_of.Goals as goal

pub loop-conjunct-preserved : goal.loop-conjunct-preserved
loop-conjunct-preserved g c =
    let same = g.A.SolvableId.PartialEq.eq in
    let before = c.loop-conjunct.invariant in
    let xs = c.args.conjuncts.now in
    let i = c.loop-conjunct.conjunct-index in
    let item = c.conjunct-item.result in
    let set = c.in_ok-set.set in
    let p = g.A.PackageSource.packages c.args.answers.now in
    let pushed : c.push.new.self.items ≡ c.loop-conjunct.sets.items ++ set ∷ [] = c.in_ok-push.ensures.items in
    let more : take (i + 1) xs ≡ take i xs ++ item ∷ [] = take_more xs i item c.loop-conjunct-test.true ∙ ap (λ (x : DeferredConjunct _). take i xs ++ x ∷ []) (sym c.conjunct-item.is) in
    let one : IsSet same p set = subst (λ (a : g.row.A.Denot). IsSet same (g.A.PackageSource.packages a) set) before.same c.in_ok-set.ensures.set in
    record {
      same = c.in_ok-set.ensures.same ∙ before.same;
      sets = subst (λ (ys : List (ConditionSet _ _)). AreSets same p ys) (sym pushed) (all_push (IsSet same p) c.loop-conjunct.sets.items set before.sets one);
      case = ap (λ (ys : List (ConditionSet _ _)). sets_case ys) pushed
          ∙ (told_push (λ (y : ConditionSet _ _). y.version_set) c.loop-conjunct.sets.items set (case_of (take i xs)) (version_set_of item) before.case (c.in_ok-set.ensures.version_set ∙ c.version_set.ensures)
          ∙ (sym (map-append (λ (y : DeferredConjunct _). version_set_of y) (take i xs) (item ∷ [])) ∙ ap (λ (ys : List (DeferredConjunct _)). case_of ys) (sym more)));
    }
