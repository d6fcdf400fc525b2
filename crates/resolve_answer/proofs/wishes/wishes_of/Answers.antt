use Rattle.std.proofs.Common.{◌≡◌, ◌+◌, ◌<◌, ◌++◌, ◌∷◌, inl, inr, [], ℕ, List, map, take, length, get_or, sym, ◌∙◌, ap, subst}
use Rattle.std.specs.Prelude.{Contains}
use Rattle.std.specs.Option.{option_map}
use Rattle.std.proofs.lemmas.List.{map-append, take_more}
use Rattle.resolvo_sat.proofs.Lists.{contains_one, contains_parts}
use Rattle.resolvo_catalogue_core.specs.Questions.{AreAll, IsWish, LineIs}
use Rattle.resolvo_catalogue_core.specs.declared.rule.VersionNo.{VersionNo}
use Rattle.resolvo_report.specs.View.{step_of}
use Rattle.resolve_refusal.specs.InstallSteps.{IsForbidStepOf}
use Rattle.resolve_answer.specs.Wishes.{asked_by}
use Rattle.resolve_answer.specs.declared.wishes.Wish.{Wish}
use Rattle.resolve_answer.proofs.wishes.wishes_of.Goals as goal

more_are : (xs : List (ℕ × VersionNo)) (i : ℕ) (d : ℕ × VersionNo) (old new : List Wish) (w : Wish) → i < length xs → new ≡ old ++ w ∷ [] → asked_by w ≡ get_or xs i d → map asked_by old ≡ take i xs → map asked_by new ≡ take (i + 1) xs
more_are xs i d old new w low is asked are = ap (map asked_by) is ∙ map-append asked_by old (w ∷ []) ∙ ap (λ ys. ys ++ asked_by w ∷ []) are ∙ ap (λ y. take i xs ++ y ∷ []) asked ∙ sym (take_more xs i d low)

pub loop-wish-preserved : goal.loop-wish-preserved
loop-wish-preserved c =
    let w = c.in_ok-wish_of.field-0 in
    record {
      are = more_are c.wishes-wish-items.result.now c.loop-wish.wish-index _ c.loop-wish.wishes.items c.push.new.self.items w c.loop-wish-test.true c.in_ok-push.ensures.items c.in_ok-wish_of.ensures.asked c.loop-wish.invariant.are;
      forbids = λ u h. elim (contains_parts u c.loop-wish.wishes.items (w ∷ []) (subst (λ (ys : List Wish). Contains ys u) c.in_ok-push.ensures.items h)) [
        | inl old ↦ c.loop-wish.invariant.forbids u old
        | inr new ↦ subst (λ (x : Wish). IsForbidStepOf c.args.catalogue.now x.version.0 (option_map step_of x.forbidden_by)) (sym (contains_one u w new)) c.in_ok-wish_of.ensures.forbidden
      ];
    }

pub returns-clause-lines : goal.returns-clause-lines
returns-clause-lines c = subst (λ (ws : List (ℕ × VersionNo)). AreAll (map (λ f. f.0) ws) (λ n. LineIs c.args.request.now.lines n IsWish)) c.wishes-wish-items.ensures.wishes c.wishes-wish-items.ensures.lines
