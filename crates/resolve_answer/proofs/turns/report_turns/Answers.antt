use Rattle.std.proofs.Common.{◌≡◌, ◌+◌, ◌<◌, ◌++◌, ◌∷◌, [], ℕ, suc, List, drop, length, Some, refl, sym, ◌∙◌, ap, subst, arith, rules}
use Rattle.std.proofs.lemmas.Iterator.Adapters.{YieldsList-from_vec}
use Rattle.std.proofs.lemmas.Iterator.Consumers.{YieldsList-turn, YieldsList-end}
use Rattle.std.proofs.lemmas.List.{append-nil, length-map, length_push, map-append}
use Rattle.std.proofs.lemmas.Option.{slice_get-get_or}
use Rattle.resolve_order.specs.declared.entry.Turn.{Turn}
use Rattle.resolve_order.specs.declared.entry.Turn.TheVariants.{LeftOut}
use Rattle.resolvo_report.specs.Value.{Step}
use Rattle.resolvo_report.specs.View.{step_of, steps_of}
use Rattle.resolve_answer.specs.Wishes.{asked_by}
use Rattle.resolve_answer.specs.ReportTurns.{AreReportTurns, AreTurnsFor, LacksStepNumber}
use Rattle.resolve_answer.specs.declared.wishes.Wish.{Wish}
use Rattle.resolve_answer.proofs.WishTurns.{Goes, drop_all, drop_here, goes_more, turns_forbidden, turns_free}
use Rattle.resolve_answer.proofs.turns.report_turns.Goals as goal

pub loop-wish-init : goal.loop-wish-init
loop-wish-init c = record {
  goes = λ rest after matched. (c.first.result, rest, ap (λ ts. ts ++ rest) (c.in_ok-push.ensures.items ∙ ap (λ ts. ts ++ c.first.result ∷ []) c.new-matched.ensures.items), c.first.ensures, matched);
  few = (let l : length c.push.new.self.items ≡ length c.new-matched.result.items + 1 = ap length c.in_ok-push.ensures.items ∙ length_push c.new-matched.result.items c.first.result in omega arith);
}

pub loop-wish-preserved-in_ok-push-in-Some-forbidden_by : goal.loop-wish-preserved-in_ok-push-in-Some-forbidden_by
loop-wish-preserved-in_ok-push-in-Some-forbidden_by c =
    let t = YieldsList-turn (YieldsList-from_vec {s = c.into_iter-wish-iterator.result} c.args.wishes.items c.into_iter-wish-iterator.ensures.into_iter_gives.0 (c.into_iter-wish-iterator.ensures.into_iter_gives.1 ∙ c.args.wishes.ok.0)) c.loop-wish.yielded c.loop-wish.wish-iterator c.loop-wish.yielded_by c.next.result c.next.new.self c.in-Some.wish c.in-Some.is c.next.ensures.steps in
    let done = length c.loop-wish.yielded in
    let here : drop done c.args.wishes.items ≡ c.in-Some.wish ∷ drop (suc done) c.args.wishes.items = drop_here done c.args.wishes.items c.in-Some.wish (slice_get-get_or c.args.wishes.items done c.in-Some.wish t.0 ∙ ap Some (sym t.1)) in
    let longer : suc done ≡ length (c.loop-wish.yielded ++ c.in-Some.wish ∷ []) = (let l = length_push c.loop-wish.yielded c.in-Some.wish in omega arith) in
    let pushed = c.in_ok-step-in-Some-forbidden_by.ensures.pushed in
    let is : steps_of c.push_step.new.steps.items ≡ steps_of c.loop-wish.steps.items ++ step_of c.in-Some-forbidden_by.step ∷ [] = ap steps_of pushed ∙ map-append step_of c.loop-wish.steps.items (c.in-Some-forbidden_by.step ∷ []) in
    let number : c.in_ok-step-in-Some-forbidden_by.step ≡ suc (length (steps_of c.loop-wish.steps.items)) = (
    let a : c.in_ok-step-in-Some-forbidden_by.step ≡ length c.push_step.new.steps.items = c.in_ok-step-in-Some-forbidden_by.ensures.number in
    let b : length c.push_step.new.steps.items ≡ length c.loop-wish.steps.items + 1 = ap length pushed ∙ length_push c.loop-wish.steps.items c.in-Some-forbidden_by.step in
    let l : length (steps_of c.loop-wish.steps.items) ≡ length c.loop-wish.steps.items = length-map c.loop-wish.steps.items step_of in
    omega arith) in
    let few : c.in_ok-step-in-Some-forbidden_by.step < 4294967296 = (let a : c.in_ok-step-in-Some-forbidden_by.step ≡ length c.push_step.new.steps.items = c.in_ok-step-in-Some-forbidden_by.ensures.number in let b : length c.push_step.new.steps.items < 4294967296 = c.in_ok-step-in-Some-forbidden_by.ensures.bound in omega arith) in
    let out : Turn = LeftOut (asked_by c.in-Some.wish) c.in_ok-step-in-Some-forbidden_by.step in
    let goes = goes_more c.args.outcome c.args.wishes.items (steps_of c.args.steps.now.items) done c.in-Some.wish here c.loop-wish.next c.loop-wish.next out (steps_of c.loop-wish.steps.items) (steps_of c.push_step.new.steps.items) c.loop-wish.matched.items c.push-in-Some-forbidden_by.new.self.items c.in_ok-push-in-Some-forbidden_by.ensures.items
    (λ rest after more. turns_forbidden c.args.outcome.chosen.now c.args.outcome.turns.now c.args.outcome.places.now c.in-Some.wish (drop (suc done) c.args.wishes.items) c.loop-wish.next (steps_of c.loop-wish.steps.items) rest after c.in-Some-forbidden_by.step c.in-Some-forbidden_by.is c.in_ok-step-in-Some-forbidden_by.step number few
    (subst (λ (ss : List Step). AreTurnsFor c.args.outcome.chosen.now c.args.outcome.turns.now c.args.outcome.places.now (drop (suc done) c.args.wishes.items) c.loop-wish.next ss rest after) is more)) c.loop-wish.invariant.goes in
    record {
      goes = subst (λ (k : ℕ). Goes c.args.outcome c.args.wishes.items (steps_of c.args.steps.now.items) done c.in-Some.wish here c.loop-wish.next k c.loop-wish.next (steps_of c.push_step.new.steps.items) c.push-in-Some-forbidden_by.new.self.items) longer goes;
      few = (let l : length c.push-in-Some-forbidden_by.new.self.items ≡ length c.loop-wish.matched.items + 1 = ap length c.in_ok-push-in-Some-forbidden_by.ensures.items ∙ length_push c.loop-wish.matched.items out in let f : c.loop-wish.next < length c.loop-wish.matched.items = c.loop-wish.invariant.few in omega arith);
    }

pub loop-wish-preserved : goal.loop-wish-preserved
loop-wish-preserved c =
    let t = YieldsList-turn (YieldsList-from_vec {s = c.into_iter-wish-iterator.result} c.args.wishes.items c.into_iter-wish-iterator.ensures.into_iter_gives.0 (c.into_iter-wish-iterator.ensures.into_iter_gives.1 ∙ c.args.wishes.ok.0)) c.loop-wish.yielded c.loop-wish.wish-iterator c.loop-wish.yielded_by c.next.result c.next.new.self c.in-Some.wish c.in-Some.is c.next.ensures.steps in
    let done = length c.loop-wish.yielded in
    let here : drop done c.args.wishes.items ≡ c.in-Some.wish ∷ drop (suc done) c.args.wishes.items = drop_here done c.args.wishes.items c.in-Some.wish (slice_get-get_or c.args.wishes.items done c.in-Some.wish t.0 ∙ ap Some (sym t.1)) in
    let longer : suc done ≡ length (c.loop-wish.yielded ++ c.in-Some.wish ∷ []) = (let l = length_push c.loop-wish.yielded c.in-Some.wish in omega arith) in
    let matched = c.in_ok-wished-in-None-forbidden_by.field-0 in
    let goes = goes_more c.args.outcome c.args.wishes.items (steps_of c.args.steps.now.items) done c.in-Some.wish here c.loop-wish.next (c.loop-wish.next + 1) matched (steps_of c.loop-wish.steps.items) (steps_of c.loop-wish.steps.items) c.loop-wish.matched.items c.push-in-None-forbidden_by.new.self.items c.in_ok-push-in-None-forbidden_by.ensures.items
    (λ rest after more. turns_free c.args.outcome.chosen.now c.args.outcome.turns.now c.args.outcome.places.now c.in-Some.wish (drop (suc done) c.args.wishes.items) c.loop-wish.next (steps_of c.loop-wish.steps.items) matched rest after c.in-None-forbidden_by.is c.in_ok-wished-in-None-forbidden_by.ensures.turn
    (let one : c.loop-wish.next + 1 ≡ suc c.loop-wish.next = omega arith in subst (λ (k : ℕ). AreTurnsFor c.args.outcome.chosen.now c.args.outcome.turns.now c.args.outcome.places.now (drop (suc done) c.args.wishes.items) k (steps_of c.loop-wish.steps.items) rest after) one more)) c.loop-wish.invariant.goes in
    record {
      goes = subst (λ (k : ℕ). Goes c.args.outcome c.args.wishes.items (steps_of c.args.steps.now.items) done c.in-Some.wish here c.loop-wish.next k (c.loop-wish.next + 1) (steps_of c.loop-wish.steps.items) c.push-in-None-forbidden_by.new.self.items) longer goes;
      few = (let l : length c.push-in-None-forbidden_by.new.self.items ≡ length c.loop-wish.matched.items + 1 = ap length c.in_ok-push-in-None-forbidden_by.ensures.items ∙ length_push c.loop-wish.matched.items matched in let f : c.loop-wish.next < length c.loop-wish.matched.items = c.loop-wish.invariant.few in omega arith);
    }

pub returns-clause-turns : goal.returns-clause-turns
returns-clause-turns c =
    let t = YieldsList-end (YieldsList-from_vec {s = c.into_iter-wish-iterator.result} c.args.wishes.items c.into_iter-wish-iterator.ensures.into_iter_gives.0 (c.into_iter-wish-iterator.ensures.into_iter_gives.1 ∙ c.args.wishes.ok.0)) c.loop-wish.yielded c.loop-wish.wish-iterator c.loop-wish.yielded_by c.next.result c.next.new.self c.in-None.is c.next.ensures.steps in
    subst (λ (ts : List Turn). AreReportTurns c.args.outcome c.args.wishes.items (steps_of c.args.steps.now.items) ts (steps_of c.loop-wish.steps.items)) (append-nil c.loop-wish.matched.items)
    (c.loop-wish.invariant.goes [] (steps_of c.loop-wish.steps.items) (subst (λ (ws : List Wish). AreTurnsFor c.args.outcome.chosen.now c.args.outcome.turns.now c.args.outcome.places.now ws c.loop-wish.next (steps_of c.loop-wish.steps.items) [] (steps_of c.loop-wish.steps.items)) (sym (drop_all (length c.loop-wish.yielded) c.args.wishes.items t.1)) (refl, refl)))

pub returns-in_err-step-in-Some-forbidden_by-clause-ids : goal.returns-in_err-step-in-Some-forbidden_by-clause-ids
returns-in_err-step-in-Some-forbidden_by-clause-ids c = search (rules, LacksStepNumber.steps)

pub returns-in_err-wished-in-None-forbidden_by-clause-ids : goal.returns-in_err-wished-in-None-forbidden_by-clause-ids
returns-in_err-wished-in-None-forbidden_by-clause-ids c = search (rules, LacksStepNumber.places)
