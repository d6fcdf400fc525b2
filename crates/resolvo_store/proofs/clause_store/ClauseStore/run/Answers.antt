use Rattle.std.proofs.Common.{◌≡◌, ◌+◌, ◌∷◌, ◌++◌, [], List, map, take, cond, is_ok, sym, ◌∙◌, ap, subst}
use Rattle.std.proofs.lemmas.List.{take_more, map-append}
use Rattle.resolvo_store.specs.Stored.{plain, Like}
use Rattle.resolvo_store.specs.Calls.{PlainAnswer, plain_answer, step, after, answers_of}
use Rattle.resolvo_store.specs.declared.store_call.StoreAnswer.{StoreAnswer}
use Rattle.resolvo_store.proofs.Alike.{like_trans, step_like, answer_like, after_more, answers_more}
use Rattle.resolvo_store.proofs.clause_store.ClauseStore.run.Goals as goal

pub loop-call-preserved : goal.loop-call-preserved
loop-call-preserved g c =
    let score = g.N.Scores.ScoreMap.score_of in
    let eq = g.N.PartialEq.eq in
    let s = plain score c.args.self.now in
    let cs = take c.loop-call.call-index c.args.calls.now in
    let d = c.call-item.result in
    let inv = c.loop-call.invariant in
    let more : take (c.loop-call.call-index + 1) c.args.calls.now ≡ cs ++ d ∷ [] = take_more c.args.calls.now c.loop-call.call-index d c.loop-call-test.true ∙ ap (λ x. cs ++ x ∷ []) (sym c.call-item.is) in
    let a = c.in_ok-do_call.field-0 in
    let pushed : c.push.new.self.items ≡ c.loop-call.answers.items ++ a ∷ [] = c.push.ensures.items ∙ ap (λ r. cond (is_ok r) (c.reserve.new.self.items ++ a ∷ []) c.reserve.new.self.items) c.unwrap.ensures ∙ ap (λ (xs : List StoreAnswer). xs ++ a ∷ []) c.reserve.ensures.items in
    record {
      answers = ap (map plain_answer) pushed ∙ map-append plain_answer c.loop-call.answers.items (a ∷ []) ∙ ap (λ (xs : List PlainAnswer). xs ++ plain_answer a ∷ []) inv.answers
          ∙ ap (λ (x : PlainAnswer). answers_of eq s cs ++ x ∷ []) (c.in_ok-do_call.ensures.answer ∙ answer_like (plain score c.loop-call.self) (after eq s cs) inv.store d)
          ∙ sym (ap (answers_of eq s) more ∙ answers_more eq s cs d);
      store = subst (λ t. Like (plain score c.do_call.new.self) t) (sym (ap (after eq s) more ∙ after_more eq s cs d))
          (like_trans (plain score c.do_call.new.self) (step eq (plain score c.loop-call.self) d) (step eq (after eq s cs) d) c.in_ok-do_call.ensures.store (step_like (plain score c.loop-call.self) (after eq s cs) inv.store eq d));
    }
