use Rattle.std.proofs.Common.{◌≡◌, ◌||◌, inl, inr, Some, true, sym, ◌∙◌}
use Rattle.std.proofs.lemmas.Bool.{or_left, or_right}
use Rattle.std.proofs.lemmas.List.Elements.{All-push}
use Rattle.resolvo_store_core.specs.Signed.{Signed, value_under, is_false}
use Rattle.resolvo_store_core.specs.Pairs.{watches}
use Rattle.resolvo_store_core.specs.Values.{value_at}
use Rattle.resolvo_store_core.proofs.ClauseValues.{one_more, is_among}
use Rattle.resolvo_store_core.proofs.watched_literals.WatchedLiterals.next_unwatched_literal.Goals as goal

pub loop-literal-preserved : goal.loop-literal-preserved
loop-literal-preserved g c =
    let l = c.in-Some.literal in
    let here : (watches (Some c.args.self.now) l || is_false (value_under (value_at c.args.values.now) l)) ≡ true = elim c.else-not-is_watched.either [
      | inl h ↦ or_right (watches (Some c.args.self.now) l) (is_false (value_under (value_at c.args.values.now) l)) (sym c.is_false-is_false.ensures ∙ h.1)
      | inr h ↦ or_left (watches (Some c.args.self.now) l) (is_false (value_under (value_at c.args.values.now) l)) (sym c.watches-is_watched.ensures ∙ h)
    ] in
    record {
      whole = one_more _ _ _ _ _ c.loop-literal.invariant.whole c.in-Some.ensures.steps;
      passed = All-push (λ (m : Signed). (watches (Some c.args.self.now) m || is_false (value_under (value_at c.args.values.now) m)) ≡ true) c.loop-literal.yielded l c.loop-literal.invariant.passed here;
    }

pub returns-then-not-is_false : goal.returns-then-not-is_false
returns-then-not-is_false g c = (
  is_among c.loop-literal.yielded _ _ _ c.in-Some.literal c.loop-literal.invariant.whole c.in-Some.ensures.steps,
  sym c.watches-is_watched.ensures ∙ c.if-not-is_watched.true,
  sym c.is_false-is_false.ensures ∙ c.if-not-is_false.true,
)
