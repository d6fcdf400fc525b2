use Rattle.std.proofs.Common.{◌≡◌, true, false, ◌++◌, sym, ◌∙◌, ap}
use Rattle.std.proofs.lemmas.List.{append-nil}
use Rattle.resolvo_store_core.specs.Signed.{value_under, is_false}
use Rattle.resolvo_store_core.specs.Values.{value_at}
use Rattle.resolvo_store_core.proofs.ClauseValues.{one_more, is_among}
use Rattle.resolvo_store_core.proofs.Watched.{differs_sym}
use Rattle.resolvo_store_core.proofs.Seconds.{again, other_false, second_found}
use Rattle.resolvo_store_core.proofs.watched_literals.second_to_watch.Goals as goal

pub returns : goal.returns
returns g c =
    let ended = c.in-None.ensures.steps.0 in
    second_found (value_under (value_at c.args.values.now)) c.args.first c.loop-literal.yielded _ c.loop-literal.second c.loop-literal.invariant.so_far
    (sym (append-nil c.loop-literal.yielded) ∙ ap (λ xs. c.loop-literal.yielded ++ xs) (sym ended) ∙ c.loop-literal.invariant.whole)

pub loop-literal-preserved-then-not-is_first : goal.loop-literal-preserved-then-not-is_first
loop-literal-preserved-then-not-is_first g c = record {
  whole = one_more _ _ _ _ _ c.loop-literal.invariant.whole c.in-Some.ensures.steps;
  so_far = other_false (value_under (value_at c.args.values.now)) c.args.first c.loop-literal.yielded c.in-Some.literal c.loop-literal.second c.loop-literal.invariant.so_far (sym c.eq-is_first.ensures ∙ c.if-not-is_first.true) (sym c.is_false-is_false.ensures ∙ c.if-not-is_false.false);
}

pub loop-literal-preserved : goal.loop-literal-preserved
loop-literal-preserved g c = record {
  whole = one_more _ _ _ _ _ c.loop-literal.invariant.whole c.in-Some.ensures.steps;
  so_far = again (value_under (value_at c.args.values.now)) c.args.first c.loop-literal.yielded c.in-Some.literal c.loop-literal.second c.loop-literal.invariant.so_far (sym c.eq-is_first.ensures ∙ c.if-not-is_first.false);
}

pub returns-then-not-is_false : goal.returns-then-not-is_false
returns-then-not-is_false g c =
    let not_false : is_false (value_under (value_at c.args.values.now) c.in-Some.literal) ≡ false = sym c.is_false-is_false.ensures ∙ c.if-not-is_false.true in (
      is_among c.loop-literal.yielded _ _ _ c.in-Some.literal c.loop-literal.invariant.whole c.in-Some.ensures.steps,
      differs_sym c.in-Some.literal c.args.first (sym c.eq-is_first.ensures ∙ c.if-not-is_first.true),
      λ h. let both : false ≡ true = sym not_false ∙ h in absurd cc,
    )
