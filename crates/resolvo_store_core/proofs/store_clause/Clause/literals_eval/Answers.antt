use Rattle.std.proofs.Common.{◌≡◌, Some, false, sym, ◌∙◌, ap}
use Rattle.resolvo_store_core.specs.Signed.{value_under}
use Rattle.resolvo_store_core.specs.Values.{value_at}
use Rattle.resolvo_store_core.proofs.ClauseValues.{one_more, is_among, value_false_more, value_open_more}
use Rattle.resolvo_store_core.proofs.store_clause.Clause.literals_eval.Goals as goal

pub loop-literal-preserved-in-Some-false : goal.loop-literal-preserved-in-Some-false
loop-literal-preserved-in-Some-false g c =
    let is : value_under (value_at c.args.values.now) c.in-Some.literal ≡ Some false = sym c.in-Some-false.ensures ∙ ap Some c.in-Some-false.field-0-test in
    record {
      whole = one_more _ _ _ _ _ c.loop-literal.invariant.whole c.in-Some.ensures.steps;
      value = value_false_more (value_under (value_at c.args.values.now)) c.loop-literal.yielded c.in-Some.literal c.loop-literal.value c.loop-literal.invariant.value c.loop-literal.invariant.not_true is;
      not_true = c.loop-literal.invariant.not_true;
    }

pub loop-literal-preserved : goal.loop-literal-preserved
loop-literal-preserved g c =
    record {
      whole = one_more _ _ _ _ _ c.loop-literal.invariant.whole c.in-Some.ensures.steps;
      value = value_open_more (value_under (value_at c.args.values.now)) c.loop-literal.yielded c.in-Some.literal c.loop-literal.value c.loop-literal.invariant.value c.loop-literal.invariant.not_true (sym c.in-None-eval.ensures);
      not_true = λ h. cc;
    }

pub returns-in-Some-true : goal.returns-in-Some-true
returns-in-Some-true g c = (
  c.in-Some.literal,
  is_among c.loop-literal.yielded _ _ _ c.in-Some.literal c.loop-literal.invariant.whole c.in-Some.ensures.steps,
  sym c.in-Some-true.ensures ∙ ap Some c.in-Some-true.field-0-test,
)
