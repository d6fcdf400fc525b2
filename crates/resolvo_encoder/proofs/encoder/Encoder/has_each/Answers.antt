use Rattle.std.proofs.Common.{◌≡◌, ◌+◌, ◌∷◌, ◌++◌, [], ◌∙◌, List, Some, take, subst, sym, ap}
use Rattle.std.specs.Prelude.{Contains}
use Rattle.std.proofs.lemmas.List.{take_more, take_all}
use Rattle.std.proofs.lemmas.Option.{slice_get-get_or}
use Rattle.resolvo_sat.proofs.Lists.{contains_none}
use Rattle.resolvo_state.proofs.Positions.{get_contains}
use Rattle.resolvo_store_core.specs.Deferred.{candidates_of}
use Rattle.resolvo_store_core.specs.declared.conditions.DeferredConjunct.{DeferredConjunct}
use Rattle.resolvo_encoder.specs.Conditions.{IsOneChosen}
use Rattle.resolvo_encoder.proofs.FireLemmas.{none_more}
use Rattle.resolvo_encoder.proofs.encoder.Encoder.has_each.Goals as goal

pub loop-conjunct-init : goal.loop-conjunct-init
loop-conjunct-init g c = λ x h. absurd (contains_none x h)

pub returns-then-not-has_one-clause-missing : goal.returns-then-not-has_one-clause-missing
returns-then-not-has_one-clause-missing g c = λ h. (
  c.conjunct-item.result,
  get_contains c.args.conjuncts.now c.loop-conjunct.conjunct-index c.conjunct-item.result (slice_get-get_or c.args.conjuncts.now c.loop-conjunct.conjunct-index c.conjunct-item.result c.loop-conjunct-test.true ∙ ap Some (sym c.conjunct-item.is)),
  λ k. c.has_one.ensures.none c.if-not-has_one.true (subst (λ (xs : List _). IsOneChosen c.args.self.now xs) (sym c.candidates.ensures) k),
)

pub loop-conjunct-preserved : goal.loop-conjunct-preserved
loop-conjunct-preserved g c =
    let more : take (c.loop-conjunct.conjunct-index + 1) c.args.conjuncts.now ≡ take c.loop-conjunct.conjunct-index c.args.conjuncts.now ++ c.conjunct-item.result ∷ [] =
    take_more c.args.conjuncts.now c.loop-conjunct.conjunct-index c.conjunct-item.result c.loop-conjunct-test.true ∙ ap (λ (x : DeferredConjunct _). take c.loop-conjunct.conjunct-index c.args.conjuncts.now ++ x ∷ []) (sym c.conjunct-item.is) in
    none_more (λ (x : DeferredConjunct _). IsOneChosen c.args.self.now (candidates_of x)) (take c.loop-conjunct.conjunct-index c.args.conjuncts.now) c.conjunct-item.result (take (c.loop-conjunct.conjunct-index + 1) c.args.conjuncts.now) more c.loop-conjunct.invariant
    (subst (λ (xs : List _). IsOneChosen c.args.self.now xs) c.candidates.ensures (c.has_one.ensures.chosen c.if-not-has_one.false))

pub returns-clause-chosen : goal.returns-clause-chosen
returns-clause-chosen g c = λ h x present. c.loop-conjunct.invariant x (subst (λ (xs : List (DeferredConjunct _)). Contains xs x) (sym (take_all c.loop-conjunct.conjunct-index c.args.conjuncts.now c.loop-conjunct-test.false)) present)
