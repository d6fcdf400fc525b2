use Rattle.std.proofs.Common.{◌≡◌, false, ◌+◌, ◌∷◌, ◌++◌, [], ◌∙◌, List, None, Some, take, subst, sym, ap}
use Rattle.std.specs.Prelude.{Contains}
use Rattle.std.proofs.lemmas.List.{take_more, take_all}
use Rattle.std.proofs.lemmas.Option.{slice_get-get_or}
use Rattle.resolvo_packages.specs.PackageSource.{offered_solvables}
use Rattle.resolvo_sat.proofs.Lists.{contains_none}
use Rattle.resolvo_state.proofs.Positions.{get_contains}
use Rattle.resolvo_encoder.specs.declared.conditions.ConditionSet.{ConditionSet}
use Rattle.resolvo_encoder.proofs.FireLemmas.{none_more}
use Rattle.resolvo_encoder.proofs.RequireLemmas.{some_one}
use Rattle.resolvo_encoder.proofs.conditions.keeps_out.Goals as goal

pub loop-set-init : goal.loop-set-init
loop-set-init g c = λ x h. absurd (contains_none x h)

pub returns-in-None-clause-within : goal.returns-in-None-clause-within
returns-in-None-clause-within g c = λ h (s, x, is, present, unmarked, there).
    let none : None ≡ Some s = sym c.in-None.is ∙ is in
    absurd cc

pub returns-then-excludes-clause-out : goal.returns-then-excludes-clause-out
returns-then-excludes-clause-out g c = λ h. (
  c.in-Some.solvable,
  c.set-item.result,
  c.in-Some.is,
  get_contains c.args.sets.now c.loop-set.set-index c.set-item.result (slice_get-get_or c.args.sets.now c.loop-set.set-index c.set-item.result c.loop-set-test.true ∙ ap Some (sym c.set-item.is)),
  (c.excludes.ensures.out c.if-excludes.true).0,
  (c.excludes.ensures.out c.if-excludes.true).1,
)

pub loop-set-preserved : goal.loop-set-preserved
loop-set-preserved g c =
    let more : take (c.loop-set.set-index + 1) c.args.sets.now ≡ take c.loop-set.set-index c.args.sets.now ++ c.set-item.result ∷ [] =
    take_more c.args.sets.now c.loop-set.set-index c.set-item.result c.loop-set-test.true ∙ ap (λ (x : ConditionSet _ _). take c.loop-set.set-index c.args.sets.now ++ x ∷ []) (sym c.set-item.is) in
    none_more (λ (x : ConditionSet _ _). x.many ≡ false → Contains (offered_solvables x.outside.items) c.in-Some.solvable → ⊥) (take c.loop-set.set-index c.args.sets.now) c.set-item.result (take (c.loop-set.set-index + 1) c.args.sets.now) more c.loop-set.invariant
    (λ unmarked present. c.excludes.ensures.within c.if-excludes.false unmarked present)

pub returns-after-loop-set-clause-within : goal.returns-after-loop-set-clause-within
returns-after-loop-set-clause-within g c = λ h (s, x, is, present, unmarked, there).
    let same : c.in-Some.solvable ≡ s = some_one c.in-Some.solvable s (sym c.in-Some.is ∙ is) in
    c.loop-set.invariant x (subst (λ (xs : List (ConditionSet _ _)). Contains xs x) (sym (take_all c.loop-set.set-index c.args.sets.now c.loop-set-test.false)) present) unmarked (subst (λ s. Contains (offered_solvables x.outside.items) s) (sym same) there)
