use Rattle.std.proofs.Common.{◌≡◌, ◌++◌, ◌∷◌, [], true, false, length, filter, Some, sym, ap, subst, ◌∙◌, arith, get_or, replicate, vec_len}
use Rattle.std.proofs.lemmas.Bool.{both_ways}
use Rattle.std.proofs.lemmas.List.{nil_from_length, get_or_read}
use Rattle.resolvo_proof.specs.Order.{is_earlier}
use Rattle.resolvo_proof.proofs.OrderWalk.{IsWalk, none_yet, walk_starts, walk_of_none, walk_again, walk_rule, walk_derived, walk_ends, top_within, smaller, few_causes, step_at}
use Rattle.resolvo_proof.proofs.rules.conflict_rules.Goals as goal
use Rattle.resolvo_proof.proofs.rules.conflict_rules.Goals.{in-Some+in_ok-push, in_default}

pub loop-place-init : goal.loop-place-init
loop-place-init g c =
    let n = length c.args.steps.now in
    let unmet : c.resize.new.self.items ≡ replicate n false = none_yet n (vec_len c.new-seen.result) c.new-seen.result.items c.resize.new.self.items c.in_ok-resize.ensures.items c.new-seen.ensures.items c.new-seen.ensures.len in
    elim c.match-checked_sub.branch [
      | in-Some+in_ok-push w ↦
          let stack : c.match-checked_sub.stack.items ≡ w.in-Some.last ∷ [] = ap (λ v. v.items) w.stack-is ∙ w.in_ok-push.ensures.items ∙ ap (λ xs. xs ++ w.in-Some.last ∷ []) c.new-stack.ensures.items in
          subst (λ xs. IsWalk c.args.steps.now xs c.resize.new.self.items c.new-order.result.items) (sym stack) (walk_starts c.args.steps.now c.resize.new.self.items c.new-order.result.items w.in-Some.last unmet c.new-order.ensures.items w.in-Some.ensures.0 (sym w.in-Some.ensures.1))
      | in_default w ↦
          walk_of_none c.args.steps.now c.resize.new.self.items c.match-checked_sub.stack.items c.new-order.result.items unmet c.new-order.ensures.items (ap (λ v. v.items) w.stack-is ∙ c.new-stack.ensures.items) (omega (arith, w.in_default.ensures))
    ]

pub index-requires : goal.index-requires
index-requires g c =
    let in_range = top_within c.args.steps.now c.loop-place.stack.items c.pop.new.self.items c.loop-place.seen.items c.loop-place.order.items c.in-Some-pop.place c.loop-place.invariant c.in-Some-pop.ensures.items in
    omega (arith, in_range, c.loop-place.invariant.long, c.loop-place.seen.ok.0)

pub index_mut-requires : goal.index_mut-requires
index_mut-requires g c =
    let in_range = top_within c.args.steps.now c.loop-place.stack.items c.pop.new.self.items c.loop-place.seen.items c.loop-place.order.items c.in-Some-pop.place c.loop-place.invariant c.in-Some-pop.ensures.items in
    omega (arith, in_range, c.loop-place.invariant.long, c.loop-place.seen.ok.0)

pub offset_bounds-steps-place : goal.offset_bounds-steps-place
offset_bounds-steps-place g c =
    let in_range = top_within c.args.steps.now c.loop-place.stack.items c.pop.new.self.items c.loop-place.seen.items c.loop-place.order.items c.in-Some-pop.place c.loop-place.invariant c.in-Some-pop.ensures.items in
    omega (arith, in_range)

pub bounds-steps-place : goal.bounds-steps-place
bounds-steps-place g c =
    top_within c.args.steps.now c.loop-place.stack.items c.pop.new.self.items c.loop-place.seen.items c.loop-place.order.items c.in-Some-pop.place c.loop-place.invariant c.in-Some-pop.ensures.items

pub loop-place-smaller-in-Continue-branch-3 : goal.loop-place-smaller-in-Continue-branch-3
loop-place-smaller-in-Continue-branch-3 g c =
    let in_range = top_within c.args.steps.now c.loop-place.stack.items c.pop.new.self.items c.loop-place.seen.items c.loop-place.order.items c.in-Some-pop.place c.loop-place.invariant c.in-Some-pop.ensures.items in
    let unmet : get_or c.loop-place.seen.items c.in-Some-pop.place false ≡ false = sym (get_or_read c.loop-place.seen.items c.in-Some-pop.place c.index.result.now (omega (arith, in_range, c.loop-place.invariant.long)) c.index.ensures false) ∙ c.if-not-index.true in
    smaller c.args.steps.now c.loop-place.stack.items c.pop.new.self.items c.pop.new.self.items c.loop-place.seen.items c.in-Some-pop.place c.index-steps-place.result c.loop-place.invariant.long (step_at c.args.steps.now c.in-Some-pop.place c.index-steps-place.result in_range c.index-steps-place.is) unmet c.in-Some-pop.ensures.items (rw c.in-Rule.is (omega arith))

pub loop-place-preserved-in-Continue-branch-3 : goal.loop-place-preserved-in-Continue-branch-3
loop-place-preserved-in-Continue-branch-3 g c =
    let in_range = top_within c.args.steps.now c.loop-place.stack.items c.pop.new.self.items c.loop-place.seen.items c.loop-place.order.items c.in-Some-pop.place c.loop-place.invariant c.in-Some-pop.ensures.items in
    let unmet : get_or c.loop-place.seen.items c.in-Some-pop.place false ≡ false = sym (get_or_read c.loop-place.seen.items c.in-Some-pop.place c.index.result.now (omega (arith, in_range, c.loop-place.invariant.long)) c.index.ensures false) ∙ c.if-not-index.true in
    walk_rule c.args.steps.now c.loop-place.stack.items c.pop.new.self.items c.loop-place.seen.items c.loop-place.order.items c.in-Some-pop.place c.loop-place.invariant c.in-Some-pop.ensures.items c.in-Rule.field-0 c.push-in-Rule.new.self.items
    (step_at c.args.steps.now c.in-Some-pop.place c.index-steps-place.result in_range c.index-steps-place.is ∙ ap Some c.in-Rule.is) (both_ways (get_or c.loop-place.seen.items c.in-Some-pop.place false) unmet) c.in_ok-push-in-Rule.ensures.items

pub loop-place-smaller-in-Continue-branch-4 : goal.loop-place-smaller-in-Continue-branch-4
loop-place-smaller-in-Continue-branch-4 g c =
    let in_range = top_within c.args.steps.now c.loop-place.stack.items c.pop.new.self.items c.loop-place.seen.items c.loop-place.order.items c.in-Some-pop.place c.loop-place.invariant c.in-Some-pop.ensures.items in
    let unmet : get_or c.loop-place.seen.items c.in-Some-pop.place false ≡ false = sym (get_or_read c.loop-place.seen.items c.in-Some-pop.place c.index.result.now (omega (arith, in_range, c.loop-place.invariant.long)) c.index.ensures false) ∙ c.if-not-index.true in
    let put : c.stack_causes.new.stack.items ≡ c.pop.new.self.items ++ filter (is_earlier c.in-Some-pop.place) c.in-Derived.causes.items = c.in_ok-stack_causes-in-Derived.ensures.put ∙ ap (λ xs. c.pop.new.self.items ++ filter (is_earlier c.in-Some-pop.place) xs) c.as_slice.ensures.value in
    smaller c.args.steps.now c.loop-place.stack.items c.pop.new.self.items c.stack_causes.new.stack.items c.loop-place.seen.items c.in-Some-pop.place c.index-steps-place.result c.loop-place.invariant.long (step_at c.args.steps.now c.in-Some-pop.place c.index-steps-place.result in_range c.index-steps-place.is) unmet c.in-Some-pop.ensures.items
    (rw c.in-Derived.is (few_causes c.args.steps.now c.pop.new.self.items c.stack_causes.new.stack.items c.in-Derived.causes.items c.in-Some-pop.place put))

pub loop-place-preserved-in-Continue-branch-4 : goal.loop-place-preserved-in-Continue-branch-4
loop-place-preserved-in-Continue-branch-4 g c =
    let in_range = top_within c.args.steps.now c.loop-place.stack.items c.pop.new.self.items c.loop-place.seen.items c.loop-place.order.items c.in-Some-pop.place c.loop-place.invariant c.in-Some-pop.ensures.items in
    let unmet : get_or c.loop-place.seen.items c.in-Some-pop.place false ≡ false = sym (get_or_read c.loop-place.seen.items c.in-Some-pop.place c.index.result.now (omega (arith, in_range, c.loop-place.invariant.long)) c.index.ensures false) ∙ c.if-not-index.true in
    let put : c.stack_causes.new.stack.items ≡ c.pop.new.self.items ++ filter (is_earlier c.in-Some-pop.place) c.in-Derived.causes.items = c.in_ok-stack_causes-in-Derived.ensures.put ∙ ap (λ xs. c.pop.new.self.items ++ filter (is_earlier c.in-Some-pop.place) xs) c.as_slice.ensures.value in
    walk_derived c.args.steps.now c.loop-place.stack.items c.pop.new.self.items c.loop-place.seen.items c.loop-place.order.items c.in-Some-pop.place c.loop-place.invariant c.in-Some-pop.ensures.items c.in-Derived.literals c.in-Derived.causes c.stack_causes.new.stack.items
    (step_at c.args.steps.now c.in-Some-pop.place c.index-steps-place.result in_range c.index-steps-place.is ∙ ap Some c.in-Derived.is) (both_ways (get_or c.loop-place.seen.items c.in-Some-pop.place false) unmet) put

pub loop-place-preserved : goal.loop-place-preserved
loop-place-preserved g c =
    let in_range = top_within c.args.steps.now c.loop-place.stack.items c.pop.new.self.items c.loop-place.seen.items c.loop-place.order.items c.in-Some-pop.place c.loop-place.invariant c.in-Some-pop.ensures.items in
    let met : get_or c.loop-place.seen.items c.in-Some-pop.place false ≡ true = sym (get_or_read c.loop-place.seen.items c.in-Some-pop.place c.index.result.now (omega (arith, in_range, c.loop-place.invariant.long)) c.index.ensures false) ∙ c.if-not-index.false in
    walk_again c.args.steps.now c.loop-place.stack.items c.pop.new.self.items c.loop-place.seen.items c.loop-place.order.items c.in-Some-pop.place c.loop-place.invariant c.in-Some-pop.ensures.items met

pub returns-clause-order : goal.returns-clause-order
returns-clause-order g c = walk_ends c.args.steps.now c.loop-place.stack.items c.loop-place.seen.items c.loop-place.order.items c.loop-place.invariant (nil_from_length c.loop-place.stack.items (omega (arith, c.loop-place.stack.ok, c.in_default-pop.ensures.cases)))
