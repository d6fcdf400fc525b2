use Rattle.std.proofs.Common.{◌≡◌, ◌+◌, ◌∷◌, [], ◌++◌, Some, length, length-append, sym, ap, subst, refl, ◌∙◌, arith}
use Rattle.std.proofs.lemmas.List.{nil_from_length}
use Rattle.std.proofs.lemmas.List.Elements.{All-nil, All-pop, All-same, All-cons}
use Rattle.resolvo_graph.specs.declared.walk.Step.TheVariants.{Enter, Leave}
use Rattle.resolvo_graph.proofs.WalkLemmas.{entered, IsKnown, Gives, starts, leaves_next, enters, known_entered, less_left, ends}
use Rattle.resolvo_graph.proofs.walk.Walk.run.Goals as goal

pub loop-step-init : goal.loop-step-init
loop-step-init g c =
    let root : c.root_node.result ≡ record { 0 = 0 } = ap (λ n. record { 0 = n }) c.root_node.ensures in
    let stack : c.push.new.self.items ≡ Enter (record { 0 = 0 }) ∷ [] = c.in_ok-push.ensures.items ∙ ap (λ xs. xs ++ Enter c.root_node.result ∷ []) c.requires.stack ∙ ap (λ n. Enter n ∷ []) root in
    record {
      known = All-same (IsKnown (entered c.args.graph.now)) c.push.new.self.items (Enter (record { 0 = 0 }) ∷ []) stack (All-cons (IsKnown (entered c.args.graph.now)) (Enter (record { 0 = 0 })) [] refl (All-nil (IsKnown (entered c.args.graph.now))));
      gives = starts c.args.graph.now c.push.new.self.items c.args.self.now.seen.keys c.args.self.now.order.items stack c.requires.seen c.requires.order;
    }

pub loop-step-smaller : goal.loop-step-smaller
loop-step-smaller g c =
    let n = c.in-Leave.node in
    let below = c.pop.new.self.items in
    let at : c.loop-step.self.stack.items ≡ below ++ Leave n ∷ [] = c.in-Some.ensures.items ∙ ap (λ s. below ++ s ∷ []) c.in-Leave.is in
    let long : length c.loop-step.self.stack.items ≡ length below + 1 = ap length at ∙ length-append below (Leave n ∷ []) in
    omega arith

pub loop-step-preserved : goal.loop-step-preserved
loop-step-preserved g c =
    let n = c.in-Leave.node in
    let below = c.pop.new.self.items in
    let at : c.loop-step.self.stack.items ≡ below ++ Leave n ∷ [] = c.in-Some.ensures.items ∙ ap (λ s. below ++ s ∷ []) c.in-Leave.is in
    record {
      known = (All-pop (IsKnown (entered c.args.graph.now)) (below ++ Leave n ∷ []) below (Some (Leave n)) refl (All-same (IsKnown (entered c.args.graph.now)) (below ++ Leave n ∷ []) c.loop-step.self.stack.items (sym at) c.loop-step.invariant.known)).0;
      gives = leaves_next c.args.graph.now c.loop-step.self.stack.items below c.loop-step.self.seen.keys c.loop-step.self.order.items c.push-in-Leave.new.self.items n c.loop-step.invariant.gives at c.in_ok-push-in-Leave.ensures.items;
    }

pub loop-step-smaller-in-Continue-branch-2 : goal.loop-step-smaller-in-Continue-branch-2
loop-step-smaller-in-Continue-branch-2 g c =
    let n = c.in-Enter.node in
    let below = c.pop.new.self.items in
    let at : c.loop-step.self.stack.items ≡ below ++ Enter n ∷ [] = c.in-Some.ensures.items ∙ ap (λ s. below ++ s ∷ []) c.in-Enter.is in
    less_left c.args.graph.now c.loop-step.self.stack.items below c.enter.new.self.stack.items c.loop-step.self.seen.keys c.enter.new.self.seen.keys n at (All-pop (IsKnown (entered c.args.graph.now)) (below ++ Enter n ∷ []) below (Some (Enter n)) refl (All-same (IsKnown (entered c.args.graph.now)) (below ++ Enter n ∷ []) c.loop-step.self.stack.items (sym at) c.loop-step.invariant.known)).1 c.in_ok-enter-in-Enter.ensures.seen c.in_ok-enter-in-Enter.ensures.stack

pub loop-step-preserved-in-Continue-branch-2 : goal.loop-step-preserved-in-Continue-branch-2
loop-step-preserved-in-Continue-branch-2 g c =
    let n = c.in-Enter.node in
    let below = c.pop.new.self.items in
    let at : c.loop-step.self.stack.items ≡ below ++ Enter n ∷ [] = c.in-Some.ensures.items ∙ ap (λ s. below ++ s ∷ []) c.in-Enter.is in
    let order : c.loop-step.self.order.items ≡ c.enter.new.self.order.items = sym (ap (λ v. v.items) c.in_ok-enter-in-Enter.ensures.order) in
    record {
      known = known_entered c.args.graph.now below c.enter.new.self.stack.items c.loop-step.self.seen.keys n (All-pop (IsKnown (entered c.args.graph.now)) (below ++ Enter n ∷ []) below (Some (Enter n)) refl (All-same (IsKnown (entered c.args.graph.now)) (below ++ Enter n ∷ []) c.loop-step.self.stack.items (sym at) c.loop-step.invariant.known)).0 c.in_ok-enter-in-Enter.ensures.stack;
      gives = subst (Gives c.args.graph.now c.enter.new.self.stack.items c.enter.new.self.seen.keys) order (enters c.args.graph.now c.loop-step.self.stack.items below c.enter.new.self.stack.items c.loop-step.self.seen.keys c.enter.new.self.seen.keys c.loop-step.self.order.items n c.loop-step.invariant.gives at c.in_ok-enter-in-Enter.ensures.seen c.in_ok-enter-in-Enter.ensures.stack);
    }

pub returns-clause-order : goal.returns-clause-order
returns-clause-order g c = ends c.args.graph.now c.loop-step.self.stack.items c.loop-step.self.seen.keys c.loop-step.self.order.items c.loop-step.invariant.gives (nil_from_length c.loop-step.self.stack.items (omega (arith, c.loop-step.self.stack.ok, c.in_default.ensures.cases)))
