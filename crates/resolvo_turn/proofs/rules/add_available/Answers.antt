use Rattle.std.proofs.Common.{sym, subst}
use Rattle.resolvo_encoder.specs.declared.encoder.Encoder.{Encoder}
use Rattle.resolvo_encoder.specs.Steps.{AddsParent}
use Rattle.resolvo_turn.proofs.AddLemmas.{parents_none, parents_then}
use Rattle.resolvo_turn.proofs.rules.add_available.Goals.{then-are_dependencies_available_for+in_ok-add_parent, else-are_dependencies_available_for}
use Rattle.resolvo_turn.proofs.rules.add_available.Goals as goal

pub loop-one-init : goal.loop-one-init
loop-one-init g c = parents_none c.args.encoding.now

pub loop-one-preserved : goal.loop-one-preserved
loop-one-preserved g c = elim c.if-are_dependencies_available_for.branch [
  | then-are_dependencies_available_for+in_ok-add_parent w ↦ subst (λ (x : Encoder _ _). AddsParent c.args.encoding.now x) (sym w.encoding-is) (parents_then c.args.encoding.now c.loop-one.encoding w.add_parent.new.self c.loop-one.invariant w.in_ok-add_parent.ensures.added)
  | else-are_dependencies_available_for w ↦ subst (λ (x : Encoder _ _). AddsParent c.args.encoding.now x) (sym w.encoding-is) c.loop-one.invariant
]
