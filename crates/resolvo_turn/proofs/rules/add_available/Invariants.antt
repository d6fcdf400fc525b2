use Rattle.resolvo_encoder.specs.Steps.{AddsParent}
use Rattle.resolvo_turn.proofs.rules.add_available.Given as goal

-- parents were added
abbrev pub invariant-loop-one : goal.invariant-loop-one
invariant-loop-one g l = AddsParent l.initial.encoding l.encoding
