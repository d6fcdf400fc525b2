use Rattle.resolvo_encoder.specs.Steps.{AddsParent}
use Rattle.resolvo_turn.proofs.turn.add_new_chosen.Given as goal

-- parents were added
abbrev pub invariant-loop-place : goal.invariant-loop-place
invariant-loop-place g l = AddsParent l.initial.encoding l.encoding
