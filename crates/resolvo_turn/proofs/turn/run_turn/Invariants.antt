use Rattle.std.proofs.Common.{◌≡◌}
use Rattle.resolvo_encoder.specs.Base.{KeepsTurn}
use Rattle.resolvo_encoder.specs.Steps.{IsBuilt}
use Rattle.resolvo_turn.specs.Encoder.{AddsParents}
use Rattle.resolvo_turn.specs.Turn.{AreTakenParents, IsRooted, rounds_left}
use Rattle.resolvo_turn.specs.TurnRules.{StaysInOrderOf}
use Rattle.resolvo_turn.proofs.turn.run_turn.Given as goal

-- the encoding is one of the packages, and the root is the first parent
abbrev pub invariant-loop-refusal : goal.invariant-loop-refusal
invariant-loop-refusal g l = record {
  same : l.answers ≡ l.initial.answers;
  stays : StaysInOrderOf g.A.SolvableId.PartialEq.eq g.A.PackageSource l.initial.answers l.input l.initial.encoding l.encoding;
  adds : AddsParents l.initial.encoding l.encoding;
  built : IsBuilt l.encoding;
  turn : KeepsTurn l.fn.soft l.initial.encoding l.encoding;
  rooted : IsRooted l.encoding;
  taken : AreTakenParents l.encoding;
}

abbrev pub decreases-loop-refusal : goal.decreases-loop-refusal
decreases-loop-refusal g l = rounds_left l.encoding
