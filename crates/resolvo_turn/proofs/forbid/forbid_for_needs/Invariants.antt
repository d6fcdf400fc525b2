use Rattle.std.proofs.Common.{◌≡◌}
use Rattle.resolvo_encoder.specs.Steps.{IsBuilt}
use Rattle.resolvo_turn.specs.Encoder.{AddsNeeds, StaysInOrder}
use Rattle.resolvo_turn.proofs.forbid.forbid_for_needs.Given as goal

-- the encoding is still in order
abbrev pub invariant-loop-need : goal.invariant-loop-need
invariant-loop-need g l = record {
  same : l.answers ≡ l.initial.answers;
  stays : StaysInOrder g.A.SolvableId.PartialEq.eq g.A.PackageSource l.initial.answers l.initial.encoding l.encoding;
  kept : AddsNeeds l.initial.encoding l.encoding;
  built : IsBuilt l.encoding;
}
