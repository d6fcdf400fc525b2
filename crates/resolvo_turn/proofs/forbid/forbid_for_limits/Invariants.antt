use Rattle.std.proofs.Common.{◌≡◌}
use Rattle.resolvo_encoder.specs.Steps.{IsBuilt}
use Rattle.resolvo_turn.specs.Encoder.{AddsNeeds, StaysInOrder}
use Rattle.resolvo_turn.proofs.forbid.forbid_for_limits.Given as goal

-- the encoding is still in order
abbrev pub invariant-loop-version_set : goal.invariant-loop-version_set
invariant-loop-version_set g l = record {
  same : l.answers ≡ l.initial.answers;
  stays : StaysInOrder g.A.SolvableId.PartialEq.eq g.A.PackageSource l.initial.answers l.initial.encoding l.encoding;
  kept : AddsNeeds l.initial.encoding l.encoding;
  built : IsBuilt l.encoding;
}
