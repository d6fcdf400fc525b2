use Rattle.std.proofs.Common.{◌≡◌, true, false}
use Rattle.resolvo_encoder.specs.Steps.{IsBuilt}
use Rattle.resolvo_turn.specs.Encoder.{AddsNeeds, StaysInOrder}
use Rattle.resolvo_turn.specs.Turn.{FiresMore}
use Rattle.resolvo_turn.proofs.fire_conditions.fire_each.Given as goal

-- some case so far became a clause, or none of them holds and nothing changed
abbrev pub invariant-loop-place : goal.invariant-loop-place
invariant-loop-place g l = record {
  same : l.answers ≡ l.initial.answers;
  stays : StaysInOrder g.A.SolvableId.PartialEq.eq g.A.PackageSource l.initial.answers l.initial.encoding l.encoding;
  kept : AddsNeeds l.initial.encoding l.encoding;
  fires : l.has_fired ≡ true → FiresMore l.initial.encoding l.encoding;
  unchanged : l.has_fired ≡ false → l.encoding ≡ l.initial.encoding;
  built : IsBuilt l.encoding;
}
