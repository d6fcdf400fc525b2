use Rattle.std.proofs.Common.{◌≡◌}
use Rattle.resolvo_encoder.specs.Steps.{IsBuilt}
use Rattle.resolvo_turn.specs.Encoder.{AddsNeeds, StaysInOrder}
use Rattle.resolvo_turn.proofs.PassLemmas.{Passed}
use Rattle.resolvo_turn.proofs.fire_conditions.fire_cases.Given as goal

-- some case so far became a clause, or none of them holds and nothing changed
abbrev pub invariant-loop-index : goal.invariant-loop-index
invariant-loop-index g l = record {
  same : l.answers ≡ l.initial.answers;
  stays : StaysInOrder g.A.SolvableId.PartialEq.eq g.A.PackageSource l.initial.answers l.initial.encoding l.encoding;
  kept : AddsNeeds l.initial.encoding l.encoding;
  passed : Passed g.A.SolvableId.PartialEq.eq l.initial.encoding l.encoding l.has_fired l.index;
  built : IsBuilt l.encoding;
}
