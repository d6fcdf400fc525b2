use Rattle.std.proofs.Common.{◌≡◌}
use Rattle.resolvo_pool_core.specs.RuleKeeping.{Rules}
use Rattle.resolvo_encoder.specs.Steps.{IsBuilt}
use Rattle.resolvo_turn.specs.Encoder.{IsInOrder, AddsNeeds, StaysInOrder}
use Rattle.resolvo_turn.specs.Tasks.{AreExcluded, bound}
use Rattle.resolvo_turn.proofs.encode.ask_and_fire.Given as goal

-- parents were asked for, and some cases may have become clauses
abbrev pub invariant-loop-task : goal.invariant-loop-task
invariant-loop-task g l = record {
  same : l.answers ≡ l.initial.answers;
  stays : StaysInOrder g.A.SolvableId.PartialEq.eq g.A.PackageSource l.initial.answers l.initial.encoding l.encoding;
  excluded : (root : Rules) → IsInOrder g.A.SolvableId.PartialEq.eq (g.A.PackageSource.packages l.initial.answers) (g.A.PackageSource.orders l.initial.answers) root l.initial.encoding
      → AreExcluded l.initial.excluded.keys l.initial.encoding → AreExcluded l.excluded.keys l.encoding;
  kept : AddsNeeds l.initial.encoding l.encoding;
  built : IsBuilt l.encoding;
}

abbrev pub decreases-loop-task : goal.decreases-loop-task
decreases-loop-task g l = bound l.tasks
