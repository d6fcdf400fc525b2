use Rattle.std.proofs.Common.{◌≡◌, ◌-◌}
use Rattle.resolvo_pool_core.specs.RuleKeeping.{Rules}
use Rattle.resolvo_encoder.specs.Base.{KeepsTurns}
use Rattle.resolvo_encoder.specs.Steps.{IsBuilt}
use Rattle.resolvo_turn.specs.Encoder.{IsInOrderBy, AddsParents}
use Rattle.resolvo_turn.specs.TurnRules.{IsRootOf}
use Rattle.resolvo_turn.specs.Tasks.{AreExcluded}
use Rattle.resolvo_turn.proofs.encode.encode_waiting.Given as goal

-- the encoding is one of the packages, with more parents, and clauses exclude what was excluded
abbrev pub invariant-loop-encoding : goal.invariant-loop-encoding
invariant-loop-encoding g l = record {
  same : l.answers ≡ l.initial.answers;
  encoded : (root : Rules) → IsRootOf l.input root → IsInOrderBy g.A.SolvableId.PartialEq.eq g.A.PackageSource l.initial.answers root l.initial.encoding
      → IsInOrderBy g.A.SolvableId.PartialEq.eq g.A.PackageSource l.initial.answers root l.encoding × AreExcluded l.excluded.keys l.encoding;
  adds : AddsParents l.initial.encoding l.encoding;
  turn : KeepsTurns l.initial.encoding l.encoding;
  built : IsBuilt l.encoding;
}

abbrev pub decreases-loop-encoding : goal.decreases-loop-encoding
decreases-loop-encoding g l = 18446744073709551616 - l.encoding.encoded
