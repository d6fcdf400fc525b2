use Rattle.std.proofs.Common.{◌≡◌, ℕ, [], take}
use Rattle.resolvo_pool_core.specs.RuleKeeping.{Rules}
use Rattle.resolvo_store_core.specs.AtMostOne.{IsPrefixOf}
use Rattle.resolvo_encoder.specs.Steps.{IsBuilt}
use Rattle.resolvo_turn.specs.Encoder.{IsInOrder}
use Rattle.resolvo_turn.specs.Turn.{IsRooted}
use Rattle.resolvo.specs.Turns.{AreAt, AreRight, HaveReasons}
use Rattle.resolvo_turn.specs.TurnRules.{IsRootOf}
use Rattle.resolvo.specs.SoftTurns.{AreCandidates}
use Rattle.resolvo.proofs.soft_requirements.run_soft_requirements.Given as goal

-- the turns of the first soft requirements are recorded, and right
abbrev pub invariant-loop-soft : goal.invariant-loop-soft
invariant-loop-soft g l = record {
  same : l.answers ≡ l.initial.answers;
  right : (root : Rules) (first : ℕ) → IsRootOf l.input root → AreCandidates g.A.SolvableId.PartialEq.eq (g.A.PackageSource.packages l.initial.answers) l.softs
      → IsInOrder g.A.SolvableId.PartialEq.eq (g.A.PackageSource.packages l.initial.answers) (g.A.PackageSource.orders l.initial.answers) root l.initial.encoding → AreRight g.A.SolvableId.PartialEq.eq (g.A.PackageSource.packages l.initial.answers) root first [] l.initial.turns
      → HaveReasons l.initial.encoding.coding l.initial.turns → IsInOrder g.A.SolvableId.PartialEq.eq (g.A.PackageSource.packages l.initial.answers) (g.A.PackageSource.orders l.initial.answers) root l.encoding × AreRight g.A.SolvableId.PartialEq.eq (g.A.PackageSource.packages l.initial.answers) root first (take l.soft-index l.softs) l.turns × HaveReasons l.encoding.coding l.turns;
  prefix : IsPrefixOf l.initial.turns.chosen.keys l.turns.chosen.keys;
  at : AreAt l.encoding l.turns;
  rooted : IsRooted l.encoding;
  built : IsBuilt l.encoding;
}
