use Rattle.std.proofs.Common.{◌≡◌, List, take}
use Rattle.std.specs.Prelude.{Contains}
use Rattle.resolvo_pool_core.specs.declared.id.VersionSetId.{VersionSetId}
use Rattle.resolvo_pool_core.specs.RuleKeeping.{Rules, rules_for}
use Rattle.resolvo_store_core.specs.Cases.{cases_of}
use Rattle.resolvo_sat.specs.RuleClauses.{cases_for}
use Rattle.resolvo_encoder.specs.Steps.{IsBuilt}
use Rattle.resolvo_turn.specs.Encoder.{IsInOrder, AddsNeeds, AreDeferred}
use Rattle.resolvo_turn.proofs.defer_conditions.defer_cases.Given as goal

-- the cases so far are deferred
abbrev pub invariant-loop-case : goal.invariant-loop-case
invariant-loop-case g l = record {
  same : l.answers ≡ l.initial.answers;
  encoded : (root : Rules) → IsInOrder g.A.SolvableId.PartialEq.eq (g.A.PackageSource.packages l.initial.answers) (g.A.PackageSource.orders l.initial.answers) root l.initial.encoding
      → Contains (rules_for g.A.SolvableId.PartialEq.eq (g.A.PackageSource.packages l.initial.answers) root l.fn.parent).requirements l.fn.need
      → ((case : List VersionSetId) → Contains (cases_of l.cases) case → Contains (cases_for g.A.SolvableId.PartialEq.eq (g.A.PackageSource.packages l.initial.answers) l.fn.need) case)
      → IsInOrder g.A.SolvableId.PartialEq.eq (g.A.PackageSource.packages l.initial.answers) (g.A.PackageSource.orders l.initial.answers) root l.encoding
      × AreDeferred l.encoding l.fn.parent l.fn.need (cases_of (take l.case-index l.cases));
  kept : AddsNeeds l.initial.encoding l.encoding;
  built : IsBuilt l.encoding;
}
