use Rattle.std.proofs.Common.{◌≡◌, take}
use Rattle.std.specs.Prelude.{Contains}
use Rattle.resolvo_pool_core.specs.declared.requirement.ConditionalRequirement.{ConditionalRequirement}
use Rattle.resolvo_pool_core.specs.RuleKeeping.{Rules, rules_for}
use Rattle.resolvo_encoder.specs.Steps.{IsBuilt}
use Rattle.resolvo_turn.specs.Encoder.{IsInOrder, AddsNeeds, IsConditionalEncoded}
use Rattle.resolvo_turn.proofs.rules.encode_needs.Given as goal

-- the requirements so far are clauses, or deferred
abbrev pub invariant-loop-need : goal.invariant-loop-need
invariant-loop-need g l = record {
  same : l.answers ≡ l.initial.answers;
  encoded : (root : Rules) → IsInOrder g.A.SolvableId.PartialEq.eq (g.A.PackageSource.packages l.initial.answers) (g.A.PackageSource.orders l.initial.answers) root l.initial.encoding
      → ((need : ConditionalRequirement) → Contains l.needs need → Contains (rules_for g.A.SolvableId.PartialEq.eq (g.A.PackageSource.packages l.initial.answers) root l.fn.parent).requirements need)
      → IsInOrder g.A.SolvableId.PartialEq.eq (g.A.PackageSource.packages l.initial.answers) (g.A.PackageSource.orders l.initial.answers) root l.encoding
      × ((need : ConditionalRequirement) → Contains (take l.need-index l.needs) need → IsConditionalEncoded g.A.SolvableId.PartialEq.eq (g.A.PackageSource.packages l.initial.answers) l.encoding l.fn.parent need);
  kept : AddsNeeds l.initial.encoding l.encoding;
  built : IsBuilt l.encoding;
}
