use Rattle.std.proofs.Common.{◌≡◌, take}
use Rattle.std.specs.Prelude.{Contains}
use Rattle.resolvo_pool_core.specs.declared.id.VersionSetId.{VersionSetId}
use Rattle.resolvo_pool_core.specs.declared.requirement.Requirement.TheVariants.{Single}
use Rattle.resolvo_pool_core.specs.RuleKeeping.{Rules, rules_for}
use Rattle.resolvo_encoder.specs.Encoded.{IsGuarded, IsLimitEncoded, rules_of}
use Rattle.resolvo_encoder.specs.Steps.{IsBuilt}
use Rattle.resolvo_turn.specs.Encoder.{IsInOrder, AddsNeeds}
use Rattle.resolvo_turn.proofs.rules.encode_limits.Given as goal

-- the constraints so far are clauses
abbrev pub invariant-loop-version_set : goal.invariant-loop-version_set
invariant-loop-version_set g l = record {
  same : l.answers ≡ l.initial.answers;
  encoded : (root : Rules) → IsInOrder g.A.SolvableId.PartialEq.eq (g.A.PackageSource.packages l.initial.answers) (g.A.PackageSource.orders l.initial.answers) root l.initial.encoding
      → ((v : VersionSetId) → Contains l.constraints v → Contains (rules_for g.A.SolvableId.PartialEq.eq (g.A.PackageSource.packages l.initial.answers) root l.fn.parent).constraints v)
      → IsInOrder g.A.SolvableId.PartialEq.eq (g.A.PackageSource.packages l.initial.answers) (g.A.PackageSource.orders l.initial.answers) root l.encoding
      × ((v : VersionSetId) → Contains (take l.version_set-index l.constraints) v → IsLimitEncoded g.A.SolvableId.PartialEq.eq (g.A.PackageSource.packages l.initial.answers) (rules_of l.encoding) l.fn.parent v × IsGuarded g.A.SolvableId.PartialEq.eq (g.A.PackageSource.packages l.initial.answers) (rules_of l.encoding) (Single v));
  kept : AddsNeeds l.initial.encoding l.encoding;
  built : IsBuilt l.encoding;
}
