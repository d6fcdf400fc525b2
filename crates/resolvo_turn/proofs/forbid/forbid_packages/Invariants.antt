use Rattle.std.proofs.Common.{◌≡◌, take}
use Rattle.std.specs.Prelude.{Contains}
use Rattle.resolvo_pool_core.specs.RuleKeeping.{Rules}
use Rattle.resolvo_sat.specs.RuleClauses.{IsForbiddenIn, IsForbidden}
use Rattle.resolvo_encoder.specs.Encoded.{rules_of, IsMarkKnown}
use Rattle.resolvo_encoder.specs.Steps.{IsBuilt}
use Rattle.resolvo_turn.specs.Encoder.{KeepsMarks, IsInOrder, AddsNeeds}
use Rattle.resolvo_turn.proofs.forbid.forbid_packages.Given as goal

-- the locks and exclusions of the packages so far are encoded
abbrev pub invariant-loop-name : goal.invariant-loop-name
invariant-loop-name g l = record {
  same : l.answers ≡ l.initial.answers;
  encoded : (root : Rules) → IsInOrder g.A.SolvableId.PartialEq.eq (g.A.PackageSource.packages l.initial.answers) (g.A.PackageSource.orders l.initial.answers) root l.initial.encoding
      → IsInOrder g.A.SolvableId.PartialEq.eq (g.A.PackageSource.packages l.initial.answers) (g.A.PackageSource.orders l.initial.answers) root l.encoding
      × ((name : g.row.A-NameId.Denot) (s : g.row.A-SolvableId.Denot) → Contains (take l.name-index l.names) name → IsForbiddenIn g.A.SolvableId.PartialEq.eq (g.A.PackageSource.packages l.initial.answers) name s → IsForbidden (rules_of l.encoding) s)
      × ((name : g.row.A-NameId.Denot) → Contains (take l.name-index l.names) name → IsMarkKnown g.A.SolvableId.PartialEq.eq (g.A.PackageSource.packages l.initial.answers) l.encoding name);
  marks : KeepsMarks l.initial.encoding l.encoding;
  kept : AddsNeeds l.initial.encoding l.encoding;
  fired : l.encoding.fired ≡ l.initial.encoding.fired;
  built : IsBuilt l.encoding;
}
