use Rattle.std.proofs.Common.{◌≡◌, take}
use Rattle.std.specs.List.{filter_map}
use Rattle.resolvo_pool_core.specs.declared.id.VersionSetId.{VersionSetId}
use Rattle.resolvo_pool_core.specs.declared.requirement.Requirement.{Requirement}
use Rattle.resolvo_proof.specs.Order.{rules_at}
use Rattle.resolvo_proof.specs.LinkRules.{gate_in, limit_in, outside_in, requirers, under_set}
use Rattle.resolvo_proof.specs.Shares.{parents_in, limiters_in, outsiders_in}
use Rattle.resolvo_proof.proofs.shared_rules.shares_of.Given as goal

abbrev pub invariant-loop-place : goal.invariant-loop-place
invariant-loop-place g l = record {
  gates : (q : Requirement) → parents_in l.shares q ≡ requirers (filter_map gate_in (rules_at l.steps (take l.place-index l.order))) q;
  limits : (v : VersionSetId) → limiters_in l.shares v ≡ under_set (filter_map limit_in (rules_at l.steps (take l.place-index l.order))) v;
  outsides : (v : VersionSetId) → outsiders_in l.shares v ≡ under_set (filter_map outside_in (rules_at l.steps (take l.place-index l.order))) v;
}
