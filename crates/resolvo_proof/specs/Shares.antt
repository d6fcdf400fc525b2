-- The rules of a conflict that are drawn together with others, by what they share.
use Rattle.std.specs.Prelude.{List, Option}
use Rattle.resolvo_pool_core.specs.declared.id.VersionSetId.{VersionSetId}
use Rattle.resolvo_pool_core.specs.declared.requirement.Requirement.{Requirement}
use Rattle.resolvo_pool_core.specs.contracts.requirement.RequirementPartialEq.TheImpl as Requirements
use Rattle.resolvo_graph.specs.Tree.{same_set}
use Rattle.resolvo_proof.specs.ByKey.{listed}
use Rattle.resolvo_proof.specs.declared.shared_rules.Shares.{Shares}

-- the parents that open the gate of a requirement
abbrev pub parents_in : {S : Type 0} → Shares S → Requirement → List S
parents_in h = listed Requirements.ghosts.eq h.gates

-- the parents with a version set
abbrev pub limiters_in : {S : Type 0} → Shares S → VersionSetId → List (Option S)
limiters_in h = listed same_set h.limits

-- the solvables outside a version set
abbrev pub outsiders_in : {S : Type 0} → Shares S → VersionSetId → List S
outsiders_in h = listed same_set h.outsides
