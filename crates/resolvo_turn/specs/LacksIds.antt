-- Why a call that encodes or decides stops for lack of ids.
use Rattle.std.specs.Prelude.{◌≡◌, Bool, List, Option, Contains}
use Rattle.resolvo_pool_core.specs.ByRequirement.{index_in}
use Rattle.resolvo_pool_core.specs.declared.id.VersionSetId.{VersionSetId}
use Rattle.resolvo_pool_core.specs.declared.requirement.ConditionalRequirement.{ConditionalRequirement}
use Rattle.resolvo_pool_core.specs.RuleKeeping.{Packages, Rules, rules_for}
use Rattle.resolvo_store_core.specs.Lists.{disjunction_count}
use Rattle.resolvo_packages.specs.declared.package_source.PackageSource as source
use Rattle.resolvo_state.specs.SolverState.{LacksNumber}
use Rattle.resolvo_encoder.specs.declared.encoder.Encoder.{Encoder}
use Rattle.resolvo_turn.specs.Encoder.{AreRulesOf, IsInOrderBy}

-- the root or a solvable has a requirement with the last index, of which there are no candidates
pub record NeedsLast {N S : Type 0} (same : S → S → Bool) (p : Packages N S) (root : Rules) : Type 0 where
  pub parent : Option S
  pub need : ConditionalRequirement
  pub listed : Contains (rules_for same p root parent).requirements need
  pub last : index_in need.requirement ≡ 4294967295

-- The encoding has given its last variable, clause or disjunction. Or the root or a solvable has a
-- requirement with the last index, or the source may lack ids.
pub data LacksIds {A N S C : Type 0} (same : S → S → Bool) (g : source.Ghosts A N S C) (a : A) (root : Rules) (e : Encoder N S) : Type 0 where
  coding : LacksNumber e.coding → LacksIds same g a root e
  disjunctions : disjunction_count e.lists ≡ 4294967295 → LacksIds same g a root e
  requirement : NeedsLast same (g.packages a) root → LacksIds same g a root e
  packages : g.may_lack_ids a → LacksIds same g a root e

module _ {A N S C : Type 0} (same : S → S → Bool) (g : source.Ghosts A N S C) (a : A) where
  -- whatever the root
  abbrev pub StopsAnyhow : Encoder N S → Type 0
  StopsAnyhow new = (root : Rules) → LacksIds same g a root new

  -- where the encoding was in order
  abbrev pub StopsInOrder : Encoder N S → Encoder N S → Type 0
  StopsInOrder old new = (root : Rules) → IsInOrderBy same g a root old → LacksIds same g a root new

  -- where the parent has this requirement
  abbrev pub StopsNeed : Option S → ConditionalRequirement → Encoder N S → Type 0
  StopsNeed parent need new = (root : Rules)
      → Contains (rules_for same (g.packages a) root parent).requirements need
      → LacksIds same g a root new

  -- the same where the encoding was in order
  abbrev pub StopsOne : Option S → ConditionalRequirement → Encoder N S → Encoder N S → Type 0
  StopsOne parent need old new = (root : Rules) → IsInOrderBy same g a root old
      → Contains (rules_for same (g.packages a) root parent).requirements need
      → LacksIds same g a root new

  -- the same of these requirements
  abbrev pub StopsAll : Option S → List ConditionalRequirement → Encoder N S → Encoder N S → Type 0
  StopsAll parent needs old new = (root : Rules) → IsInOrderBy same g a root old
      → ((need : ConditionalRequirement) → Contains needs need
      → Contains (rules_for same (g.packages a) root parent).requirements need)
      → LacksIds same g a root new

  -- where the parent, whose dependencies are known, has these requirements and constraints
  abbrev pub StopsKnown : Option S → List ConditionalRequirement → List VersionSetId → Encoder N S → Encoder N S → Type 0
  StopsKnown parent requirements constraints old new = (root : Rules)
      → AreRulesOf same (g.packages a) root parent requirements constraints
      → IsInOrderBy same g a root old → LacksIds same g a root new
