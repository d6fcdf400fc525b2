-- At-least-one clauses, and the literals of a case over them: its packages are recorded, and the
-- candidates outside its version sets are registered.
use Rattle.std.specs.Prelude.{◌≡◌, ◌⊎◌, Bool, true, List, Contains}
use Rattle.resolvo_pool_core.specs.declared.id.VariableId.{VariableId}
use Rattle.resolvo_pool_core.specs.declared.id.VersionSetId.{VersionSetId}
use Rattle.resolvo_pool_core.specs.declared.requirement.Requirement.TheVariants.{Single}
use Rattle.resolvo_pool_core.specs.RuleKeeping.{Packages, Rules, IsLawful, is_many}
use Rattle.resolvo_store_core.specs.Signed.{Signed}
use Rattle.resolvo_sat.specs.State.{count_of}
use Rattle.resolvo_sat.specs.Steps.{AreInRange}
use Rattle.resolvo_packages.specs.declared.package_source.Offered.{Offered}
use Rattle.resolvo_packages.specs.PackageSource.{AreOffered}
use Rattle.resolvo_sat.specs.RuleClauses.{IsOfCase, Rule, case_literals}
use Rattle.resolvo_sat.specs.Numbered.{Spells}
use Rattle.resolvo_state.specs.declared.atom.ProofAtom.TheVariants.{Solvable}
use Rattle.resolvo_state.specs.Atoms.{origin, Represents}
use Rattle.resolvo_state.specs.Registered.{AreTied, IsInTracker, IsTracked, IsQueued, IsMany, IsRegistered}
use Rattle.resolvo_encoder.specs.Cases.{sets_case, AreSets}
use Rattle.resolvo_encoder.specs.Encoded.{rules_of, IsWaiting, IsPending, IsNamed, IsSetEncoded, IsEncoding, StaysEncoding}
use Rattle.resolvo_encoder.specs.Steps.{IsBuilt, Extends, IsListed}
use Rattle.resolvo_encoder.specs.declared.conditions.ConditionSet.{ConditionSet}
use Rattle.resolvo_encoder.specs.declared.encoder.Encoder.{Encoder}

module _ {N S : Type 0} where
  -- the registered solvables of the package, with it, but for those that wait, unless it is marked
  pub record AreThose (e : Encoder N S) (name : N) (list : List (Offered N S)) : Type 0 where
    pub each : (s : S) → IsRegistered e.registry e.coding name s
        → Contains list (record { solvable = s; name = name }) ⊎ IsPending e name s
    pub all : (o : Offered N S) → Contains list o
        → (o.name ≡ name) × IsRegistered e.registry e.coding name o.solvable

  -- The solvables that wait, and no others.
  pub record AreWaiting (e : Encoder N S) (list : List (Offered N S)) : Type 0 where
    pub tied : AreTied e.registry e.coding
    pub each : (n : N) (s : S) → IsWaiting e n s → Contains list (record { solvable = s; name = n })
    pub all : (o : Offered N S) → Contains list o
        → IsRegistered e.registry e.coding o.name o.solvable

  module _ (same : S → S → Bool) where
    -- At-least-one clauses of these solvables were added, if they are candidates of their packages.
    pub record AddsAtLeastOne (list : List (Offered N S)) (old new : Encoder N S) : Type 0 where
      pub built : IsBuilt new
      pub extends : Extends old new
      pub lists : new.lists ≡ old.lists
      pub registry : new.registry ≡ old.registry
      pub at_least_one : new.recorded.at_least_one ≡ old.recorded.at_least_one
      pub queued : new.recorded.queued ≡ old.recorded.queued
      pub encoding : (p : Packages N S) (root : Rules) → IsLawful p → IsEncoding same p root old
          → ((o : Offered N S) → Contains list o → IsListed same p o)
          → IsEncoding same p root new
          × ((o : Offered N S) → Contains list o → rules_of new (Rule.is_there o.name o.solvable))

    -- At-least-one clauses were added for those whose package is recorded, and for no others.
    pub record Admits (offered : List (Offered N S)) (old new : Encoder N S) : Type 0 where
      pub added : List (Offered N S)
      pub each : (o : Offered N S) → Contains offered o
          → Contains old.recorded.at_least_one.keys o.name → Contains added o
      pub only : (o : Offered N S) → Contains added o → Contains offered o
      pub adds : AddsAtLeastOne added old new

    -- The registered solvables of the package have at-least-one clauses, but for those that wait.
    pub record AddsThose (name : N) (old new : Encoder N S) : Type 0 where
      pub list : List (Offered N S)
      pub those : AreThose old name list
      pub adds : AddsAtLeastOne list old new

    -- The package is recorded, and its registered solvables have at-least-one clauses, or wait.
    pub record TracksAtLeastOne (name : N) (old new : Encoder N S) : Type 0 where
      pub built : IsBuilt new
      pub extends : Extends old new
      pub lists : new.lists ≡ old.lists
      pub registry : new.registry ≡ old.registry
      pub keeps : (n : N) → Contains old.recorded.at_least_one.keys n
          → Contains new.recorded.at_least_one.keys n
      pub at_least_one : Contains new.recorded.at_least_one.keys name
      pub queued : new.recorded.queued ≡ old.recorded.queued
      pub encoding : StaysEncoding same old new

    -- The package is one of an encoded case.
    pub record NamesPackage (name : N) (old new : Encoder N S) : Type 0 where
      pub built : IsBuilt new
      pub extends : Extends old new
      pub lists : new.lists ≡ old.lists
      pub registry : new.registry ≡ old.registry
      pub keeps : (n : N) → IsNamed old.recorded n → IsNamed new.recorded n
      pub matches : (v : VersionSetId) → Contains old.recorded.matches.keys v
          → Contains new.recorded.matches.keys v
      pub named : IsNamed new.recorded name
      pub encoding : StaysEncoding same old new

    -- The version set is recorded for its matches. These are clauses where its package is marked
    -- `many`.
    pub record HoldsMatches (v : VersionSetId) (matching : List (Offered N S)) (old new : Encoder N S) : Type 0 where
      pub built : IsBuilt new
      pub extends : Extends old new
      pub lists : new.lists ≡ old.lists
      pub registry : new.registry ≡ old.registry
      pub others : new.recorded ≡ record old.recorded { matches = new.recorded.matches }
      pub keeps : (w : VersionSetId) → Contains old.recorded.matches.keys w
          → Contains new.recorded.matches.keys w
      pub held : Contains new.recorded.matches.keys v
      pub encoding : (p : Packages N S) (root : Rules) → IsLawful p → IsEncoding same p root old
          → AreOffered same p (Single v) matching → is_many p (p.set_package v) ≡ true
          → IsOfCase same p root v → IsEncoding same p root new

    -- The version sets of the case are encoded, and these are its literals.
    pub record AreCaseLiterals (p : Packages N S) (e : Encoder N S) (case : List VersionSetId) (literals : List Signed) : Type 0 where
      pub sets : (v : VersionSetId) → Contains case v → IsSetEncoded same p e v
      pub spells : Spells (origin e.coding.atoms.keys) literals (case_literals same p case)

    -- The same for the case of these version sets, with these literals.
    pub record CaseLiterals (sets : List (ConditionSet N S)) (literals : List Signed) (old new : Encoder N S) : Type 0 where
      pub built : IsBuilt new
      pub extends : Extends old new
      pub lists : new.lists ≡ old.lists
      pub keeps : (n : N) → IsNamed old.recorded n → IsNamed new.recorded n
      pub tracked : (m : N) (u : VariableId) → IsTracked old.registry m u
          → IsTracked new.registry m u
      pub matches : (v : VersionSetId) → Contains old.recorded.matches.keys v
          → Contains new.recorded.matches.keys v
      pub in_range : AreInRange (count_of new.coding.search) literals
      pub encoding : (p : Packages N S) (root : Rules) → IsLawful p → IsEncoding same p root old
          → AreSets same p sets
          → ((v : VersionSetId) → Contains (sets_case sets) v → IsOfCase same p root v)
          → IsEncoding same p root new × AreCaseLiterals p new (sets_case sets) literals

    -- These solvables have their digits, unless their packages are marked, and at-least-one clauses
    -- if their packages are recorded.
    pub record PlacesAll (list : List (Offered N S)) (old new : Encoder N S) : Type 0 where
      pub built : IsBuilt new
      pub extends : Extends old new
      pub lists : new.lists ≡ old.lists
      pub members : new.registry.members ≡ old.registry.members
      pub waits : new.registry.tied ≡ old.registry.tied
      pub at_least_one : new.recorded.at_least_one ≡ old.recorded.at_least_one
      pub queued : new.recorded.queued ≡ old.recorded.queued
      pub many : new.registry.many ≡ old.registry.many
      pub placed : (o : Offered N S) → Contains list o
          → IsMany old.registry o.name
          ⊎ ((v : VariableId) × Represents new.coding.atoms.keys v (Solvable o.solvable)
          × IsInTracker new.registry o.name v)
      pub keeps : (m : N) (u : VariableId) → IsInTracker old.registry m u
          → IsInTracker new.registry m u
      pub encoding : (p : Packages N S) (root : Rules) → IsLawful p → IsEncoding same p root old
          → IsEncoding same p root new
          × ((o : Offered N S) → Contains list o → Contains old.recorded.at_least_one.keys o.name
          → rules_of new (Rule.is_there o.name o.solvable))

    -- No solvable waits: those that did have their digits, and their at-least-one clauses if their
    -- packages are recorded.
    pub record PlacesQueued (old new : Encoder N S) : Type 0 where
      pub built : IsBuilt new
      pub extends : Extends old new
      pub lists : new.lists ≡ old.lists
      pub at_least_one : new.recorded.at_least_one ≡ old.recorded.at_least_one
      pub queued : new.recorded.queued ≡ old.recorded.queued
      pub many : new.registry.many ≡ old.registry.many
      pub none : (n : N) (v : VariableId) → IsQueued new.registry n v → ⊥
      pub encoding : StaysEncoding same old new

    -- These packages are recorded, with their at-least-one clauses.
    pub record CoversAll (names : List N) (old new : Encoder N S) : Type 0 where
      pub built : IsBuilt new
      pub extends : Extends old new
      pub lists : new.lists ≡ old.lists
      pub registry : new.registry ≡ old.registry
      pub queued : new.recorded.queued ≡ old.recorded.queued
      pub keeps : (n : N) → Contains old.recorded.at_least_one.keys n
          → Contains new.recorded.at_least_one.keys n
      pub covered : (n : N) → Contains names n → Contains new.recorded.at_least_one.keys n
      pub encoding : StaysEncoding same old new

    -- No package waits: those that did are recorded, with their at-least-one clauses.
    pub record CoversQueued (old new : Encoder N S) : Type 0 where
      pub built : IsBuilt new
      pub extends : Extends old new
      pub lists : new.lists ≡ old.lists
      pub registry : new.registry ≡ old.registry
      pub none : (n : N) → Contains new.recorded.queued.keys n → ⊥
      pub encoding : StaysEncoding same old new
