-- The invariant of the encoder: its clauses, and the rules of packages that they encode.
use Rattle.std.specs.Prelude.{◌≡◌, ℕ, suc, ◌<◌, ◌≤◌, ◌⊎◌, Bool, true, false, List, [], ◌∷◌, length, slice_get, Option, Some, None, Contains}
use Rattle.resolvo_pool_core.specs.declared.id.DenseId.{DenseId}
use Rattle.resolvo_pool_core.specs.declared.id.DisjunctionTag.{DisjunctionTag}
use Rattle.resolvo_pool_core.specs.declared.id.VariableId.{VariableId}
use Rattle.resolvo_pool_core.specs.declared.id.VersionSetId.{VersionSetId}
use Rattle.resolvo_pool_core.specs.declared.requirement.ConditionalRequirement.{ConditionalRequirement}
use Rattle.resolvo_pool_core.specs.declared.requirement.Requirement.{Requirement}
use Rattle.resolvo_pool_core.specs.declared.requirement.Requirement.TheVariants.{Single}
use Rattle.resolvo_pool_core.specs.declared.solver_id.SolvableIdOrRoot.{SolvableIdOrRoot}
use Rattle.resolvo_pool_core.specs.ByRequirement.{slot_of}
use Rattle.resolvo_pool_core.specs.Provider.{listed}
use Rattle.resolvo_pool_core.specs.Text.{solvable_of, alternatives_of}
use Rattle.resolvo_pool_core.specs.RuleKeeping.{Packages, Rules, IsLawful, is_many, is_in, is_match, meets, rules_for, is_outside, is_unknown}
use Rattle.resolvo_store_core.specs.Clauses.{root as root_variable}
use Rattle.resolvo_store_core.specs.declared.pick.NeedClause.{NeedClause}
use Rattle.resolvo_decide.specs.Queue.{needs_of}
use Rattle.resolvo_store_core.specs.declared.lists.Candidate.{Candidate}
use Rattle.resolvo_store_core.specs.declared.lists.FixedLists.{FixedLists}
use Rattle.resolvo_store_core.specs.Lists.{has_candidates, candidates_in, condition_in, HasDisjunction}
use Rattle.resolvo_sat.specs.State.{history}
use Rattle.resolvo_sat.specs.Steps.{AreInRange}
use Rattle.resolvo_pool_core.specs.OnePass.{Literal}
use Rattle.resolvo_sat.specs.RuleClauses.{Atom, Rule, case_literals, cases_for, IsRule, IsForbiddenIn, IsForbidden}
use Rattle.resolvo_sat.specs.SearchEnd.{IsNeedEncoded, HasClause, IsSoftChoice}
use Rattle.resolvo_sat.specs.First.{IsFirstPick}
use Rattle.resolvo_sat.specs.Numbered.{Spells, AreCalledFor}
use Rattle.resolvo_state.specs.declared.atom.ProofAtom.{ProofAtom}
use Rattle.resolvo_state.specs.declared.atom.ProofAtom.TheVariants.{Solvable, Gate}
use Rattle.resolvo_state.specs.Kinds.{Kind}
use Rattle.resolvo_state.specs.Atoms.{origin, Represents}
use Rattle.resolvo_state.specs.ClauseKinds.{kind_at, rule_at, rules_in}
use Rattle.resolvo_state.specs.SolverState.{IsCoding}
use Rattle.resolvo_state.specs.Registered.{AreTied, IsTracked, IsQueued, IsMany, IsRegistered}
use Rattle.resolvo_state.specs.Spelled.{Spelled, AreRegistered}
use Rattle.resolvo_encoder.specs.declared.encoder.Deferred.{Deferred}
use Rattle.resolvo_encoder.specs.declared.encoder.Encoder.{Encoder}
use Rattle.resolvo_encoder.specs.declared.encoder.EncodedOnce.{EncodedOnce}
use Rattle.resolvo_encoder.specs.Cases.{case_of, IsDeferred, IsCaseOf}

-- the rules that clauses encode
abbrev pub rules_of : {N S : Type 0} → Encoder N S → Rule N S → Type 0
rules_of e = rules_in e.coding.kinds.items

-- the solvable is registered as one of the package's, and waits for its digits
abbrev pub IsWaiting : {N S : Type 0} → Encoder N S → N → S → Type 0
IsWaiting e name s = (v : VariableId) × Represents e.coding.atoms.keys v (Solvable s)
    × IsQueued e.registry name v

-- it waits, or its package is marked `many` and has neither digits nor at-least-one clauses
abbrev pub IsPending : {N S : Type 0} → Encoder N S → N → S → Type 0
IsPending e name s = IsWaiting e name s ⊎ IsMany e.registry name

-- the package is one of an encoded case: its solvables have at-least-one clauses, or will
abbrev pub IsNamed : {N S : Type 0} → EncodedOnce N S → N → Type 0
IsNamed recorded name = Contains recorded.at_least_one.keys name
    ⊎ Contains recorded.queued.keys name

-- no solvable waits for its digits, and no package for its at-least-one clauses
pub record IsWhole {N S : Type 0} (e : Encoder N S) : Type 0 where
  pub solvables : (name : N) (v : VariableId) → IsQueued e.registry name v → ⊥
  pub packages : (name : N) → Contains e.recorded.queued.keys name → ⊥

-- the parent's variable: the root's, or the solvable's
abbrev pub IsParentVariable : {N S : Type 0} → List (ProofAtom N S) → Option S → VariableId → Type 0
IsParentVariable atoms None v = v ≡ root_variable
IsParentVariable atoms (Some s) v = Represents atoms v (Solvable s)

-- the candidate's literal is the positive one of the registered solvable's variable
pub record IsCandidate {N S : Type 0} (e : Encoder N S) (name : N) (s : S) (c : Candidate N) : Type 0 where
  pub positive : c.literal.positive ≡ true
  pub present : Represents e.coding.atoms.keys c.literal.variable (Solvable s)
  pub tracked : IsTracked e.registry name c.literal.variable

-- the candidates are these solvables, in their order
abbrev pub AreCandidates : {N S : Type 0} → List (ProofAtom N S) → List (Candidate N) → List S → Type 0
AreCandidates atoms [] [] = Unit {0}
AreCandidates atoms [] (s ∷ ss) = ⊥
AreCandidates atoms (c ∷ cs) [] = ⊥
AreCandidates atoms (c ∷ cs) (s ∷ ss) = (c.literal.positive ≡ true)
    × Represents atoms c.literal.variable (Solvable s) × AreCandidates atoms cs ss

-- the requirement has these candidates, in this order
abbrev pub HasOrder : {N S : Type 0} → Encoder N S → Requirement → List S → Type 0
HasOrder e r list = (has_candidates e.lists r ≡ true)
    × AreCandidates e.coding.atoms.keys (candidates_in e.lists r) list

-- the candidates of each requirement are in one of its orders
abbrev pub AreOrdered : {N S : Type 0} → (Requirement → List S → Type 0) → Encoder N S → Type 0
AreOrdered {N} {S} orders e = (r : Requirement) → has_candidates e.lists r ≡ true
    → (list : List S) × orders r list
    × AreCandidates e.coding.atoms.keys (candidates_in e.lists r) list

-- A decision is for a soft requirement, or for a requirement of a chosen parent. Then it is the
-- first candidate that wasn't false.
abbrev pub IsChosenFor : {N S : Type 0} → (S → S → Bool) → Packages N S → Encoder N S → List (Literal (Atom N S)) → Literal (Atom N S) → Type 0
IsChosenFor same p e known l = IsSoftChoice same p (rules_of e) e.recorded.softs.items l
    ⊎ IsFirstPick same p (HasOrder e) (rules_of e) known l

module _ {N S : Type 0} (same : S → S → Bool) (p : Packages N S) (lists : FixedLists N) where
  -- the literals of the condition are those of the case, over existing variables
  pub record IsCondition (atoms : List (ProofAtom N S)) (condition : Option (DenseId DisjunctionTag ℕ)) (case : List VersionSetId) : Type 0 where
    pub there : HasDisjunction lists condition
    pub in_range : AreInRange (suc (length atoms)) (condition_in lists condition)
    pub spells : Spells (origin atoms) (condition_in lists condition) (case_literals same p case)

  -- the clause of this kind is in the decision queue: that of a requirement, or of a gate
  abbrev pub IsQueuedFor : List (ProofAtom N S) → Option (Kind N S) → NeedClause → Type 0
  IsQueuedFor atoms None q = ⊥
  IsQueuedFor atoms (Some Kind.Root) q = ⊥
  IsQueuedFor atoms (Some (Kind.Needs parent need case)) q = (q.requirement ≡ need.requirement)
      × IsCondition atoms q.condition case × IsParentVariable atoms parent q.parent
  IsQueuedFor atoms (Some (Kind.Gated s r)) q = ⊥
  IsQueuedFor atoms (Some (Kind.Shared r)) q = (q.requirement ≡ r) × (q.condition ≡ None)
      × Represents atoms q.parent (Gate r)
  IsQueuedFor atoms (Some (Kind.Limits parent v s)) q = ⊥
  IsQueuedFor atoms (Some (Kind.LimitsOutside parent v)) q = ⊥
  IsQueuedFor atoms (Some (Kind.IsOut v s)) q = ⊥
  IsQueuedFor atoms (Some (Kind.Locked locked s)) q = ⊥
  IsQueuedFor atoms (Some (Kind.Excluded s why)) q = ⊥
  IsQueuedFor atoms (Some (Kind.Digit n s place bit)) q = ⊥
  IsQueuedFor atoms (Some (Kind.IsThere n s)) q = ⊥
  IsQueuedFor atoms (Some (Kind.Matches v s)) q = ⊥
  IsQueuedFor atoms (Some Kind.Learnt) q = ⊥

-- the rule's clause is a requires clause
abbrev pub IsRequiresRule : {N S : Type 0} → Rule N S → Type 0
IsRequiresRule (Rule.needs parent need case) = Unit {0}
IsRequiresRule (Rule.gated s r) = ⊥
IsRequiresRule (Rule.shared r) = Unit {0}
IsRequiresRule (Rule.limits parent v s) = ⊥
IsRequiresRule (Rule.limits_outside parent v) = ⊥
IsRequiresRule (Rule.is_out v s) = ⊥
IsRequiresRule (Rule.forbids w s) = ⊥
IsRequiresRule (Rule.has_digit s bit b) = ⊥
IsRequiresRule (Rule.is_there n s) = ⊥
IsRequiresRule (Rule.matches v s) = ⊥

module _ {N S : Type 0} (same : S → S → Bool) (p : Packages N S) (rules : Rule N S → Type 0) where
  -- clauses encode the locks and exclusions of the requirement's packages
  abbrev pub IsGuarded : Requirement → Type 0
  IsGuarded r = (v : VersionSetId) (s : S) → Contains (alternatives_of p.members_of r) v
      → IsForbiddenIn same p (p.set_package v) s → IsForbidden rules s

  -- one clause, or two, forbid each candidate outside the parent's version set
  abbrev pub IsLimitEncoded : Option S → VersionSetId → Type 0
  IsLimitEncoded parent v = (s : S) → is_outside same p v s ≡ true
      → rules (Rule.limits parent v s)
      ⊎ (rules (Rule.limits_outside parent v) × rules (Rule.is_out v s))

  -- Clauses encode the locks and exclusions of the recorded packages, and the candidates outside
  -- the recorded version sets. Of those that are recorded for their matches they encode the
  -- matches.
  pub record IsRecorded (recorded : EncodedOnce N S) : Type 0 where
    pub packages : (n : N) (s : S) → Contains recorded.packages.keys n → IsForbiddenIn same p n s
        → IsForbidden rules s
    pub version_sets : (v : VersionSetId) (s : S) → Contains recorded.version_sets.keys v
        → is_outside same p v s ≡ true → rules (Rule.is_out v s)
    pub matches : (v : VersionSetId) (s : S) → Contains recorded.matches.keys v
        → is_match same p v s ≡ true → rules (Rule.matches v s)

module _ {N S : Type 0} (same : S → S → Bool) (p : Packages N S) where
  -- where the package is marked `many`, the registry knows it
  abbrev pub IsMarkKnown : Encoder N S → N → Type 0
  IsMarkKnown e n = is_many p n ≡ true → IsMany e.registry n

  -- The requirement's candidates may be registered: its packages' locks and exclusions are clauses,
  -- and their marks are known.
  abbrev pub IsPrepared : Encoder N S → Requirement → Type 0
  IsPrepared e r = IsGuarded same p (rules_of e) r
      × ((v : VersionSetId) → Contains (alternatives_of p.members_of r) v
      → IsMarkKnown e (p.set_package v))

  -- The registry's marks are right, and it knows those of the packages of registered solvables and
  -- of the recorded packages.
  pub record AreMarked (e : Encoder N S) : Type 0 where
    pub right : (n : N) → IsMany e.registry n → is_many p n ≡ true
    pub registered : (n : N) (s : S) → IsRegistered e.registry e.coding n s → IsMarkKnown e n
    pub recorded : (n : N) → Contains e.recorded.packages.keys n → IsMarkKnown e n

  -- The version set of a case is encoded: its package is recorded, and the candidates outside it
  -- are registered. Or its package is marked `many`, and it is recorded for its matches.
  abbrev pub IsSetEncoded : Encoder N S → VersionSetId → Type 0
  IsSetEncoded e v = ((is_many p (p.set_package v) ≡ false) × IsNamed e.recorded (p.set_package v)
      × ((s : S) → is_outside same p v s ≡ true
      → IsRegistered e.registry e.coding (p.package_of s) s))
      ⊎ ((is_many p (p.set_package v) ≡ true) × Contains e.recorded.matches.keys v)

  -- the case of the parent's requirement is encoded, or deferred
  abbrev pub IsCaseEncoded : Encoder N S → Option S → ConditionalRequirement → List VersionSetId → Type 0
  IsCaseEncoded e parent need case = IsNeedEncoded same p (rules_of e) parent need case
      ⊎ IsDeferred e parent need case

  -- The parent's requirements and constraints are encoded, except deferred cases. So are the locks
  -- and exclusions of constrained packages, and the parent's unknown dependencies.
  pub record IsParentEncoded (e : Encoder N S) (root : Rules) (parent : Option S) : Type 0 where
    pub needs : (need : ConditionalRequirement) (case : List VersionSetId)
        → Contains (rules_for same p root parent).requirements need
        → Contains (cases_for same p need) case → IsCaseEncoded e parent need case
    pub limits : (v : VersionSetId) → Contains (rules_for same p root parent).constraints v
        → IsLimitEncoded same p (rules_of e) parent v
    pub guarded : (v : VersionSetId) → Contains (rules_for same p root parent).constraints v
        → IsGuarded same p (rules_of e) (Single v)
    pub unknown : (s : S) → parent ≡ Some s → is_unknown (p.dependencies_of s) ≡ true
        → IsForbidden (rules_of e) s

module _ {N S : Type 0} (same : S → S → Bool) (p : Packages N S) (root : Rules) where
  -- the solvable is registered with its package
  abbrev pub Registered : Encoder N S → S → Type 0
  Registered e s = IsRegistered e.registry e.coding (p.package_of s) s

  -- The invariant of the cases of conditions.
  pub record AreCased (e : Encoder N S) : Type 0 where
    -- a deferred case is one of its parent's requirement; a fired one is encoded
    pub waiting : (i : ℕ) (d : Deferred S) → slice_get e.deferred.items i ≡ Some d
        → IsCaseOf same p root d
    pub places : (i : ℕ) → Contains e.fired.keys i → i < length e.deferred.items
    pub fired : (i : ℕ) (d : Deferred S) → Contains e.fired.keys i
        → slice_get e.deferred.items i ≡ Some d
        → IsNeedEncoded same p (rules_of e) d.parent d.need (case_of d.conjuncts.items)
    -- the version sets of an encoded case are encoded
    pub cased : (parent : Option S) (need : ConditionalRequirement) (case : List VersionSetId) (v : VersionSetId)
        → rules_of e (Rule.needs parent need case) → Contains case v → IsSetEncoded same p e v
    -- each registered solvable of a recorded package has its at-least-one clause, or waits, or its
    -- package is marked
    pub at_least_one : (n : N) (s : S) → Contains e.recorded.at_least_one.keys n
        → IsRegistered e.registry e.coding n s → rules_of e (Rule.is_there n s) ⊎ IsPending e n s
    pub there : (s : S) → Contains e.recorded.there.keys s
        → rules_of e (Rule.is_there (p.package_of s) s)

  -- The invariant of the encoding between its steps.
  pub record IsEncoding (e : Encoder N S) : Type 0 where
    pub coding : IsCoding e.coding
    pub tied : AreTied e.registry e.coding
    -- each clause that encodes a rule has the rule's literals, and the problem has this rule
    pub spelled : Spelled same p e.coding
    pub rule : (r : Rule N S) → rules_of e r → IsRule same p root r
    -- the solvables of positive literals are registered, and a registered solvable is a candidate
    -- of its package
    pub positive : AreRegistered (Registered e) e.coding
    pub named : (n : N) (s : S) → IsRegistered e.registry e.coding n s → n ≡ p.package_of s
    pub candidates : (s : S) → Registered e s
        → is_in same p (listed (p.candidates_of (p.package_of s))) s ≡ true
    pub marks : AreMarked same p e
    -- the candidates of a requirement are the solvables that meet it
    pub listed : (r : Requirement) (c : Candidate N) → Contains (candidates_in e.lists r) c
        → (s : S) × IsCandidate e (p.package_of s) s c × (meets same p r s ≡ true)
    pub offered : (r : Requirement) (s : S) → has_candidates e.lists r ≡ true
        → meets same p r s ≡ true
        → (c : Candidate N) × Contains (candidates_in e.lists r) c
        × IsCandidate e (p.package_of s) s c
    -- the requirement of each requires clause has its candidates, and the clause is in the decision
    -- queue
    pub fixed : (r : Requirement) → HasClause same p (rules_of e) r
        → has_candidates e.lists r ≡ true
    pub queued : (q : NeedClause) → Contains (needs_of e.queue) q
        → IsQueuedFor same p e.lists e.coding.atoms.keys (kind_at e.coding.kinds.items q.clause.0) q
    pub asked : (n : ℕ) (r : Rule N S) → rule_at e.coding.kinds.items n ≡ Some r → IsRequiresRule r
        → (q : NeedClause) × Contains (needs_of e.queue) q × (q.clause.0 ≡ n)
    -- each gate has its clause
    pub gates : (r : Requirement) (v : VariableId) → slot_of e.gates r ≡ Some v
        → Represents e.coding.atoms.keys v (Gate r) × rules_of e (Rule.shared r)
    -- the locks and exclusions of a requirement that has its candidates are encoded, and so is all
    -- that is recorded
    pub forbid : (r : Requirement) → has_candidates e.lists r ≡ true
        → IsGuarded same p (rules_of e) r
    pub recorded : IsRecorded same p (rules_of e) e.recorded
    pub cases : AreCased e
    -- the requirements and constraints of the first parents are encoded, except deferred cases
    pub within : e.encoded ≤ length e.parents.keys
    pub encoded : (i : ℕ) (parent : SolvableIdOrRoot S) → i < e.encoded
        → slice_get e.parents.keys i ≡ Some parent
        → IsParentEncoded same p e root (solvable_of parent)
    -- Each soft requirement is registered. Each decision is for one, or is the first candidate of a
    -- requirement that wasn't false.
    pub wished : (s : S) → Contains e.recorded.softs.items s → Registered e s
    pub called : AreCalledFor (origin e.coding.atoms.keys) (IsChosenFor same p e) (history e.coding.search)

-- it stays an encoding of whatever packages and root it is one of
abbrev pub StaysEncoding : {N S : Type 0} → (S → S → Bool) → Encoder N S → Encoder N S → Type 0
StaysEncoding {N} {S} same old new = (p : Packages N S) (root : Rules) → IsLawful p
    → IsEncoding same p root old → IsEncoding same p root new
