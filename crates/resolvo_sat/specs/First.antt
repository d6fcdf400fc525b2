-- Which candidates are preferred: of each requirement the one that is tried first.
use Rattle.std.specs.Prelude.{◌≡◌, Bool, true, false, List, [], ◌∷◌, ◌++◌, Option, Contains}
use Rattle.std.specs.List.{flat_map}
use Rattle.resolvo_pool_core.specs.declared.id.VersionSetId.{VersionSetId}
use Rattle.resolvo_pool_core.specs.declared.requirement.ConditionalRequirement.{ConditionalRequirement}
use Rattle.resolvo_pool_core.specs.declared.requirement.Requirement.{Requirement}
use Rattle.resolvo_pool_core.specs.OnePass.{Literal}
use Rattle.resolvo_pool_core.specs.Text.{alternatives_of}
use Rattle.resolvo_pool_core.specs.RuleKeeping.{Packages, Rules, is_in, is_match, is_many, meets, binds, rules_for, is_member, IsRuleKeeping, IsReached}
use Rattle.resolvo_sat.specs.RuleClauses.{Atom, Rule, plus, minus}
use Rattle.resolvo_sat.specs.SearchEnd.{IsAsked}

-- the solvable is the first
abbrev pub IsFirst : {S : Type 0} → List S → S → Type 0
IsFirst [] s = ⊥
IsFirst (x ∷ xs) s = x ≡ s

-- the one is tried before the other: the list holds it, and the other neither there nor before it
pub record IsTriedBefore {S : Type 0} (list : List S) (s other : S) : Type 0 where
  pub before : List S
  pub after : List S
  pub splits : list ≡ before ++ s ∷ after
  pub differs : s ≡ other → ⊥
  pub unless : Contains before other → ⊥

-- `tried` lists the matches of each version set in the order in which they are tried
module _ {N S : Type 0} (same : S → S → Bool) (p : Packages N S) (tried : VersionSetId → List S) where
  -- each match is tried, and nothing else
  abbrev pub TriesMatches : Type 0
  TriesMatches = (v : VersionSetId) (s : S) → is_in same p (tried v) s ≡ is_match same p v s

  -- the candidates of a requirement: those of its alternatives, in order
  abbrev pub order : Requirement → List S
  order r = flat_map tried (alternatives_of p.members_of r)

  -- each requirement's candidates are tried in this order
  abbrev pub AreTriedBy : (Requirement → List S → Type 0) → Type 0
  AreTriedBy orders = (r : Requirement) (list : List S) → orders r list → list ≡ order r

  module _ (root : Rules) where
    -- the set holds the first candidate of each requirement of the root or a member that binds in it
    abbrev pub HoldsFirst : List S → Type 0
    HoldsFirst list = (parent : Option S) (need : ConditionalRequirement) (s : S) → is_member same p root list parent ≡ true → Contains (rules_for same p root parent).requirements need → binds same p list need ≡ true → IsFirst (order need.requirement) s → is_in same p list s ≡ true

    -- The first choices: the least such set. It keeps all rules, no requirement that binds in it has alternatives, and no package is
    -- marked `many`.
    pub record IsFirstChoices (first : List S) : Type 0 where
      pub unmarked : (n : N) → is_many p n ≡ false
      pub holds : HoldsFirst first
      pub least : (list : List S) → HoldsFirst list → (s : S) → is_in same p first s ≡ true → is_in same p list s ≡ true
      pub keeping : IsRuleKeeping same p root first
      pub alone : (parent : Option S) (need : ConditionalRequirement) → is_member same p root first parent ≡ true → Contains (rules_for same p root parent).requirements need → binds same p first need ≡ true → (v : VersionSetId) × (alternatives_of p.members_of need.requirement ≡ v ∷ [])

-- `orders` gives the orders in which the candidates of a requirement may be tried
module _ {N S : Type 0} (same : S → S → Bool) (p : Packages N S) (orders : Requirement → List S → Type 0) where
  -- the solvable is the first candidate that is not known to be false
  pub record TakesFirst (known : List (Literal (Atom N S))) (r : Requirement) (s : S) : Type 0 where
    pub list : List S
    pub ordered : orders r list
    pub before : List S
    pub after : List S
    pub splits : list ≡ before ++ s ∷ after
    pub fell : (t : S) → Contains before t → Contains known (minus (Atom.solvable t))

  -- the literal chooses the first candidate, of a requirement that is asked for, that is not false
  pub record IsFirstPick (rules : Rule N S → Type 0) (known : List (Literal (Atom N S))) (l : Literal (Atom N S)) : Type 0 where
    pub requirement : Requirement
    pub asked : IsAsked same p rules known requirement
    pub solvable : S
    pub is : l ≡ plus (Atom.solvable solvable)
    pub first : TakesFirst known requirement solvable

  module _ (root : Rules) where
    -- The set keeps all rules, and meets each requirement of the root or a member that binds in it by a solvable before
    -- which no chosen one is tried.
    pub record IsUnbeaten (chosen set : List S) : Type 0 where
      pub keeping : IsRuleKeeping same p root set
      pub meets_best : (parent : Option S) (need : ConditionalRequirement) → is_member same p root set parent ≡ true → Contains (rules_for same p root parent).requirements need → binds same p set need ≡ true
          → (f : S) × (is_in same p set f ≡ true) × ((list : List S) (s : S) → orders need.requirement list → IsTriedBefore list s f → is_in same p chosen s ≡ false)

    -- the root reaches each member, and none of its or a member's requirements that bind is met by two
    pub record IsReachedOnce (set : List S) : Type 0 where
      pub reached : (s : S) → is_in same p set s ≡ true → IsReached same p root [] set s
      pub one : (parent : Option S) (need : ConditionalRequirement) (s t : S) → is_member same p root set parent ≡ true → Contains (rules_for same p root parent).requirements need → binds same p set need ≡ true
          → meets same p need.requirement s ≡ true → meets same p need.requirement t ≡ true → is_in same p set s ≡ true → is_in same p set t ≡ true → s ≡ t

    -- Candidates are chosen in the order in which they are tried.
    pub record ArePreferred (chosen : List S) : Type 0 where
      -- the chosen are among those of each set that they don't beat
      pub within : (set : List S) → IsUnbeaten chosen set → (s : S) → is_in same p chosen s ≡ true → is_in same p set s ≡ true
      -- and all of these, where each is reached, and meets alone what it meets
      pub whole : (set : List S) → IsUnbeaten chosen set → IsReachedOnce set → (s : S) → is_in same p chosen s ≡ is_in same p set s
      -- where the first choices keep all rules, they are the chosen
      pub first : (tried : VersionSetId → List S) → TriesMatches same p tried → AreTriedBy same p tried orders → (set : List S) → IsFirstChoices same p tried root set → (s : S) → is_in same p chosen s ≡ is_in same p set s
