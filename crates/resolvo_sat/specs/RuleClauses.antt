-- The clauses of a problem's rules, over atoms, and the values of atoms over a set of solvables.
use Rattle.std.specs.Prelude.{◌≡◌, ℕ, ◌<◌, ◌⊎◌, ◌==◌, Bool, true, false, not, ◌&&◌, List, [], ◌∷◌, ◌++◌, map, filter, Option, None, Some, cond, Contains}
use Rattle.std.specs.List.{list_any, list_all}
use Rattle.resolvo_pool_core.specs.declared.id.VersionSetId.{VersionSetId}
use Rattle.resolvo_pool_core.specs.declared.id.ConditionId.{ConditionId}
use Rattle.resolvo_pool_core.specs.declared.id.StringId.{StringId}
use Rattle.resolvo_pool_core.specs.declared.condition.Condition.{Condition}
use Rattle.resolvo_pool_core.specs.declared.requirement.ConditionalRequirement.{ConditionalRequirement}
use Rattle.resolvo_pool_core.specs.declared.requirement.Requirement.{Requirement}
use Rattle.resolvo_pool_core.specs.declared.requirement.Requirement.TheVariants.{Single, Union}
use Rattle.resolvo_pool_core.specs.OnePass.{Literal, clause_true}
use Rattle.resolvo_pool_core.specs.Provider.{listed, unknown}
use Rattle.resolvo_pool_core.specs.Text.{alternatives_of}
use Rattle.resolvo_pool_core.specs.RuleKeeping.{Packages, Rules, is_many, rules_of, is_in, is_match, is_outside, is_met, listing_for, is_forbidden, rules_for}
use Rattle.resolvo_store_core.specs.Cases.{cases}

-- the test holds of each value with itself, and of no two different ones
pub record IsExact {X : Type 0} (same : X → X → Bool) : Type 0 where
  pub one : (x y : X) → same x y ≡ true → x ≡ y
  pub own : (x : X) → same x x ≡ true

-- What a variable is made for: a solvable is chosen; a chosen one asks for the requirement without condition; a
-- chosen one is a candidate outside the version set; a candidate of the package is chosen; a chosen one matches the
-- version set, whose package is marked `many`; a binary digit of the place of the package's chosen solvable.
pub data Atom (N S : Type 0) : Type 0 where
  solvable : S → Atom N S
  gate : Requirement → Atom N S
  outside : VersionSetId → Atom N S
  any_of : N → Atom N S
  matches : VersionSetId → Atom N S
  digit : N → ℕ → Atom N S

-- the atom is true
abbrev pub plus : {N S : Type 0} → Atom N S → Literal (Atom N S)
plus a = record { atom = a; positive = true }

-- the atom is false
abbrev pub minus : {N S : Type 0} → Atom N S → Literal (Atom N S)
minus a = record { atom = a; positive = false }

-- Why a solvable is kept out: another one of its package is locked; it is excluded, or its dependencies are unknown, for a reason.
pub data ForbidReason (S : Type 0) : Type 0 where
  lock : S → ForbidReason S
  word : StringId → ForbidReason S

-- The rule that a clause encodes. A parent is a solvable, or None for the root.
-- needs: for this case of its condition, the parent's requirement has a chosen match
-- gated: the solvable opens the gate of its requirement, which has no condition
-- shared: an open gate's requirement has a chosen match
-- limits: the parent's version set keeps the solvable out
-- limits_outside: the parent's version set keeps out whatever is outside it
-- is_out: the solvable is outside the version set
-- forbids: a lock, an exclusion or unknown dependencies forbid the solvable, for this reason
-- has_digit: the digit of the solvable's place
-- is_there: the solvable is a candidate of the package
-- matches: the solvable matches the version set, whose package is marked `many`
pub data Rule (N S : Type 0) : Type 0 where
  needs : Option S → ConditionalRequirement → List VersionSetId → Rule N S
  gated : S → Requirement → Rule N S
  shared : Requirement → Rule N S
  limits : Option S → VersionSetId → S → Rule N S
  limits_outside : Option S → VersionSetId → Rule N S
  is_out : VersionSetId → S → Rule N S
  forbids : ForbidReason S → S → Rule N S
  has_digit : S → ℕ → Bool → Rule N S
  is_there : N → S → Rule N S
  matches : VersionSetId → S → Rule N S

-- these solvables are chosen
abbrev pub solvables : {N S : Type 0} → List S → List (Literal (Atom N S))
solvables ss = map (λ s. plus (Atom.solvable s)) ss

-- the parent is not chosen; the root always is
abbrev pub parent_literals : {N S : Type 0} → Option S → List (Literal (Atom N S))
parent_literals None = []
parent_literals (Some s) = minus (Atom.solvable s) ∷ []

-- a requirement without condition has one case, which asks for nothing
abbrev pub cases_under : (ConditionId → Condition) → Option ConditionId → List (List VersionSetId)
cases_under condition_of None = [] ∷ []
cases_under condition_of (Some c) = cases condition_of c

abbrev pub has_condition : Option ConditionId → Bool
has_condition None = false
has_condition (Some c) = true

abbrev pub same_requirement : Requirement → Requirement → Bool
same_requirement (Single v) (Single w) = v.0 == w.0
same_requirement (Union v) (Union w) = v.0 == w.0
same_requirement (Single v) (Union w) = false
same_requirement (Union v) (Single w) = false

-- some requirement without condition is this one
abbrev pub has_plain_need : List ConditionalRequirement → Requirement → Bool
has_plain_need list r = list_any (λ (need : ConditionalRequirement). not (has_condition need.condition) && same_requirement r need.requirement) list

module _ {N S : Type 0} (same : S → S → Bool) (p : Packages N S) where
  -- the cases of a requirement's condition
  abbrev pub cases_for : ConditionalRequirement → List (List VersionSetId)
  cases_for need = cases_under p.condition_of need.condition

  -- each version set of the case has a chosen match
  abbrev pub case_holds : List S → List VersionSetId → Bool
  case_holds chosen vs = list_all (is_met same p chosen) vs

  -- no candidate of the version set's package is chosen, or one outside it is
  abbrev pub outside_literals : VersionSetId → List (Literal (Atom N S))
  outside_literals v = minus (Atom.any_of (p.set_package v)) ∷ solvables (filter (λ s. not (p.matches v s)) (listed (p.candidates_of (p.set_package v))))

  -- The version set has no chosen match. Of a package that is marked `many` one outside it may be chosen beside a match.
  abbrev pub set_literals : VersionSetId → List (Literal (Atom N S))
  set_literals v = cond (is_many p (p.set_package v)) (minus (Atom.matches v) ∷ []) (outside_literals v)

  -- some version set of the case has no chosen match
  abbrev pub case_literals : List VersionSetId → List (Literal (Atom N S))
  case_literals [] = []
  case_literals (v ∷ vs) = set_literals v ++ case_literals vs

  -- a match of some version set is chosen
  abbrev pub candidate_literals : List VersionSetId → List (Literal (Atom N S))
  candidate_literals [] = []
  candidate_literals (v ∷ vs) = solvables (filter (p.matches v) (listed (p.candidates_of (p.set_package v)))) ++ candidate_literals vs

  -- the clause that encodes the rule
  abbrev pub literals_of : Rule N S → List (Literal (Atom N S))
  literals_of (Rule.needs parent need vs) = parent_literals parent ++ (case_literals vs ++ candidate_literals (alternatives_of p.members_of need.requirement))
  literals_of (Rule.gated s r) = minus (Atom.solvable s) ∷ plus (Atom.gate r) ∷ []
  literals_of (Rule.shared r) = minus (Atom.gate r) ∷ candidate_literals (alternatives_of p.members_of r)
  literals_of (Rule.limits parent v s) = parent_literals parent ++ minus (Atom.solvable s) ∷ []
  literals_of (Rule.limits_outside parent v) = parent_literals parent ++ minus (Atom.outside v) ∷ []
  literals_of (Rule.is_out v s) = minus (Atom.solvable s) ∷ plus (Atom.outside v) ∷ []
  literals_of (Rule.forbids w s) = minus (Atom.solvable s) ∷ []
  literals_of (Rule.has_digit s bit b) = minus (Atom.solvable s) ∷ (let l : Literal (Atom N S) = record { atom = Atom.digit (p.package_of s) bit; positive = b } in l) ∷ []
  literals_of (Rule.is_there n s) = minus (Atom.solvable s) ∷ plus (Atom.any_of n) ∷ []
  literals_of (Rule.matches v s) = minus (Atom.solvable s) ∷ plus (Atom.matches v) ∷ []

  -- some member asks for the requirement without condition
  abbrev pub is_asked : List S → Requirement → Bool
  is_asked chosen r = list_any (λ s. has_plain_need (rules_of (p.dependencies_of s)).requirements r) chosen

  -- The values over a set. A gate is true exactly if a member asks for its requirement; the digits are given.
  abbrev pub value : (N → ℕ → Bool) → List S → Atom N S → Bool
  value digits chosen (Atom.solvable s) = is_in same p chosen s
  value digits chosen (Atom.gate r) = is_asked chosen r
  value digits chosen (Atom.outside v) = list_any (is_outside same p v) chosen
  value digits chosen (Atom.any_of n) = list_any (is_in same p (listed (p.candidates_of n))) chosen
  value digits chosen (Atom.matches v) = is_met same p chosen v
  value digits chosen (Atom.digit n bit) = digits n bit

  -- Each valuation that makes the clauses of these rules true makes this clause true.
  abbrev pub IsImplied : (Rule N S → Type 0) → List (Literal (Atom N S)) → Type 0
  IsImplied rules clause = (v : Atom N S → Bool) → ((r : Rule N S) → rules r → clause_true v (literals_of r) ≡ true) → clause_true v clause ≡ true

  -- no rule forbids a member, and the digits of members are those in the rules
  pub record Fits (rules : Rule N S → Type 0) (digits : N → ℕ → Bool) (chosen : List S) : Type 0 where
    pub allowed : (w : ForbidReason S) (s : S) → rules (Rule.forbids w s) → is_in same p chosen s ≡ false
    pub by_digits : (s : S) (bit : ℕ) (b : Bool) → rules (Rule.has_digit s bit b) → is_in same p chosen s ≡ true → digits (p.package_of s) bit ≡ b

  -- the digits of a package that the place of its member shows; `bits s bit` is a digit of the place of s
  abbrev pub shown : (N → N → Bool) → (S → ℕ → Bool) → List S → N → ℕ → Bool
  shown same_name bits chosen n bit = list_any (λ s. same_name n (p.package_of s) && bits s bit) chosen

  -- the solvable is a candidate of the package that a lock or an exclusion forbids
  abbrev pub IsForbiddenIn : N → S → Type 0
  IsForbiddenIn n s = (is_in same p (listed (p.candidates_of n)) s ≡ true) × (is_forbidden same p s ≡ true)

  -- This keeps the solvable out: its package's listing locks another one, beside which it is a candidate, or excludes it for the
  -- reason, or its dependencies are unknown for the reason.
  abbrev pub KeepsOut : ForbidReason S → S → Type 0
  KeepsOut (ForbidReason.lock l) s = ((listing_for same p s).locked ≡ Some l) × (same l s ≡ false) × (is_in same p (listing_for same p s).candidates s ≡ true)
  KeepsOut (ForbidReason.word why) s = Contains (listing_for same p s).excluded (s, why) ⊎ (p.dependencies_of s ≡ unknown why)

  -- some solvable matches each version set of the case
  abbrev pub AreMatched : List VersionSetId → Type 0
  AreMatched vs = (v : VersionSetId) → Contains vs v → (s : S) × (is_match same p v s ≡ true)

  -- the version set is one of a case of the root's or some solvable's need
  abbrev pub IsOfCase : Rules → VersionSetId → Type 0
  IsOfCase root v = (parent : Option S) × (need : ConditionalRequirement) × (case : List VersionSetId) × Contains (rules_for same p root parent).requirements need × Contains (cases_for need) case × Contains case v

  -- The rule is one of the provider's and the root's: each version set of a need's case has a match, some solvable asks for a
  -- shared requirement, some parent has a version set that a solvable is outside of, and a digit is one of 32 of a candidate's
  -- place. A package that is marked `many` has no digits, and the rules of matches are of its version sets in cases.
  abbrev pub IsRule : Rules → Rule N S → Type 0
  IsRule root (Rule.needs parent need vs) = Contains (rules_for same p root parent).requirements need × Contains (cases_for need) vs × AreMatched vs
  IsRule root (Rule.gated s r) = has_plain_need (rules_of (p.dependencies_of s)).requirements r ≡ true
  IsRule root (Rule.shared r) = (s : S) × (has_plain_need (rules_of (p.dependencies_of s)).requirements r ≡ true)
  IsRule root (Rule.limits parent v s) = Contains (rules_for same p root parent).constraints v × (is_outside same p v s ≡ true)
  IsRule root (Rule.limits_outside parent v) = Contains (rules_for same p root parent).constraints v
  IsRule root (Rule.is_out v s) = (parent : Option S) × Contains (rules_for same p root parent).constraints v × (is_outside same p v s ≡ true)
  IsRule root (Rule.forbids w s) = KeepsOut w s
  IsRule root (Rule.has_digit s bit b) = (is_in same p (listed (p.candidates_of (p.package_of s))) s ≡ true) × (bit < 32) × (is_many p (p.package_of s) ≡ false)
  IsRule root (Rule.is_there n s) = is_in same p (listed (p.candidates_of n)) s ≡ true
  IsRule root (Rule.matches v s) = IsOfCase root v × (is_match same p v s ≡ true) × (is_many p (p.set_package v) ≡ true)

-- some rule forbids the solvable
abbrev pub IsForbidden : {N S : Type 0} → (Rule N S → Type 0) → S → Type 0
IsForbidden {N} {S} rules s = (w : ForbidReason S) × rules (Rule.forbids w s)

-- the places have the digits that the rules name
abbrev pub AgreeWith : {N S : Type 0} → (Rule N S → Type 0) → (S → ℕ → Bool) → Type 0
AgreeWith {N} {S} rules bits = (s : S) (bit : ℕ) (b : Bool) → rules (Rule.has_digit s bit b) → bits s bit ≡ b
