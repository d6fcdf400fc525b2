-- The end of a turn, over atoms.
use Rattle.std.specs.Prelude.{◌≡◌, ℕ, ◌⊎◌, Bool, true, false, not, ◌&&◌, ◌==◌, List, [], ◌∷◌, Option, None, Some, Contains}
use Rattle.std.proofs.Common.{inl, inr}
use Rattle.std.specs.List.{list_any}
use Rattle.resolvo_pool_core.specs.declared.id.VersionSetId.{VersionSetId}
use Rattle.resolvo_pool_core.specs.declared.requirement.ConditionalRequirement.{ConditionalRequirement}
use Rattle.resolvo_pool_core.specs.declared.requirement.Requirement.{Requirement}
use Rattle.resolvo_pool_core.specs.OnePass.{Literal, negate}
use Rattle.resolvo_pool_core.specs.Provider.{listed}
use Rattle.resolvo_pool_core.specs.Text.{alternatives_of}
use Rattle.resolvo_pool_core.specs.RuleKeeping.{Packages, Rules, IsLawful, is_many, is_unknown, is_in, is_match, is_outside, meets, binds, rules_for, is_member, IsExemptKeeping, IsReached}
use Rattle.resolvo_sat.specs.RuleClauses.{Atom, Rule, plus, minus, cases_for, case_holds, case_literals, literals_of, IsImplied, IsRule, IsForbiddenIn, IsForbidden}

-- each of the literals is false by the known ones
abbrev pub AreFalse : {A : Type 0} → List (Literal A) → List (Literal A) → Type 0
AreFalse {A} known literals = (l : Literal A) → Contains literals l → Contains known (negate l)

-- the clause is not falsified, and a literal whose others are false is true
pub record IsQuiet {A : Type 0} (known clause : List (Literal A)) : Type 0 where
  pub unbroken : AreFalse known clause → ⊥
  pub complete : (l : Literal A) → Contains clause l → ((m : Literal A) → Contains clause m → (m ≡ l) ⊎ Contains known (negate m)) → Contains known l

-- the parent is known to be chosen; the root always is
abbrev pub IsTrueParent : {N S : Type 0} → List (Literal (Atom N S)) → Option S → Type 0
IsTrueParent known None = Unit {0}
IsTrueParent known (Some s) = Contains known (plus (Atom.solvable s))

-- the solvables differ in some digit
abbrev pub DifferInDigit : {N S : Type 0} → (Rule N S → Type 0) → S → S → Type 0
DifferInDigit rules s t = (bit : ℕ) × (b : Bool) × rules (Rule.has_digit s bit b) × rules (Rule.has_digit t bit (not b))

-- `rules` are those that clauses encode, `registered` the solvables whose digits have clauses
module _ {N S : Type 0} (same : S → S → Bool) (p : Packages N S) (rules : Rule N S → Type 0) where
  -- the clause of a need asks for a match of the requirement: its parent is chosen, and its condition's literals are false
  pub record IsAskedByNeed (known : List (Literal (Atom N S))) (r : Requirement) : Type 0 where
    pub parent : Option S
    pub need : ConditionalRequirement
    pub case : List VersionSetId
    pub present : rules (Rule.needs parent need case)
    pub chosen : IsTrueParent known parent
    pub holds : AreFalse known (case_literals same p case)
    pub asks : r ≡ need.requirement

  -- the clause of an open gate asks for a match of its requirement
  pub record IsAskedByGate (known : List (Literal (Atom N S))) (r : Requirement) : Type 0 where
    pub present : rules (Rule.shared r)
    pub opened : Contains known (plus (Atom.gate r))

  abbrev pub IsAsked : List (Literal (Atom N S)) → Requirement → Type 0
  IsAsked known r = IsAskedByNeed known r ⊎ IsAskedByGate known r

  -- the rule whose clause asks
  abbrev pub asking : (known : List (Literal (Atom N S))) (r : Requirement) → IsAsked known r → Rule N S
  asking known r (inl k) = Rule.needs k.parent k.need k.case
  asking known r (inr k) = Rule.shared r

  -- a clause may ask for a match of the requirement
  abbrev pub HasClause : Requirement → Type 0
  HasClause r = ((parent : Option S) × (need : ConditionalRequirement) × (case : List VersionSetId) × rules (Rule.needs parent need case) × (r ≡ need.requirement)) ⊎ rules (Rule.shared r)

  -- the literal chooses an accepted soft requirement
  pub record IsSoftChoice (softs : List S) (l : Literal (Atom N S)) : Type 0 where
    pub solvable : S
    pub is : l ≡ plus (Atom.solvable solvable)
    pub wished : is_in same p softs solvable ≡ true

  -- the literal chooses a match of a requirement that is asked for
  pub record IsPicked (known : List (Literal (Atom N S))) (l : Literal (Atom N S)) : Type 0 where
    pub requirement : Requirement
    pub asked : IsAsked known requirement
    pub solvable : S
    pub is : l ≡ plus (Atom.solvable solvable)
    pub offered : meets same p requirement solvable ≡ true

  -- a choice is an accepted soft requirement, or a match of a requirement that is asked for
  abbrev pub IsCalledFor : List S → List (Literal (Atom N S)) → Literal (Atom N S) → Type 0
  IsCalledFor softs known l = IsSoftChoice softs l ⊎ IsPicked known l

  module _ (registered : S → Type 0) where
    -- A clause that follows from the rules forces the literal, since its others are false; the solvables that it may
    -- make true are registered.
    pub record IsForced (known : List (Literal (Atom N S))) (l : Literal (Atom N S)) : Type 0 where
      pub clause : List (Literal (Atom N S))
      pub implied : IsImplied same p rules clause
      pub present : Contains clause l
      pub others : (m : Literal (Atom N S)) → Contains clause m → (m ≡ l) ⊎ Contains known (negate m)
      pub positive : (s : S) → Contains clause (plus (Atom.solvable s)) → registered s

    -- the literal may follow those known before it: it is not false, and chosen or forced
    pub record Follows (choice : List (Literal (Atom N S)) → Literal (Atom N S) → Type 0) (l : Literal (Atom N S)) (known : List (Literal (Atom N S))) : Type 0 where
      pub fresh : Contains known (negate l) → ⊥
      pub reasoned : choice known l ⊎ IsForced known l

    -- the literals that a trail makes true, newest first; each may follow those before it
    abbrev pub IsTrail : (List (Literal (Atom N S)) → Literal (Atom N S) → Type 0) → List (Literal (Atom N S)) → Type 0
    IsTrail choice [] = Unit {0}
    IsTrail choice (l ∷ known) = Follows choice l known × IsTrail choice known

  -- What holds of the clauses, whatever the trail is.
  pub record AreRegistered (root : Rules) (registered : S → Type 0) (softs : List S) : Type 0 where
    -- each rule is one of the problem
    pub rule : (r : Rule N S) → rules r → IsRule same p root r
    -- registered are soft requirements, candidates of requirements that have a clause, and
    -- solvables outside a condition's version sets whose packages aren't marked `many`
    pub soft : (s : S) → is_in same p softs s ≡ true → registered s
    pub candidate : (r : Requirement) (s : S) → HasClause r → meets same p r s ≡ true → registered s
    pub out : (parent : Option S) (need : ConditionalRequirement) (case : List VersionSetId) (v : VersionSetId) (s : S) → rules (Rule.needs parent need case) → Contains case v → is_many p (p.set_package v) ≡ false → is_outside same p v s ≡ true → registered s
    -- a registered solvable is a candidate, and differs in some digit from the others of its package,
    -- unless this is marked `many`
    pub candidates : (s : S) → registered s → is_in same p (listed (p.candidates_of (p.package_of s))) s ≡ true
    pub by_digits : (s t : S) → registered s → registered t → p.package_of s ≡ p.package_of t → is_many p (p.package_of s) ≡ false → (s ≡ t) ⊎ DifferInDigit rules s t
    -- where a condition names its package, an at-least-one clause holds it; or, where the package is
    -- marked `many`, each match of the version set is in a clause of matches
    pub there : (parent : Option S) (need : ConditionalRequirement) (case : List VersionSetId) (v : VersionSetId) (s : S) → rules (Rule.needs parent need case) → Contains case v → registered s → p.package_of s ≡ p.set_package v → is_many p (p.set_package v) ≡ false → rules (Rule.is_there (p.set_package v) s)
    pub held : (parent : Option S) (need : ConditionalRequirement) (case : List VersionSetId) (v : VersionSetId) (s : S) → rules (Rule.needs parent need case) → Contains case v → is_many p (p.set_package v) ≡ true → is_match same p v s ≡ true → rules (Rule.matches v s)
    -- the candidates of requirements that have a clause are forbidden by rules where a lock or an
    -- exclusion forbids them
    pub forbid : (r : Requirement) (v : VersionSetId) (s : S) → HasClause r → Contains (alternatives_of p.members_of r) v → IsForbiddenIn same p (p.set_package v) s → IsForbidden rules s

  -- The clauses for a case of a parent's need: its own; or, without a condition, those of a gate; or none, since a
  -- version set of the case keeps the parent itself out, whose package isn't marked `many`.
  abbrev pub IsNeedEncoded : Option S → ConditionalRequirement → List VersionSetId → Type 0
  IsNeedEncoded parent need case = rules (Rule.needs parent need case)
      ⊎ (((s : S) × (parent ≡ Some s) × rules (Rule.gated s need.requirement) × rules (Rule.shared need.requirement))
      ⊎ ((s : S) × (v : VersionSetId) × (parent ≡ Some s) × Contains case v × (is_outside same p v s ≡ true) × (is_many p (p.set_package v) ≡ false)))

  -- The rules of the root and of each member are clauses: each case that holds, each limit, and each rule that forbids the
  -- candidates that limits name, and members of unknown dependencies.
  pub record AreEncoded (root : Rules) (members : List S) : Type 0 where
    pub need : (parent : Option S) (need : ConditionalRequirement) (case : List VersionSetId) → is_member same p root members parent ≡ true → Contains (rules_for same p root parent).requirements need → Contains (cases_for same p need) case → case_holds same p members case ≡ true → IsNeedEncoded parent need case
    pub limit : (parent : Option S) (v : VersionSetId) (s : S) → is_member same p root members parent ≡ true → Contains (rules_for same p root parent).constraints v → is_outside same p v s ≡ true → rules (Rule.limits parent v s) ⊎ (rules (Rule.limits_outside parent v) × rules (Rule.is_out v s))
    pub forbid : (parent : Option S) (v : VersionSetId) (s : S) → is_member same p root members parent ≡ true → Contains (rules_for same p root parent).constraints v → IsForbiddenIn same p (p.set_package v) s → IsForbidden rules s
    pub unknown : (s : S) → is_in same p members s ≡ true → is_unknown (p.dependencies_of s) ≡ true → IsForbidden rules s

  -- An accepted turn has ended: nothing is left to propagate, no requirement is asked for in vain, all is encoded.
  pub record IsEnd (root : Rules) (registered : S → Type 0) (softs : List S) (known : List (Literal (Atom N S))) (members : List S) : Type 0 where
    pub lawful : IsLawful p
    pub trail : IsTrail registered (IsCalledFor softs) known
    -- the members are the solvables that the trail makes true
    pub true_on_trail : (s : S) → is_in same p members s ≡ true → Contains known (plus (Atom.solvable s))
    pub chosen : (s : S) → Contains known (plus (Atom.solvable s)) → is_in same p members s ≡ true
    pub quiet : (r : Rule N S) → rules r → IsQuiet known (literals_of same p r)
    -- a requirement that is asked for has no candidate, or a chosen one
    pub met : (r : Requirement) → IsAsked known r → ((s : S) → meets same p r s ≡ true → ⊥) ⊎ ((s : S) × (meets same p r s ≡ true) × Contains known (plus (Atom.solvable s)))
    pub register : AreRegistered root registered softs
    pub encoded : AreEncoded root members

-- What the end of an accepted turn shows: the members keep all rules, except exempt soft
-- requirements, and are their reached part.
pub record IsAccepted {N S : Type 0} (same : S → S → Bool) (p : Packages N S) (root : Rules) (softs members : List S) : Type 0 where
  pub keeping : IsExemptKeeping same p root softs members
  pub reached : (s : S) → is_in same p members s ≡ true → IsReached same p root softs members s
  pub inside : (s : S) → IsReached same p root softs members s → is_in same p members s ≡ true

-- each literal denies a solvable of the list
abbrev pub Denies : {N S : Type 0} → (S → S → Bool) → Packages N S → List S → List (Literal (Atom N S)) → Type 0
Denies {N} {S} same p list clause = (l : Literal (Atom N S)) → Contains clause l → (s : S) × (l ≡ minus (Atom.solvable s)) × (is_in same p list s ≡ true)

-- A list in the order of its reasons, newest first: each entry is a soft requirement, or matches a requirement of the root or of an
-- older entry that binds in the older ones.
abbrev pub IsReasoned : {N S : Type 0} → (S → S → Bool) → Packages N S → Rules → List S → List S → Type 0
IsReasoned same p root softs [] = Unit {0}
IsReasoned {N} {S} same p root softs (s ∷ older) =
    (is_in same p older s ≡ false)
    × ((is_in same p softs s ≡ true) ⊎ ((parent : Option S) × (need : ConditionalRequirement) × (is_member same p root older parent ≡ true) × Contains (rules_for same p root parent).requirements need × (binds same p older need ≡ true) × (meets same p need.requirement s ≡ true)))
    × IsReasoned same p root softs older

-- whether the atom is this digit of the package
abbrev pub is_digit : {N S : Type 0} → (N → N → Bool) → N → ℕ → Atom N S → Bool
is_digit same_name n bit (Atom.solvable s) = false
is_digit same_name n bit (Atom.gate r) = false
is_digit same_name n bit (Atom.outside v) = false
is_digit same_name n bit (Atom.any_of m) = false
is_digit same_name n bit (Atom.matches v) = false
is_digit same_name n bit (Atom.digit m other) = same_name n m && (bit == other)

-- the digits that are known to be true
abbrev pub digits_in : {N S : Type 0} → (N → N → Bool) → List (Literal (Atom N S)) → N → ℕ → Bool
digits_in same_name known n bit = list_any (λ l. is_digit same_name n bit l.atom && l.positive) known
