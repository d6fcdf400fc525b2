-- The names, words, SPECs, lists of alternatives and conditions that are numbered, and the text of each number.
use Rattle.std.specs.Prelude.{◌≡◌, ◌≤◌, ℕ, ⊤, length, List, [], ◌∷◌, Option, Some, None, slice_get}
use Rattle.resolvo_text.specs.Line.{Spec, Cond, Is, And, Or}
use Rattle.resolvo_pool_core.specs.declared.id.DenseId.{DenseId}
use Rattle.resolvo_pool_core.specs.declared.id.NameTag.{NameTag}
use Rattle.resolvo_pool_core.specs.declared.id.StringId.{StringId}
use Rattle.resolvo_pool_core.specs.declared.id.VersionSetId.{VersionSetId}
use Rattle.resolvo_pool_core.specs.declared.id.ConditionId.{ConditionId}
use Rattle.resolvo_pool_core.specs.declared.condition.Condition.{Condition}
use Rattle.resolvo_pool_core.specs.declared.condition.Condition.TheVariants.{Binary, Requirement}
use Rattle.resolvo_pool_core.specs.declared.condition.LogicalOperator.TheVariants as joins
use Rattle.resolvo_pool_core.specs.declared.requirement.Requirement as needs
use Rattle.resolvo_pool_core.specs.declared.requirement.Requirement.TheVariants.{Single, Union}
use Rattle.resolvo_pool_core.specs.declared.requirement.ConditionalRequirement.{ConditionalRequirement}
use Rattle.resolvo_terms.specs.declared.terms.Numbers.{Numbers}
use Rattle.resolvo_intern.specs.Intern.{AreBelow}

abbrev pub NameId : Type 0
NameId = DenseId NameTag ℕ

-- The numbered values: a value's place is its number.
pub record Terms : Type 0 where
  pub names : List (List ℕ)
  pub words : List (List ℕ)
  pub version_sets : List (NameId × Numbers)
  pub unions : List (List VersionSetId)
  pub conditions : List Condition

-- ---- lists

-- No value has two places.
abbrev pub AreOnce : {X : Type 0} → List X → Type 0
AreOnce {X} xs = (i j : ℕ) (x : X) → slice_get xs i ≡ Some x → slice_get xs j ≡ Some x → i ≡ j

-- Two lists have the same length, and each element of the first is related to that of the second at its place.
abbrev pub AreEach : {X Y : Type 0} → (X → Y → Type 0) → List X → List Y → Type 0
AreEach R [] [] = ⊤
AreEach R [] (y ∷ ys) = ⊥
AreEach R (x ∷ xs) [] = ⊥
AreEach R (x ∷ xs) (y ∷ ys) = R x y × AreEach R xs ys

-- Each element of the first list is in the second at its place.
abbrev pub Extends : {X : Type 0} → List X → List X → Type 0
Extends {X} xs ys = (k : ℕ) (x : X) → slice_get xs k ≡ Some x → slice_get ys k ≡ Some x

-- No list has one element alone.
abbrev pub AreSeveral : {X : Type 0} → List (List X) → Type 0
AreSeveral {X} lists = (k : ℕ) (x : X) → slice_get lists k ≡ Some (x ∷ []) → ⊥

-- ---- the text of a number

module _ (t : Terms) where
  abbrev pub IsPackage : NameId → List ℕ → Type 0
  IsPackage n name = slice_get t.names n.raw ≡ Some name

  abbrev pub IsWord : StringId → List ℕ → Type 0
  IsWord w word = slice_get t.words w.0 ≡ Some word

  -- The number is of the SPEC's package with its span.
  abbrev pub IsSpec : VersionSetId → Spec → Type 0
  IsSpec v s = (n : NameId) × (slice_get t.version_sets v.0 ≡ Some (n, record { 0 = s.span })) × IsPackage n s.name

  -- One SPEC is a number of its own, a list of them a union.
  abbrev pub AreAlternatives : needs.Requirement → List Spec → Type 0
  AreAlternatives (Single v) alternatives = AreEach IsSpec (v ∷ []) alternatives
  AreAlternatives (Union u) alternatives = (vs : List VersionSetId) × (slice_get t.unions u.0 ≡ Some vs) × AreEach IsSpec vs alternatives

  abbrev pub IsCondition : ConditionId → Cond → Type 0
  IsCondition c (Is s) = (v : VersionSetId) × (slice_get t.conditions c.0 ≡ Some (Requirement v)) × IsSpec v s
  IsCondition c (And a b) = (i j : ConditionId) × (slice_get t.conditions c.0 ≡ Some (Binary joins.And i j)) × IsCondition i a × IsCondition j b
  IsCondition c (Or a b) = (i j : ConditionId) × (slice_get t.conditions c.0 ≡ Some (Binary joins.Or i j)) × IsCondition i a × IsCondition j b

  abbrev pub IsConditionOf : Option ConditionId → Option Cond → Type 0
  IsConditionOf None None = ⊤
  IsConditionOf None (Some condition) = ⊥
  IsConditionOf (Some c) None = ⊥
  IsConditionOf (Some c) (Some condition) = IsCondition c condition

  -- The requirement is that of a need with these alternatives under this condition.
  abbrev pub IsNeed : ConditionalRequirement → List Spec × Option Cond → Type 0
  IsNeed need written = AreAlternatives need.requirement written.0 × IsConditionOf need.condition written.1

-- ---- more is numbered

-- No earlier number has changed.
pub record Grows (old new : Terms) : Type 0 where
  pub names : Extends old.names new.names
  pub words : Extends old.words new.words
  pub version_sets : Extends old.version_sets new.version_sets
  pub unions : Extends old.unions new.unions
  pub conditions : Extends old.conditions new.conditions

-- No number is left for a value of some kind: the last one is given.
pub data LacksNumber (t : Terms) : Type 0 where
  names : 4294967295 ≤ length t.names → LacksNumber t
  words : 4294967295 ≤ length t.words → LacksNumber t
  version_sets : 4294967295 ≤ length t.version_sets → LacksNumber t
  unions : 4294967295 ≤ length t.unions → LacksNumber t
  conditions : 4294967295 ≤ length t.conditions → LacksNumber t

-- No value has two numbers, no union is of one version set, and the operands of a condition have smaller numbers than it.
pub record AreSound (t : Terms) : Type 0 where
  pub below : AreBelow t.conditions
  pub names : AreOnce t.names
  pub words : AreOnce t.words
  pub version_sets : AreOnce t.version_sets
  pub unions : AreOnce t.unions
  pub several : AreSeveral t.unions
