-- Clauses and trails over numbered variables, and the meanings of their literals.
use Rattle.std.specs.Prelude.{◌≡◌, ℕ, zero, suc, ◌<◌, ◌==◌, ◌⊎◌, Bool, true, List, [], ◌∷◌, length, reverse, cond, Contains}
use Rattle.resolvo_pool_core.specs.declared.requirement.Requirement.{Requirement}
use Rattle.resolvo_pool_core.specs.OnePass.{Literal}
use Rattle.resolvo_pool_core.specs.RuleKeeping.{Packages, Rules, IsLawful, is_in, meets}
use Rattle.resolvo_store_core.specs.Signed.{Signed, has}
use Rattle.resolvo_store_core.specs.Clauses.{yes, no, root as root_variable}
use Rattle.resolvo_store_core.specs.declared.decision.Entry.{Entry}
use Rattle.resolvo_sat.specs.Clauses.{SatClause}
use Rattle.resolvo_sat.specs.Known.{clause_at}
use Rattle.resolvo_sat.specs.Entries.{literal_of, made_true, IsChoice, IsOnTrail, IsTrail, IsRooted}
use Rattle.resolvo_sat.specs.Propagation.{IsQuiet}
use Rattle.resolvo_sat.specs.State.{lists, AreDerived}
use Rattle.resolvo_sat.specs.RuleClauses.{Atom, Rule, plus, minus, literals_of}
use Rattle.resolvo_sat.specs.SearchEnd as Ending

-- `origin` gives the atom that each variable represents; the root's variable, number 0, has none
module _ {N S : Type 0} (origin : ℕ → Atom N S) where
  abbrev pub meaning : Signed → Literal (Atom N S)
  meaning l = record { atom = origin l.variable.0; positive = l.positive }

  -- the literal is none of the root's, and means this
  abbrev pub Means : Signed → Literal (Atom N S) → Type 0
  Means l m = (0 < l.variable.0) × (m ≡ meaning l)

  -- the meanings of the literals, except the root's
  abbrev pub meanings : List Signed → List (Literal (Atom N S))
  meanings [] = []
  meanings (l ∷ ls) = cond (l.variable.0 == 0) (meanings ls) (meaning l ∷ meanings ls)

  -- the meanings of the true literals of a trail, newest first
  abbrev pub known_of : List Entry → List (Literal (Atom N S))
  known_of h = meanings (made_true h)

  -- no two of the variables were made for one atom
  abbrev pub IsOnce : ℕ → Type 0
  IsOnce count = (m n : ℕ) → 0 < m → m < count → 0 < n → n < count → origin m ≡ origin n → m ≡ n

  -- the values of the variables, by those of the atoms; the root is true
  abbrev pub values_by : (Atom N S → Bool) → ℕ → Bool
  values_by v zero = true
  values_by v (suc n) = v (origin (suc n))

  -- the clause has the literals of the rule, in any order and number, and besides them at most that the root is not true
  pub record Spells (clause : List Signed) (literals : List (Literal (Atom N S))) : Type 0 where
    pub only : (l : Signed) → has clause l ≡ true → (l ≡ no root_variable) ⊎ ((0 < l.variable.0) × Contains literals (meaning l))
    pub each : (m : Literal (Atom N S)) → Contains literals m → (l : Signed) × (has clause l ≡ true) × Means l m

  -- each decision, except the root's, has its reason in the literals known before
  abbrev pub AreCalledFor : (List (Literal (Atom N S)) → Literal (Atom N S) → Type 0) → List Entry → Type 0
  AreCalledFor choice h = (e : Entry) (older : List Entry) → IsOnTrail h e older → IsChoice e older → 0 < e.decision.variable.0 → choice (known_of older) (meaning (literal_of e))

  -- each literal denies the root or a solvable of the list
  abbrev pub Denies : (S → S → Bool) → Packages N S → List S → List Signed → Type 0
  Denies same p list clause = (l : Signed) → has clause l ≡ true → (l ≡ no root_variable) ⊎ ((s : S) × Means l (minus (Atom.solvable s)) × (is_in same p list s ≡ true))

  module _ (same : S → S → Bool) (p : Packages N S) (rules : Rule N S → Type 0) where
    -- the clause has causes from which it follows, is the root's unit clause, or encodes a rule
    abbrev pub IsAccounted : SatClause → Type 0
    IsAccounted c = (0 < length c.causes) ⊎ ((has c.literals (yes root_variable) ≡ true) ⊎ ((r : Rule N S) × rules r × Spells c.literals (literals_of same p r)))

    -- What holds of the first variables and of the clauses, whatever the trail is.
    pub record AreCoded (registered : S → Type 0) (count : ℕ) (clauses : List SatClause) : Type 0 where
      pub once : IsOnce count
      pub in_range : (n : ℕ) (l : Signed) → has (clause_at (lists clauses) n) l ≡ true → l.variable.0 < count
      -- each clause is accounted for, and each rule encoded
      pub derived : AreDerived (reverse clauses)
      pub accounted : (c : SatClause) → Contains clauses c → IsAccounted c
      pub spelled : (r : Rule N S) → rules r → (n : ℕ) × (n < length clauses) × Spells (clause_at (lists clauses) n) (literals_of same p r)
      -- the solvables that clauses may make true are registered
      pub positive : (n : ℕ) (l : Signed) (s : S) → has (clause_at (lists clauses) n) l ≡ true → Means l (plus (Atom.solvable s)) → registered s

    -- An accepted turn has ended, over variables: nothing is left to propagate, no requirement is asked for in vain, and
    -- all is encoded.
    pub record IsTurnEnd (root : Rules) (registered : S → Type 0) (softs : List S) (count : ℕ) (clauses : List SatClause) (h : List Entry) (members : List S) : Type 0 where
      pub lawful : IsLawful p
      pub coded : AreCoded registered count clauses
      pub trail : IsTrail count (lists clauses) h
      pub rooted : IsRooted h
      pub choices : AreCalledFor (Ending.IsCalledFor same p rules softs) h
      pub quiet : (n : ℕ) → n < length clauses → IsQuiet (made_true h) (clause_at (lists clauses) n)
      -- the members are the solvables whose variables the trail makes true
      pub true_on_trail : (s : S) → is_in same p members s ≡ true → (l : Signed) × (has (made_true h) l ≡ true) × Means l (plus (Atom.solvable s))
      pub chosen : (l : Signed) (s : S) → has (made_true h) l ≡ true → Means l (plus (Atom.solvable s)) → is_in same p members s ≡ true
      pub met : (r : Requirement) → Ending.IsAsked same p rules (known_of h) r
          → ((s : S) → meets same p r s ≡ true → ⊥) ⊎ ((s : S) × (meets same p r s ≡ true) × (is_in same p members s ≡ true))
      pub register : Ending.AreRegistered same p rules root registered softs
      pub encoded : Ending.AreEncoded same p rules root members
