-- One pass over the clauses of variables is one over the steps' clauses, which say what their literals mean.
use Rattle.std.proofs.Common.{◌≡◌, ℕ, zero, suc, ◌<◌, ◌⊎◌, inl, inr, Bool, true, false, List, [], ◌∷◌, map, length, Option, Some, None, refl, sym, ◌∙◌, ap, subst, arith, eqb-true, eq-eqb}
use Rattle.std.specs.Prelude.{Contains, nat_eq, ◌||◌}
use Rattle.std.proofs.lemmas.Bool.{cases_Bool, false≢true}
use Rattle.resolvo_pool_core.specs.declared.id.ClauseId.{ClauseId}
use Rattle.resolvo_pool_core.specs.OnePass as Pass
use Rattle.resolvo_pool_core.specs.OnePass.{Literal, negate, is_denied, is_broken, reading, learn, refutes, one_pass, IsFalseUnder, HasNoOpposites}
use Rattle.resolvo_pool_core.proofs.PassLearns.{literal_is, literal_own, refuted_from}
use Rattle.resolvo_store_core.specs.Signed.{Signed, negation, same_literal, has}
use Rattle.resolvo_store_core.specs.Clauses.{yes, no, root as root_variable}
use Rattle.resolvo_sat.specs.Known.{clause_at}
use Rattle.resolvo_sat.specs.AnalyzeFinal.{rup_literal, rup_clause, Refutes}
use Rattle.resolvo_sat.specs.State.{named, AllBelow, AreApart}
use Rattle.resolvo_sat.proofs.Literals.{has-cons, has_here, has_later}
use Rattle.resolvo_sat.proofs.PendingLemmas.{has_contained, contained_has}
use Rattle.resolvo_sat.specs.RuleClauses.{IsExact, Atom}
use Rattle.resolvo_sat.specs.Numbered.{meaning, meanings, Means, IsOnce, Spells}
use Rattle.resolvo_sat.proofs.Lists.{contains_none, contains_cases, contains_map, map_contains, any_contained, contained_any}
use Rattle.resolvo_sat.proofs.Meanings.{meaning_in, meaning_from, one_literal}
use Rattle.resolvo_proof.specs.Written.{with_place, places}
use Rattle.resolvo_proof.proofs.PassSets.{Spelt, Agree, read_alike, true_idle}

pub exact_number : (a b : ℕ) → nat_eq a b ≡ true → a ≡ b
exact_number a b h = eqb-true a b h

pub own_number : (a : ℕ) → nat_eq a a ≡ true
own_number a = eq-eqb a a refl

-- the literal of an atom and a sign
abbrev signed_of : Pass.Literal ℕ → Signed
signed_of l = record { variable = record { 0 = l.atom }; positive = l.positive }

has_rup : (clause : List Signed) (l : Pass.Literal ℕ) → Pass.has nat_eq (rup_clause clause) l ≡ has clause (signed_of l)
has_rup [] l = refl
has_rup (x ∷ xs) l = ap (λ b. same_literal x (signed_of l) || b) (has_rup xs l)

-- the literal of a variable and a sign
abbrev at : ℕ → Bool → Signed
at v b = record { variable = record { 0 = v }; positive = b }

-- that the root is not true
abbrev root_fails : Pass.Literal ℕ
root_fails = rup_literal (no root_variable)

-- the literal is that the root is not true
abbrev is_root_fails : Pass.Literal ℕ → Type 0
is_root_fails l = l ≡ root_fails

-- a value of the root by which it does not fail is true
fails_false : (o : Option Bool) → is_denied o false ≡ true → o ≡ Some true
fails_false None h = absurd (false≢true h)
fails_false (Some true) h = refl
fails_false (Some false) h = absurd (false≢true h)

-- a refuted clause has causes
pub refuted_some : {A X : Type 0} (same : A → A → Bool) (known : A → Option Bool) (f : X → List (Literal A)) (xs : List X) → refutes same known (map f xs) ≡ true → 0 < length xs
refuted_some same known f [] h = absurd (false≢true h)
refuted_some same known f (x ∷ xs) h = omega arith

-- places of earlier clauses are places of earlier steps
pub places_below : (n : ℕ) (causes : List ClauseId) → AllBelow (suc n) causes → (cause : ℕ) → Contains (places causes) cause → cause < n
places_below n [] below cause h = absurd (contains_none cause h)
places_below n (c ∷ cs) below cause h = go c.0 below.0 h (places_below n cs below.1 cause)
  where
    go : (k : ℕ) → k < suc n → Contains (with_place k (places cs)) cause → (Contains (places cs) cause → cause < n) → cause < n
    go zero b a rest = rest a
    go (suc k) b a rest = elim (contains_cases cause k (places cs) a) [ inl e ↦ (let same : cause ≡ k = e in omega arith) | inr i ↦ rest i ]

module _ {N S : Type 0} (same : Atom N S → Atom N S → Bool) (exact : IsExact same) (origin : ℕ → Atom N S) (count : ℕ) (once : IsOnce origin count) where
  -- the variable was made for the atom
  abbrev Made : ℕ → Atom N S → Type 0
  Made v a = (0 < v) × (v < count) × (a ≡ origin v)

  pub made_once : (v w : ℕ) (a : Atom N S) → Made v a → Made w a → v ≡ w
  made_once v w a m k = once v w m.0 m.1 k.0 k.1 (sym m.2 ∙ k.2)

  pub one_made : (v : ℕ) (a b : Atom N S) → Made v a → Made v b → a ≡ b
  one_made v a b m k = m.2 ∙ sym k.2

  -- the literal means this
  abbrev IsNamed : Pass.Literal ℕ → Literal (Atom N S) → Type 0
  IsNamed l m = Made l.atom m.atom × (m.positive ≡ l.positive)

  -- the clause of variables has the literals of the step, and besides them at most that the root is not true
  abbrev pub IsSpelt : List Signed → List (Literal (Atom N S)) → Type 0
  IsSpelt clause literals = Spelt nat_eq exact_number own_number same exact.one exact.own Made made_once one_made is_root_fails (rup_clause clause) literals

  abbrev Agrees : (ℕ → Option Bool) → (Atom N S → Option Bool) → Type 0
  Agrees values known = Agree nat_eq exact_number own_number same exact.one exact.own Made made_once one_made is_root_fails values known

  pub spelt : (clause : List Signed) (literals : List (Literal (Atom N S))) → ((l : Signed) → has clause l ≡ true → l.variable.0 < count) → Spells origin clause literals → IsSpelt clause literals
  spelt clause literals below spells = record {
    only = λ l h. (let (x, a, e) = map_contains rup_literal l clause h in go l x e (has_contained clause x a) (spells.only x (has_contained clause x a)));
    each = λ m b. (let (l, h, (other, e)) = spells.each m b in (rup_literal l, contains_map rup_literal l clause (contained_has clause l h), ((other, below l h, ap (λ (x : Literal (Atom N S)). x.atom) e), ap (λ (x : Literal (Atom N S)). x.positive) e)));
  }
    where
      go : (l : Pass.Literal ℕ) (x : Signed) → l ≡ rup_literal x → has clause x ≡ true → (x ≡ no root_variable) ⊎ ((0 < x.variable.0) × Contains literals (meaning origin x)) → (l ≡ root_fails) ⊎ ((m : Literal (Atom N S)) × Contains literals m × IsNamed l m)
      go l x e h (inl i) = inl (e ∙ ap rup_literal i)
      go l x e h (inr (other, a)) = inr (meaning origin x, a, subst (λ y. IsNamed y (meaning origin x)) (sym e) ((other, below x h, refl), refl))

  -- The pass over the clauses of these numbers, the first of which is true by the root, refutes
  -- where that over their steps does.
  pass_alike : (clauses : List (List Signed)) (steps : ℕ → List (Literal (Atom N S))) → has (clause_at clauses 0) (yes root_variable) ≡ true → ((n : ℕ) → suc n < length clauses → IsSpelt (clause_at clauses (suc n)) (steps n))
      → (causes : List ClauseId) → AllBelow (length clauses) causes → (values : ℕ → Option Bool) (known : Atom N S → Option Bool) → Agrees values known → refutes nat_eq values (map rup_clause (named clauses causes)) ≡ refutes same known (map steps (places causes))
  pass_alike clauses steps first spelt [] below values known agree = refl
  pass_alike clauses steps first spelt (c ∷ cs) below values known agree = go c.0 below.0 (pass_alike clauses steps first spelt cs below.1)
    where
      go : (n : ℕ) → n < length clauses → ((v : ℕ → Option Bool) (k : Atom N S → Option Bool) → Agrees v k → refutes nat_eq v (map rup_clause (named clauses cs)) ≡ refutes same k (map steps (places cs))) → refutes nat_eq values (rup_clause (clause_at clauses n) ∷ map rup_clause (named clauses cs)) ≡ refutes same known (map steps (with_place n (places cs)))
      go zero b rest =
          let idle = true_idle nat_eq exact_number own_number values (rup_clause (clause_at clauses 0)) (rup_literal (yes root_variable)) (contains_map rup_literal (yes root_variable) (clause_at clauses 0) (contained_has (clause_at clauses 0) (yes root_variable) first)) (fails_false (values 0) (agree.gone root_fails refl)) in
          ap (λ b. b || refutes nat_eq (learn nat_eq values (reading nat_eq values (rup_clause (clause_at clauses 0)))) (map rup_clause (named clauses cs))) idle.0
          ∙ (ap (λ v. refutes nat_eq v (map rup_clause (named clauses cs))) idle.1
          ∙ rest values known agree)
      go (suc n) b rest =
          let read = read_alike nat_eq exact_number own_number same exact.one exact.own Made made_once one_made is_root_fails values known agree (rup_clause (clause_at clauses (suc n))) (steps n) (spelt n b) in
          ap (λ b. b || refutes nat_eq (learn nat_eq values (reading nat_eq values (rup_clause (clause_at clauses (suc n))))) (map rup_clause (named clauses cs))) read.0
          ∙ ap (λ b. is_broken (reading same known (steps n)) || b) (rest (learn nat_eq values (reading nat_eq values (rup_clause (clause_at clauses (suc n))))) (learn same known (reading same known (steps n))) read.1)

  -- the values of the variables by those of the atoms; the root is true
  abbrev values_of : (Atom N S → Option Bool) → ℕ → Option Bool
  values_of known zero = Some true
  values_of known (suc n) = known (origin (suc n))

  values_agree : (known : Atom N S → Option Bool) → Agrees (values_of known) known
  values_agree known = record { at = λ v a m. ap known m.2 ∙ go v m.0; gone = λ l e. subst (λ (x : Pass.Literal ℕ). is_denied (values_of known x.atom) x.positive ≡ true) (sym e) refl }
    where
      go : (v : ℕ) → 0 < v → known (origin v) ≡ values_of known v
      go zero h = absurd (omega arith)
      go (suc v) h = refl

  -- where the meanings of the literals are false, they are, and so is that the root is not true
  all_false : (known : Atom N S → Option Bool) (literals : List Signed) → AreApart literals → IsFalseUnder same known (meanings origin literals) → IsFalseUnder nat_eq (values_of known) (rup_clause (no root_variable ∷ literals))
  all_false known literals apart falls l h = go l.atom l.positive (sym (has_rup (no root_variable ∷ literals) l) ∙ h)
    where
      go : (v : ℕ) (b : Bool) → has (no root_variable ∷ literals) (at v b) ≡ true → is_denied (values_of known v) b ≡ true
      go zero false a = refl
      go zero true a = absurd (apart (yes root_variable) a (has_here (no root_variable) literals (no root_variable) refl))
      go (suc v) b a = elim (has-cons (no root_variable) literals (at (suc v) b) a) [
        | inl e ↦ (let z : 0 ≡ suc v = ap (λ (x : Signed). x.variable.0) e in absurd (omega arith))
        | inr i ↦ falls (meaning origin (at (suc v) b)) (contained_any (λ x. Pass.same_literal same x (meaning origin (at (suc v) b))) (meaning origin (at (suc v) b)) (meanings origin literals) (meaning_in origin literals (at (suc v) b) i (omega arith)) (literal_own same exact.one exact.own (meaning origin (at (suc v) b))))
      ]

  -- no literal's meaning is beside its negation
  no_opposites : (literals : List Signed) → ((l : Signed) → has literals l ≡ true → l.variable.0 < count) → AreApart literals → HasNoOpposites same (meanings origin literals)
  no_opposites literals below apart m h = elim (cases_Bool (Pass.has same (meanings origin literals) (negate m))) [
    | inr f ↦ f
    | inl t ↦
        let (l, a, (o, e)) = found m h in
        let (k, b, (q, f)) = found (negate m) t in
        let same_one : k ≡ negation l = one_literal origin count once k (negation l) q (below k b) o (below l a) (sym f ∙ ap negate e) in
        absurd (apart l (has_later (no root_variable) literals l a) (subst (λ x. has (no root_variable ∷ literals) x ≡ true) same_one (has_later (no root_variable) literals k b)))
  ]
    where
      found : (x : Literal (Atom N S)) → Pass.has same (meanings origin literals) x ≡ true → (l : Signed) × (has literals l ≡ true) × Means origin l x
      found x t = let (y, a, e) = any_contained (λ y. Pass.same_literal same y x) (meanings origin literals) t in meaning_from origin literals x (subst (Contains (meanings origin literals)) (literal_is same exact.one exact.own y x e) a)

  -- What follows from clauses of variables follows, by what its literals mean, from the steps of those clauses.
  pub derived_meant : (clauses : List (List Signed)) (steps : ℕ → List (Literal (Atom N S))) → has (clause_at clauses 0) (yes root_variable) ≡ true → ((n : ℕ) → suc n < length clauses → IsSpelt (clause_at clauses (suc n)) (steps n))
      → (literals : List Signed) (causes : List ClauseId) → AllBelow (length clauses) causes → Refutes (no root_variable ∷ literals) (named clauses causes) → ((l : Signed) → has literals l ≡ true → l.variable.0 < count) → AreApart literals
      → one_pass same (meanings origin literals) (map steps (places causes)) ≡ true
  derived_meant clauses steps first spelt literals causes below refuted in_range apart =
      refuted_from same exact.one exact.own (meanings origin literals) (map steps (places causes)) (no_opposites literals in_range apart) (λ known falls.
      sym (pass_alike clauses steps first spelt causes below (values_of known) known (values_agree known)) ∙ refuted (values_of known) (all_false known literals apart falls))
