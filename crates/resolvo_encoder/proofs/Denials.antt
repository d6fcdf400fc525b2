-- The clauses of rules that forbid solvables.
use Rattle.std.proofs.Common.{◌≡◌, ◌<◌, ◌⊎◌, inl, inr, Bool, true, false, List, [], ◌∷◌, ◌++◌, Some, None, refl, sym, ◌∙◌, ap, subst, ℕ}
use Rattle.std.specs.Prelude.{Contains}
use Rattle.std.specs.List.{list_any}
use Rattle.std.proofs.lemmas.Bool.{both_ways}
use Rattle.resolvo_pool_core.specs.OnePass.{Literal}
use Rattle.resolvo_pool_core.specs.RuleKeeping.{Packages}
use Rattle.resolvo_store_core.specs.Signed.{Signed, has}
use Rattle.resolvo_store_core.specs.Clauses.{no, root as root_variable}
use Rattle.resolvo_sat.proofs.Literals.{has-cons, has_here, has_later}
use Rattle.resolvo_sat.specs.RuleClauses.{Atom, Rule, plus, literals_of}
use Rattle.resolvo_sat.specs.Numbered.{meaning, Means, Spells}
use Rattle.resolvo_sat.proofs.Lists.{contains_none, contains_first, contains_left, contains_right, contains_one, contains_parts, contained_any}
use Rattle.resolvo_store_core.specs.AtMostOne.{digit}
use Rattle.resolvo_state.specs.Kinds.{Kind}
use Rattle.resolvo_state.specs.ClauseKinds.{rule_of}
use Rattle.resolvo_encoder.specs.Encoded.{IsRequiresRule}
use Rattle.resolvo_encoder.proofs.RequireLemmas.{some_one}
use Rattle.resolvo_encoder.specs.ClauseRules.{IsRestraint, IsPair}

-- whether the literal is a positive one of a solvable
abbrev is_choice_of : {N S : Type 0} → Atom N S → Bool → Bool
is_choice_of (Atom.solvable s) b = b
is_choice_of (Atom.gate r) b = false
is_choice_of (Atom.outside v) b = false
is_choice_of (Atom.any_of n) b = false
is_choice_of (Atom.matches v) b = false
is_choice_of (Atom.digit n bit) b = false

abbrev is_choice : {N S : Type 0} → Literal (Atom N S) → Bool
is_choice l = is_choice_of l.atom l.positive

module _ {N S : Type 0} where
  -- a restraint is no requires clause
  pub asks_none : (r : Rule N S) → IsRestraint r → IsRequiresRule r → ⊥
  asks_none (Rule.needs parent need case) d a = d
  asks_none (Rule.gated s r) d a = a
  asks_none (Rule.shared r) d a = d
  asks_none (Rule.limits parent v s) d a = a
  asks_none (Rule.limits_outside parent v) d a = a
  asks_none (Rule.is_out v s) d a = a
  asks_none (Rule.forbids w s) d a = a
  asks_none (Rule.has_digit s bit b) d a = a
  asks_none (Rule.is_there n s) d a = a
  asks_none (Rule.matches v s) d a = a

  -- its clause makes no solvable true
  pub makes_none : (same : S → S → Bool) (p : Packages N S) (r : Rule N S) → IsRestraint r → (t : S) → Contains (literals_of same p r) (plus (Atom.solvable t)) → ⊥
  makes_none same p r d t h = both_ways _ (none r d) (contained_any is_choice (plus (Atom.solvable t)) (literals_of same p r) h refl)
    where
      none : (q : Rule N S) → IsRestraint q → list_any is_choice (literals_of same p q) ≡ false
      none (Rule.needs parent need case) d = absurd d
      none (Rule.gated s r) d = refl
      none (Rule.shared r) d = absurd d
      none (Rule.limits None v s) d = refl
      none (Rule.limits (Some parent) v s) d = refl
      none (Rule.limits_outside None v) d = refl
      none (Rule.limits_outside (Some parent) v) d = refl
      none (Rule.is_out v s) d = refl
      none (Rule.forbids w s) d = refl
      none (Rule.has_digit s bit b) d = absurd d
      none (Rule.is_there n s) d = refl
      none (Rule.matches v s) d = refl

  -- its kind has no digit
  pub not_digit : (x : Kind N S) (r : Rule N S) → rule_of x ≡ Some r → IsRestraint r → (m : N) (t : S) (at bit : ℕ) → x ≡ Kind.Digit m t at bit → ⊥
  not_digit x r states d m t at bit is =
      let one : Rule.has_digit t bit (digit at bit) ≡ r = some_one (Rule.has_digit t bit (digit at bit)) r (sym (ap (λ (y : Kind N S). rule_of y) is) ∙ states) in
      subst IsRestraint (sym one) d

-- ---- clauses of two literals

pub pair_members : (a b l : Signed) (literals : List Signed) → IsPair a b literals → has literals l ≡ true → (a ≡ l) ⊎ (b ≡ l)
pair_members a b l literals (inl two) h = elim (has-cons a (b ∷ []) l (subst (λ (x : List Signed). has x l ≡ true) two h)) [
  | inl e ↦ inl e
  | inr c ↦ elim (has-cons b [] l c) [ inl e ↦ inr e | inr f ↦ absurd (both_ways false refl f) ]
]
pair_members a b l literals (inr (both, one)) h = elim (has-cons a [] l (subst (λ (x : List Signed). has x l ≡ true) one h)) [ inl e ↦ inl e | inr f ↦ absurd (both_ways false refl f) ]

pub pair_first : (a b : Signed) (literals : List Signed) → IsPair a b literals → has literals a ≡ true
pair_first a b literals (inl two) = subst (λ (x : List Signed). has x a ≡ true) (sym two) (has_here a (b ∷ []) a refl)
pair_first a b literals (inr (both, one)) = subst (λ (x : List Signed). has x a ≡ true) (sym one) (has_here a [] a refl)

pub pair_second : (a b : Signed) (literals : List Signed) → IsPair a b literals → has literals b ≡ true
pair_second a b literals (inl two) = subst (λ (x : List Signed). has x b ≡ true) (sym two) (has_later a (b ∷ []) b (has_here b [] b refl))
pair_second a b literals (inr (both, one)) = subst (λ (x : List Signed). has x b ≡ true) (sym one) (has_here a [] b both)

module _ {N S : Type 0} (origin : ℕ → Atom N S) where
  -- the literal denies the root and has no meaning, or it has the meaning in the list
  abbrev pub Reads : Signed → List (Literal (Atom N S)) → Type 0
  Reads l ms = ((l ≡ no root_variable) × (ms ≡ [])) ⊎ ((m : Literal (Atom N S)) × (ms ≡ m ∷ []) × Means origin l m)

  reads_only : (l : Signed) (ms : List (Literal (Atom N S))) → Reads l ms → (l ≡ no root_variable) ⊎ ((0 < l.variable.0) × Contains ms (meaning origin l))
  reads_only l ms (inl (is, none)) = inl is
  reads_only l ms (inr (m, is, means)) = inr (means.0, subst (λ (x : List (Literal (Atom N S))). Contains x (meaning origin l)) (sym is) (contains_first (meaning origin l) m [] means.1))

  reads_each : (l : Signed) (ms : List (Literal (Atom N S))) (m : Literal (Atom N S)) → Reads l ms → Contains ms m → Means origin l m
  reads_each l ms m (inl (is, none)) h = absurd (contains_none m (subst (λ (x : List (Literal (Atom N S))). Contains x m) none h))
  reads_each l ms m (inr (k, is, means)) h = subst (Means origin l) (sym (contains_one m k (subst (λ (x : List (Literal (Atom N S))). Contains x m) is h))) means

  -- two literals have the meanings of both
  pub pair_spells : (a b : Signed) (literals : List Signed) (ms ns : List (Literal (Atom N S))) → IsPair a b literals → Reads a ms → Reads b ns → Spells origin literals (ms ++ ns)
  pair_spells a b literals ms ns pair first second = record {
    only = λ l h. elim (pair_members a b l literals pair h) [
      | inl is ↦ subst (λ (x : Signed). (x ≡ no root_variable) ⊎ ((0 < x.variable.0) × Contains (ms ++ ns) (meaning origin x))) is (wide_left a (reads_only a ms first))
      | inr is ↦ subst (λ (x : Signed). (x ≡ no root_variable) ⊎ ((0 < x.variable.0) × Contains (ms ++ ns) (meaning origin x))) is (wide_right b (reads_only b ns second))
    ];
    each = λ m h. elim (contains_parts m ms ns h) [
      | inl c ↦ (a, pair_first a b literals pair, reads_each a ms m first c)
      | inr c ↦ (b, pair_second a b literals pair, reads_each b ns m second c)
    ];
  }
    where
      wide_left : (l : Signed) → (l ≡ no root_variable) ⊎ ((0 < l.variable.0) × Contains ms (meaning origin l)) → (l ≡ no root_variable) ⊎ ((0 < l.variable.0) × Contains (ms ++ ns) (meaning origin l))
      wide_left l (inl is) = inl is
      wide_left l (inr (other, c)) = inr (other, contains_left (meaning origin l) ms ns c)

      wide_right : (l : Signed) → (l ≡ no root_variable) ⊎ ((0 < l.variable.0) × Contains ns (meaning origin l)) → (l ≡ no root_variable) ⊎ ((0 < l.variable.0) × Contains (ms ++ ns) (meaning origin l))
      wide_right l (inl is) = inl is
      wide_right l (inr (other, c)) = inr (other, contains_right (meaning origin l) ms ns c)

  -- one literal has its meaning
  pub one_spells : (a : Signed) (literals : List Signed) (m : Literal (Atom N S)) → IsPair a a literals → Means origin a m → Spells origin literals (m ∷ [])
  one_spells a literals m pair means = record {
    only = λ l h. elim (pair_members a a l literals pair h) [ inl is ↦ here l is | inr is ↦ here l is ];
    each = λ k h. (a, pair_first a a literals pair, subst (Means origin a) (sym (contains_one k m h)) means);
  }
    where
      here : (l : Signed) → a ≡ l → (l ≡ no root_variable) ⊎ ((0 < l.variable.0) × Contains (m ∷ []) (meaning origin l))
      here l is = subst (λ (x : Signed). (x ≡ no root_variable) ⊎ ((0 < x.variable.0) × Contains (m ∷ []) (meaning origin x))) is (inr (means.0, contains_first (meaning origin a) m [] means.1))
