-- One pass is sound: where the named clauses are true, the derived clause is.
use Rattle.std.proofs.Common.{◌≡◌, Bool, true, false, List, [], ◌∷◌, Option, Some, None, refl, sym, ap, ◌∙◌, inl, inr, cond}
use Rattle.std.specs.Prelude.{not, ◌||◌, filter, is_none}
use Rattle.std.specs.List.{list_any, list_all}
use Rattle.std.specs.Bool.{beq}
use Rattle.std.proofs.lemmas.Bool.{false≢true, cases_Bool, or_parts, and_parts, or_cases, not-true}
use Rattle.resolvo_pool_core.specs.OnePass.Rest.{broken, last, more}
use Rattle.resolvo_pool_core.specs.OnePass.{Literal, Rest, negate, is_true_at, clause_true, is_denied, same_literal, assign, deny, rest_of, without_false, reading, is_broken, learn, refutes, nothing, one_pass}

beq_true : (a b : Bool) → beq a b ≡ true → a ≡ b
beq_true true true h = refl
beq_true false false h = refl
beq_true true false h = absurd (false≢true h)
beq_true false true h = absurd (false≢true h)

beq_own : (a : Bool) → beq a a ≡ true
beq_own true = refl
beq_own false = refl

beq_false : (a b : Bool) → beq a b ≡ false → a ≡ not b
beq_false true false h = refl
beq_false false true h = refl
beq_false true true h = absurd (false≢true (sym h))
beq_false false false h = absurd (false≢true (sym h))

some_value : {X : Type 0} (x y : X) → Some x ≡ Some y → x ≡ y
some_value x y h = cc

-- a literal is false by a value of its atom
denied_by : (o : Option Bool) (p : Bool) → is_denied o p ≡ true → (b : Bool) × (o ≡ Some b) × (beq b p ≡ false)
denied_by None p h = absurd (false≢true h)
denied_by (Some b) p h = (b, refl, not-true (beq b p) h)

left_out : {X : Type 0} (p : X → Bool) (x : X) (kept xs : List X) (b : Bool) → (b ≡ true → p x ≡ false) → list_any p kept ≡ list_any p xs → list_any p (cond (not b) (x ∷ kept) kept) ≡ (p x || list_any p xs)
left_out p x kept xs true h e = e ∙ sym (ap (λ b. b || list_any p xs) (h refl))
left_out p x kept xs false h e = ap (λ b. p x || b) e

-- elements that fail the test may be left out
pub list_any-filter : {X : Type 0} (p d : X → Bool) → ((x : X) → d x ≡ true → p x ≡ false) → (xs : List X) → list_any p (filter (λ x. not (d x)) xs) ≡ list_any p xs
list_any-filter p d h [] = refl
list_any-filter p d h (x ∷ xs) = left_out p x (filter (λ y. not (d y)) xs) xs (d x) (h x) (list_any-filter p d h xs)

module _ {A : Type 0} (same : A → A → Bool) (value : A → Bool) (alike : (a b : A) → same a b ≡ true → value a ≡ value b) where
  -- the known values are right
  pub record Agrees (known : A → Option Bool) : Type 0 where
    pub so : (a : A) (b : Bool) → known a ≡ Some b → value a ≡ b

  denied_false : (known : A → Option Bool) → Agrees known → (l : Literal A) → is_denied (known l.atom) l.positive ≡ true → is_true_at value l ≡ false
  denied_false known agrees l h =
      let d = denied_by (known l.atom) l.positive h in
      ap (λ v. beq v l.positive) (agrees.so l.atom d.0 d.1) ∙ d.2

  same_true : (l m : Literal A) → same_literal same l m ≡ true → is_true_at value m ≡ true → is_true_at value l ≡ true
  same_true l m h t =
      let parts = and_parts (same l.atom m.atom) (beq l.positive m.positive) h in
      let e : value l.atom ≡ value m.atom = alike l.atom m.atom parts.0 in
      let f : l.positive ≡ m.positive = beq_true l.positive m.positive parts.1 in
      ap (λ v. beq v l.positive) e ∙ (ap (λ p. beq (value m.atom) p) f ∙ t)

  all_same : (l : Literal A) (ls : List (Literal A)) → list_all (same_literal same l) ls ≡ true → clause_true value ls ≡ true → is_true_at value l ≡ true
  all_same l [] h t = absurd (false≢true t)
  all_same l (m ∷ ls) h t =
      let parts = and_parts (same_literal same l m) (list_all (same_literal same l) ls) h in
      elim (or_cases (is_true_at value m) (clause_true value ls) t) [ inl x ↦ same_true l m parts.0 x | inr x ↦ all_same l ls parts.1 x ]

  RestTrue : Rest A → Type 0
  RestTrue broken = ⊥
  RestTrue (last l) = is_true_at value l ≡ true
  RestTrue more = Unit {0}

  rest_cases : (b : Bool) (l : Literal A) → (b ≡ true → is_true_at value l ≡ true) → RestTrue (cond b (last l) more)
  unfolding RestTrue
  rest_cases true l h = h refl
  rest_cases false l h = tt

  rest_true : (ls : List (Literal A)) → clause_true value ls ≡ true → RestTrue (rest_of same ls)
  unfolding RestTrue
  rest_true [] t = absurd (false≢true t)
  rest_true (l ∷ ls) t = rest_cases (list_all (same_literal same l) ls) l (λ b.
      elim (or_cases (is_true_at value l) (clause_true value ls) t) [ inl x ↦ x | inr x ↦ all_same l ls b x ])

  reading_true : (known : A → Option Bool) → Agrees known → (clause : List (Literal A)) → clause_true value clause ≡ true → RestTrue (reading same known clause)
  reading_true known agrees clause t =
      rest_true (without_false known clause) (list_any-filter (is_true_at value) (λ l. is_denied (known l.atom) l.positive) (denied_false known agrees) clause ∙ t)

  assign_agrees : (known : A → Option Bool) → Agrees known → (l : Literal A) → is_true_at value l ≡ true → Agrees (assign same known l)
  assign_agrees known agrees l t = record { so = λ a b h. one a b (same a l.atom) (alike a l.atom) h } where
    one : (a : A) (b : Bool) (s : Bool) → (s ≡ true → value a ≡ value l.atom) → cond s (Some l.positive) (known a) ≡ Some b → value a ≡ b
    one a b true k h = k refl ∙ (beq_true (value l.atom) l.positive t ∙ some_value l.positive b h)
    one a b false k h = agrees.so a b h

  learn_agrees : (known : A → Option Bool) → Agrees known → (rest : Rest A) → RestTrue rest → Agrees (learn same known rest)
  unfolding RestTrue
  learn_agrees known agrees broken t = agrees
  learn_agrees known agrees (last l) t = one (is_none (known l.atom)) where
    one : (b : Bool) → Agrees (cond b (assign same known l) known)
    one true = assign_agrees known agrees l t
    one false = agrees
  learn_agrees known agrees more t = agrees

  not_broken : (rest : Rest A) → RestTrue rest → is_broken rest ≡ false
  unfolding RestTrue
  not_broken broken t = absurd t
  not_broken (last l) t = refl
  not_broken more t = refl

  -- true clauses refute nothing that is true
  pub refutes_nothing : (known : A → Option Bool) → Agrees known → (clauses : List (List (Literal A))) → list_all (clause_true value) clauses ≡ true → refutes same known clauses ≡ false
  refutes_nothing known agrees [] h = refl
  refutes_nothing known agrees (clause ∷ clauses) h =
      let parts = and_parts (clause_true value clause) (list_all (clause_true value) clauses) h in
      let t = reading_true known agrees clause parts.0 in
      ap (λ b. b || refutes same (learn same known (reading same known clause)) clauses) (not_broken (reading same known clause) t)
      ∙ refutes_nothing (learn same known (reading same known clause)) (learn_agrees known agrees (reading same known clause) t) clauses parts.1

  deny_agrees : (known : A → Option Bool) → Agrees known → (ls : List (Literal A)) → clause_true value ls ≡ false → Agrees (deny same known ls)
  deny_agrees known agrees [] f = agrees
  deny_agrees known agrees (l ∷ ls) f =
      let parts = or_parts (is_true_at value l) (clause_true value ls) f in
      let t : beq (value l.atom) (not l.positive) ≡ true = ap (λ v. beq v (not l.positive)) (beq_false (value l.atom) l.positive parts.0) ∙ beq_own (not l.positive) in
      deny_agrees (assign same known (negate l)) (assign_agrees known agrees (negate l) t) ls parts.1

  -- a clause that one pass over true clauses refutes when denied is true
  pub one_pass_true : (derived : List (Literal A)) (clauses : List (List (Literal A))) → list_all (clause_true value) clauses ≡ true → one_pass same derived clauses ≡ true → clause_true value derived ≡ true
  one_pass_true derived clauses h r = elim (cases_Bool (clause_true value derived)) [
    | inl t ↦ t
    | inr f ↦ absurd (false≢true (sym (refutes_nothing (deny same nothing derived) (deny_agrees nothing (record { so = λ a b e. none_some b e }) derived f) clauses h) ∙ r))
  ] where
    none_some : {a : Bool} (b : Bool) → None ≡ Some b → a ≡ b
    none_some b e = cc
