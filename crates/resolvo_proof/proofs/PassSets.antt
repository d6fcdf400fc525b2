-- One pass is the same over clauses whose literals have the same names, in any order and number.
use Rattle.std.proofs.Common.{◌≡◌, ◌⊎◌, inl, inr, Bool, true, false, List, [], ◌∷◌, Option, Some, None, refl, sym, ap, subst, ◌∙◌, cond}
use Rattle.std.specs.Prelude.{not, is_none, Contains}
use Rattle.std.specs.List.{list_all}
use Rattle.std.proofs.lemmas.Bool.{both_ways, false≢true}
use Rattle.resolvo_pool_core.specs.OnePass.Rest.{broken, last, more}
use Rattle.resolvo_pool_core.specs.OnePass.{Literal, Rest, is_denied, same_literal, assign, rest_of, without_false, reading, is_broken, learn}
use Rattle.resolvo_pool_core.proofs.PassLearns.{literal_is, literal_own}
use Rattle.resolvo_sat.proofs.Lists.{contains_first, contains_later, contains_none, contains_cases, contains_filter, filter_contains, all_contained, all_fails}

-- the literal is not false
abbrev is_left : {A : Type 0} → (A → Option Bool) → Literal A → Bool
is_left known l = not (is_denied (known l.atom) l.positive)

module _ {A B : Type 0} (same_a : A → A → Bool) (exact_a : (a b : A) → same_a a b ≡ true → a ≡ b) (own_a : (a : A) → same_a a a ≡ true)
    (same_b : B → B → Bool) (exact_b : (a b : B) → same_b a b ≡ true → a ≡ b) (own_b : (b : B) → same_b b b ≡ true)
    (names : A → B → Type 0) (once : (a b : A) (i : B) → names a i → names b i → a ≡ b) (one : (a : A) (i j : B) → names a i → names a j → i ≡ j) (Dropped : Literal A → Type 0) where
  -- the literal has this name, with its sign
  abbrev pub Named : Literal A → Literal B → Type 0
  Named l m = names l.atom m.atom × (m.positive ≡ l.positive)

  -- the clause has the literals that the names say, and besides them at most such as may be left out
  pub record Spelt (c : List (Literal A)) (d : List (Literal B)) : Type 0 where
    pub only : (l : Literal A) → Contains c l → Dropped l ⊎ ((m : Literal B) × Contains d m × Named l m)
    pub each : (m : Literal B) → Contains d m → (l : Literal A) × Contains c l × Named l m

  -- what is known of a name is what is known of its atom, and literals that may be left out are false
  pub record Agree (assigned : A → Option Bool) (known : B → Option Bool) : Type 0 where
    pub at : (a : A) (i : B) → names a i → known i ≡ assigned a
    pub gone : (l : Literal A) → Dropped l → is_denied (assigned l.atom) l.positive ≡ true

  -- a test of names is one of atoms
  same_names : (a b : A) (i j : B) → names a i → names b j → same_b i j ≡ same_a a b
  same_names a b i j n k = go (same_a a b) (same_b i j) refl refl
    where
      go : (x y : Bool) → same_a a b ≡ x → same_b i j ≡ y → same_b i j ≡ same_a a b
      go true true e f = f ∙ sym e
      go false false e f = f ∙ sym e
      go true false e f = absurd (both_ways (same_b i j) f (subst (λ t. same_b i t ≡ true) (one a i j n (subst (λ t. names t j) (sym (exact_a a b e)) k)) (own_b i)))
      go false true e f = absurd (both_ways (same_a a b) e (subst (λ t. same_a a t ≡ true) (once a b i n (subst (λ t. names b t) (sym (exact_b i j f)) k)) (own_a a)))

  -- the name of a literal is false where the literal is
  denied_agree : (assigned : A → Option Bool) (known : B → Option Bool) → Agree assigned known → (l : Literal A) (m : Literal B) → Named l m → is_denied (known m.atom) m.positive ≡ is_denied (assigned l.atom) l.positive
  denied_agree assigned known agree l m n = ap (λ o. is_denied o m.positive) (agree.at l.atom m.atom n.0) ∙ ap (λ b. is_denied (assigned l.atom) b) n.1

  -- a literal with two names has one, and a name of two is of one
  one_name : (l : Literal A) (m k : Literal B) → Named l m → Named l k → m ≡ k
  one_name l m k a b =
      let e : m.atom ≡ k.atom = one l.atom m.atom k.atom a.0 b.0 in
      let f : m.positive ≡ k.positive = a.1 ∙ sym b.1 in
      λ i. record { atom = e i; positive = f i }

  once_named : (l k : Literal A) (m : Literal B) → Named l m → Named k m → l ≡ k
  once_named l k m a b =
      let e : l.atom ≡ k.atom = once l.atom k.atom m.atom a.0 b.0 in
      let f : l.positive ≡ k.positive = sym a.1 ∙ b.1 in
      λ i. record { atom = e i; positive = f i }

  -- two lists have the same literals, by their names
  record Match (xs : List (Literal A)) (ys : List (Literal B)) : Type 0 where
    pub only : (l : Literal A) → Contains xs l → (m : Literal B) × Contains ys m × Named l m
    pub each : (m : Literal B) → Contains ys m → (l : Literal A) × Contains xs l × Named l m

  -- so do two clauses once their false literals are left out
  left_match : (assigned : A → Option Bool) (known : B → Option Bool) → Agree assigned known → (c : List (Literal A)) (d : List (Literal B)) → Spelt c d → Match (without_false assigned c) (without_false known d)
  left_match assigned known agree c d spelt = record {
    only = λ l h. (let (a, t) = filter_contains (is_left assigned) l c h in elim (spelt.only l a) [
      | inl e ↦ absurd (both_ways (is_left assigned l) (ap not (agree.gone l e)) t)
      | inr (m, b, n) ↦ (m, contains_filter (is_left known) m d b (ap not (denied_agree assigned known agree l m n) ∙ t), n)
    ]);
    each = λ m h. (let (b, t) = filter_contains (is_left known) m d h in let (l, a, n) = spelt.each m b in (l, contains_filter (is_left assigned) l c a (ap not (sym (denied_agree assigned known agree l m n)) ∙ t), n));
  }

  -- the rests of both
  abbrev RestMatch : Rest A → Rest B → Type 0
  RestMatch broken broken = Unit {0}
  RestMatch (last l) (last m) = Named l m
  RestMatch more more = Unit {0}
  RestMatch r s = ⊥

  rest_match : (xs : List (Literal A)) (ys : List (Literal B)) → Match xs ys → RestMatch (rest_of same_a xs) (rest_of same_b ys)
  rest_match [] [] k = tt
  rest_match [] (m ∷ ms) k = absurd (contains_none (k.each m (contains_first m m ms refl)).0 (k.each m (contains_first m m ms refl)).1)
  rest_match (l ∷ ls) [] k = absurd (contains_none (k.only l (contains_first l l ls refl)).0 (k.only l (contains_first l l ls refl)).1)
  rest_match (l ∷ ls) (m ∷ ms) k = go (list_all (same_literal same_a l) ls) (list_all (same_literal same_b m) ms) refl refl
    where
      all_left : list_all (same_literal same_a l) ls ≡ true → (x : Literal A) → Contains (l ∷ ls) x → x ≡ l
      all_left e x h = elim (contains_cases x l ls h) [ inl i ↦ i | inr a ↦ sym (literal_is same_a exact_a own_a l x (all_contained (same_literal same_a l) x ls e a)) ]

      all_right : list_all (same_literal same_b m) ms ≡ true → (x : Literal B) → Contains (m ∷ ms) x → x ≡ m
      all_right e x h = elim (contains_cases x m ms h) [ inl i ↦ i | inr a ↦ sym (literal_is same_b exact_b own_b m x (all_contained (same_literal same_b m) x ms e a)) ]

      go : (x y : Bool) → list_all (same_literal same_a l) ls ≡ x → list_all (same_literal same_b m) ms ≡ y → RestMatch (cond x (last l) more) (cond y (last m) more)
      go false false e f = tt
      go true true e f =
          let (k, a, n) = k.only l (contains_first l l ls refl) in
          subst (λ (x : Literal B). Named l x) (all_right f k a) n
      go true false e f =
          let (x, a, differ) = all_fails (same_literal same_b m) ms f in
          let (u, b, n) = k.each m (contains_first m m ms refl) in
          let (v, c, o) = k.each x (contains_later x m ms a) in
          let same : m ≡ x = one_name l m x (subst (λ t. Named t m) (all_left e u b) n) (subst (λ t. Named t x) (all_left e v c) o) in
          absurd (both_ways (same_literal same_b m x) differ (subst (λ t. same_literal same_b m t ≡ true) same (literal_own same_b exact_b own_b m)))
      go false true e f =
          let (x, a, differ) = all_fails (same_literal same_a l) ls e in
          let (u, b, n) = k.only l (contains_first l l ls refl) in
          let (v, c, o) = k.only x (contains_later x l ls a) in
          let same : l ≡ x = once_named l x m (subst (λ t. Named l t) (all_right f u b) n) (subst (λ t. Named x t) (all_right f v c) o) in
          absurd (both_ways (same_literal same_a l x) differ (subst (λ t. same_literal same_a l t ≡ true) same (literal_own same_a exact_a own_a l)))

  broken_match : (r : Rest A) (s : Rest B) → RestMatch r s → is_broken r ≡ is_broken s
  broken_match broken broken h = refl
  broken_match (last l) (last m) h = refl
  broken_match more more h = refl
  broken_match broken (last m) h = absurd h
  broken_match broken more h = absurd h
  broken_match (last l) broken h = absurd h
  broken_match (last l) more h = absurd h
  broken_match more broken h = absurd h
  broken_match more (last m) h = absurd h

  assign_agree : (assigned : A → Option Bool) (known : B → Option Bool) → Agree assigned known → (l : Literal A) (m : Literal B) → Named l m → assigned l.atom ≡ None → Agree (assign same_a assigned l) (assign same_b known m)
  assign_agree assigned known agree l m n none = record {
    at = λ a i h.
        ap (λ b. cond b (Some m.positive) (known i)) (same_names a l.atom i m.atom h n.0)
        ∙ (ap (λ q. cond (same_a a l.atom) (Some q) (known i)) n.1
        ∙ ap (λ k. cond (same_a a l.atom) (Some l.positive) k) (agree.at a i h));
    gone = λ x d. go x d (same_a x.atom l.atom) refl;
  }
    where
      go : (x : Literal A) → Dropped x → (b : Bool) → same_a x.atom l.atom ≡ b → is_denied (cond b (Some l.positive) (assigned x.atom)) x.positive ≡ true
      go x d false e = agree.gone x d
      go x d true e = absurd (false≢true (sym (ap (λ o. is_denied o x.positive) (ap assigned (exact_a x.atom l.atom e) ∙ none)) ∙ agree.gone x d))

  learn_agree : (assigned : A → Option Bool) (known : B → Option Bool) → Agree assigned known → (r : Rest A) (s : Rest B) → RestMatch r s → Agree (learn same_a assigned r) (learn same_b known s)
  learn_agree assigned known agree broken broken h = agree
  learn_agree assigned known agree (last l) (last m) h =
      subst (λ (b : Bool). Agree (learn same_a assigned (last l)) (cond b (assign same_b known m) known)) (sym (ap is_none (agree.at l.atom m.atom h.0)))
      (go (assigned l.atom) refl)
    where
      go : (o : Option Bool) → assigned l.atom ≡ o → Agree (cond (is_none o) (assign same_a assigned l) assigned) (cond (is_none o) (assign same_b known m) known)
      go None e = assign_agree assigned known agree l m h e
      go (Some b) e = agree
  learn_agree assigned known agree more more h = agree
  learn_agree assigned known agree broken (last m) h = absurd h
  learn_agree assigned known agree broken more h = absurd h
  learn_agree assigned known agree (last l) broken h = absurd h
  learn_agree assigned known agree (last l) more h = absurd h
  learn_agree assigned known agree more broken h = absurd h
  learn_agree assigned known agree more (last m) h = absurd h

  -- reading a clause and reading its names break alike, and what is known afterwards agrees
  pub read_alike : (assigned : A → Option Bool) (known : B → Option Bool) → Agree assigned known → (c : List (Literal A)) (d : List (Literal B)) → Spelt c d → (is_broken (reading same_a assigned c) ≡ is_broken (reading same_b known d)) × Agree (learn same_a assigned (reading same_a assigned c)) (learn same_b known (reading same_b known d))
  read_alike assigned known agree c d spelt =
      let r = rest_match (without_false assigned c) (without_false known d) (left_match assigned known agree c d spelt) in
      (broken_match (reading same_a assigned c) (reading same_b known d) r, learn_agree assigned known agree (reading same_a assigned c) (reading same_b known d) r)

-- a clause with a literal that is known to be true is not broken, and nothing is learnt from it
pub true_idle : {A : Type 0} (same : A → A → Bool) (exact : (a b : A) → same a b ≡ true → a ≡ b) (own : (a : A) → same a a ≡ true) (assigned : A → Option Bool) (c : List (Literal A)) (l : Literal A)
    → Contains c l → assigned l.atom ≡ Some l.positive → (is_broken (reading same assigned c) ≡ false) × (learn same assigned (reading same assigned c) ≡ assigned)
true_idle {A} same exact own assigned c l h known = go (without_false assigned c) (contains_filter (is_left assigned) l c h (ap (λ o. not (is_denied o l.positive)) known ∙ is_true l.positive))
  where
    is_true : (b : Bool) → not (is_denied (Some b) b) ≡ true
    is_true true = refl
    is_true false = refl

    go : (xs : List (Literal A)) → Contains xs l → (is_broken (rest_of same xs) ≡ false) × (learn same assigned (rest_of same xs) ≡ assigned)
    go [] a = absurd (contains_none l a)
    go (x ∷ xs) a = one (list_all (same_literal same x) xs) refl
      where
        one : (b : Bool) → list_all (same_literal same x) xs ≡ b → (is_broken (cond b (last x) more) ≡ false) × (learn same assigned (cond b (last x) more) ≡ assigned)
        one false e = (refl, refl)
        one true e =
            let is : x ≡ l = elim (contains_cases l x xs a) [ inl i ↦ sym i | inr i ↦ literal_is same exact own x l (all_contained (same_literal same x) l xs e i) ] in
            (refl, ap (λ b. cond b (assign same assigned x) assigned) (ap (λ (y : Literal A). is_none (assigned y.atom)) is ∙ ap is_none known))
