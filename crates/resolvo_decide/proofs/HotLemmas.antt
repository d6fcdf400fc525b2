-- The hot packages, as scores are bumped and decay.
use Rattle.std.proofs.Common.{◌≡◌, ℕ, ◌+◌, ◌*◌, ◌/◌, ◌<◌, ◌≤◌, ◌⊎◌, inl, inr, cond, Bool, true, false, List, [], ◌∷◌, ◌++◌, length, take, get_or, refl, sym, ◌∙◌, ap, subst, arith}
use Rattle.std.specs.Prelude.{nat_lt, slice_index_or, Contains}
use Rattle.std.specs.List.{filter}
use Rattle.std.proofs.lemmas.Bool.{ltb-true, lt-ltb, cases_lt}
use Rattle.std.proofs.lemmas.List.Elements.{Contains-append_left, Contains-append_right, Contains-append_cases, Contains-get_or, Contains-push, Contains-push_cases, All-contains, filter_passes}
use Rattle.std.proofs.lemmas.List.{take_more, take_all}
use Rattle.resolvo_decide.specs.HotNames.{AreHot}

module _ {N : Type 0} (eq : N → N → Bool) (exact : (x y : N) → eq x y ≡ true → x ≡ y) (old new : N → ℕ) (n : N) (x : ℕ) (puts : (m : N) → new m ≡ cond (eq n m) x (old m)) (hot : List N) (h : AreHot old hot) where
  pub bumped_bound : (most : ℕ) → ((m : N) → old m ≤ most) → x ≤ most → (m : N) → new m ≤ most
  bumped_bound most below low m = go (eq n m) (puts m)
    where
      go : (b : Bool) → new m ≡ cond b x (old m) → new m ≤ most
      go true is = omega (arith, is, low)
      go false is = (let before : old m ≤ most = below m in omega (arith, is, before))

  -- a score was bumped that was above 0, or is 0 still
  pub hot_kept : old n ≤ x → (old n ≡ 0 → x ≡ 0) → AreHot new hot
  hot_kept more still = record {
    listed = λ m out. listed m out (eq n m) refl (puts m);
    scored = λ m there. scored m there (eq n m) refl (puts m);
  }
    where
      listed : (m : N) → (Contains hot m → ⊥) → (b : Bool) → eq n m ≡ b → new m ≡ cond b x (old m) → new m ≡ 0
      listed m out true same is = is ∙ still (ap old (exact n m same) ∙ h.listed m out)
      listed m out false far is = is ∙ h.listed m out

      scored : (m : N) → Contains hot m → (b : Bool) → eq n m ≡ b → new m ≡ cond b x (old m) → 0 < new m
      scored m there true same is =
          let before : 0 < old m = h.scored m there in
          let one : old n ≡ old m = ap old (exact n m same) in
          omega (arith, is, before, one, more)
      scored m there false far is = (let before : 0 < old m = h.scored m there in omega (arith, is, before))

  -- a score was bumped that was 0
  pub hot_pushed : ((y : N) → eq y y ≡ true) → 0 < x → AreHot new (hot ++ n ∷ [])
  hot_pushed own some = record {
    listed = λ m out. listed m out (eq n m) refl (puts m);
    scored = λ m there. scored m (Contains-push_cases hot n m there) (eq n m) refl (puts m);
  }
    where
      listed : (m : N) → (Contains (hot ++ n ∷ []) m → ⊥) → (b : Bool) → eq n m ≡ b → new m ≡ cond b x (old m) → new m ≡ 0
      listed m out true same is = absurd (out (subst (λ (y : N). Contains (hot ++ n ∷ []) y) (exact n m same) (Contains-push hot n)))
      listed m out false far is = is ∙ h.listed m (λ there. out (Contains-append_left hot (n ∷ []) m there))

      scored : (m : N) → Contains hot m ⊎ (n ≡ m) → (b : Bool) → eq n m ≡ b → new m ≡ cond b x (old m) → 0 < new m
      scored m there true same is = omega (arith, is, some)
      scored m (inl there) false far is = (let before : 0 < old m = h.scored m there in omega (arith, is, before))
      scored m (inr same) false far is = (let no : true ≡ false = sym (own n) ∙ ap (eq n) same ∙ far in absurd cc)

-- what a test passes is kept
passed_in : {X : Type 0} (p : X → Bool) (xs : List X) (x : X) → Contains xs x → p x ≡ true → Contains (filter p xs) x
passed_in p [] x (k, low, is) h = absurd (omega (arith, low))
passed_in {X} p (y ∷ xs) x there h = elim (Contains-append_cases (y ∷ []) xs x there) [
  | inl first ↦ here (p y) refl (same first)
  | inr later ↦ behind (p y) (passed_in p xs x later h)
]
  where
    same : Contains (y ∷ []) x → y ≡ x
    same there = elim (Contains-push_cases [] y x there) [
      | inl (k, low, is) ↦ absurd (omega (arith, low))
      | inr is ↦ is
    ]

    here : (b : Bool) → p y ≡ b → y ≡ x → Contains (cond b (y ∷ filter p xs) (filter p xs)) x
    here true is one = subst (λ (z : X). Contains (y ∷ filter p xs) z) one (0, omega arith, refl)
    here false is one = (let no : true ≡ false = sym h ∙ ap p (sym one) ∙ is in absurd cc)

    behind : (b : Bool) → Contains (filter p xs) x → Contains (cond b (y ∷ filter p xs) (filter p xs)) x
    behind true a = Contains-append_right (y ∷ []) (filter p xs) x a
    behind false a = a

-- scores decayed, and the names without one were dropped
pub hot_left : {N : Type 0} (old new : N → ℕ) (part : ℕ) (hot kept : List N) → AreHot old hot → ((m : N) → new m ≡ (old m * part) / 1000000) → kept ≡ filter (λ m. nat_lt 0 (new m)) hot → AreHot new kept
hot_left {N} old new part hot kept h scaled is = record {
  listed = λ m out. listed m (subst (λ (names : List N). Contains names m → ⊥) is out);
  scored = λ m there. ltb-true 0 (new m) (All-contains (λ y. nat_lt 0 (new y) ≡ true) (filter (λ y. nat_lt 0 (new y)) hot) m (filter_passes (λ y. nat_lt 0 (new y)) hot) (subst (λ (names : List N). Contains names m) is there));
}
  where
    listed : (m : N) → (Contains (filter (λ y. nat_lt 0 (new y)) hot) m → ⊥) → new m ≡ 0
    listed m out = elim (cases_lt 0 (new m)) [
      | inl some ↦
          let before : old m ≡ 0 = h.listed m (λ there. out (passed_in (λ y. nat_lt 0 (new y)) hot m there (lt-ltb 0 (new m) some))) in
          let nothing : 0 * part ≡ 0 = omega arith in
          scaled m ∙ ap (λ y. (y * part) / 1000000) before ∙ ap (λ y. y / 1000000) nothing
      | inr none ↦ omega (arith, none)
    ]

-- ---- lists of names

-- the one read is among all
pub there_at : {X : Type 0} (xs : List X) (i : ℕ) (x d : X) → i < length xs → x ≡ get_or xs i d → Contains xs x
there_at {X} xs i x d low is = subst (λ (y : X). Contains xs y) (sym is) (Contains-get_or xs i d low)

-- the names that were found are among all
pub within_none : {X : Type 0} (names all : List X) (y : X) → Contains (take 0 names) y → Contains all y
within_none names all y (k, low, is) = absurd (omega (arith, low))

-- one more was found
pub within_more : {X : Type 0} (names all : List X) (i : ℕ) (x : X) → i < length names → slice_index_or names i x ≡ x → Contains all x → ((y : X) → Contains (take i names) y → Contains all y) → (y : X) → Contains (take (i + 1) names) y → Contains all y
within_more {X} names all i x low same there before y h = elim (Contains-push_cases (take i names) (get_or names i x) y (subst (λ (xs : List X). Contains xs y) (take_more names i x low) h)) [
  | inl front ↦ before y front
  | inr is ↦ subst (λ (z : X). Contains all z) (sym same ∙ is) there
]

-- all were found
pub within_all : {X : Type 0} (names all : List X) (i : ℕ) → length names ≤ i → ((y : X) → Contains (take i names) y → Contains all y) → (y : X) → Contains names y → Contains all y
within_all {X} names all i long before y h = before y (subst (λ (xs : List X). Contains xs y) (sym (take_all i names long)) h)
