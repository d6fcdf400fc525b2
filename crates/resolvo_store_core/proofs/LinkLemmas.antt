-- Lemmas on linked lists: what the links show after one is put first, or taken out.
use Rattle.std.proofs.Common.{◌≡◌, ℕ, zero, suc, ◌+◌, ◌<◌, ◌≤◌, ◌⊎◌, inl, inr, Bool, true, false, cond, List, [], ◌∷◌, ◌++◌, take, drop, length, get_or, set, Option, Some, None, refl, sym, ◌∙◌, ap, subst, arith, eqb, leb, eq-eqb, le-leb, length-set}
use Rattle.std.specs.Prelude.{slice_get}
use Rattle.std.proofs.lemmas.Bool.{lt-leb}
use Rattle.std.proofs.lemmas.Bool.Decides.{eqb_tells, leb_tells}
use Rattle.resolvo_store_core.specs.Links.{link_of, named_at, chain, list_in, before_in, AreLists, AreLinked}

-- the list without the element at a place
abbrev pub taken : ℕ → List ℕ → List ℕ
taken p xs = take p xs ++ drop (suc p) xs

pub got_within : (xs : List ℕ) (a n : ℕ) → slice_get xs a ≡ Some n → a < length xs
got_within [] a n e = cc
got_within (x ∷ xs) zero n e = omega arith
got_within (x ∷ xs) (suc a) n e = let h : a < length xs = got_within xs a n e in omega arith

pub got : (xs : List ℕ) (a : ℕ) → a < length xs → (n : ℕ) × (slice_get xs a ≡ Some n)
got [] a h = absurd (omega arith)
got (x ∷ xs) zero h = (x, refl)
got (x ∷ xs) (suc a) h = got xs a (omega arith)

pub taken_before : (xs : List ℕ) (p a : ℕ) → a < p → slice_get (taken p xs) a ≡ slice_get xs a
taken_before xs zero a h = absurd (omega arith)
taken_before [] (suc p) a h = refl
taken_before (x ∷ xs) (suc p) zero h = refl
taken_before (x ∷ xs) (suc p) (suc a) h = taken_before xs p a (omega arith)

pub taken_behind : (xs : List ℕ) (p a : ℕ) → p ≤ a → slice_get (taken p xs) a ≡ slice_get xs (suc a)
taken_behind [] zero a h = refl
taken_behind [] (suc p) a h = refl
taken_behind (x ∷ xs) zero a h = refl
taken_behind (x ∷ xs) (suc p) zero h = absurd (omega arith)
taken_behind (x ∷ xs) (suc p) (suc a) h = taken_behind xs p a (omega arith)

pub taken_length : (xs : List ℕ) (p : ℕ) → p < length xs → length (taken p xs) + 1 ≡ length xs
taken_length [] p h = absurd (omega arith)
taken_length (x ∷ xs) zero h = omega arith
taken_length (x ∷ xs) (suc p) h = let e : length (taken p xs) + 1 ≡ length xs = taken_length xs p (omega arith) in omega arith

-- where an element was before another was taken out
pub taken_from : (xs : List ℕ) (p a n : ℕ) → slice_get (taken p xs) a ≡ Some n → ((a < p) × (slice_get xs a ≡ Some n)) ⊎ ((p ≤ a) × (slice_get xs (suc a) ≡ Some n))
taken_from xs p a n h = elim (leb_tells p a) [
  | inl e ↦ inr (e.1, sym (taken_behind xs p a e.1) ∙ h)
  | inr e ↦ inl (e.1, sym (taken_before xs p a e.1) ∙ h)
]

-- the numbers of a list below a bound, each once, are no more than the bound
pub pigeon : (m : ℕ) (xs : List ℕ) → ((a n : ℕ) → slice_get xs a ≡ Some n → n < m) → ((a b n : ℕ) → slice_get xs a ≡ Some n → slice_get xs b ≡ Some n → a ≡ b) → length xs ≤ m
pigeon zero [] below once = omega arith
pigeon zero (x ∷ xs) below once = let h : x < 0 = below 0 x refl in absurd (omega arith)
pigeon (suc m) xs below once = go (λ ys b o. pigeon m ys b o) (find m xs)
  where
    find : (n : ℕ) (ys : List ℕ) → ((p : ℕ) × (slice_get ys p ≡ Some n)) ⊎ ((p : ℕ) → slice_get ys p ≡ Some n → ⊥)
    find n [] = inr (λ p e. cc)
    find n (y ∷ ys) = elim (eqb_tells y n) [
      | inl e ↦ inl (0, ap (λ (k : ℕ). Some k) e.1)
      | inr e ↦ more n y ys e.1 (find n ys)
    ]
      where
        behind : (n y : ℕ) (ys : List ℕ) → (y ≡ n → ⊥) → ((p : ℕ) → slice_get ys p ≡ Some n → ⊥) → (p : ℕ) → slice_get (y ∷ ys) p ≡ Some n → ⊥
        behind n y ys d none zero e = d cc
        behind n y ys d none (suc p) e = none p e

        more : (n y : ℕ) (ys : List ℕ) → (y ≡ n → ⊥) → ((p : ℕ) × (slice_get ys p ≡ Some n)) ⊎ ((p : ℕ) → slice_get ys p ≡ Some n → ⊥) → ((p : ℕ) × (slice_get (y ∷ ys) p ≡ Some n)) ⊎ ((p : ℕ) → slice_get (y ∷ ys) p ≡ Some n → ⊥)
        more n y ys d (inl f) = inl (suc f.0, f.1)
        more n y ys d (inr none) = inr (behind n y ys d none)

    less : (a n : ℕ) → slice_get xs a ≡ Some n → (n ≡ m → ⊥) → n < m
    less a n e d = let h : n < suc m = below a n e in omega arith

    go : ((ys : List ℕ) → ((a n : ℕ) → slice_get ys a ≡ Some n → n < m) → ((a b n : ℕ) → slice_get ys a ≡ Some n → slice_get ys b ≡ Some n → a ≡ b) → length ys ≤ m) → ((p : ℕ) × (slice_get xs p ≡ Some m)) ⊎ ((p : ℕ) → slice_get xs p ≡ Some m → ⊥) → length xs ≤ suc m
    go fewer (inr none) =
        let h : length xs ≤ m = fewer xs (λ a n e. less a n e (λ k. none a (subst (λ (y : ℕ). slice_get xs a ≡ Some y) k e))) once in
        omega arith
    go fewer (inl f) =
        let p = f.0 in
        let here : slice_get xs p ≡ Some m = f.1 in
        let shorter : length (taken p xs) + 1 ≡ length xs = taken_length xs p (got_within xs p m here) in
        let h : length (taken p xs) ≤ m = fewer (taken p xs)
        (λ a n e. elim (taken_from xs p a n e) [
          | inl k ↦ less a n k.1 (λ q. let same : a ≡ p = once a p m (subst (λ (y : ℕ). slice_get xs a ≡ Some y) q k.1) here in let lt : a < p = k.0 in absurd (omega arith))
          | inr k ↦ less (suc a) n k.1 (λ q. let same : suc a ≡ p = once (suc a) p m (subst (λ (y : ℕ). slice_get xs (suc a) ≡ Some y) q k.1) here in let ge : p ≤ a = k.0 in absurd (omega arith))
        ])
        (λ a b n e g. once_taken a b n (taken_from xs p a n e) (taken_from xs p b n g)) in
        omega arith
      where
        once_taken : (a b n : ℕ) → ((a < f.0) × (slice_get xs a ≡ Some n)) ⊎ ((f.0 ≤ a) × (slice_get xs (suc a) ≡ Some n)) → ((b < f.0) × (slice_get xs b ≡ Some n)) ⊎ ((f.0 ≤ b) × (slice_get xs (suc b) ≡ Some n)) → a ≡ b
        once_taken a b n (inl k) (inl l) = once a b n k.1 l.1
        once_taken a b n (inl k) (inr l) = let e : a ≡ suc b = once a (suc b) n k.1 l.1 in let lt : a < f.0 = k.0 in let ge : f.0 ≤ b = l.0 in absurd (omega arith)
        once_taken a b n (inr k) (inl l) = let e : suc a ≡ b = once (suc a) b n k.1 l.1 in let ge : f.0 ≤ a = k.0 in let lt : b < f.0 = l.0 in absurd (omega arith)
        once_taken a b n (inr k) (inr l) = let e : suc a ≡ suc b = once (suc a) (suc b) n k.1 l.1 in omega arith

pub chain_length : (links : List ℕ) (k : ℕ) (o : Option ℕ) → length (chain links k o) ≤ k
chain_length links zero o = omega arith
chain_length links (suc k) None = omega arith
chain_length links (suc k) (Some n) = let h : length (chain links k (named_at links n)) ≤ k = chain_length links k (named_at links n) in omega arith

pub chain_is : (links xs : List ℕ) (k : ℕ) (o : Option ℕ) → o ≡ slice_get xs 0 → ((a n : ℕ) → slice_get xs a ≡ Some n → named_at links n ≡ slice_get xs (suc a)) → length xs ≤ k → chain links k o ≡ xs
chain_is links [] zero o e next h = refl
chain_is links [] (suc k) o e next h = ap (chain links (suc k)) e
chain_is links (x ∷ xs) zero o e next h = absurd (omega arith)
chain_is links (x ∷ xs) (suc k) o e next h = ap (chain links (suc k)) e ∙ ap (λ (ys : List ℕ). x ∷ ys) (chain_is links xs k (named_at links x) (next 0 x refl) (λ a n g. next (suc a) n g) (omega arith))

-- the links show these lists
pub lists_are : (firsts links : List ℕ) (lists : ℕ → List ℕ) → AreLists firsts links lists → (i : ℕ) → list_in firsts links i ≡ lists i
lists_are firsts links lists are i = chain_is links (lists i) (length links) (named_at firsts i) (are.first i) (are.next i)
    (pigeon (length links) (lists i) (are.in_range i) (λ a b n e g. (are.once i i a b n e g).1))

pub linked : (firsts links : List ℕ) (lists : ℕ → List ℕ) → AreLists firsts links lists → AreLinked firsts links
linked firsts links lists are = record {
  first = λ i. subst (λ (xs : List ℕ). named_at firsts i ≡ slice_get xs 0) (sym (is i)) (are.first i);
  next = λ i a n. subst (λ (xs : List ℕ). slice_get xs a ≡ Some n → named_at links n ≡ slice_get xs (suc a)) (sym (is i)) (are.next i a n);
  in_range = λ i a n. subst (λ (xs : List ℕ). slice_get xs a ≡ Some n → n < length links) (sym (is i)) (are.in_range i a n);
  once = λ i j a b n. subst (λ (xs : List ℕ). slice_get xs a ≡ Some n → slice_get (list_in firsts links j) b ≡ Some n → (i ≡ j) × (a ≡ b)) (sym (is i))
      (subst (λ (ys : List ℕ). slice_get (lists i) a ≡ Some n → slice_get ys b ≡ Some n → (i ≡ j) × (a ≡ b)) (sym (is j)) (are.once i j a b n));
}
  where
    is : (i : ℕ) → list_in firsts links i ≡ lists i
    is i = lists_are firsts links lists are i

pub named_at-set_same : (fs : List ℕ) (i o : ℕ) → i < length fs → named_at (set fs i o) i ≡ link_of o
named_at-set_same [] i o h = absurd (omega arith)
named_at-set_same (f ∷ fs) zero o h = refl
named_at-set_same (f ∷ fs) (suc i) o h = named_at-set_same fs i o (omega arith)

pub named_at-set_other : (fs : List ℕ) (i j o : ℕ) → (i ≡ j → ⊥) → named_at (set fs i o) j ≡ named_at fs j
named_at-set_other [] i j o h = refl
named_at-set_other (f ∷ fs) zero zero o h = absurd (h refl)
named_at-set_other (f ∷ fs) zero (suc j) o h = refl
named_at-set_other (f ∷ fs) (suc i) zero o h = refl
named_at-set_other (f ∷ fs) (suc i) (suc j) o h = named_at-set_other fs i j o (λ e. h (ap suc e))

pub named_at-read : (fs : List ℕ) (i o : ℕ) → i < length fs → o ≡ get_or fs i o → named_at fs i ≡ link_of o
named_at-read [] i o h e = absurd (omega arith)
named_at-read (f ∷ fs) zero o h e = ap link_of (sym e)
named_at-read (f ∷ fs) (suc i) o h e = named_at-read fs i o (omega arith) e

pub first_within : (fs : List ℕ) (i n : ℕ) → named_at fs i ≡ Some n → i < length fs
first_within [] i n e = cc
first_within (f ∷ fs) zero n e = omega arith
first_within (f ∷ fs) (suc i) n e = let h : i < length fs = first_within fs i n e in omega arith

-- the lists with a link put first in one of them
abbrev pub put_in : ℕ → ℕ → (ℕ → List ℕ) → ℕ → List ℕ
put_in i n lists j = cond (eqb i j) (n ∷ lists j) (lists j)

-- the lists without the link at a place of one of them
abbrev pub taken_in : ℕ → ℕ → (ℕ → List ℕ) → ℕ → List ℕ
taken_in i p lists j = cond (eqb i j) (taken p (lists j)) (lists j)

pub put_here : (i n : ℕ) (lists : ℕ → List ℕ) → put_in i n lists i ≡ n ∷ lists i
put_here i n lists = ap (λ b. cond b (n ∷ lists i) (lists i)) (eq-eqb i i refl)

pub put_there : (i j n : ℕ) (lists : ℕ → List ℕ) → eqb i j ≡ false → put_in i n lists j ≡ lists j
put_there i j n lists e = ap (λ b. cond b (n ∷ lists j) (lists j)) e

pub taken_here : (i p : ℕ) (lists : ℕ → List ℕ) → taken_in i p lists i ≡ taken p (lists i)
taken_here i p lists = ap (λ b. cond b (taken p (lists i)) (lists i)) (eq-eqb i i refl)

pub taken_there : (i j p : ℕ) (lists : ℕ → List ℕ) → eqb i j ≡ false → taken_in i p lists j ≡ lists j
taken_there i j p lists e = ap (λ b. cond b (taken p (lists j)) (lists j)) e

-- where a link of the lists was before one was put first: it is that one, or was one place before in the same list
pub record WasBehind (lists : ℕ → List ℕ) (i n j a m : ℕ) : Type 0 where
  pub place : ℕ
  pub was : slice_get (lists j) place ≡ Some m
  pub moved : a ≡ cond (eqb i j) (suc place) place
  pub next : slice_get (put_in i n lists j) (suc a) ≡ slice_get (lists j) (suc place)

pub put_from : (lists : ℕ → List ℕ) (i n j a m : ℕ) → slice_get (put_in i n lists j) a ≡ Some m → ((m ≡ n) × (i ≡ j) × (a ≡ 0)) ⊎ WasBehind lists i n j a m
put_from lists i n j a m h = go (eqb_tells i j) a h
  where
    here : i ≡ j → put_in i n lists j ≡ n ∷ lists j
    here e = ap (λ b. cond b (n ∷ lists j) (lists j)) (eq-eqb i j e)

    go : ((eqb i j ≡ true) × (i ≡ j)) ⊎ ((eqb i j ≡ false) × (i ≡ j → ⊥)) → (b : ℕ) → slice_get (put_in i n lists j) b ≡ Some m → ((m ≡ n) × (i ≡ j) × (b ≡ 0)) ⊎ WasBehind lists i n j b m
    go (inl e) zero g =
        let both : Some n ≡ Some m = ap (λ (xs : List ℕ). slice_get xs 0) (sym (here e.1)) ∙ g in
        let same : m ≡ n = cc in
        inl (same, e.1, refl)
    go (inl e) (suc b) g = inr (record {
      place = b;
      was = ap (λ (xs : List ℕ). slice_get xs (suc b)) (sym (here e.1)) ∙ g;
      moved = ap (λ t. cond t (suc b) b) (sym e.0);
      next = ap (λ (xs : List ℕ). slice_get xs (suc (suc b))) (here e.1);
    })
    go (inr e) b g = inr (record {
      place = b;
      was = ap (λ (xs : List ℕ). slice_get xs b) (sym (put_there i j n lists e.0)) ∙ g;
      moved = ap (λ t. cond t (suc b) b) (sym e.0);
      next = ap (λ (xs : List ℕ). slice_get xs (suc b)) (put_there i j n lists e.0);
    })

-- a link that was in no list is the first of one
pub put_linked : (fs fs' ls ls' : List ℕ) (lists : ℕ → List ℕ) (i n : ℕ) → AreLists fs ls lists → ((j a : ℕ) → slice_get (lists j) a ≡ Some n → ⊥)
    → n < length ls → length ls' ≡ length ls → named_at fs' i ≡ Some n → ((j : ℕ) → (i ≡ j → ⊥) → named_at fs' j ≡ named_at fs j) → named_at ls' n ≡ named_at fs i → ((m : ℕ) → (n ≡ m → ⊥) → named_at ls' m ≡ named_at ls m)
    → AreLists fs' ls' (put_in i n lists)
put_linked fs fs' ls ls' lists i n are free within long here there leads keeps = record {
  first = λ j. first j (eqb_tells i j);
  next = λ j a m h. next j a m (put_from lists i n j a m h);
  in_range = λ j a m h. in_range j a m (put_from lists i n j a m h);
  once = λ j k a b m h g. once j k a b m (put_from lists i n j a m h) (put_from lists i n k b m g);
}
  where
    other : (j a m : ℕ) → slice_get (lists j) a ≡ Some m → n ≡ m → ⊥
    other j a m h e = free j a (subst (λ (k : ℕ). slice_get (lists j) a ≡ Some k) (sym e) h)

    first : (j : ℕ) → ((eqb i j ≡ true) × (i ≡ j)) ⊎ ((eqb i j ≡ false) × (i ≡ j → ⊥)) → named_at fs' j ≡ slice_get (put_in i n lists j) 0
    first j (inl e) = subst (λ (k : ℕ). named_at fs' k ≡ slice_get (put_in i n lists k) 0) e.1 (here ∙ ap (λ (xs : List ℕ). slice_get xs 0) (sym (put_here i n lists)))
    first j (inr e) = there j e.1 ∙ are.first j ∙ ap (λ (xs : List ℕ). slice_get xs 0) (sym (put_there i j n lists e.0))

    next : (j a m : ℕ) → ((m ≡ n) × (i ≡ j) × (a ≡ 0)) ⊎ WasBehind lists i n j a m → named_at ls' m ≡ slice_get (put_in i n lists j) (suc a)
    next j a m (inl e) =
        let at_front : named_at ls' n ≡ slice_get (put_in i n lists i) 1 = leads ∙ are.first i ∙ ap (λ (xs : List ℕ). slice_get xs 1) (sym (put_here i n lists)) in
        subst (λ (k : ℕ). named_at ls' k ≡ slice_get (put_in i n lists j) (suc a)) (sym e.0)
        (subst (λ (k : ℕ). named_at ls' n ≡ slice_get (put_in i n lists k) (suc a)) e.1
        (subst (λ (k : ℕ). named_at ls' n ≡ slice_get (put_in i n lists i) (suc k)) (sym e.2) at_front))
    next j a m (inr w) = keeps m (other j w.place m w.was) ∙ are.next j w.place m w.was ∙ sym w.next

    in_range : (j a m : ℕ) → ((m ≡ n) × (i ≡ j) × (a ≡ 0)) ⊎ WasBehind lists i n j a m → m < length ls'
    in_range j a m (inl e) = let same = e.0 in omega arith
    in_range j a m (inr w) = let h : m < length ls = are.in_range j w.place m w.was in omega arith

    once : (j k a b m : ℕ) → ((m ≡ n) × (i ≡ j) × (a ≡ 0)) ⊎ WasBehind lists i n j a m → ((m ≡ n) × (i ≡ k) × (b ≡ 0)) ⊎ WasBehind lists i n k b m → (j ≡ k) × (a ≡ b)
    once j k a b m (inl e) (inl g) = (sym e.1 ∙ g.1, e.2 ∙ sym g.2)
    once j k a b m (inl e) (inr w) = absurd (other k w.place m w.was (sym e.0))
    once j k a b m (inr w) (inl g) = absurd (other j w.place m w.was (sym g.0))
    once j k a b m (inr w) (inr x) =
        let one = are.once j k w.place x.place m w.was x.was in
        (one.0, w.moved ∙ ap (λ (l : ℕ). cond (eqb i l) (suc w.place) w.place) one.0 ∙ ap (λ (p : ℕ). cond (eqb i k) (suc p) p) one.1 ∙ sym x.moved)

-- where the element at a place was before another was taken out
abbrev pub up : ℕ → ℕ → ℕ
up p a = cond (leb p a) (suc a) a

abbrev pub up_in : ℕ → ℕ → ℕ → ℕ → ℕ
up_in i p j a = cond (eqb i j) (up p a) a

pub up_behind : (p a : ℕ) → p ≤ a → up p a ≡ suc a
up_behind p a h = ap (λ t. cond t (suc a) a) (le-leb p a h)

pub up_before : (p a : ℕ) → a < p → up p a ≡ a
up_before p a h = ap (λ t. cond t (suc a) a) (lt-leb p a h)

up_same : (p a b : ℕ) → up p a ≡ up p b → a ≡ b
up_same p a b e = go (leb_tells p a) (leb_tells p b)
  where
    go : ((leb p a ≡ true) × (p ≤ a)) ⊎ ((leb p a ≡ false) × (a < p)) → ((leb p b ≡ true) × (p ≤ b)) ⊎ ((leb p b ≡ false) × (b < p)) → a ≡ b
    go (inl x) (inl y) = let k = up_behind p a x.1 in let l = up_behind p b y.1 in omega arith
    go (inl x) (inr y) = let k = up_behind p a x.1 in let l = up_before p b y.1 in let le = x.1 in let lt = y.1 in omega arith
    go (inr x) (inl y) = let k = up_before p a x.1 in let l = up_behind p b y.1 in let lt = x.1 in let le = y.1 in omega arith
    go (inr x) (inr y) = let k = up_before p a x.1 in let l = up_before p b y.1 in omega arith

pub not_up : (p a : ℕ) → p ≡ up p a → ⊥
not_up p a e = elim (leb_tells p a) [
  | inl h ↦ let k = up_behind p a h.1 in let le = h.1 in absurd (omega arith)
  | inr h ↦ let k = up_before p a h.1 in let lt = h.1 in absurd (omega arith)
]

pub taken_up : (xs : List ℕ) (p a : ℕ) → slice_get (taken p xs) a ≡ slice_get xs (up p a)
taken_up xs p a = elim (leb_tells p a) [
  | inl e ↦ taken_behind xs p a e.1 ∙ ap (λ k. slice_get xs k) (sym (up_behind p a e.1))
  | inr e ↦ taken_before xs p a e.1 ∙ ap (λ k. slice_get xs k) (sym (up_before p a e.1))
]

pub taken_was : (lists : ℕ → List ℕ) (i p j a : ℕ) → slice_get (taken_in i p lists j) a ≡ slice_get (lists j) (up_in i p j a)
taken_was lists i p j a = go (eqb i j)
  where
    go : (t : Bool) → slice_get (cond t (taken p (lists j)) (lists j)) a ≡ slice_get (lists j) (cond t (up p a) a)
    go true = taken_up (lists j) p a
    go false = refl

-- a list without one of its links
pub taken_linked : (fs fs' ls ls' : List ℕ) (lists : ℕ → List ℕ) (i p : ℕ) → AreLists fs ls lists → length ls' ≡ length ls
    → named_at fs' i ≡ slice_get (taken p (lists i)) 0 → ((j : ℕ) → (i ≡ j → ⊥) → named_at fs' j ≡ named_at fs j)
    → ((j a m : ℕ) → slice_get (lists j) a ≡ Some m → (i ≡ j → suc a ≡ p → ⊥) → named_at ls' m ≡ named_at ls m)
    → ((a m : ℕ) → suc a ≡ p → slice_get (lists i) a ≡ Some m → named_at ls' m ≡ slice_get (lists i) (suc p))
    → AreLists fs' ls' (taken_in i p lists)
taken_linked fs fs' ls ls' lists i p are long here there keeps leads = record {
  first = λ j. first j (eqb_tells i j);
  next = λ j a m h. next j a m (eqb_tells i j) (sym (taken_was lists i p j a) ∙ h) ∙ sym (taken_was lists i p j (suc a));
  in_range = λ j a m h. let k : m < length ls = are.in_range j (up_in i p j a) m (sym (taken_was lists i p j a) ∙ h) in omega arith;
  once = λ j k a b m h g. once j k a b (are.once j k (up_in i p j a) (up_in i p k b) m (sym (taken_was lists i p j a) ∙ h) (sym (taken_was lists i p k b) ∙ g));
}
  where
    first : (j : ℕ) → ((eqb i j ≡ true) × (i ≡ j)) ⊎ ((eqb i j ≡ false) × (i ≡ j → ⊥)) → named_at fs' j ≡ slice_get (taken_in i p lists j) 0
    first j (inl e) = subst (λ (k : ℕ). named_at fs' k ≡ slice_get (taken_in i p lists k) 0) e.1 (here ∙ ap (λ (xs : List ℕ). slice_get xs 0) (sym (taken_here i p lists)))
    first j (inr e) = there j e.1 ∙ are.first j ∙ ap (λ (xs : List ℕ). slice_get xs 0) (sym (taken_there i j p lists e.0))

    in_list : (a m : ℕ) → slice_get (lists i) (up p a) ≡ Some m → named_at ls' m ≡ slice_get (lists i) (up p (suc a))
    in_list a m h = go (leb_tells p a) (eqb_tells (suc a) p)
      where
        go : ((leb p a ≡ true) × (p ≤ a)) ⊎ ((leb p a ≡ false) × (a < p)) → ((eqb (suc a) p ≡ true) × (suc a ≡ p)) ⊎ ((eqb (suc a) p ≡ false) × (suc a ≡ p → ⊥)) → named_at ls' m ≡ slice_get (lists i) (up p (suc a))
        go (inl e) k =
            let le = e.1 in
            let was : slice_get (lists i) (suc a) ≡ Some m = ap (λ x. slice_get (lists i) x) (sym (up_behind p a le)) ∙ h in
            keeps i (suc a) m was (λ q r. absurd (omega arith)) ∙ are.next i (suc a) m was ∙ ap (λ x. slice_get (lists i) x) (sym (up_behind p (suc a) (omega arith)))
        go (inr e) (inl k) =
            let lt = e.1 in
            let was : slice_get (lists i) a ≡ Some m = ap (λ x. slice_get (lists i) x) (sym (up_before p a lt)) ∙ h in
            let at : suc a ≡ p = k.1 in
            leads a m at was ∙ ap (λ x. slice_get (lists i) (suc x)) (sym at) ∙ ap (λ x. slice_get (lists i) x) (sym (up_behind p (suc a) (omega arith)))
        go (inr e) (inr k) =
            let lt = e.1 in
            let was : slice_get (lists i) a ≡ Some m = ap (λ x. slice_get (lists i) x) (sym (up_before p a lt)) ∙ h in
            let apart : suc a < p = ne_lt (suc a) p k.1 lt in
            keeps i a m was (λ q r. k.1 r) ∙ are.next i a m was ∙ ap (λ x. slice_get (lists i) x) (sym (up_before p (suc a) apart))
          where
            ne_lt : (x y : ℕ) → (x ≡ y → ⊥) → x ≤ y → x < y
            ne_lt x y d le = omega arith

    next : (j a m : ℕ) → ((eqb i j ≡ true) × (i ≡ j)) ⊎ ((eqb i j ≡ false) × (i ≡ j → ⊥)) → slice_get (lists j) (up_in i p j a) ≡ Some m → named_at ls' m ≡ slice_get (lists j) (up_in i p j (suc a))
    next j a m (inl e) h =
        subst (λ (k : ℕ). named_at ls' m ≡ slice_get (lists k) (cond (eqb i j) (up p (suc a)) (suc a))) e.1
        (in_list a m (subst (λ (k : ℕ). slice_get (lists k) (up p a) ≡ Some m) (sym e.1) (ap (λ t. slice_get (lists j) (cond t (up p a) a)) (sym e.0) ∙ h))
        ∙ ap (λ t. slice_get (lists i) (cond t (up p (suc a)) (suc a))) (sym e.0))
    next j a m (inr e) h =
        let was : slice_get (lists j) a ≡ Some m = ap (λ t. slice_get (lists j) (cond t (up p a) a)) (sym e.0) ∙ h in
        keeps j a m was (λ q r. e.1 q) ∙ are.next j a m was ∙ ap (λ t. slice_get (lists j) (cond t (up p (suc a)) (suc a))) (sym e.0)

    once : (j k a b : ℕ) → (j ≡ k) × (up_in i p j a ≡ up_in i p k b) → (j ≡ k) × (a ≡ b)
    once j k a b one = (one.0, same k (eqb i k) (ap (λ (x : ℕ). up_in i p x a) (sym one.0) ∙ one.1))
      where
        same : (x : ℕ) (t : Bool) → cond t (up p a) a ≡ cond t (up p b) b → a ≡ b
        same x true e = up_same p a b e
        same x false e = e

-- the first link of a list was taken out
pub front_taken : (fs fs' ls : List ℕ) (i n : ℕ) → AreLinked fs ls → slice_get (list_in fs ls i) 0 ≡ Some n
    → named_at fs' i ≡ named_at ls n → ((j : ℕ) → (i ≡ j → ⊥) → named_at fs' j ≡ named_at fs j)
    → AreLists fs' ls (taken_in i 0 (list_in fs ls))
front_taken fs fs' ls i n are at here there =
    taken_linked fs fs' ls ls (list_in fs ls) i 0 are refl (here ∙ are.next i 0 n at ∙ sym (taken_behind (list_in fs ls i) 0 0 (omega arith))) there (λ j a m h d. refl) (λ a m e h. absurd cc)

-- the link behind another was taken out
pub behind_taken : (fs ls ls' : List ℕ) (i q n b : ℕ) → AreLinked fs ls → length ls' ≡ length ls → slice_get (list_in fs ls i) (suc q) ≡ Some n → slice_get (list_in fs ls i) q ≡ Some b
    → named_at ls' b ≡ named_at ls n → ((m : ℕ) → (b ≡ m → ⊥) → named_at ls' m ≡ named_at ls m)
    → AreLists fs ls' (taken_in i (suc q) (list_in fs ls))
behind_taken fs ls ls' i q n b are long at before here there =
    taken_linked fs fs ls ls' (list_in fs ls) i (suc q) are long (are.first i ∙ sym (taken_before (list_in fs ls i) (suc q) 0 (omega arith))) (λ j d. refl)
    (λ j a m h d. there m (λ e. let one = are.once i j q a m (subst (λ (x : ℕ). slice_get (list_in fs ls i) q ≡ Some x) e before) h in d one.0 (ap suc (sym one.1))))
    (λ a m e h.
    let same : a ≡ q = omega arith in
    let both : Some m ≡ Some b = sym h ∙ ap (λ x. slice_get (list_in fs ls i) x) same ∙ before in
    let is : m ≡ b = cc in
    ap (named_at ls') is ∙ here ∙ are.next i (suc q) n at)

-- a link that is put first leads to what was first
pub first_linked : (fs ls : List ℕ) (i n o : ℕ) → AreLinked fs ls → ((j a : ℕ) → slice_get (list_in fs ls j) a ≡ Some n → ⊥) → i < length fs → n < length ls → o ≡ get_or fs i o
    → AreLists (set fs i (suc n)) (set ls n o) (put_in i n (list_in fs ls))
first_linked fs ls i n o are free hi hn read =
    put_linked fs (set fs i (suc n)) ls (set ls n o) (list_in fs ls) i n are free hn (length-set ls n o) (named_at-set_same fs i (suc n) hi) (λ j d. named_at-set_other fs i j (suc n) d)
    (named_at-set_same ls n o hn ∙ sym (named_at-read fs i o hi read)) (λ m d. named_at-set_other ls n m o d)

-- the link before one that is taken out leads to what is behind that
pub out_behind : (fs ls : List ℕ) (i p n b o : ℕ) → AreLinked fs ls → slice_get (list_in fs ls i) p ≡ Some n → before_in (list_in fs ls i) p ≡ Some b → o ≡ get_or ls n o
    → AreLists fs (set ls b o) (taken_in i p (list_in fs ls))
out_behind fs ls i zero n b o are at before read = cc
out_behind fs ls i (suc q) n b o are at before read =
    behind_taken fs ls (set ls b o) i q n b are (length-set ls b o) at before
    (named_at-set_same ls b o (are.in_range i q b before) ∙ sym (named_at-read ls n o (are.in_range i (suc q) n at) read)) (λ m d. named_at-set_other ls b m o d)

-- what is behind the first link that is taken out is first then
pub out_front : (fs ls : List ℕ) (i p n o : ℕ) → AreLinked fs ls → slice_get (list_in fs ls i) p ≡ Some n → before_in (list_in fs ls i) p ≡ None → o ≡ get_or ls n o
    → AreLists (set fs i o) ls (taken_in i p (list_in fs ls))
out_front fs ls i zero n o are at before read =
    front_taken fs (set fs i o) ls i n are at (named_at-set_same fs i o (first_within fs i n (are.first i ∙ at)) ∙ sym (named_at-read ls n o (are.in_range i 0 n at) read)) (λ j d. named_at-set_other fs i j o d)
out_front fs ls i (suc q) n o are at before read =
    let h : suc q < length (list_in fs ls i) = got_within (list_in fs ls i) (suc q) n at in
    let g = got (list_in fs ls i) q (omega arith) in
    let both : Some g.0 ≡ None = sym g.1 ∙ before in
    absurd cc

-- there are more lists, which are empty
pub more_linked : (fs fs' ls : List ℕ) → AreLinked fs ls → ((i : ℕ) → named_at fs' i ≡ named_at fs i) → AreLinked fs' ls
more_linked fs fs' ls are same = linked fs' ls (list_in fs ls) (record { first = λ i. same i ∙ are.first i; next = are.next; in_range = are.in_range; once = are.once })

pub named_at-push : (fs : List ℕ) (i : ℕ) → named_at (fs ++ 0 ∷ []) i ≡ named_at fs i
named_at-push [] zero = refl
named_at-push [] (suc i) = refl
named_at-push (f ∷ fs) zero = refl
named_at-push (f ∷ fs) (suc i) = named_at-push fs i

-- links that were added are in no list
pub added_lists : (fs ls ls' : List ℕ) → AreLinked fs ls → ((n : ℕ) → n < length ls → named_at ls' n ≡ named_at ls n) → length ls ≤ length ls' → AreLists fs ls' (list_in fs ls)
added_lists fs ls ls' are same longer = record {
  first = are.first;
  next = λ i a n h. same n (are.in_range i a n h) ∙ are.next i a n h;
  in_range = λ i a n h. let k : n < length ls = are.in_range i a n h in omega arith;
  once = are.once;
}

-- a link that is set is no further one
pub few_set : (ls : List ℕ) (n o : ℕ) → length ls ≤ 4294967294 → length (set ls n o) ≤ 4294967294
few_set ls n o few = let e : length (set ls n o) ≡ length ls = length-set ls n o in omega arith
