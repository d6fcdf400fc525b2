-- Marks by the numbers of walks.
use Rattle.std.proofs.Common.{◌≡◌, ℕ, zero, suc, ◌+◌, ◌<◌, ◌≤◌, ◌==◌, Bool, true, false, cond, List, [], ◌∷◌, ◌++◌, length, get_or, refl, sym, ◌∙◌, ap, subst, arith, eqb-true, eq-eqb}
use Rattle.std.specs.Prelude.{slice_index_or, slice_set}
use Rattle.std.proofs.lemmas.List.{get_or-set_same, get_or-set_other}
use Rattle.std.proofs.lemmas.Bool.{false≢true}
use Rattle.resolvo_sat.specs.Marks.{flags, AreUpTo, AreNone, AreSame, IsMarked}

distinct : (a b : ℕ) → (a ≡ b → ⊥) → (a == b) ≡ false
distinct a b h = go (a == b) refl
  where
    go : (x : Bool) → (a == b) ≡ x → x ≡ false
    go true e = absurd (h (eqb-true _ _ e))
    go false e = refl

pub flags_long : (n : ℕ) (ks : List ℕ) → length (flags n ks) ≡ length ks
flags_long n [] = refl
flags_long n (k ∷ ks) = let a : length (flags n ks) ≡ length ks = flags_long n ks in omega arith

-- a variable is marked where its number is this walk's
pub flag_at : (n : ℕ) (ks : List ℕ) (i d : ℕ) → i < length ks → slice_index_or (flags n ks) i false ≡ (get_or ks i d == n)
flag_at n [] i d lt = absurd (omega arith)
flag_at n (k ∷ ks) zero d lt = refl
flag_at n (k ∷ ks) (suc i) d lt = flag_at n ks i d (omega arith)

pub flag_past : (n : ℕ) (ks : List ℕ) (i : ℕ) → length ks ≤ i → slice_index_or (flags n ks) i false ≡ false
flag_past n [] i le = refl
flag_past n (k ∷ ks) zero le = absurd (omega arith)
flag_past n (k ∷ ks) (suc i) le = flag_past n ks i (omega arith)

-- a later walk marked nothing yet
pub none_yet : (n m : ℕ) (ks : List ℕ) → n < m → AreUpTo n ks → AreNone (flags m ks)
none_yet n m [] lt up v = refl
none_yet n m (k ∷ ks) lt up zero = let low : k ≤ n = up.0 in distinct k m (λ e. absurd (omega arith))
none_yet n m (k ∷ ks) lt up (suc v) = none_yet n m ks lt up.1 v

flags_set : (n : ℕ) (ks : List ℕ) (i : ℕ) → flags n (slice_set ks i n) ≡ slice_set (flags n ks) i true
flags_set n [] i = refl
flags_set n (k ∷ ks) zero = ap (λ (b : Bool). b ∷ flags n ks) (eq-eqb n n refl)
flags_set n (k ∷ ks) (suc i) = ap (λ (bs : List Bool). (k == n) ∷ bs) (flags_set n ks i)

-- one more variable is marked
pub flag_set : (n : ℕ) (ks : List ℕ) (i : ℕ) → i < length ks → IsMarked i (flags n ks) (flags n (slice_set ks i n))
flag_set n ks i lt v = ap (λ (bs : List Bool). slice_index_or bs v false) (flags_set n ks i) ∙ go (i == v) refl
  where
    long : length (flags n ks) ≡ length ks
    long = flags_long n ks

    go : (b : Bool) → (i == v) ≡ b → slice_index_or (slice_set (flags n ks) i true) v false ≡ cond b true (slice_index_or (flags n ks) v false)
    go true same = subst (λ (j : ℕ). slice_index_or (slice_set (flags n ks) i true) j false ≡ true) (eqb-true _ _ same) (get_or-set_same (flags n ks) i true false (omega (arith, long)))
    go false apart = get_or-set_other (flags n ks) i v true false (λ e. false≢true (sym apart ∙ eq-eqb i v (sym e)))

-- room is made by zeros, and walks are numbered from one
pub flag_push : (n : ℕ) (ks : List ℕ) → 1 ≤ n → AreSame (flags n ks) (flags n (ks ++ 0 ∷ []))
flag_push n [] some zero = distinct 0 n (λ e. absurd (omega arith))
flag_push n [] some (suc v) = refl
flag_push n (k ∷ ks) some zero = refl
flag_push n (k ∷ ks) some (suc v) = flag_push n ks some v

pub up_set : (n : ℕ) (ks : List ℕ) (i : ℕ) → AreUpTo n ks → AreUpTo n (slice_set ks i n)
up_set n [] i up = up
up_set n (k ∷ ks) zero up = (omega arith, up.1)
up_set n (k ∷ ks) (suc i) up = (up.0, up_set n ks i up.1)

pub up_push : (n : ℕ) (ks : List ℕ) → AreUpTo n ks → AreUpTo n (ks ++ 0 ∷ [])
up_push n [] up = (omega arith, up)
up_push n (k ∷ ks) up = (up.0, up_push n ks up.1)

pub up_more : (n m : ℕ) (ks : List ℕ) → n ≤ m → AreUpTo n ks → AreUpTo m ks
up_more n m [] le up = up
up_more n m (k ∷ ks) le up = let low : k ≤ n = up.0 in (omega arith, up_more n m ks le up.1)
