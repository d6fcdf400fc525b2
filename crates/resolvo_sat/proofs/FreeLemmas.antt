-- The search for a free literal, of which the first ones are looked at last.
use Rattle.std.proofs.Common.{◌≡◌, ℕ, ◌-◌, ◌++◌, inl, inr, true, List, take, drop, length, Option, Some, None, sym, subst, arith}
use Rattle.std.proofs.lemmas.List.{take-append-drop, take_all, length-drop}
use Rattle.resolvo_store_core.specs.Signed.{Signed, has}
use Rattle.resolvo_store_core.specs.declared.watched_literals.WatchedLiterals.{WatchedLiterals}
use Rattle.resolvo_sat.specs.Propagation.{IsFree}
use Rattle.resolvo_sat.proofs.Literals.{has-append, has_left, has_right}

has_in_drop : (clause : List Signed) (n : ℕ) (l : Signed) → has (drop n clause) l ≡ true → has clause l ≡ true
has_in_drop clause n l h = subst (λ (ls : List Signed). has ls l ≡ true) (take-append-drop n clause) (has_right (take n clause) (drop n clause) l h)

has_in_take : (clause : List Signed) (n : ℕ) (l : Signed) → has (take n clause) l ≡ true → has clause l ≡ true
has_in_take clause n l h = subst (λ (ls : List Signed). has ls l ≡ true) (take-append-drop n clause) (has_left (take n clause) (drop n clause) l h)

-- the literals from a place on
pub rest_taken : (clause : List Signed) (n : ℕ) → take (length clause - n) (drop n clause) ≡ drop n clause
rest_taken clause n = take_all (length clause - n) (drop n clause) (omega (arith, length-drop n clause))

-- a literal that is free among the later ones is free in the clause
pub free_later : (known clause : List Signed) (p : WatchedLiterals) (n : ℕ) (l : Signed) → IsFree known (take (length clause - n) (drop n clause)) p (Some l) → IsFree known clause p (Some l)
free_later known clause p n l free = (has_in_drop clause n l (subst (λ (ls : List Signed). has ls l ≡ true) (rest_taken clause n) free.0), free.1, free.2)

-- where none of them is, one of the others may be
pub free_earlier : (known clause : List Signed) (p : WatchedLiterals) (n : ℕ) (o : Option Signed) → IsFree known (take (length clause - n) (drop n clause)) p None → IsFree known (take n clause) p o → IsFree known clause p o
free_earlier known clause p n (Some l) none free = (has_in_take clause n l free.0, free.1, free.2)
free_earlier known clause p n None none free = λ m h. elim (has-append (take n clause) (drop n clause) m (subst (λ (ls : List Signed). has ls m ≡ true) (sym (take-append-drop n clause)) h)) [
  | inl a ↦ free m a
  | inr b ↦ none m (subst (λ (ls : List Signed). has ls m ≡ true) (sym (rest_taken clause n)) b)
]

-- ---- the literals of two lists, one after the other

pub free_first : (known xs ys : List Signed) (p : WatchedLiterals) (l : Signed) → IsFree known xs p (Some l) → IsFree known (xs ++ ys) p (Some l)
free_first known xs ys p l free = (has_left xs ys l free.0, free.1, free.2)

pub free_second : (known xs ys : List Signed) (p : WatchedLiterals) (o : Option Signed) → IsFree known xs p None → IsFree known ys p o → IsFree known (xs ++ ys) p o
free_second known xs ys p (Some l) none free = (has_right xs ys l free.0, free.1, free.2)
free_second known xs ys p None none free = λ m h. elim (has-append xs ys m h) [ inl a ↦ none m a | inr b ↦ free m b ]

-- the later ones of the second list are looked at first
pub free_shared_later : (known xs ys : List Signed) (p : WatchedLiterals) (n : ℕ) (l : Signed) → IsFree known (take (length ys - n) (drop n ys)) p (Some l) → IsFree known (xs ++ ys) p (Some l)
free_shared_later known xs ys p n l free = let later = free_later known ys p n l free in (has_right xs ys l later.0, later.1, later.2)

pub free_shared_earlier : (known xs ys : List Signed) (p : WatchedLiterals) (n : ℕ) (o : Option Signed) → IsFree known (take (length ys - n) (drop n ys)) p None → IsFree known (xs ++ take n ys) p o → IsFree known (xs ++ ys) p o
free_shared_earlier known xs ys p n (Some l) none free = (elim (has-append xs (take n ys) l free.0) [ inl a ↦ has_left xs ys l a | inr b ↦ has_right xs ys l (has_in_take ys n l b) ], free.1, free.2)
free_shared_earlier known xs ys p n None none free = λ m h. elim (has-append xs ys m h) [
  | inl a ↦ free m (has_left xs (take n ys) m a)
  | inr b ↦ free_earlier known ys p n None none (λ k j. free k (has_right xs (take n ys) k j)) m b
]
