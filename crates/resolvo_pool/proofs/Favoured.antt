-- The favoured one, moved to the start of a list.
use Rattle.std.proofs.Common.{◌≡◌, ℕ, zero, suc, ◌+◌, ◌-◌, ◌<◌, Bool, true, false, not, List, [], ◌∷◌, ◌++◌, length, take, drop, get_or, refl, ap, ◌∙◌, cond, arith}
use Rattle.std.specs.Prelude.{Some, None, ◌||◌}
use Rattle.std.specs.List.{list_any, position, position_or_len}
use Rattle.std.specs.Set.{remove_key}
use Rattle.std.proofs.lemmas.List.{take_more}
use Rattle.std.proofs.lemmas.List.Quantifiers.{position-Some}
use Rattle.std.proofs.Math.Seq.{drop-append_seam, take-append_seam}
use Rattle.std.proofs.Math.ListN.{length-append}
use Rattle.std.proofs.lemmas.Bool.{false≢true, lt-ltb}
use Rattle.std.specs.Prelude.{nat_lt}

module _ {S : Type 0} (p : S → Bool) (d : S) where
  -- the first one that passes is left out
  removed : (xs : List S) (i : ℕ) → i < length xs → p (get_or xs i d) ≡ true → ((k : ℕ) → k < i → p (get_or xs k d) ≡ false) → remove_key p xs ≡ take i xs ++ drop (suc i) xs
  removed [] i h t f = absurd (omega arith)
  removed (x ∷ xs) zero h t f = ap (λ b. cond b xs (x ∷ remove_key p xs)) t
  removed (x ∷ xs) (suc i) h t f =
      ap (λ b. cond b xs (x ∷ remove_key p xs)) (f 0 (omega arith)) ∙ ap (λ ys. x ∷ ys) (removed xs i (omega arith) t (λ k l. f (suc k) (omega arith)))

  -- and one of them passes
  passes : (xs : List S) (i : ℕ) → i < length xs → p (get_or xs i d) ≡ true → list_any p xs ≡ true
  passes [] i h t = absurd (omega arith)
  passes (x ∷ xs) zero h t = ap (λ b. b || list_any p xs) t
  passes (x ∷ xs) (suc i) h t = go (p x) (passes xs i (omega arith) t)
    where
      go : (b : Bool) → list_any p xs ≡ true → (b || list_any p xs) ≡ true
      go true e = refl
      go false e = e

  -- a list that ends with the favoured one, after it was rotated by one
  pub rotated : (before whole new : List S) → whole ≡ before ++ d ∷ [] → new ≡ drop (length whole - 1) whole ++ take (length whole - 1) whole → new ≡ d ∷ before
  rotated before whole new e r =
      let n : length (before ++ d ∷ []) - 1 ≡ length before = omega (arith, length-append before (d ∷ [])) in
      rw (r, e, n, drop-append_seam, take-append_seam) refl

  -- the favoured one, which is at i, before the others
  pub favoured_first : (xs : List S) (i : ℕ) (new : List S) → position p xs ≡ Some i → ((x : S) → p x ≡ true → x ≡ d) → (whole : List S) → whole ≡ take (i + 1) xs → new ≡ drop (length whole - 1) whole ++ take (length whole - 1) whole → new ++ drop (i + 1) xs ≡ cond (list_any p xs) (d ∷ remove_key p xs) xs
  favoured_first xs i new at exact whole e r =
      let (h, t, f) = position-Some p xs i d at in
      let last : get_or xs i d ≡ d = exact (get_or xs i d) t in
      let more = rw last at (take_more xs i d h) in
      let turned : new ≡ d ∷ take i xs = rotated (take i xs) whole new (e ∙ more) r in
      let next : i + 1 ≡ suc i = omega arith in
      let gone : remove_key p xs ≡ take i xs ++ drop (i + 1) xs = rw next (removed xs i h t f) in
      rw (passes xs i h t, gone, turned) refl

  -- where one passes, the first that does is within the list
  within : (xs : List S) → list_any p xs ≡ true → position_or_len p xs < length xs
  within [] h = absurd (false≢true h)
  within (x ∷ xs) h = go (p x) h (within xs)
    where
      go : (b : Bool) → (b || list_any p xs) ≡ true → (list_any p xs ≡ true → position_or_len p xs < length xs) → cond (not b) (1 + position_or_len p xs) 0 < suc (length xs)
      go true e ih = omega arith
      go false e ih = let i = ih e in omega arith

  -- a list without it is unchanged
  pub no_place : (xs : List S) → position p xs ≡ None → xs ≡ cond (list_any p xs) (d ∷ remove_key p xs) xs
  no_place xs none = go (list_any p xs) refl
    where
      go : (b : Bool) → list_any p xs ≡ b → xs ≡ cond b (d ∷ remove_key p xs) xs
      go false e = refl
      go true e = absurd (here (nat_lt (position_or_len p xs) (length xs)) (lt-ltb _ _ (within xs e)) none)
        where
          here : (b : Bool) → b ≡ true → cond b (Some (position_or_len p xs)) None ≡ None → ⊥
          here true t n = cc
          here false t n = false≢true t
