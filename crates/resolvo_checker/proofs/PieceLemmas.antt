-- Lemmas on clauses in one flat list, and on long clauses.
use Rattle.std.proofs.Common.{◌≡◌, inl, inr, ℕ, zero, suc, ◌+◌, ◌-◌, ◌<◌, ◌≤◌, List, [], ◌∷◌, ◌++◌, length, take, drop, Option, Some, None, refl, sym, ap, subst, ◌∙◌, arith, length-append, slice_set}
use Rattle.std.specs.Prelude.{slice_get, Result, Ok, Err, OnOk, OnErr}
use Rattle.std.specs.List.{slice_range}
use Rattle.std.specs.Option.{option_map, option_and_then}
use Rattle.std.proofs.lemmas.List.{take-append-le, drop-append-le, drop_at, take_all, length-drop}
use Rattle.std.proofs.lemmas.Option.{slice_get-map, same_Some, none-some, get_or_from_slice_get}
use Rattle.resolvo_report.specs.Value.{Step}
use Rattle.resolvo_report.specs.declared.step.Step.{Step as CodeStep}
use Rattle.resolvo_report.specs.View.{step_of}
use Rattle.resolvo_checker.specs.declared.literal.Literal.{Literal}
use Rattle.resolvo_checker.specs.declared.kept_clause.Kept.{Kept as CodeKept}
use Rattle.resolvo_checker.specs.declared.kept_clause.Kept.TheVariants as code
use Rattle.resolvo_checker.specs.declared.kept_clause.Long.{Long}
use Rattle.resolvo_checker.specs.declared.kept_clause.Long.TheVariants as long
use Rattle.resolvo_checker.specs.Kept.{Kept, Ready, Deferred, literals_at, literals_kept, step_kept, deferred_at, IsBuilt, AreBuilt}
use Rattle.resolvo_checker.specs.Pieces.{long_piece, range_of, piece_or, piece, long_number, pieces, AreLongWithin, IsKeptWithin, AreKeptWithin, AreWithin, IsLongStep, IsLongReady}

pub err_map : {X E P Q : Type 0} (r : Result X E) → OnErr r P → (P → Q) → OnErr r Q
err_map (Ok x) h f = tt
err_map (Err e) h f = f h

pub on_ok_map : {X E P Q : Type 0} (r : Result X E) → OnOk r P → (P → Q) → OnOk r Q
on_ok_map (Ok x) h f = f h
on_ok_map (Err e) h f = tt

-- ---- ranges

-- where a clause begins and ends
pub record IsRange (start end total : ℕ) : Type 0 where
  pub rising : start ≤ end
  pub within : end ≤ total

kept_at : (total count : ℕ) (kept : List CodeKept) (n : ℕ) (k : CodeKept) → AreKeptWithin total count kept → slice_get kept n ≡ Some k → IsKeptWithin total count k
kept_at total count [] n k h e = absurd (none-some k e)
kept_at total count (x ∷ xs) zero k h e = subst (IsKeptWithin total count) (same_Some x k e) h.0
kept_at total count (x ∷ xs) (suc n) k h e = kept_at total count xs n k h.1 e

pub ready_range : (flat : List Literal) (longs : List Long) (kept : List CodeKept) (n start end : ℕ) → AreWithin flat longs kept → slice_get kept n ≡ Some (code.Ready start end) → IsRange start end (length flat)
ready_range flat longs kept n start end h e = let r = kept_at (length flat) (length longs) kept n (code.Ready start end) h.each e in record { rising = r.0; within = r.1 }

pub long_range : (flat : List Literal) (longs : List Long) (place : ℕ) → AreLongWithin (length flat) longs → IsRange (range_of (slice_get longs place)).0 (range_of (slice_get longs place)).1 (length flat)
long_range flat [] place h = record { rising = omega arith; within = omega arith }
long_range flat (long.Ready start end ∷ ls) zero h = record { rising = h.0.0; within = h.0.1 }
long_range flat (long.Deferred s ∷ ls) zero h = record { rising = omega arith; within = omega arith }
long_range flat (l ∷ ls) (suc n) h = long_range flat ls n h.1

long_literals : (flat : List Literal) (o : Option Long) → literals_kept (piece_or flat o) ≡ slice_range flat (range_of o).0 (range_of o).1
long_literals flat None = refl
long_literals flat (Some (long.Ready start end)) = refl
long_literals flat (Some (long.Deferred s)) = refl

pub long_there : (flat : List Literal) (longs : List Long) (kept : List CodeKept) (n place : ℕ) → AreWithin flat longs kept → slice_get kept n ≡ Some (code.Long place) → place < length longs
long_there flat longs kept n place h e = kept_at (length flat) (length longs) kept n (code.Long place) h.each e

pub get-pieces : (flat : List Literal) (longs : List Long) (kept : List CodeKept) (n : ℕ) (k : CodeKept) → slice_get kept n ≡ Some k → slice_get (pieces flat longs kept) n ≡ Some (piece flat longs k)
get-pieces flat longs kept n k e = slice_get-map (piece flat longs) kept n ∙ ap (λ o. option_map (piece flat longs) o) e

pub long_literals_at : (flat : List Literal) (longs : List Long) (kept : List CodeKept) (n place : ℕ) → slice_get kept n ≡ Some (code.Long place)
    → literals_at (pieces flat longs kept) n ≡ slice_range flat (range_of (slice_get longs place)).0 (range_of (slice_get longs place)).1
long_literals_at flat longs kept n place e =
    ap literals_kept (get_or_from_slice_get (pieces flat longs kept) n (piece flat longs (code.Long place)) (Ready []) (get-pieces flat longs kept n (code.Long place) e))
    ∙ long_literals flat (slice_get longs place)

-- ---- more literals

long_grows : (total more : ℕ) (longs : List Long) → AreLongWithin total longs → AreLongWithin (total + more) longs
long_grows total more [] h = tt
long_grows total more (long.Ready start end ∷ ls) h = let u : end ≤ total = h.0.1 in ((h.0.0, omega (arith, u)), long_grows total more ls h.1)
long_grows total more (long.Deferred s ∷ ls) h = (tt, long_grows total more ls h.1)

kept_grows : (total more count extra : ℕ) (kept : List CodeKept) → AreKeptWithin total count kept → AreKeptWithin (total + more) (count + extra) kept
kept_grows total more count extra [] h = tt
kept_grows total more count extra (code.Ready start end ∷ ks) h = let u : end ≤ total = h.0.1 in ((h.0.0, omega (arith, u)), kept_grows total more count extra ks h.1)
kept_grows total more count extra (code.Long n ∷ ks) h = let u : n < count = h.0 in (omega (arith, u), kept_grows total more count extra ks h.1)

kept_same : (total count total2 count2 : ℕ) (kept : List CodeKept) → total ≡ total2 → count ≡ count2 → AreKeptWithin total count kept → AreKeptWithin total2 count2 kept
kept_same total count total2 count2 kept e f h = subst (λ t. AreKeptWithin t count2 kept) e (subst (λ c. AreKeptWithin total c kept) f h)

range-append : (xs ys : List Literal) (a b : ℕ) → a ≤ b → b ≤ length xs → slice_range (xs ++ ys) a b ≡ slice_range xs a b
range-append xs ys a b h l =
    ap (take (b - a)) (drop-append-le a xs ys (omega arith))
    ∙ take-append-le (b - a) (drop a xs) ys (omega (arith, length-drop a xs))

range-rest : (xs ys : List Literal) → slice_range (xs ++ ys) (length xs) (length xs + length ys) ≡ ys
range-rest xs ys = ap (take (length xs + length ys - length xs)) (drop_at xs ys (length xs) refl) ∙ take_all (length xs + length ys - length xs) ys (omega arith)

piece_or-append : (flat more : List Literal) (longs : List Long) (n : ℕ) → AreLongWithin (length flat) longs → piece_or (flat ++ more) (slice_get longs n) ≡ piece_or flat (slice_get longs n)
piece_or-append flat more [] n h = refl
piece_or-append flat more (long.Ready start end ∷ ls) zero h = ap Ready (range-append flat more start end h.0.0 h.0.1)
piece_or-append flat more (long.Deferred s ∷ ls) zero h = refl
piece_or-append flat more (l ∷ ls) (suc n) h = piece_or-append flat more ls n h.1

piece-append : (flat more : List Literal) (longs : List Long) (count : ℕ) (k : CodeKept) → AreLongWithin (length flat) longs → IsKeptWithin (length flat) count k → piece (flat ++ more) longs k ≡ piece flat longs k
piece-append flat more longs count (code.Ready start end) h w = ap Ready (range-append flat more start end w.0 w.1)
piece-append flat more longs count (code.Long n) h w = piece_or-append flat more longs n h

-- ---- one clause more

pub within-push : (flat more : List Literal) (longs : List Long) (kept : List CodeKept) → AreWithin flat longs kept → AreWithin (flat ++ more) longs (kept ++ code.Ready (length flat) (length flat + length more) ∷ [])
within-push flat more longs kept h = record {
  long = rw (length-append) (long_grows (length flat) (length more) longs h.long);
  each = rw (length-append) (one kept h.each);
} where
  one : (ks : List CodeKept) → AreKeptWithin (length flat) (length longs) ks → AreKeptWithin (length flat + length more) (length longs) (ks ++ code.Ready (length flat) (length flat + length more) ∷ [])
  one [] g = ((omega arith, omega arith), tt)
  one (code.Ready start end ∷ ks) g = let u : end ≤ length flat = g.0.1 in ((g.0.0, omega (arith, u)), one ks g.1)
  one (code.Long n ∷ ks) g = (g.0, one ks g.1)

pub pieces-push : (flat more : List Literal) (longs : List Long) (kept : List CodeKept) → AreWithin flat longs kept → pieces (flat ++ more) longs (kept ++ code.Ready (length flat) (length flat + length more) ∷ []) ≡ pieces flat longs kept ++ Ready more ∷ []
pieces-push flat more longs kept h = one kept h.each where
  one : (ks : List CodeKept) → AreKeptWithin (length flat) (length longs) ks → pieces (flat ++ more) longs (ks ++ code.Ready (length flat) (length flat + length more) ∷ []) ≡ pieces flat longs ks ++ Ready more ∷ []
  one [] g = ap (λ p. Ready p ∷ []) (range-rest flat more)
  one (k ∷ ks) g =
      ap (λ x. x ∷ pieces (flat ++ more) longs (ks ++ code.Ready (length flat) (length flat + length more) ∷ [])) (piece-append flat more longs (length longs) k h.long g.0)
      ∙ ap (λ xs. piece flat longs k ∷ xs) (one ks g.1)

get_within : (longs : List Long) (l : Long) (n : ℕ) → n < length longs → slice_get (longs ++ l ∷ []) n ≡ slice_get longs n
get_within [] l n h = absurd (omega arith)
get_within (x ∷ xs) l zero h = refl
get_within (x ∷ xs) l (suc n) h = get_within xs l n (omega arith)

get_last : (longs : List Long) (l : Long) → slice_get (longs ++ l ∷ []) (length longs) ≡ Some l
get_last [] l = refl
get_last (x ∷ xs) l = get_last xs l

pub within-longer : (flat : List Literal) (longs : List Long) (kept : List CodeKept) (s : CodeStep) → AreWithin flat longs kept → AreWithin flat (longs ++ long.Deferred s ∷ []) kept
within-longer flat longs kept s h = record {
  long = one longs h.long;
  each = kept_same (length flat + 0) (length longs + 1) _ _ kept (omega arith) (omega (arith, length-append longs (long.Deferred s ∷ []))) (kept_grows (length flat) 0 (length longs) 1 kept h.each);
} where
  one : (ls : List Long) → AreLongWithin (length flat) ls → AreLongWithin (length flat) (ls ++ long.Deferred s ∷ [])
  one [] g = (tt, tt)
  one (l ∷ ls) g = (g.0, one ls g.1)

pub within-defer : (flat : List Literal) (longs : List Long) (kept : List CodeKept) (s : CodeStep) → AreWithin flat longs kept → AreWithin flat (longs ++ long.Deferred s ∷ []) (kept ++ code.Long (length longs) ∷ [])
within-defer flat longs kept s h = record {
  long = one longs h.long;
  each = rw (length-append) (two kept h.each);
} where
  one : (ls : List Long) → AreLongWithin (length flat) ls → AreLongWithin (length flat) (ls ++ long.Deferred s ∷ [])
  one [] g = (tt, tt)
  one (l ∷ ls) g = (g.0, one ls g.1)

  two : (ks : List CodeKept) → AreKeptWithin (length flat) (length longs) ks → AreKeptWithin (length flat) (length longs + 1) (ks ++ code.Long (length longs) ∷ [])
  two [] g = (omega arith, tt)
  two (code.Ready start end ∷ ks) g = (g.0, two ks g.1)
  two (code.Long n ∷ ks) g = let u : n < length longs = g.0 in (omega (arith, u), two ks g.1)

pub pieces-defer : (flat : List Literal) (longs : List Long) (kept : List CodeKept) (s : CodeStep) → AreWithin flat longs kept → pieces flat (longs ++ long.Deferred s ∷ []) (kept ++ code.Long (length longs) ∷ []) ≡ pieces flat longs kept ++ Deferred (step_of s) ∷ []
pieces-defer flat longs kept s h = one kept h.each where
  two : (k : CodeKept) → IsKeptWithin (length flat) (length longs) k → piece flat (longs ++ long.Deferred s ∷ []) k ≡ piece flat longs k
  two (code.Ready start end) g = refl
  two (code.Long n) g = ap (piece_or flat) (get_within longs (long.Deferred s) n g)

  one : (ks : List CodeKept) → AreKeptWithin (length flat) (length longs) ks → pieces flat (longs ++ long.Deferred s ∷ []) (ks ++ code.Long (length longs) ∷ []) ≡ pieces flat longs ks ++ Deferred (step_of s) ∷ []
  one [] g = ap (λ o. piece_or flat o ∷ []) (get_last longs (long.Deferred s))
  one (k ∷ ks) g =
      ap (λ x. x ∷ pieces flat (longs ++ long.Deferred s ∷ []) (ks ++ code.Long (length longs) ∷ [])) (two k g.0)
      ∙ ap (λ xs. piece flat longs k ∷ xs) (one ks g.1)

-- ---- a clause once more

pub within-again : (flat : List Literal) (longs : List Long) (kept : List CodeKept) (n : ℕ) (k : CodeKept) → slice_get kept n ≡ Some k → AreWithin flat longs kept → AreWithin flat longs (kept ++ k ∷ [])
within-again flat longs kept n k e h = record { long = h.long; each = one kept h.each } where
  one : (ks : List CodeKept) → AreKeptWithin (length flat) (length longs) ks → AreKeptWithin (length flat) (length longs) (ks ++ k ∷ [])
  one [] g = (kept_at (length flat) (length longs) kept n k h.each e, tt)
  one (x ∷ ks) g = (g.0, one ks g.1)

-- ---- a deferred clause, and how it is built

pub deferred-of : (flat : List Literal) (longs : List Long) (kept : List CodeKept) (n : ℕ) (k : CodeKept) → slice_get kept n ≡ Some k → deferred_at (pieces flat longs kept) n ≡ step_kept (piece flat longs k)
deferred-of flat longs kept n k e = ap (option_and_then step_kept) (get-pieces flat longs kept n k e)

pub long_found : (kept : List CodeKept) (n place : ℕ) → option_and_then long_number (slice_get kept n) ≡ Some place → slice_get kept n ≡ Some (code.Long place)
long_found [] n place e = absurd (none-some place e)
long_found (code.Ready start end ∷ ks) zero place e = absurd (none-some place e)
long_found (code.Long m ∷ ks) zero place e = ap (λ i. Some (code.Long i)) (same_Some m place e)
long_found (k ∷ ks) (suc n) place e = long_found ks n place e

pub no_long : (flat : List Literal) (longs : List Long) (kept : List CodeKept) (n : ℕ) → option_and_then long_number (slice_get kept n) ≡ None → deferred_at (pieces flat longs kept) n ≡ None
no_long flat longs [] n e = refl
no_long flat longs (code.Ready start end ∷ ks) zero e = refl
no_long flat longs (code.Long m ∷ ks) zero e = absurd (none-some m (sym e))
no_long flat longs (k ∷ ks) (suc n) e = no_long flat longs ks n e

pub long-step : (flat : List Literal) (longs : List Long) (place : ℕ) (s : Step) → step_kept (piece_or flat (slice_get longs place)) ≡ Some s → IsLongStep longs place s
long-step flat [] place s e = absurd (none-some s e)
long-step flat (long.Ready start end ∷ ls) zero s e = absurd (none-some s e)
long-step flat (long.Deferred t ∷ ls) zero s e = (t, refl, same_Some (step_of t) s e)
long-step flat (l ∷ ls) (suc n) s e = long-step flat ls n s e

pub long-ready : (flat : List Literal) (longs : List Long) (place : ℕ) → IsLongReady longs place → step_kept (piece_or flat (slice_get longs place)) ≡ None
long-ready flat longs place r = ap (λ o. step_kept (piece_or flat o)) r.1.1

get_set : (longs : List Long) (i : ℕ) (l : Long) → i < length longs → slice_get (slice_set longs i l) i ≡ Some l
get_set [] i l h = absurd (omega arith)
get_set (x ∷ xs) zero l h = refl
get_set (x ∷ xs) (suc i) l h = get_set xs i l (omega arith)

pub set-ready : (longs : List Long) (place start end : ℕ) → place < length longs → IsLongReady (slice_set longs place (long.Ready start end)) place
set-ready longs place start end h = (start, (end, get_set longs place (long.Ready start end) h))

length-set : (longs : List Long) (i : ℕ) (l : Long) → length (slice_set longs i l) ≡ length longs
length-set [] i l = refl
length-set (x ∷ xs) zero l = refl
length-set (x ∷ xs) (suc i) l = ap suc (length-set xs i l)

pub within-build : (flat more : List Literal) (longs : List Long) (kept : List CodeKept) (place : ℕ) → AreWithin flat longs kept → AreWithin (flat ++ more) (slice_set longs place (long.Ready (length flat) (length flat + length more))) kept
within-build flat more longs kept place h = record {
  long = rw (length-append) (one longs place h.long);
  each = kept_same (length flat + length more) (length longs + 0) _ _ kept (sym (length-append flat more)) (omega (arith, length-set longs place new)) (kept_grows (length flat) (length more) (length longs) 0 kept h.each);
} where
  new : Long
  new = long.Ready (length flat) (length flat + length more)

  one : (ls : List Long) (i : ℕ) → AreLongWithin (length flat) ls → AreLongWithin (length flat + length more) (slice_set ls i new)
  one [] i g = tt
  one (l ∷ ls) zero g = ((omega arith, omega arith), long_grows (length flat) (length more) ls g.1)
  one (long.Ready start end ∷ ls) (suc i) g = let u : end ≤ length flat = g.0.1 in ((g.0.0, omega (arith, u)), one ls i g.1)
  one (long.Deferred s ∷ ls) (suc i) g = (tt, one ls i g.1)

pub built : (flat more : List Literal) (longs : List Long) (kept : List CodeKept) (place : ℕ) (s : Step) → AreWithin flat longs kept → IsLongStep longs place s
    → AreBuilt s more (pieces flat longs kept) (pieces (flat ++ more) (slice_set longs place (long.Ready (length flat) (length flat + length more))) kept)
built flat more longs kept place s h is = three kept h.each where
  new : Long
  new = long.Ready (length flat) (length flat + length more)

  one : (ls : List Long) (i n : ℕ) → AreLongWithin (length flat) ls → IsLongStep ls i s → IsBuilt s more (piece_or flat (slice_get ls n)) (piece_or (flat ++ more) (slice_get (slice_set ls i new) n))
  one [] i n g t = absurd (none-some (long.Deferred t.0) t.1)
  one (l ∷ ls) zero zero g t = inr (ap (long_piece flat) (same_Some l (long.Deferred t.0) t.1) ∙ ap Deferred t.2, ap Ready (range-rest flat more))
  one (l ∷ ls) zero (suc n) g t = inl (piece_or-append flat more ls n g.1)
  one (long.Ready start end ∷ ls) (suc i) zero g t = inl (ap Ready (range-append flat more start end g.0.0 g.0.1))
  one (long.Deferred u ∷ ls) (suc i) zero g t = inl refl
  one (l ∷ ls) (suc i) (suc n) g t = one ls i n g.1 t

  two : (k : CodeKept) → IsKeptWithin (length flat) (length longs) k → IsBuilt s more (piece flat longs k) (piece (flat ++ more) (slice_set longs place new) k)
  two (code.Ready start end) g = inl (ap Ready (range-append flat more start end g.0 g.1))
  two (code.Long n) g = one longs place n h.long is

  three : (ks : List CodeKept) → AreKeptWithin (length flat) (length longs) ks → AreBuilt s more (pieces flat longs ks) (pieces (flat ++ more) (slice_set longs place new) ks)
  three [] g = tt
  three (k ∷ ks) g = (two k g.0, three ks g.1)

-- past the last clause there are no literals
pub no_literals_past : (kept : List Kept) (n : ℕ) → length kept ≤ n → literals_at kept n ≡ []
no_literals_past [] n le = refl
no_literals_past (k ∷ kept) zero le = absurd (omega (arith, le))
no_literals_past (k ∷ kept) (suc n) le = no_literals_past kept n (omega (arith, le))
