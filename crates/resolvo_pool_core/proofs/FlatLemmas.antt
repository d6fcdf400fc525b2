-- Lists one after the other in one list.
use Rattle.std.proofs.Common.{◌≡◌, ◌∙◌, ℕ, zero, suc, ◌+◌, ◌-◌, ◌≤◌, ◌<◌, List, [], ◌∷◌, ◌++◌, length, take, drop, get_or, Some, refl, sym, ap, subst, arith}
use Rattle.std.specs.Prelude.{slice_get}
use Rattle.std.specs.List.{slice_range}
use Rattle.std.proofs.lemmas.Option.{slice_get-get_or}
use Rattle.std.proofs.lemmas.List.{drop-append-le, take-append-le, take-append-drop, length-append, length-drop, length-take-le, take_all}
use Rattle.std.proofs.Math.Seq.{drop-append_seam, take-append_seam}
use Rattle.resolvo_pool_core.specs.Flat.{lists_from, lists_in, AreRising, AreEnds}

-- a range within a list is the same where more follows
range_stays : {X : Type 0} (xs more : List X) (b e : ℕ) → b ≤ e → e ≤ length xs → slice_range (xs ++ more) b e ≡ slice_range xs b e
range_stays {X} xs more b e first last =
    ap (λ (ys : List X). take (e - b) ys) (drop-append-le b xs more (omega (arith, first, last)))
    ∙ take-append-le (e - b) (drop b xs) more (omega (arith, first, last, length-drop b xs))

-- the range behind a list is what follows
range_added : {X : Type 0} (xs more : List X) → slice_range (xs ++ more) (length xs) (length xs + length more) ≡ more
range_added {X} xs more =
    ap (λ (ys : List X). take (length xs + length more - length xs) ys) (drop-append_seam xs more)
    ∙ take_all (length xs + length more - length xs) more (omega arith)

-- ---- ends that rise

-- where the list of a number begins, the first beginning here
abbrev pub begin_from : ℕ → List ℕ → ℕ → ℕ
begin_from b ends zero = b
begin_from b [] (suc n) = b
begin_from b (e ∷ ends) (suc n) = begin_from e ends n

-- no end is before the first one, nor past the list
within : (l b : ℕ) (ends : List ℕ) → AreRising l b ends → b ≤ l
within l b [] are = let same : b ≡ l = are in omega arith
within l b (e ∷ ends) are = let rest : e ≤ l = within l e ends are.1 in omega (arith, are.0)

-- the last end is where the list ends
last_is : (l b : ℕ) (ends : List ℕ) → AreRising l b ends → begin_from b ends (length ends) ≡ l
last_is l b [] are = are
last_is l b (e ∷ ends) are = last_is l e ends are.1

-- one end more rises too, if it is past the others
rising_pushed : (l b p : ℕ) (ends : List ℕ) → AreRising l b ends → l ≤ p → AreRising p b (ends ++ p ∷ [])
rising_pushed l b p [] are more = let same : b ≡ l = are in (omega arith, refl)
rising_pushed l b p (e ∷ ends) are more = (are.0, rising_pushed l e p ends are.1 more)

-- the list of a number is within the items
range_within : (l b : ℕ) (ends : List ℕ) (n e : ℕ) → AreRising l b ends → slice_get ends n ≡ Some e → (begin_from b ends n ≤ e) × (e ≤ l)
range_within l b [] n e are at = absurd cc
range_within l b (q ∷ ends) zero e are at =
    let inside : q ≤ l = within l q ends are.1 in
    let same : q ≡ e = cc in
    subst (λ (r : ℕ). (b ≤ r) × (r ≤ l)) same (are.0, inside)
range_within l b (q ∷ ends) (suc n) e are at = range_within l q ends n e are.1 at

begin_read : (b : ℕ) (ends : List ℕ) (n d : ℕ) → n < length ends → begin_from b ends (suc n) ≡ get_or ends n d
begin_read b [] n d h = absurd (omega arith)
begin_read b (q ∷ ends) zero d h = refl
begin_read b (q ∷ ends) (suc n) d h = begin_read q ends n d (omega arith)

-- what a number begins at, where it is the first one, and where it isn't
pub begin_is : (ends : List ℕ) (n b : ℕ) → (n ≡ 0 → b ≡ 0) → (0 < n → b ≡ get_or ends (n - 1) 0) → n ≤ length ends → b ≡ begin_from 0 ends n
begin_is ends zero b first later few = first refl
begin_is ends (suc n) b first later few =
    let before : suc n - 1 ≡ n = omega arith in
    later (omega arith) ∙ (ap (λ (k : ℕ). get_or ends k 0) before ∙ sym (begin_read 0 ends n 0 (omega arith)))

-- ---- the lists of ends

pub lists_count : {T : Type 0} (items : List T) (b : ℕ) (ends : List ℕ) → length (lists_from items b ends) ≡ length ends
lists_count items b [] = refl
lists_count items b (e ∷ ends) = ap (λ (n : ℕ). suc n) (lists_count items e ends)

-- the list of a number, between its ends
list_at : {T : Type 0} (items : List T) (b : ℕ) (ends : List ℕ) (n e : ℕ) → slice_get ends n ≡ Some e → slice_get (lists_from items b ends) n ≡ Some (slice_range items (begin_from b ends n) e)
list_at items b [] n e at = absurd cc
list_at items b (q ∷ ends) zero e at = let same : q ≡ e = cc in ap (λ (r : ℕ). Some (slice_range items b r)) same
list_at items b (q ∷ ends) (suc n) e at = list_at items q ends n e at

-- the lists are the same where more items follow
lists_stay : {T : Type 0} (items more : List T) (b : ℕ) (ends : List ℕ) → AreRising (length items) b ends → lists_from (items ++ more) b ends ≡ lists_from items b ends
lists_stay items more b [] are = refl
lists_stay {T} items more b (e ∷ ends) are =
    let inside : e ≤ length items = within (length items) e ends are.1 in
    ap (λ (xs : List T). xs ∷ lists_from (items ++ more) e ends) (range_stays items more b e are.0 inside)
    ∙ ap (λ (rest : List (List T)). slice_range items b e ∷ rest) (lists_stay items more e ends are.1)

lists_append : {T : Type 0} (items : List T) (b : ℕ) (ends : List ℕ) (p : ℕ) → lists_from items b (ends ++ p ∷ []) ≡ lists_from items b ends ++ slice_range items (begin_from b ends (length ends)) p ∷ []
lists_append items b [] p = refl
lists_append {T} items b (e ∷ ends) p = ap (λ (rest : List (List T)). slice_range items b e ∷ rest) (lists_append items e ends p)

pub lists_few : {T : Type 0} (items : List T) (ends : List ℕ) (now : List (List T)) → lists_in items ends ≡ now → AreEnds items ends → length now ≤ 4294967295
lists_few items ends now view are = omega (arith, lists_count items 0 ends, ap length view, are.counted)

-- ---- the list of a number, by where it begins and where it ends

module _ {T : Type 0} (items : List T) (ends : List ℕ) (now : List (List T)) (n : ℕ) (view : lists_in items ends ≡ now) (below : n < length now) where
  pub below_ends : n < length ends
  below_ends = omega (arith, lists_count items 0 ends, ap length view, below)

  module _ (b e : ℕ) (are : AreEnds items ends) (first : n ≡ 0 → b ≡ 0) (later : 0 < n → b ≡ get_or ends (n - 1) 0) (last : e ≡ get_or ends n e) where
    begins : b ≡ begin_from 0 ends n
    begins = begin_is ends n b first later (omega (arith, below_ends))

    ends_at : slice_get ends n ≡ Some e
    ends_at = slice_get-get_or ends n e below_ends ∙ ap (λ (x : ℕ). Some x) (sym last)

    pub list_bounds : (b ≤ e) × (e ≤ length items)
    list_bounds = subst (λ (k : ℕ). (k ≤ e) × (e ≤ length items)) (sym begins) (range_within (length items) 0 ends n e are.rising ends_at)

    pub list_is : slice_get now n ≡ Some (slice_range items b e)
    list_is =
        ap (λ (ls : List (List T)). slice_get ls n) (sym view)
        ∙ (list_at items 0 ends n e ends_at
        ∙ ap (λ (k : ℕ). Some (slice_range items k e)) (sym begins))

-- ---- one list more

module _ {T : Type 0} (items more grown : List T) (ends longer : List ℕ) (p : ℕ) (are : AreEnds items ends) (all : grown ≡ items ++ more) (put : longer ≡ ends ++ p ∷ []) (to : p ≡ length items + length more) where
  pub list_pushed : lists_in grown longer ≡ lists_in items ends ++ more ∷ []
  list_pushed =
      let begins : begin_from 0 ends (length ends) ≡ length items = last_is (length items) 0 ends are.rising in
      let last : slice_range (items ++ more) (begin_from 0 ends (length ends)) p ≡ more = rw (begins, to) (range_added items more) in
      rw (all, put)
      (lists_append (items ++ more) 0 ends p
      ∙ (ap (λ (xs : List T). lists_from (items ++ more) 0 ends ++ xs ∷ []) last
      ∙ ap (λ (rest : List (List T)). rest ++ more ∷ []) (lists_stay items more 0 ends are.rising)))

  pub ends_pushed : p ≤ 4294967295 → length ends < 4294967295 → AreEnds grown longer
  ends_pushed room next =
      let long : length grown ≡ p = omega (arith, ap length all, length-append items more, to) in
      record {
        few = omega (arith, long, room);
        counted = omega (arith, ap length put, length-append ends (p ∷ []), next);
        rising = rw (long, put) (rising_pushed (length items) 0 p ends are.rising (omega (arith, to)));
      }

-- ---- the last list taken away

-- the ends before the last one rise up to the last of them
rising_before : (l b p : ℕ) (ends : List ℕ) → AreRising l b (ends ++ p ∷ []) → AreRising (begin_from b ends (length ends)) b ends × (begin_from b ends (length ends) ≤ l)
rising_before l b p [] are = let last : p ≡ l = are.1 in (refl, omega (arith, are.0, last))
rising_before l b p (e ∷ ends) are = let (rising, most) = rising_before l e p ends are.1 in ((are.0, rising), most)

module _ {T : Type 0} (items left : List T) (longer ends : List ℕ) (p m : ℕ) (are : AreEnds items longer) (last : longer ≡ ends ++ p ∷ []) (from : m ≡ begin_from 0 ends (length ends)) (cut : left ≡ take m items) where
  rising_left : AreRising m 0 ends × (m ≤ length items)
  rising_left = rw from (rising_before (length items) 0 p ends (subst (λ (qs : List ℕ). AreRising (length items) 0 qs) last are.rising))

  length_left : length left ≡ m
  length_left = ap length cut ∙ length-take-le m items rising_left.1

  pub ends_popped : AreEnds left ends
  ends_popped = record {
    few = omega (arith, length_left, rising_left.1, are.few);
    counted = omega (arith, ap length last, length-append ends (p ∷ []), are.counted);
    rising = rw length_left rising_left.0;
  }

  pub list_popped : lists_in left ends ≡ take (length (lists_in items longer) - 1) (lists_in items longer)
  list_popped =
      let whole : left ++ drop m items ≡ items = rw cut (take-append-drop m items) in
      let stay : lists_in items ends ≡ lists_in left ends = subst (λ (xs : List T). lists_in xs ends ≡ lists_in left ends) whole (lists_stay left (drop m items) 0 ends ends_popped.rising) in
      let gone : List T = slice_range items (begin_from 0 ends (length ends)) p in
      let before : lists_in items longer ≡ lists_in left ends ++ gone ∷ [] = ap (λ (qs : List ℕ). lists_in items qs) last ∙ (lists_append items 0 ends p ∙ ap (λ (ls : List (List T)). ls ++ gone ∷ []) stay) in
      sym (ap (λ (ls : List (List T)). take (length ls - 1) ls) before ∙ take_before (lists_in left ends) gone)
    where
      take_before : (xs : List (List T)) (x : List T) → take (length (xs ++ x ∷ []) - 1) (xs ++ x ∷ []) ≡ xs
      take_before xs x =
          let count : length (xs ++ x ∷ []) - 1 ≡ length xs = omega (arith, length-append xs (x ∷ [])) in
          rw count (take-append_seam xs (x ∷ []))
