-- Lemmas on the lists that the calls of a watch map write, as functions of a literal.
use Rattle.std.proofs.Common.{◌≡◌, ℕ, zero, suc, ◌+◌, ◌*◌, ◌/◌, ◌<◌, ◌≤◌, inl, inr, true, false, cond, List, [], ◌∷◌, ◌++◌, take, drop, map, length, get_or, Option, Some, None, refl, sym, ◌∙◌, ap, subst, arith, eqb, eq-eqb, ne_eqb}
use Rattle.std.specs.Prelude.{slice_get, slice_set}
use Rattle.std.proofs.lemmas.List.{length-map}
use Rattle.resolvo_pool_core.specs.declared.id.ClauseId.{ClauseId}
use Rattle.resolvo_store_core.specs.Signed.{Signed, same_literal, index_in, literal_at}
use Rattle.resolvo_store_core.specs.SignLaws.{index_round_trip}
use Rattle.resolvo_store_core.specs.Pairs.{watches, moved_pair}
use Rattle.resolvo_store_core.specs.declared.watched_literals.WatchedLiterals.{WatchedLiterals}
use Rattle.resolvo_store_core.specs.declared.watch_map.WatchMap.{WatchMap}
use Rattle.resolvo_store_core.specs.declared.watch_map.WatchMapCursor.{WatchMapCursor}
use Rattle.resolvo_store_core.specs.Links.{link_of, named_at, clause_of, chain, list_in, before_in, watchers_in, AreLists, IsPlaced, IsUnlinked, KeepsLinks}
use Rattle.resolvo_store_core.specs.Watches.{links, watchers, pair_at, IsFreeLink, IsAt, IsWatched, MovesIn, Moves, PutsFirst, TakesOut, SameLists}
use Rattle.resolvo_store_core.proofs.LinkLemmas.{got, got_within, chain_length, added_lists, named_at-read, taken, up, up_in, not_up, put_in, put_from, taken_in, put_here, put_there, taken_here, taken_there, taken_was, taken_before, taken_behind, lists_are}
use Rattle.resolvo_store_core.proofs.Watched.{differs_sym, index_differs, moved_well, pair_in_range, pair_of_watcher, not_same_watch}

map_taken : {A : Type 0} (f : ℕ → A) (p : ℕ) (xs : List ℕ) → map f (taken p xs) ≡ take p (map f xs) ++ drop (suc p) (map f xs)
map_taken f zero [] = refl
map_taken f (suc p) [] = refl
map_taken f zero (x ∷ xs) = refl
map_taken f (suc p) (x ∷ xs) = ap (λ ys. f x ∷ ys) (map_taken f p xs)

pub map_got : {A : Type 0} (f : ℕ → A) (xs : List ℕ) (a n : ℕ) → slice_get xs a ≡ Some n → slice_get (map f xs) a ≡ Some (f n)
map_got f [] a n e = cc
map_got f (x ∷ xs) zero n e = let same : x ≡ n = cc in ap (λ y. Some (f y)) same
map_got f (x ∷ xs) (suc a) n e = map_got f xs a n e

pub map_none : {A : Type 0} (f : ℕ → A) (xs : List ℕ) (a : ℕ) → slice_get xs a ≡ None → slice_get (map f xs) a ≡ None
map_none f [] a e = refl
map_none f (x ∷ xs) zero e = cc
map_none f (x ∷ xs) (suc a) e = map_none f xs a e

other_index : (l m : Signed) → same_literal l m ≡ false → eqb (index_in l) (index_in m) ≡ false
other_index l m d = ne_eqb (index_in l) (index_in m) (index_differs l m d)

-- links that were added are in no list
pub same_added : (old : WatchMap) (fs' ls ls' : List ℕ) → fs' ≡ old.firsts.items → ls' ≡ ls → ((n : ℕ) → n < length old.nexts.items → named_at ls n ≡ named_at old.nexts.items n) → length old.nexts.items ≤ length ls → SameLists (watchers old) (watchers_in fs' ls')
same_added old fs' ls ls' firsts is same longer l = ap (map clause_of) (ap (λ (xs : List ℕ). list_in xs ls' (index_in l)) firsts ∙ ap (λ (xs : List ℕ). list_in old.firsts.items xs (index_in l)) is ∙ lists_are old.firsts.items ls _ (added_lists old.firsts.items old.nexts.items ls old.linked same longer) (index_in l))

-- a link that is marked as in no list is in none
pub marked_free : (m : WatchMap) (n x : ℕ) → n < length m.nexts.items → x ≡ get_or m.nexts.items n x → x ≡ 4294967295 → IsFreeLink m n
marked_free m n x within read is = record { in_range = within; free = free }
  where
    names : named_at m.nexts.items n ≡ Some 4294967294
    names = named_at-read m.nexts.items n x within read ∙ ap link_of is

    free : (i a : ℕ) → slice_get (list_in m.firsts.items m.nexts.items i) a ≡ Some n → ⊥
    free i a at =
        let next : slice_get (list_in m.firsts.items m.nexts.items i) (suc a) ≡ Some 4294967294 = sym (m.linked.next i a n at) ∙ names in
        let low : 4294967294 < length m.nexts.items = m.linked.in_range i (suc a) 4294967294 next in
        let few : length m.nexts.items ≤ 4294967294 = m.few in
        omega arith

-- a link of a clause that isn't there yet is in no list
pub free_past : (m : WatchMap) (pairs : List (Option WatchedLiterals)) (n : ℕ) → IsWatched pairs (watchers m) → length pairs * 2 ≤ n → n < length m.nexts.items → IsFreeLink m n
free_past m pairs n fit past within = record { in_range = within; free = free }
  where
    free : (i a : ℕ) → slice_get (list_in m.firsts.items m.nexts.items i) a ≡ Some n → ⊥
    free i a at =
        let l : Signed = literal_at i in
        let named : slice_get (links m l) a ≡ Some n = subst (λ (k : ℕ). slice_get (list_in m.firsts.items m.nexts.items k) a ≡ Some n) (sym (index_round_trip i)) at in
        let found = pair_of_watcher pairs (watchers m) l a (clause_of n) fit (map_got clause_of (links m l) a n named) in
        let low : n / 2 < length pairs = pair_in_range pairs (n / 2) found.0 found.1 in
        omega arith

-- a free link behind the one that is put first stays free
pub put_free : (old : WatchMap) (fs' ls' : List ℕ) (i n m : ℕ) → AreLists fs' ls' (put_in i n (list_in old.firsts.items old.nexts.items)) → length ls' ≡ length old.nexts.items → n < m → IsFreeLink old m → IsUnlinked fs' ls' m
put_free old fs' ls' i n m are long apart is = record {
  in_range = let low : m < length old.nexts.items = is.in_range in omega arith;
  free = λ j a h. elim (put_from (list_in old.firsts.items old.nexts.items) i n j a m (ap (λ (xs : List ℕ). slice_get xs a) (sym (lists_are fs' ls' _ are j)) ∙ h)) [
    | inl e ↦ let same : m ≡ n = e.0 in absurd (omega arith)
    | inr w ↦ is.free j w.place w.was
  ];
}

-- there are more lists, which are empty
pub same_more : (old : WatchMap) (fs' ls' : List ℕ) → ((i : ℕ) → named_at fs' i ≡ named_at old.firsts.items i) → ls' ≡ old.nexts.items → KeepsLinks old.firsts.items old.nexts.items fs' ls'
same_more old fs' ls' firsts links = record {
  lists = λ i. ap (λ (ls : List ℕ). list_in fs' ls i) links ∙ ap (chain old.nexts.items (length old.nexts.items)) (firsts i);
  more = let e = ap length links in omega arith;
}

-- a cursor in a list is not at its end
pub not_at_end : (m : WatchMap) (k : WatchMapCursor) → IsAt m k → k.place < length (watchers m k.literal) → k.current ≡ None → ⊥
not_at_end m k at within end =
    let size : length (watchers m k.literal) ≡ length (links m k.literal) = length-map (links m k.literal) clause_of in
    let g = got (links m k.literal) k.place (omega arith) in
    let both : Some g.0 ≡ None = sym g.1 ∙ sym at.current ∙ end in
    cc

-- places of lists are fewer than the links
pub place_small : (m : WatchMap) (l : Signed) (place : ℕ) → place < length (watchers m l) → place < length m.nexts.items
place_small m l place within =
    let size : length (watchers m l) ≡ length (links m l) = length-map (links m l) clause_of in
    let few : length (links m l) ≤ length m.nexts.items = chain_length m.nexts.items (length m.nexts.items) (named_at m.firsts.items (index_in l)) in
    omega arith

-- the clause at a cursor
pub clause_here : (m : WatchMap) (k : WatchMapCursor) (n : ℕ) → IsAt m k → k.current ≡ Some n → slice_get (watchers m k.literal) k.place ≡ Some (clause_of n)
clause_here m k n at is = map_got clause_of (links m k.literal) k.place n (sym at.current ∙ is)

pub within_from : (m : WatchMap) (k : WatchMapCursor) (n : ℕ) → IsAt m k → k.current ≡ Some n → k.place < length (watchers m k.literal)
within_from m k n at is =
    let size : length (watchers m k.literal) ≡ length (links m k.literal) = length-map (links m k.literal) clause_of in
    let h : k.place < length (links m k.literal) = got_within (links m k.literal) k.place n (sym at.current ∙ is) in
    omega arith

-- the cursor behind one
pub next_at_cursor : (m : WatchMap) (k : WatchMapCursor) (n : ℕ) (o : Option ℕ) → IsAt m k → k.current ≡ Some n → o ≡ named_at m.nexts.items n → IsPlaced (links m k.literal) (k.place + 1) o (Some n)
next_at_cursor m k n o at is next =
    let here : slice_get (links m k.literal) k.place ≡ Some n = sym at.current ∙ is in
    let step : suc k.place ≡ k.place + 1 = omega arith in
    record {
      current = next ∙ m.linked.next (index_in k.literal) k.place n here ∙ ap (λ p. slice_get (links m k.literal) p) step;
      before = sym here ∙ ap (λ p. before_in (links m k.literal) p) step;
    }

-- the lists after a link was put first, and their clauses
pub put_others : (old : WatchMap) (fs' ls' : List ℕ) (l : Signed) (i n : ℕ) → i ≡ index_in l → AreLists fs' ls' (put_in i n (list_in old.firsts.items old.nexts.items)) → (m : Signed) → same_literal l m ≡ false → list_in fs' ls' (index_in m) ≡ links old m
put_others old fs' ls' l i n at are m d =
    lists_are fs' ls' _ are (index_in m) ∙ put_there i (index_in m) n (list_in old.firsts.items old.nexts.items) (ap (λ (k : ℕ). eqb k (index_in m)) at ∙ other_index l m d)

pub put_watchers : (old : WatchMap) (fs' ls' : List ℕ) (l : Signed) (i n : ℕ) → i ≡ index_in l → AreLists fs' ls' (put_in i n (list_in old.firsts.items old.nexts.items))
    → PutsFirst (clause_of n) l (watchers old) (watchers_in fs' ls')
put_watchers old fs' ls' l i n at are = record {
  put = ap (map clause_of) (subst (λ (k : ℕ). list_in fs' ls' (index_in l) ≡ n ∷ list_in old.firsts.items old.nexts.items k) at (ap (list_in fs' ls') (sym at) ∙ lists_are fs' ls' _ are i ∙ put_here i n (list_in old.firsts.items old.nexts.items)));
  others = λ m d. ap (map clause_of) (put_others old fs' ls' l i n at are m d);
}

-- the lists after a link was taken out, and their clauses
pub taken_watchers : (old : WatchMap) (fs' ls' : List ℕ) (l : Signed) (p : ℕ) → AreLists fs' ls' (taken_in (index_in l) p (list_in old.firsts.items old.nexts.items))
    → TakesOut l p (watchers old) (watchers_in fs' ls')
taken_watchers old fs' ls' l p are = record {
  taken = ap (map clause_of) (lists_are fs' ls' _ are (index_in l) ∙ taken_here (index_in l) p (list_in old.firsts.items old.nexts.items))
      ∙ map_taken clause_of p (links old l);
  others = λ m d. ap (map clause_of) (lists_are fs' ls' _ are (index_in m) ∙ taken_there (index_in l) (index_in m) p (list_in old.firsts.items old.nexts.items) (other_index l m d));
}

-- the link that was taken out is in no list
pub taken_free : (old : WatchMap) (fs' ls' : List ℕ) (l : Signed) (p n : ℕ) → AreLists fs' ls' (taken_in (index_in l) p (list_in old.firsts.items old.nexts.items)) → slice_get (links old l) p ≡ Some n → length ls' ≡ length old.nexts.items → IsUnlinked fs' ls' n
taken_free old fs' ls' l p n are at long = record {
  in_range = let h : n < length old.nexts.items = old.linked.in_range (index_in l) p n at in omega arith;
  free = λ j a h.
      let was = sym (taken_was (list_in old.firsts.items old.nexts.items) (index_in l) p j a) ∙ ap (λ (xs : List ℕ). slice_get xs a) (sym (lists_are fs' ls' _ are j)) ∙ h in
      let one = old.linked.once (index_in l) j p (up_in (index_in l) p j a) n at was in
      let here : up_in (index_in l) p j a ≡ up p a = ap (λ t. cond t (up p a) a) (eq-eqb (index_in l) j one.0) in
      not_up p a (one.1 ∙ here);
}

-- a cursor whose link was taken out is at the next one
pub taken_at : (old : WatchMap) (fs' ls' : List ℕ) (k : WatchMapCursor) (n : ℕ) (o : Option ℕ) → AreLists fs' ls' (taken_in (index_in k.literal) k.place (list_in old.firsts.items old.nexts.items)) → IsAt old k → k.current ≡ Some n → o ≡ named_at old.nexts.items n → IsPlaced (list_in fs' ls' (index_in k.literal)) k.place o k.before
taken_at old fs' ls' k n o are at is next =
    let i = index_in k.literal in
    let lists = list_in old.firsts.items old.nexts.items in
    let here : list_in fs' ls' (index_in k.literal) ≡ taken k.place (lists i) = lists_are fs' ls' _ are i ∙ taken_here i k.place lists in
    record {
      current = next ∙ old.linked.next i k.place n (sym at.current ∙ is) ∙ sym (taken_behind (lists i) k.place k.place (omega arith)) ∙ ap (λ (xs : List ℕ). slice_get xs k.place) (sym here);
      before = at.before ∙ sym (before k.place) ∙ ap (λ (xs : List ℕ). before_in xs k.place) (sym here);
    }
  where
    before : (p : ℕ) → before_in (taken p (links old k.literal)) p ≡ before_in (links old k.literal) p
    before zero = refl
    before (suc q) = taken_before (links old k.literal) (suc q) q (omega arith)

pub moved_between : (c : ClauseId) (from to : Signed) (place : ℕ) (a b d : Signed → List ClauseId) → same_literal from to ≡ false → slice_get (a from) place ≡ Some c → TakesOut from place a b → PutsFirst c to b d → MovesIn c from place to a d
moved_between c from to place a b d apart was_in out put = record {
  was_in = was_in;
  taken = put.others from (differs_sym from to apart) ∙ out.taken;
  put = put.put ∙ ap (λ (xs : List ClauseId). c ∷ xs) (out.others to apart);
  others = λ l n m. put.others l m ∙ out.others l n;
}

-- where the lists are the same, the link is at its place still
pub still_at : (old : WatchMap) (fs' ls' : List ℕ) (k : WatchMapCursor) → KeepsLinks old.firsts.items old.nexts.items fs' ls' → IsAt old k → IsPlaced (list_in fs' ls' (index_in k.literal)) k.place k.current k.before
still_at old fs' ls' k same at = subst (λ (xs : List ℕ). IsPlaced xs k.place k.current k.before) (sym (same.lists (index_in k.literal))) at

pub out_same : (l : Signed) (p : ℕ) (a a' b : Signed → List ClauseId) → SameLists a a' → TakesOut l p a' b → TakesOut l p a b
out_same l p a a' b same out = record { taken = out.taken ∙ ap (λ (xs : List ClauseId). take p xs ++ drop (suc p) xs) (same l); others = λ m n. out.others m n ∙ same m }

-- a literal that a clause does not watch is another than one that it watches
pub apart_from : (c : ClauseId) (from to : Signed) (place : ℕ) (pairs : List (Option WatchedLiterals)) (a : Signed → List ClauseId) → IsWatched pairs a → slice_get (a from) place ≡ Some c → watches (pair_at pairs c.0) to ≡ false → same_literal from to ≡ false
apart_from c from to place pairs a fit was_in free =
    let found = pair_of_watcher pairs a from place c fit was_in in
    not_same_watch found.0 from to found.2 (subst (λ (o : Option WatchedLiterals). watches o to ≡ false) found.1 free)

-- the clause at the cursor watches the other literal now
pub updated : (c : ClauseId) (p : WatchedLiterals) (from to : Signed) (place : ℕ) (pairs new_pairs : List (Option WatchedLiterals)) (a d : Signed → List ClauseId)
    → IsWatched pairs a → pair_at pairs c.0 ≡ Some p → watches (Some p) to ≡ false → MovesIn c from place to a d → new_pairs ≡ slice_set pairs c.0 (Some (moved_pair p from to)) → Moves from place to pairs new_pairs a d
updated c p from to place pairs new_pairs a d fit is free lists wrote =
    let found = pair_of_watcher pairs a from place c fit lists.was_in in
    let both : Some found.0 ≡ Some p = sym found.1 ∙ is in
    let same : found.0 ≡ p = cc in
    let watching : watches (Some p) from ≡ true = subst (λ (x : WatchedLiterals). watches (Some x) from ≡ true) same found.2 in
    record {
      clause = c;
      pair = p;
      watched = is;
      pairs = wrote;
      lists = lists;
      fit = subst (λ (ps : List (Option WatchedLiterals)). IsWatched ps d) (sym wrote) (moved_well pairs a d c p from place to fit is watching free lists);
    }
