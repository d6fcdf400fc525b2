-- Lemmas on walks.
use Rattle.std.proofs.Common.{Result, Ok, OnOk, ◌≡◌, ◌≤◌, ◌⊎◌, inl, inr, eqb, eq-eqb, ℕ, zero, suc, ◌+◌, ◌<◌, true, false, cond, List, [], ◌∷◌, ◌++◌, take, drop, length, Option, Some, None, refl, sym, ◌∙◌, ap, subst, arith}
use Rattle.std.specs.Prelude.{slice_get, slice_set}
use Rattle.std.proofs.lemmas.Bool.{cases_Bool}
use Rattle.std.proofs.lemmas.List.{append_assoc, append-nil, set-get_or}
use Rattle.resolvo_pool_core.specs.declared.id.ClauseId.{ClauseId}
use Rattle.resolvo_store_core.specs.Signed.{Signed, same_literal}
use Rattle.resolvo_store_core.specs.Pairs.{watches, moved_pair}
use Rattle.resolvo_store_core.specs.declared.watched_literals.WatchedLiterals.{WatchedLiterals}
use Rattle.resolvo_store_core.specs.Watches.{pair_at, count, one_if, Moves, MovesIn, SameLists}
use Rattle.resolvo_store_core.specs.Walk.{IsWalking, pairs_after, lists_after, moved_view, without, new_watch, first_target, with_watch}
use Rattle.resolvo_store_core.specs.SignLaws.{same_literal-self}
use Rattle.resolvo_store_core.proofs.Watched.{cases_literal, pair_of_watcher}
use Rattle.resolvo_store_core.proofs.ClauseLists.{count_at, in_range_from, drop_here, nothing_left, drop_taken}

-- the list around a clause that is once in it is the list without that clause
pub taken_out : (xs : List ClauseId) (place : ℕ) (c : ClauseId) → slice_get xs place ≡ Some c → count c.0 xs ≡ 1 → take place xs ++ drop (suc place) xs ≡ without c.0 xs
taken_out [] place c at one = cc
taken_out (x ∷ xs) zero c at one =
    let same : x ≡ c = cc in
    let here : eqb c.0 x.0 ≡ true = subst (λ (y : ClauseId). eqb c.0 y.0 ≡ true) (sym same) (eq-eqb c.0 c.0 refl) in
    let e : one_if (eqb c.0 x.0) ≡ 1 = ap one_if here in
    let none : count c.0 xs ≡ 0 = omega arith in
    rw here (none_out c.0 xs none)
  where
    none_out : (n : ℕ) (ys : List ClauseId) → count n ys ≡ 0 → ys ≡ without n ys
    none_out n [] e = refl
    none_out n (y ∷ ys) e = elim (cases_Bool (eqb n y.0)) [
      | inl h ↦ let k : one_if (eqb n y.0) ≡ 1 = ap one_if h in absurd (omega arith)
      | inr h ↦ let k : one_if (eqb n y.0) ≡ 0 = ap one_if h in let z : count n ys ≡ 0 = omega arith in rw h (ap (λ (zs : List ClauseId). y ∷ zs) (none_out n ys z))
    ]
taken_out (x ∷ xs) (suc place) c at one = elim (cases_Bool (eqb c.0 x.0)) [
  | inl h ↦ let k : one_if (eqb c.0 x.0) ≡ 1 = ap one_if h in let more : 1 ≤ count c.0 xs = count_at xs place c at in absurd (omega arith)
  | inr h ↦ let k : one_if (eqb c.0 x.0) ≡ 0 = ap one_if h in let z : count c.0 xs ≡ 1 = omega arith in rw h (ap (λ (zs : List ClauseId). x ∷ zs) (taken_out xs place c at z))
]

-- lists that agree before a walk agree after it
pub lists_after_same : (from : Signed) (pairs : List (Option WatchedLiterals)) (cs : List ClauseId) (moves : List (Option Signed)) (v u : Signed → List ClauseId) → SameLists v u → SameLists (lists_after from pairs cs moves v) (lists_after from pairs cs moves u)
lists_after_same from pairs [] moves v u same l = same l
lists_after_same from pairs (c ∷ cs) moves v u same l =
    let o = new_watch (pair_at pairs c.0) (first_target moves) in
    lists_after_same from (slice_set pairs c.0 (with_watch from (pair_at pairs c.0) o)) cs (drop 1 moves) (moved_view from c o v) (moved_view from c o u) (moved_same o) l
  where
    moved_same : (o : Option Signed) (m : Signed) → moved_view from c o u m ≡ moved_view from c o v m
    moved_same None m = same m
    moved_same (Some to) m = ap (λ (xs : List ClauseId). cond (same_literal from m) (without c.0 xs) (cond (same_literal to m) (c ∷ xs) xs)) (same m)

-- the lists after a move are those of its definition
pub moved_is : (c : ClauseId) (from : Signed) (place : ℕ) (to : Signed) (v u : Signed → List ClauseId) → count c.0 (v from) ≡ 1 → MovesIn c from place to v u → SameLists (moved_view from c (Some to) v) u
moved_is c from place to v u once moved m = go (cases_literal from m) (cases_literal to m)
  where
    go : (from ≡ m) ⊎ (same_literal from m ≡ false) → (to ≡ m) ⊎ (same_literal to m ≡ false) → u m ≡ moved_view from c (Some to) v m
    go (inl f) t = subst (λ (n : Signed). u n ≡ moved_view from c (Some to) v n) f (rw (same_literal-self from) (moved.taken ∙ taken_out (v from) place c moved.was_in once))
    go (inr f) (inl t) = subst (λ (n : Signed). same_literal from n ≡ false → u n ≡ moved_view from c (Some to) v n) t (λ g. rw g (rw (same_literal-self to) moved.put)) f
    go (inr f) (inr t) = rw f (rw t (moved.others m f t))

-- the clause at the place was met and stays
pub walking_keeps : (from : Signed) (met more : List ClauseId) (moves : List (Option Signed)) (pairs : List (Option WatchedLiterals)) (view : Signed → List ClauseId) (place : ℕ) (rest : List (Option Signed)) (now : List (Option WatchedLiterals)) (v : Signed → List ClauseId) (c : ClauseId)
    → IsWalking from met moves pairs view place rest now v → slice_get (v from) place ≡ Some c → more ≡ met ++ c ∷ [] → None ≡ new_watch (pair_at now c.0) (first_target rest) → IsWalking from more moves pairs view (place + 1) (drop 1 rest) now v
walking_keeps from met more moves pairs view place rest now v c walk at grown stays =
    let next : suc place ≡ place + 1 = omega arith in
    let here : drop place (v from) ≡ c ∷ drop (place + 1) (v from) = drop_here (v from) place c at ∙ ap (λ (n : ℕ). c ∷ drop n (v from)) next in
    let same : slice_set now c.0 (with_watch from (pair_at now c.0) (new_watch (pair_at now c.0) (first_target rest))) ≡ now = ap (λ (o : Option Signed). slice_set now c.0 (with_watch from (pair_at now c.0) o)) (sym stays) ∙ set-get_or now c.0 None in
    record {
      fit = walk.fit;
      split = walk.split ∙ ap (λ (xs : List ClauseId). met ++ xs) here ∙ sym (append_assoc met (c ∷ []) (drop (place + 1) (v from))) ∙ ap (λ (xs : List ClauseId). xs ++ drop (place + 1) (v from)) (sym grown);
      left = walk.left ∙ ap (λ (xs : List ClauseId). pairs_after from now xs rest) here ∙ ap (λ (ps : List (Option WatchedLiterals)). pairs_after from ps (drop (place + 1) (v from)) (drop 1 rest)) same;
      lists = λ l. walk.lists l ∙ ap (λ (xs : List ClauseId). lists_after from now xs rest v l) here ∙ ap (λ (ps : List (Option WatchedLiterals)). lists_after from ps (drop (place + 1) (v from)) (drop 1 rest) (moved_view from c (new_watch (pair_at now c.0) (first_target rest)) v) l) same
          ∙ ap (λ (o : Option Signed). lists_after from now (drop (place + 1) (v from)) (drop 1 rest) (moved_view from c o v) l) (sym stays);
    }

-- the clause at the place was met and moved
pub walking_moves : (from to : Signed) (met more : List ClauseId) (moves : List (Option Signed)) (pairs : List (Option WatchedLiterals)) (view : Signed → List ClauseId) (place : ℕ) (rest : List (Option Signed)) (now new : List (Option WatchedLiterals)) (v u : Signed → List ClauseId) (c : ClauseId)
    → IsWalking from met moves pairs view place rest now v → slice_get (v from) place ≡ Some c → more ≡ met ++ c ∷ [] → Some to ≡ new_watch (pair_at now c.0) (first_target rest) → Moves from place to now new v u → IsWalking from more moves pairs view place (drop 1 rest) new u
walking_moves from to met more moves pairs view place rest now new v u c walk at grown goes moved =
    let within : place < length (v from) = in_range_from (v from) place c at in
    let both : Some moved.clause ≡ Some c = sym moved.lists.was_in ∙ at in
    let is : moved.clause ≡ c = cc in
    let here : drop place (v from) ≡ c ∷ drop (suc place) (v from) = drop_here (v from) place c at in
    let behind : drop (suc place) (v from) ≡ drop place (u from) = sym (drop_taken (v from) place within) ∙ ap (drop place) (sym moved.lists.taken) in
    let pair : pair_at now c.0 ≡ Some moved.pair = ap (λ (d : ClauseId). pair_at now d.0) (sym is) ∙ moved.watched in
    let wrote : slice_set now c.0 (with_watch from (pair_at now c.0) (new_watch (pair_at now c.0) (first_target rest))) ≡ new =
    ap (λ (o : Option Signed). slice_set now c.0 (with_watch from (pair_at now c.0) o)) (sym goes) ∙ ap (λ (p : Option WatchedLiterals). slice_set now c.0 (with_watch from p (Some to))) pair ∙ ap (λ (d : ClauseId). slice_set now d.0 (Some (moved_pair moved.pair from to))) (sym is) ∙ sym moved.pairs in
    let in_lists : MovesIn c from place to v u = subst (λ (d : ClauseId). MovesIn d from place to v u) is moved.lists in
    let found = pair_of_watcher now v from place c walk.fit at in
    let once : count c.0 (v from) ≡ 1 = walk.fit.once from c.0 ∙ ap (λ (o : Option WatchedLiterals). one_if (watches o from)) found.1 ∙ ap one_if found.2 in
    record {
      fit = moved.fit;
      split = walk.split ∙ ap (λ (xs : List ClauseId). met ++ xs) here ∙ sym (append_assoc met (c ∷ []) (drop (suc place) (v from))) ∙ ap (λ (xs : List ClauseId). xs ++ drop (suc place) (v from)) (sym grown) ∙ ap (λ (xs : List ClauseId). more ++ xs) behind;
      lists = λ l. walk.lists l ∙ ap (λ (xs : List ClauseId). lists_after from now xs rest v l) here ∙ ap (λ (ps : List (Option WatchedLiterals)). lists_after from ps (drop (suc place) (v from)) (drop 1 rest) (moved_view from c (new_watch (pair_at now c.0) (first_target rest)) v) l) wrote
          ∙ ap (λ (o : Option Signed). lists_after from new (drop (suc place) (v from)) (drop 1 rest) (moved_view from c o v) l) (sym goes)
          ∙ lists_after_same from new (drop (suc place) (v from)) (drop 1 rest) u (moved_view from c (Some to) v) (λ m. sym (moved_is c from place to v u once in_lists m)) l
          ∙ ap (λ (xs : List ClauseId). lists_after from new xs (drop 1 rest) u l) behind;
      left = walk.left ∙ ap (λ (xs : List ClauseId). pairs_after from now xs rest) here ∙ ap (λ (ps : List (Option WatchedLiterals)). pairs_after from ps (drop (suc place) (v from)) (drop 1 rest)) wrote ∙ ap (λ (xs : List ClauseId). pairs_after from new xs (drop 1 rest)) behind;
    }

-- the list is one shorter after a move
pub shorter : (from to : Signed) (place : ℕ) (now new : List (Option WatchedLiterals)) (v u : Signed → List ClauseId) → Moves from place to now new v u → length (u from) + 1 ≡ length (v from)
shorter from to place now new v u moved = go (v from) place (u from) moved.clause moved.lists.was_in moved.lists.taken
  where
    go : (xs : List ClauseId) (n : ℕ) (ys : List ClauseId) (c : ClauseId) → slice_get xs n ≡ Some c → ys ≡ take n xs ++ drop (suc n) xs → length ys + 1 ≡ length xs
    go [] n ys c at e = cc
    go (x ∷ xs) zero ys c at e = let a : length ys ≡ length xs = ap length e in omega arith
    go (x ∷ xs) (suc n) ys c at e =
        let a : length ys ≡ suc (length (take n xs ++ drop (suc n) xs)) = ap length e in
        let b : length (take n xs ++ drop (suc n) xs) + 1 ≡ length xs = go xs n (take n xs ++ drop (suc n) xs) c at refl in
        omega arith

pub met_all : (from : Signed) (met : List ClauseId) (moves : List (Option Signed)) (pairs : List (Option WatchedLiterals)) (view : Signed → List ClauseId) (place : ℕ) (rest : List (Option Signed)) (now : List (Option WatchedLiterals)) (v : Signed → List ClauseId) → IsWalking from met moves pairs view place rest now v → slice_get (v from) place ≡ None → met ≡ view from
met_all from met moves pairs view place rest now v walk end = sym (walk.split ∙ ap (λ (xs : List ClauseId). met ++ xs) (nothing_left (v from) place end) ∙ append-nil met)

pub moved_all : (from : Signed) (met : List ClauseId) (moves : List (Option Signed)) (pairs : List (Option WatchedLiterals)) (view : Signed → List ClauseId) (place : ℕ) (rest : List (Option Signed)) (now : List (Option WatchedLiterals)) (v : Signed → List ClauseId) → IsWalking from met moves pairs view place rest now v → slice_get (v from) place ≡ None → now ≡ pairs_after from pairs met moves
moved_all from met moves pairs view place rest now v walk end =
    sym (ap (λ (xs : List ClauseId). pairs_after from pairs xs moves) (met_all from met moves pairs view place rest now v walk end) ∙ walk.left ∙ ap (λ (xs : List ClauseId). pairs_after from now xs rest) (nothing_left (v from) place end))

-- a literal that is to be watched isn't yet
pub new_watch_free : (p : Option WatchedLiterals) (o : Option Signed) (to : Signed) → Some to ≡ new_watch p o → watches p to ≡ false
new_watch_free p None to e = cc
new_watch_free p (Some t) to e = go (watches p t) refl e
  where
    go : (b : _) → watches p t ≡ b → Some to ≡ cond b None (Some t) → watches p to ≡ false
    go true q r = cc
    go false q r = let same : to ≡ t = cc in subst (λ (x : Signed). watches p x ≡ false) (sym same) q

pub lists_all : (from : Signed) (met : List ClauseId) (moves : List (Option Signed)) (pairs : List (Option WatchedLiterals)) (view : Signed → List ClauseId) (place : ℕ) (rest : List (Option Signed)) (now : List (Option WatchedLiterals)) (v : Signed → List ClauseId) → IsWalking from met moves pairs view place rest now v → slice_get (v from) place ≡ None → SameLists (lists_after from pairs met moves view) v
lists_all from met moves pairs view place rest now v walk end l =
    sym (ap (λ (xs : List ClauseId). lists_after from pairs xs moves view l) (met_all from met moves pairs view place rest now v walk end) ∙ walk.lists l ∙ ap (λ (xs : List ClauseId). lists_after from now xs rest v l) (nothing_left (v from) place end))

-- a literal that is to be watched is the one of the step
pub new_watch_is : (p : Option WatchedLiterals) (o : Option Signed) (to : Signed) → Some to ≡ new_watch p o → Some to ≡ o
new_watch_is p None to e = cc
new_watch_is p (Some t) to e = go (watches p t) e
  where
    go : (b : _) → Some to ≡ cond b None (Some t) → Some to ≡ Some t
    go true r = cc
    go false r = r

-- a property of an answer, unless the call is refused
pub ok_gives : {X E : Type 0} (P : Type 0) (r : Result X E) (x : X) → OnOk r P → r ≡ Ok x → P
ok_gives P r x h e = subst (λ q. OnOk q P) e h
