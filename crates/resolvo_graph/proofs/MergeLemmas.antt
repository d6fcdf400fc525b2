-- Profiles belong to versions one by one; groups grow and are inserted one by one.
use Rattle.std.proofs.Common.{◌≡◌, ℕ, zero, suc, ◌+◌, ◌<◌, ◌≤◌, length-drop, Bool, true, false, cond, List, [], ◌∷◌, ◌++◌, length, map, filter, take, drop, get_or, Option, None, Some, refl, sym, ap, subst, ◌∙◌, arith}
use Rattle.std.specs.Prelude.{◌&&◌, ◌==◌, slice_get, slice_set}
use Rattle.std.specs.List.{AllZip}
use Rattle.std.specs.Option.{option_or, option_map, option_map_or}
use Rattle.std.proofs.lemmas.Option.{slice_get-map, slice_get_read, slice_get_past}
use Rattle.std.proofs.lemmas.Bool.{eqb-true, eqb-false}
use Rattle.std.proofs.lemmas.List.{take_more, length-take, append-nil, map-append, nil_from_length}
use Rattle.std.proofs.lemmas.List.Elements.{filter-append}
use Rattle.resolvo_graph.specs.declared.graph.NodeIndex.{NodeIndex}
use Rattle.resolvo_graph.specs.declared.graph.ConflictNode.{ConflictNode}
use Rattle.resolvo_graph.specs.declared.merge.Member.{Member}
use Rattle.resolvo_graph.specs.declared.merge.MergedConflictNode.{MergedConflictNode}
use Rattle.resolvo_graph.specs.Kept.{ids_at}
use Rattle.resolvo_graph.specs.Graph.{Graph}
use Rattle.resolvo_graph.specs.Merge.{Profile, IsProfile, solvable_of, with_version, versions_from, numbered}

pub zip_one : {A B : Type 0} (R : A → B → Type 0) (xs : List A) (ys : List B) (x : A) (y : B) → AllZip R xs ys → R x y → AllZip R (xs ++ x ∷ []) (ys ++ y ∷ [])
zip_one R [] [] x y h r = (r, tt)
zip_one R [] (b ∷ ys) x y h r = absurd h
zip_one R (a ∷ xs) [] x y h r = absurd h
zip_one R (a ∷ xs) (b ∷ ys) x y h r = (h.0, zip_one R xs ys x y h.1 r)

with_more : {S : Type 0} (k : ℕ) (o : Option S) (vs ws : List (NodeIndex × S)) → with_version k o (vs ++ ws) ≡ with_version k o vs ++ ws
with_more k None vs ws = refl
with_more k (Some s) vs ws = refl

versions_from-last : {S : Type 0} (k : ℕ) (ns : List (ConflictNode S)) (n : ConflictNode S) → versions_from k (ns ++ n ∷ []) ≡ versions_from k ns ++ with_version (k + length ns) (solvable_of n) []
versions_from-last {S} k [] n =
    let same : k ≡ k + length {A = ConflictNode S} [] = omega arith in
    ap (λ i. with_version i (solvable_of n) []) same
versions_from-last {S} k (m ∷ ns) n =
    let same : (k + 1) + length ns ≡ k + length (m ∷ ns) = omega arith in
    ap (with_version k (solvable_of m)) (versions_from-last (k + 1) ns n) ∙ with_more k (solvable_of m) (versions_from (k + 1) ns) (with_version ((k + 1) + length ns) (solvable_of n) [])
    ∙ ap (λ i. with_version k (solvable_of m) (versions_from (k + 1) ns) ++ with_version i (solvable_of n) []) same

taken : {S : Type 0} (ns : List (ConflictNode S)) (i : ℕ) (n : ConflictNode S) → i < length ns → n ≡ get_or ns i n → versions_from 0 (take (i + 1) ns) ≡ versions_from 0 (take i ns) ++ with_version i (solvable_of n) []
taken ns i n h at =
    let long : 0 + length (take i ns) ≡ i = omega (arith, length-take i ns) in
    ap (versions_from 0) (take_more ns i n h ∙ ap (λ x. take i ns ++ x ∷ []) (sym at)) ∙ versions_from-last 0 (take i ns) n ∙ ap (λ k. versions_from 0 (take i ns) ++ with_version k (solvable_of n) []) long

-- a profile with its version's package
pub profile_named : {N S : Type 0} (g : Graph S) (name_of : S → N) (v : NodeIndex × S) (n : N) (p : Profile N S) → n ≡ name_of v.1 → IsProfile g (λ s. n) v p → IsProfile g name_of v p
profile_named g name_of v n p is h = record { solvable = h.solvable; name = h.name ∙ is; before = h.before; after = h.after }

-- one profile more, for a version
pub profile_more : {S P : Type 0} (R : NodeIndex × S → P → Type 0) (ns : List (ConflictNode S)) (found now : List P) (i : ℕ) (n : ConflictNode S) (o : Option S) (s : S) (p : P) → AllZip R (versions_from 0 (take i ns)) found → i < length ns → n ≡ get_or ns i n → o ≡ solvable_of n → o ≡ Some s → R (record { 0 = i }, s) p → now ≡ found ++ p ∷ [] → AllZip R (versions_from 0 (take (i + 1) ns)) now
profile_more R ns found now i n o s p h less at is some r put =
    let more : versions_from 0 (take (i + 1) ns) ≡ versions_from 0 (take i ns) ++ (record { 0 = i }, s) ∷ [] = taken ns i n less at ∙ ap (λ q. versions_from 0 (take i ns) ++ with_version i q []) (sym is ∙ some) in
    subst (λ xs. AllZip R xs now) (sym more) (subst (λ ys. AllZip R (versions_from 0 (take i ns) ++ (record { 0 = i }, s) ∷ []) ys) (sym put) (zip_one R (versions_from 0 (take i ns)) found (record { 0 = i }, s) p h r))

-- none for another node
pub profile_same : {S P : Type 0} (R : NodeIndex × S → P → Type 0) (ns : List (ConflictNode S)) (found now : List P) (i : ℕ) (n : ConflictNode S) (o : Option S) → AllZip R (versions_from 0 (take i ns)) found → i < length ns → n ≡ get_or ns i n → o ≡ solvable_of n → o ≡ None → now ≡ found → AllZip R (versions_from 0 (take (i + 1) ns)) now
profile_same R ns found now i n o h less at is none put =
    let more : versions_from 0 (take (i + 1) ns) ≡ versions_from 0 (take i ns) = taken ns i n less at ∙ ap (λ q. versions_from 0 (take i ns) ++ with_version i q []) (sym is ∙ none) ∙ append-nil (versions_from 0 (take i ns)) in
    subst (λ xs. AllZip R xs now) (sym more) (subst (λ ys. AllZip R (versions_from 0 (take i ns)) ys) (sym put) h)

or_assoc : {A : Type 0} (a b c : Option A) → option_or (option_or a b) c ≡ option_or a (option_or b c)
or_assoc None b c = refl
or_assoc (Some x) b c = refl

-- the group of one version was inserted under it, or it has none
pub kept_one : {G : Type 0} (whole rest kept now : Option G) (b : Bool) (x : G) → whole ≡ option_or (option_or rest (cond b (Some x) None)) kept → now ≡ cond b (Some x) kept → whole ≡ option_or rest now
kept_one whole rest kept now b x h put = h ∙ or_assoc rest (cond b (Some x) None) kept ∙ ap (option_or rest) (go b ∙ sym put)
  where
    go : (c : Bool) → option_or (cond c (Some x) None) kept ≡ cond c (Some x) kept
    go true = refl
    go false = refl

pub and_false : (b : Bool) → (b && false) ≡ false
and_false true = refl
and_false false = refl

slice_get-set_same : {X : Type 0} (xs : List X) (i : ℕ) (x y : X) → slice_get xs i ≡ Some x → slice_get (slice_set xs i y) i ≡ Some y
slice_get-set_same [] i x y h = cc
slice_get-set_same (z ∷ zs) zero x y h = refl
slice_get-set_same (z ∷ zs) (suc i) x y h = slice_get-set_same zs i x y h

slice_get-set_other : {X : Type 0} (xs : List X) (i j : ℕ) (y : X) → (i ≡ j → ⊥) → slice_get (slice_set xs i y) j ≡ slice_get xs j
slice_get-set_other [] i j y apart = refl
slice_get-set_other (z ∷ zs) zero zero y apart = absurd (apart refl)
slice_get-set_other (z ∷ zs) zero (suc j) y apart = refl
slice_get-set_other (z ∷ zs) (suc i) zero y apart = refl
slice_get-set_other (z ∷ zs) (suc i) (suc j) y apart = slice_get-set_other zs i j y (λ e. apart (ap suc e))

-- one version more in the group of index i
pub ids_at-put : {S : Type 0} (groups : List (MergedConflictNode S)) (i : ℕ) (was now : MergedConflictNode S) (s : S) → slice_get groups i ≡ Some was → now.ids.items ≡ was.ids.items ++ s ∷ [] → (n : ℕ) → ids_at (slice_set groups i now) n ≡ ids_at groups n ++ cond (i == n) (s ∷ []) []
ids_at-put {S} groups i was now s at put n = go (i == n) refl
  where
    go : (b : Bool) → (i == n) ≡ b → ids_at (slice_set groups i now) n ≡ ids_at groups n ++ cond b (s ∷ []) []
    go true e =
        let same : i ≡ n = eqb-true i n e in
        subst (λ k. ids_at (slice_set groups i now) k ≡ ids_at groups k ++ s ∷ []) same (ap (λ o. option_map_or (λ m. m.ids.items) o []) (slice_get-set_same groups i was now at) ∙ put ∙ ap (λ o. option_map_or (λ m. m.ids.items) o [] ++ s ∷ []) (sym at))
    go false e = ap (λ o. option_map_or (λ m. m.ids.items) o []) (slice_get-set_other groups i n now (eqb-false i n e)) ∙ sym (append-nil (ids_at groups n))

-- the versions of the group that is found, or none
pub ids_found : {S X : Type 0} (f : X → MergedConflictNode S) (xs : List X) (i : ℕ) (x : X) → i < length xs → x ≡ get_or xs i x → ids_at (map f xs) i ≡ (f x).ids.items
ids_found f xs i x h at = ap (λ o. option_map_or (λ n. n.ids.items) o []) (slice_get-map f xs i ∙ ap (option_map f) (slice_get_read xs (length xs) i x refl h at))

pub ids_past : {S X : Type 0} (f : X → MergedConflictNode S) (xs : List X) (i : ℕ) → length xs ≤ i → ids_at (map f xs) i ≡ []
ids_past f xs i h = ap (λ o. option_map_or (λ n. n.ids.items) o []) (slice_get-map f xs i ∙ ap (option_map f) (slice_get_past xs i h))

-- nothing is left
pub dropped : {A : Type 0} (xs : List A) (i : ℕ) → length xs ≤ i → drop i xs ≡ []
dropped xs i h = nil_from_length (drop i xs) (omega (arith, length-drop i xs))

-- the versions of a number, after one member more
pub numbered_more : {S : Type 0} (ms : List (Member S)) (i : ℕ) (m : Member S) → i < length ms → m ≡ get_or ms i m → (g : ℕ) → numbered (take (i + 1) ms) g ≡ numbered (take i ms) g ++ cond (m.group == g) (m.solvable ∷ []) []
numbered_more {S} ms i m h at g =
    let p : Member S → Bool = λ k. k.group == g in
    let f : Member S → S = λ k. k.solvable in
    ap (λ ks. map f (filter p ks)) (take_more ms i m h ∙ ap (λ k. take i ms ++ k ∷ []) (sym at)) ∙ ap (map f) (filter-append p (take i ms) (m ∷ [])) ∙ map-append f (filter p (take i ms)) (filter p (m ∷ [])) ∙ ap (λ xs. map f (filter p (take i ms)) ++ xs) (go (m.group == g))
  where
    go : (b : Bool) → map (λ (k : Member S). k.solvable) (cond b (m ∷ []) []) ≡ cond b (m.solvable ∷ []) []
    go true = refl
    go false = refl
