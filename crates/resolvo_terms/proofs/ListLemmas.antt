-- Lists of version sets that lie in one list, and that are found at places of their hashes.
use Rattle.std.proofs.Common.{◌≡◌, ◌∙◌, ◌≤◌, ◌<◌, ◌-◌, ◌+◌, ◌∷◌, ◌++◌, [], ℕ, zero, suc, Bool, true, List, Option, map, take, drop, length, Some, None, refl, sym, ap, subst, inl, inr, arith}
use Rattle.std.specs.Prelude.{slice_get, slice_index_or, nat_eq, IfSome}
use Rattle.std.specs.Cmp.Derive.Mapped.{pointwise-map}
use Rattle.std.specs.Global.{Vec}
use Rattle.std.specs.Cmp.Lexicographic.{bytes_decides, pointwise}
use Rattle.std.proofs.lemmas.List.{length-append, length-drop, map-append, take-append-le, drop-append-le, take_all}
use Rattle.std.proofs.Math.Seq.{drop-append_seam}
use Rattle.resolvo_pool_core.specs.declared.id.VersionSetId.{VersionSetId}
use Rattle.resolvo_terms.specs.declared.set_lists.Part.{Part}
use Rattle.resolvo_terms.specs.Terms.{AreOnce}
use Rattle.resolvo_terms.specs.Found.{IsPut, number_from, place_from, tries}
use Rattle.resolvo_terms.specs.Lists.{AreListsFound, AreParts, list_eq, list_hash, map_number, part_of, set_numbers}
use Rattle.resolvo_terms.proofs.IndexLemmas.{index_more, index_push, indexed_if, indexed_once, indexed_absent}
use Rattle.resolvo_terms.proofs.Places.{get_push}

-- ---- one list more in one list

part_kept : (members more : List VersionSetId) (p : Part) → p.begin ≤ p.end → p.end ≤ length members → part_of (members ++ more) p ≡ part_of members p
part_kept members more p rising within =
    ap (λ (xs : List VersionSetId). take (p.end - p.begin) xs) (drop-append-le p.begin members more (omega (arith, rising, within)))
    ∙ take-append-le (p.end - p.begin) (drop p.begin members) more (let left = length-drop p.begin members in omega (arith, rising, within, left))

part_last : (members list : List VersionSetId) (p : Part) → p.begin ≡ length members → p.end ≡ length members + length list → part_of (members ++ list) p ≡ list
part_last members list p begin end =
    ap (λ (n : ℕ). take (p.end - n) (drop n (members ++ list))) begin
    ∙ ap (λ (xs : List VersionSetId). take (p.end - length members) xs) (drop-append_seam members list)
    ∙ take_all (p.end - length members) list (omega (arith, end))

parts_kept : (members more : List VersionSetId) (parts : List Part) → ((i : ℕ) (p : Part) → slice_get parts i ≡ Some p → p.begin ≤ p.end) → ((i : ℕ) (p : Part) → slice_get parts i ≡ Some p → p.end ≤ length members)
    → map (part_of (members ++ more)) parts ≡ map (part_of members) parts
parts_kept members more [] rising within = refl
parts_kept members more (p ∷ parts) rising within =
    ap (λ (t : List VersionSetId). t ∷ map (part_of (members ++ more)) parts) (part_kept members more p (rising 0 p refl) (within 0 p refl))
    ∙ ap (λ (ts : List (List VersionSetId)). part_of members p ∷ ts) (parts_kept members more parts (λ i c at. rising (suc i) c at) (λ i c at. within (suc i) c at))

module _ (members list : List VersionSetId) (parts : List Part) (p : Part) (h : AreParts members parts) (begin : p.begin ≡ length members) (end : p.end ≡ length members + length list) where
  pub parts_push : map (part_of (members ++ list)) (parts ++ p ∷ []) ≡ map (part_of members) parts ++ list ∷ []
  parts_push =
      map-append (part_of (members ++ list)) parts (p ∷ [])
      ∙ ap (λ (ts : List (List VersionSetId)). ts ++ part_of (members ++ list) p ∷ []) (parts_kept members list parts h.rising h.within)
      ∙ ap (λ (t : List VersionSetId). map (part_of members) parts ++ t ∷ []) (part_last members list p begin end)

  pub are_parts_push : AreParts (members ++ list) (parts ++ p ∷ [])
  are_parts_push = record {
    rising = λ i c at. elim (get_push parts p c i at) [ inl old ↦ h.rising i c old | inr last ↦ subst (λ (x : Part). x.begin ≤ x.end) last.1 (omega (arith, begin, end)) ];
    within = λ i c at.
        let all = length-append members list in
        elim (get_push parts p c i at) [ inl old ↦ (let had = h.within i c old in omega (arith, had, all)) | inr last ↦ subst (λ (x : Part). x.end ≤ length (members ++ list)) last.1 (omega (arith, end, all)) ];
  }

-- ---- lists at places of their hashes

numbers_exact : (xs ys : List VersionSetId) → set_numbers xs ≡ set_numbers ys → xs ≡ ys
numbers_exact [] [] e = refl
numbers_exact [] (y ∷ ys) e = absurd cc
numbers_exact (x ∷ xs) [] e = absurd cc
numbers_exact (x ∷ xs) (y ∷ ys) e =
    let heads : x.0 ≡ y.0 = cc in
    let tails : set_numbers xs ≡ set_numbers ys = cc in
    ap (λ (n : ℕ). let v : VersionSetId = record { 0 = n } in v ∷ xs) heads ∙ ap (λ (zs : List VersionSetId). y ∷ zs) (numbers_exact xs ys tails)

-- what `==` says of two lists
pub eq_by_numbers : (xs ys : List VersionSetId) (r : Bool) → r ≡ pointwise (λ a b. nat_eq a.0 b.0) xs ys → r ≡ list_eq xs ys
eq_by_numbers xs ys r is = is ∙ sym (pointwise-map (λ (v : VersionSetId). v.0) nat_eq xs ys)

list_exact : (x y : List VersionSetId) → list_eq x y ≡ true → x ≡ y
list_exact x y e = numbers_exact x y ((bytes_decides (set_numbers x) (set_numbers y)).0 e)

list_own : (x : List VersionSetId) → list_eq x x ≡ true
list_own x = (bytes_decides (set_numbers x) (set_numbers x)).1 refl

module _ (lists : List (List VersionSetId)) (slots : List ℕ) (others : List (Vec ℕ × ℕ)) where
  pub list_if : AreListsFound lists slots others (length lists) → (list : List VersionSetId) (r : Option ℕ) → r ≡ number_from list_eq lists slots (map_number others list) tries (place_from (list_hash list)) list → IfSome r (λ i. slice_get lists i ≡ Some list)
  list_if h list r is = indexed_if list_eq list_exact list_own list_hash lists slots (map_number others) (length lists) h list r is

  pub list_absent : AreListsFound lists slots others (length lists) → (list : List VersionSetId) (r : Option ℕ) → r ≡ number_from list_eq lists slots (map_number others list) tries (place_from (list_hash list)) list → r ≡ None → (i : ℕ) → slice_get lists i ≡ Some list → ⊥
  list_absent h list r is none i at = indexed_absent list_eq list_exact list_own list_hash lists slots (map_number others) h list (sym is ∙ none) i at

  pub lists_once : AreListsFound lists slots others (length lists) → AreOnce lists
  lists_once h = indexed_once list_eq list_exact list_own list_hash lists slots (map_number others) h

-- where more than all of them are found, all are
pub lists_all : (slots : List ℕ) (others : List (Vec ℕ × ℕ)) (lists : List (List VersionSetId)) (count : ℕ) → AreListsFound lists slots others count → (count < length lists → ⊥) → AreListsFound lists slots others (length lists)
lists_all slots others lists count h past = record { right = h.right; all = λ v n less at. h.all v n (omega (arith, less, past)) at }

module _ (slots slots' : List ℕ) (others others' : List (Vec ℕ × ℕ)) (list : List VersionSetId) where
  -- one list more
  pub lists_more : (lists : List (List VersionSetId)) (index : ℕ) → index ≡ length lists → AreListsFound lists slots others (length lists) → ((i : ℕ) → slice_get lists i ≡ Some list → ⊥)
      → IsPut list_eq list (list_hash list) index slots slots' (map_number others) (map_number others') → AreListsFound (lists ++ list ∷ []) slots' others' (length (lists ++ list ∷ []))
  lists_more lists index is h absent put = index_push list_eq list_exact list_own list_hash lists slots slots' (map_number others) (map_number others') list index is h absent put

  -- one of the lists more that are found
  pub lists_next : (lists : List (List VersionSetId)) (count : ℕ) → AreOnce lists → AreListsFound lists slots others count → slice_get lists count ≡ Some list
      → IsPut list_eq list (list_hash list) count slots slots' (map_number others) (map_number others') → AreListsFound lists slots' others' (suc count)
  lists_next lists count once h at put =
      index_more list_eq list_exact list_own list_hash lists lists slots slots' (map_number others) (map_number others') count h (λ k x e. e) list (λ m w e. inl e) at (λ m e. once m count list e at) put

-- no list is there
pub absent_list : (xs : List (List VersionSetId)) (n : ℕ) → slice_get xs n ≡ None → ◌≡◌ {A = List VersionSetId} [] (slice_index_or xs n [])
absent_list [] zero e = refl
absent_list [] (suc n) e = refl
absent_list (x ∷ xs) zero e = absurd cc
absent_list (x ∷ xs) (suc n) e = absent_list xs n e
