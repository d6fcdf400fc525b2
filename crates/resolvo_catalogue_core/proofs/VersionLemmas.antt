-- Versions by the numbers of their packages' names: more names, one more version.
use Rattle.std.proofs.Common.{◌≡◌, ◌<◌, ◌≤◌, ℕ, true, List, [], ◌∷◌, ◌++◌, length, get_or, refl, arith}
use Rattle.std.specs.Prelude.{nat_lt}
use Rattle.std.proofs.lemmas.Bool.{and_parts, and_from}
use Rattle.std.proofs.lemmas.Bool.Decides.{nat_tests}
use Rattle.std.proofs.lemmas.List.{length-map, map_push}
use Rattle.std.proofs.lemmas.Option.{get_or_from_slice_get, slice_get-get_or}
use Rattle.resolvo_catalogue_core.specs.Listed.{version_by, name_at, kept_version, kept_versions, is_kept, are_kept}
use Rattle.resolvo_terms.specs.Terms.{Extends}
use Rattle.resolvo_catalogue_core.specs.declared.versions.KeptVersion.{KeptVersion}

below : (a b : ℕ) → nat_lt a b ≡ true → a < b
below a b e = grind (arith, nat_tests)

pub as_many : (names : List (List ℕ)) (vs : List KeptVersion) → length (kept_versions names vs) ≡ length vs
as_many names vs = length-map vs (kept_version names)

-- ---- more names

pub same_versions : (names more : List (List ℕ)) (vs : List KeptVersion) → Extends names more → are_kept (length names) vs ≡ true → kept_versions more vs ≡ kept_versions names vs
same_versions names more [] extends e = refl
same_versions names more (v ∷ vs) extends e =
    let parts = and_parts (is_kept (length names) v) (are_kept (length names) vs) e in
    let k = v.«package».raw in
    let was = slice_get-get_or names k [] (below k (length names) parts.0) in
    let here : name_at more k ≡ name_at names k = get_or_from_slice_get more k (get_or names k []) [] (extends k (get_or names k []) was) in
    rw (here, same_versions names more vs extends parts.1) refl

pub still_kept : (count more : ℕ) (vs : List KeptVersion) → count ≤ more → are_kept count vs ≡ true → are_kept more vs ≡ true
still_kept count more [] h e = refl
still_kept count more (v ∷ vs) h e =
    let parts = and_parts (is_kept count v) (are_kept count vs) e in
    and_from (is_kept more v) (are_kept more vs) (further v.«package».raw parts.0) (still_kept count more vs h parts.1)
  where
    further : (a : ℕ) → nat_lt a count ≡ true → nat_lt a more ≡ true
    further a e = grind (arith, nat_tests)

-- ---- one more version

pub kept_push : (count : ℕ) (vs : List KeptVersion) (v : KeptVersion) → are_kept count vs ≡ true → v.«package».raw < count → are_kept count (vs ++ v ∷ []) ≡ true
kept_push count [] v e here = and_from (is_kept count v) true (within v.«package».raw here) refl
  where
    within : (a : ℕ) → a < count → nat_lt a count ≡ true
    within a h = grind (arith, nat_tests)
kept_push count (x ∷ vs) v e here =
    let parts = and_parts (is_kept count x) (are_kept count vs) e in
    and_from (is_kept count x) (are_kept count (vs ++ v ∷ [])) parts.0 (kept_push count vs v parts.1 here)

pub adds : (names : List (List ℕ)) (vs : List KeptVersion) (v : KeptVersion) → kept_versions names (vs ++ v ∷ []) ≡ kept_versions names vs ++ version_by (name_at names v.«package».raw) v.number ∷ []
adds names vs v = map_push (kept_version names) vs v
