-- The versions as solvables.
use Rattle.std.proofs.Common.{◌≡◌, ◌==◌, ◌<◌, ◌∙◌, ℕ, suc, Bool, true, List, [], ◌∷◌, map, length, refl, sym, ap, subst, arith}
use Rattle.std.specs.Prelude.{nat_lt}
use Rattle.std.proofs.lemmas.Bool.{and_parts}
use Rattle.std.proofs.lemmas.Bool.Decides.{nat_tests}
use Rattle.std.proofs.lemmas.Option.{slice_get-get_or}
use Rattle.resolvo_text.specs.Line.{Version}
use Rattle.resolvo_catalogue_core.specs.Kept.{KeptLines, AreKept, places_from}
use Rattle.resolvo_catalogue_core.specs.Listed.{listed, name_at, kept_versions, is_kept, are_kept}
use Rattle.resolvo_catalogue_core.specs.declared.versions.KeptVersion.{KeptVersion}
use Rattle.resolvo_intern.specs.declared.pool.Solvable.{Solvable}
use Rattle.resolvo_catalogue.specs.Ids.{Ids, solvable_id, solvable_by, solvables_of, AreVersions, IsSolvable, Grows, terms_of}
use Rattle.resolvo_terms.specs.Terms.{Terms, AreEach}
use Rattle.resolvo_terms.proofs.GrowLemmas.{each_as}

pub versions_stay : (a b : Ids) → Grows a b → (ss : List (Solvable ℕ)) (vs : List Version) → AreEach (IsSolvable a) ss vs → AreEach (IsSolvable b) ss vs
versions_stay a b grows ss vs h = each_as (IsSolvable a) (IsSolvable b) (λ s v is. (is.0, grows.names _ _ is.1)) ss vs h

-- ---- versions by the numbers of their packages' names

below : (a b : ℕ) → nat_lt a b ≡ true → a < b
below a b e = grind (arith, nat_tests)

-- each is a solvable, whose package has the version's name
versions_by : (ids : Ids) (vs : List KeptVersion) → are_kept (length ids.names) vs ≡ true → AreEach (IsSolvable ids) (map solvable_by vs) (kept_versions ids.names vs)
versions_by ids [] e = tt
versions_by ids (v ∷ vs) e =
    let parts = and_parts (is_kept (length ids.names) v) (are_kept (length ids.names) vs) e in
    ((refl, slice_get-get_or ids.names v.«package».raw [] (below v.«package».raw (length ids.names) parts.0)), versions_by ids vs parts.1)

-- the solvables are the versions that the lines list
pub versions_are : (ids : Ids) (k : KeptLines) → AreKept k → terms_of ids ≡ k.terms → ids.solvables ≡ map solvable_by k.versions → AreVersions ids (listed k.lines)
versions_are ids k are same put =
    let names : ids.names ≡ k.terms.names = ap (λ (t : Terms). t.names) same in
    let all : are_kept (length ids.names) k.versions ≡ true = subst (λ (ns : List (List ℕ)). are_kept (length ns) k.versions ≡ true) (sym names) are.named in
    let is : kept_versions ids.names k.versions ≡ listed k.lines = ap (λ (ns : List (List ℕ)). kept_versions ns k.versions) names ∙ are.versions in
    subst (λ (vs : List Version). AreVersions ids vs) is (subst (λ (ss : List (Solvable ℕ)). AreEach (IsSolvable ids) ss (kept_versions ids.names k.versions)) (sym put) (versions_by ids k.versions all))

-- the flag of the package of each version
pub flags_are : (test : List ℕ → Bool) (names : List (List ℕ)) (vs : List KeptVersion) → map (λ v. test (name_at names v.«package».raw)) vs ≡ map (λ v. test v.name) (kept_versions names vs)
flags_are test names [] = refl
flags_are test names (v ∷ vs) = rw (flags_are test names vs) refl

-- ---- the versions of a package

places_by : (n at : ℕ) (vs : List KeptVersion) → places_from (λ (s : Solvable ℕ). s.name.raw == n) at (map solvable_by vs) ≡ places_from (λ (v : KeptVersion). v.«package».raw == n) at vs
places_by n at [] = refl
places_by n at (v ∷ vs) = rw (places_by n (suc at) vs) refl

-- the solvables of a package are the versions of its name
pub solvables_are : (ids : Ids) (vs : List KeptVersion) (n : ℕ) → ids.solvables ≡ map solvable_by vs → map solvable_id (places_from (λ (v : KeptVersion). v.«package».raw == n) 0 vs) ≡ solvables_of ids n
solvables_are ids vs n put = rw (put, places_by n 0 vs) refl
