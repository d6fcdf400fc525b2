-- Lists of solvables under other ids and back.
use Rattle.std.proofs.Common.{◌≡◌, Bool, true, false, not, cond, List, [], ◌∷◌, map, refl, ap, BuildHasherDefault, FoldHasher}
use Rattle.std.specs.Prelude.{filter}
use Rattle.resolvo_pool_core.specs.declared.id.SparseId.{SparseId}
use Rattle.resolvo_pool_core.specs.declared.id.SolvableTag.{SolvableTag}
use Rattle.resolvo_pool_core.specs.Provider.{kept}

abbrev Id : Type 0 → Type 0
Id S = SparseId SolvableTag S (BuildHasherDefault FoldHasher)

filter_back : {S : Type 0} (p : S → Bool) (xs : List (Id S)) → map (λ s. record { raw = s; kind = record {} }) (filter p (map (λ t. t.raw) xs)) ≡ filter (λ t. p t.raw) xs
filter_back p [] = refl
filter_back {S} p (x ∷ xs) = go (p x.raw) (filter_back p xs)
  where
    go : (b : Bool) → map (λ s. record { raw = s; kind = record {} }) (filter p (map (λ (t : Id S). t.raw) xs)) ≡ filter (λ t. p t.raw) xs →
        map (λ s. record { raw = s; kind = record {} }) (cond b (x.raw ∷ filter p (map (λ (t : Id S). t.raw) xs)) (filter p (map (λ (t : Id S). t.raw) xs))) ≡ cond b (x ∷ filter (λ t. p t.raw) xs) (filter (λ t. p t.raw) xs)
    go true rest = ap (λ ys. x ∷ ys) rest
    go false rest = rest

-- the kept solvables are those kept of the ids
pub kept_back : {S : Type 0} (test : S → Bool) (inverse : Bool) (xs : List (Id S)) → map (λ s. record { raw = s; kind = record {} }) (kept test inverse (map (λ t. t.raw) xs)) ≡ kept (λ t. test t.raw) inverse xs
kept_back test inverse xs = filter_back (λ s. cond inverse (not (test s)) (test s)) xs

-- the solvables of ids of solvables are these
pub given_back : {S : Type 0} (xs : List S) → map (λ (t : Id S). t.raw) (map (λ s. record { raw = s; kind = record {} }) xs) ≡ xs
given_back [] = refl
given_back (x ∷ xs) = ap (λ ys. x ∷ ys) (given_back xs)
