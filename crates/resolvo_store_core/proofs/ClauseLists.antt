-- Lemmas on lists of clauses.
use Rattle.std.proofs.Common.{◌≡◌, ℕ, zero, suc, ◌+◌, ◌<◌, ◌≤◌, List, [], ◌∷◌, ◌++◌, take, drop, length, Some, None, refl, sym, ◌∙◌, ap, arith, eqb, eq-eqb}
use Rattle.std.specs.Prelude.{slice_get}
use Rattle.std.proofs.lemmas.List.{drop_at, length-take-le}
use Rattle.resolvo_pool_core.specs.declared.id.ClauseId.{ClauseId}
use Rattle.resolvo_store_core.specs.Watches.{one_if, count}

pub count-append : (c : ℕ) (xs ys : List ClauseId) → count c (xs ++ ys) ≡ count c xs + count c ys
count-append c [] ys = omega arith
count-append c (x ∷ xs) ys = let e : count c (xs ++ ys) ≡ count c xs + count c ys = count-append c xs ys in omega arith

-- a list around one of its places
pub split : (xs : List ClauseId) (place : ℕ) (c : ClauseId) → slice_get xs place ≡ Some c → xs ≡ take place xs ++ c ∷ drop (suc place) xs
split [] place c e = cc
split (x ∷ xs) zero c e = let same : x ≡ c = cc in ap (λ (y : ClauseId). y ∷ xs) same
split (x ∷ xs) (suc place) c e = ap (λ (ys : List ClauseId). x ∷ ys) (split xs place c e)

pub in_range_from : (xs : List ClauseId) (place : ℕ) (c : ClauseId) → slice_get xs place ≡ Some c → place < length xs
in_range_from [] place c e = cc
in_range_from (x ∷ xs) zero c e = omega arith
in_range_from (x ∷ xs) (suc place) c e = let h : place < length xs = in_range_from xs place c e in omega arith

pub count_split : (xs : List ClauseId) (place : ℕ) (c : ClauseId) (d : ℕ) → slice_get xs place ≡ Some c → count d xs ≡ one_if (eqb d c.0) + count d (take place xs ++ drop (suc place) xs)
count_split xs place c d e =
    let whole : count d xs ≡ count d (take place xs ++ c ∷ drop (suc place) xs) = ap (count d) (split xs place c e) in
    let a : count d (take place xs ++ c ∷ drop (suc place) xs) ≡ count d (take place xs) + count d (c ∷ drop (suc place) xs) = count-append d (take place xs) (c ∷ drop (suc place) xs) in
    let b : count d (take place xs ++ drop (suc place) xs) ≡ count d (take place xs) + count d (drop (suc place) xs) = count-append d (take place xs) (drop (suc place) xs) in
    omega arith

pub one_same : (c : ℕ) → one_if (eqb c c) ≡ 1
one_same c = ap one_if (eq-eqb c c refl)

pub count_at : (xs : List ClauseId) (place : ℕ) (c : ClauseId) → slice_get xs place ≡ Some c → 1 ≤ count c.0 xs
count_at xs place c e =
    let a : count c.0 xs ≡ one_if (eqb c.0 c.0) + count c.0 (take place xs ++ drop (suc place) xs) = count_split xs place c c.0 e in
    let b : one_if (eqb c.0 c.0) ≡ 1 = one_same c.0 in
    omega arith

pub drop_here : (xs : List ClauseId) (place : ℕ) (c : ClauseId) → slice_get xs place ≡ Some c → drop place xs ≡ c ∷ drop (suc place) xs
drop_here [] place c e = cc
drop_here (x ∷ xs) zero c e = let same : x ≡ c = cc in ap (λ (y : ClauseId). y ∷ xs) same
drop_here (x ∷ xs) (suc place) c e = drop_here xs place c e

pub nothing_left : (xs : List ClauseId) (place : ℕ) → slice_get xs place ≡ None → drop place xs ≡ []
nothing_left [] zero e = refl
nothing_left [] (suc place) e = refl
nothing_left (x ∷ xs) zero e = cc
nothing_left (x ∷ xs) (suc place) e = nothing_left xs place e

-- the list without the clause at the place
pub drop_taken : (xs : List ClauseId) (place : ℕ) → place < length xs → drop place (take place xs ++ drop (suc place) xs) ≡ drop (suc place) xs
drop_taken xs place h = drop_at (take place xs) (drop (suc place) xs) place (length-take-le place xs (omega arith))

-- there is a clause at each place of a list
pub clause_within : (xs : List ClauseId) (place : ℕ) → place < length xs → (c : ClauseId) × (slice_get xs place ≡ Some c)
clause_within [] place h = absurd (omega arith)
clause_within (x ∷ xs) zero h = (x, refl)
clause_within (x ∷ xs) (suc place) h = clause_within xs place (omega arith)

pub some_within : (xs : List ClauseId) (place : ℕ) → place < length xs → slice_get xs place ≡ None → ⊥
some_within xs place h e =
    let both : Some (clause_within xs place h).0 ≡ None = sym (clause_within xs place h).1 ∙ e in
    cc
