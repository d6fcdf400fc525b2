-- The ties that a new variable brings: those of earlier ones to its new digit, its own, and the one to the new digit.
use Rattle.std.proofs.Common.{◌≡◌, ℕ, zero, suc, ◌+◌, ◌/◌, ◌%◌, ◌<◌, ◌≤◌, ◌==◌, Bool, true, false, List, [], ◌∷◌, ◌++◌, map, length, get_or, Option, Some, refl, sym, ◌∙◌, ap, subst, arith}
use Rattle.std.specs.Prelude.{slice_get}
use Rattle.std.proofs.Math.Nat.{min-eq_left, min-eq_right}
use Rattle.std.proofs.lemmas.List.{length-map}
use Rattle.resolvo_pool_core.specs.declared.id.VariableId.{VariableId}
use Rattle.resolvo_store_core.specs.AtMostOne.{digit, ties, tie_all}
use Rattle.resolvo_state.specs.declared.solver_state.SolverState.{SolverState}
use Rattle.resolvo_state.specs.SolverState.{Grows}
use Rattle.resolvo_state.specs.Registered.{first_of, place_from, IsTie, AreTies, AddsTie, AddsTies}
use Rattle.resolvo_state.proofs.Positions.{get_in_prefix, get_last, get_behind}
use Rattle.resolvo_state.proofs.TieLemmas.{tie_grows, all_more, all_both}

abbrev Tie : Type 0
Tie = VariableId × VariableId × Bool

-- the ties of earlier variables to a new digit
abbrev pub earlier_ties : List VariableId → VariableId → List Tie
earlier_ties xs w = map (λ (y : VariableId). let t : Tie = (y, w, false) in t) xs

pub earlier_at : (xs : List VariableId) (w : VariableId) (i : ℕ) (d : Tie) (e : VariableId) → i < length xs → get_or (earlier_ties xs w) i d ≡ (get_or xs i e, w, false)
earlier_at [] w i d e below = absurd (omega arith)
earlier_at (x ∷ xs) w zero d e below = refl
earlier_at (x ∷ xs) w (suc i) d e below = earlier_at xs w i d e (omega arith)

-- the tie at this index, with the digit there
pub ties_at : (k : ℕ) (x : VariableId) (vs : List VariableId) (i : ℕ) (tie : Tie) → slice_get (ties k x vs) i ≡ Some tie → (tie.0 ≡ x) × (slice_get vs i ≡ Some tie.1) × (tie.2 ≡ digit k i)
ties_at k x [] i tie h = absurd cc
ties_at k x (w ∷ vs) zero tie h = let e : (x, w, k % 2 == 1) ≡ tie = cc in (ap (λ (t : Tie). t.0) (sym e), ap (λ (t : Tie). Some t.1) e, ap (λ (t : Tie). t.2) (sym e))
ties_at k x (w ∷ vs) (suc i) tie h = ties_at (k / 2) x vs i tie h

pub own_count : (k : ℕ) (x : VariableId) (vs : List VariableId) → length (ties k x vs) ≡ length vs
own_count k x [] = refl
own_count k x (v ∷ vs) = ap suc (own_count (k / 2) x vs)

pub place_first : (last i : ℕ) → i ≤ last → place_from 0 last i ≡ i
place_first last i h = min-eq_left (let b : 0 + i ≤ last = omega arith in b) ∙ (let e : 0 + i ≡ i = omega arith in e)

pub place_last : (last i : ℕ) → place_from last last i ≡ last
place_last last i = min-eq_right (let h : last ≤ last + i = omega arith in h)

module _ {N S : Type 0} (name : N) (xs vs : List VariableId) (x : VariableId) where
  module _ (o : Option VariableId) (w : VariableId) (some : o ≡ Some w) where
    with_digit : (c : SolverState N S) → AreTies name c.atoms.keys (first_of o (length xs)) (length xs) (tie_all xs vs x o) → AreTies name c.atoms.keys 0 (length xs) (tie_all xs vs x (Some w))
    with_digit c are = subst (λ (q : Option VariableId). AreTies name c.atoms.keys (first_of q (length xs)) (length xs) (tie_all xs vs x q)) some are

    pub earlier_are : (c : SolverState N S) → AreTies name c.atoms.keys (first_of o (length xs)) (length xs) (tie_all xs vs x o) → AreTies name c.atoms.keys 0 (length xs) (earlier_ties xs w)
    earlier_are c are i tie h = with_digit c are i tie (get_in_prefix (earlier_ties xs w) (ties (length xs) x vs ++ (x, w, true) ∷ []) i tie h)

    -- the one at an index behind the earlier ones
    behind_is : (c : SolverState N S) → AreTies name c.atoms.keys (first_of o (length xs)) (length xs) (tie_all xs vs x o) → (j : ℕ) (tie : Tie) → slice_get (ties (length xs) x vs ++ (x, w, true) ∷ []) j ≡ Some tie → IsTie name c.atoms.keys (length xs) tie
    behind_is c are j tie h =
        let long : length (earlier_ties xs w) ≡ length xs = length-map xs (λ (y : VariableId). let t : Tie = (y, w, false) in t) in
        let at : place_from 0 (length xs) (length (earlier_ties xs w) + j) ≡ length xs = min-eq_right (let h : length xs ≤ 0 + (length (earlier_ties xs w) + j) = omega arith in h) in
        subst (λ k. IsTie name c.atoms.keys k tie) at (with_digit c are (length (earlier_ties xs w) + j) tie (get_behind (earlier_ties xs w) (ties (length xs) x vs ++ (x, w, true) ∷ []) j tie h))

    pub last_is : (a b : SolverState N S) → Grows a b → AreTies name a.atoms.keys (first_of o (length xs)) (length xs) (tie_all xs vs x o) → IsTie name b.atoms.keys (length xs) (x, w, true)
    last_is a b grows are = tie_grows name (length xs) (x, w, true) a b grows (behind_is a are (length (ties (length xs) x vs)) (x, w, true) (get_last (ties (length xs) x vs) (x, w, true)))

    pub each_added : (a b c d : SolverState N S) → AddsTies name (earlier_ties xs w) 0 (length xs) a b → AddsTies name (ties (length xs) x vs) (length xs) (length xs) b c → AddsTie name (length xs) (x, w, true) c d → AddsTies name (tie_all xs vs x o) (first_of o (length xs)) (length xs) a d
    each_added a b c d earlier own last =
        let long : length (earlier_ties xs w) ≡ length xs = length-map xs (λ (y : VariableId). let t : Tie = (y, w, false) in t) in
        let behind : AddsTies name (ties (length xs) x vs ++ (x, w, true) ∷ []) (length xs) (length xs) b d = all_more name (ties (length xs) x vs) (length xs) (length xs) (x, w, true) b c d own (subst (λ k. AddsTie name k (x, w, true) c d) (sym (place_last (length xs) (length (ties (length xs) x vs)))) last) in
        subst (λ (q : Option VariableId). AddsTies name (tie_all xs vs x q) (first_of q (length xs)) (length xs) a d) (sym some)
        (all_both name (earlier_ties xs w) (ties (length xs) x vs ++ (x, w, true) ∷ []) 0 (length xs) a b d (omega arith) earlier behind)
