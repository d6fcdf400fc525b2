-- Lemmas on the clauses that tie variables to digits.
use Rattle.std.proofs.Common.{◌≡◌, ℕ, suc, ◌+◌, ◌*◌, ◌/◌, ◌%◌, ◌^◌, ◌<◌, ◌≤◌, ◌==◌, ◌&&◌, Bool, true, false, not, cond, List, [], ◌∷◌, ◌++◌, map, length, get_or, Option, Some, None, refl, sym, ◌∙◌, ap, arith, eqb-true}
use Rattle.std.specs.List.{sum_by, count_by, position_or_len}
use Rattle.std.proofs.lemmas.Bool.{both_ways}
use Rattle.std.proofs.lemmas.List.{append_assoc, append-nil, length-append}
use Rattle.std.proofs.lemmas.List.Sums.{sum_by-append, sum_by-cons, fails_before_first, passes_at_first}
use Rattle.std.specs.Option.{is_some, option_to_list}
use Rattle.resolvo_store_core.specs.AtMostOne.{Tracking, digit, ties, ties_from, all_ties, tie_all, among, needs_helper, tracked, new_ties, IsMet, IsAtMostOne}
use Rattle.resolvo_store_core.proofs.Digits.{digit_below, digit_power, same_digits}

ties-length : {V : Type 0} (k : ℕ) (x : V) (vs : List V) → length (ties k x vs) ≡ length vs
ties-length k x [] = refl
ties-length k x (v ∷ vs) = ap suc (ties-length (k / 2) x vs)

-- as many clauses as variables times helpers
pub ties_from-length : {V : Type 0} (k : ℕ) (xs vs : List V) → length (ties_from k xs vs) ≡ length xs * length vs
ties_from-length k [] vs = omega arith
ties_from-length k (x ∷ xs) vs =
    let a : length (ties k x vs ++ ties_from (k + 1) xs vs) ≡ length (ties k x vs) + length (ties_from (k + 1) xs vs) = length-append (ties k x vs) (ties_from (k + 1) xs vs) in
    let b : length (ties k x vs) ≡ length vs = ties-length k x vs in
    let c : length (ties_from (k + 1) xs vs) ≡ length xs * length vs = ties_from-length (k + 1) xs vs in
    let d : length (x ∷ xs) * length vs ≡ length vs + length xs * length vs = suc_times (length xs) (length vs) in
    omega arith
  where
    suc_times : (m n : ℕ) → suc m * n ≡ n + m * n
    suc_times m n = omega arith

-- one more helper ties a variable by one more digit
ties_more : {V : Type 0} (k : ℕ) (x v : V) (vs : List V) → ties k x (vs ++ v ∷ []) ≡ ties k x vs ++ (x, v, digit k (length vs)) ∷ []
ties_more k x v [] = refl
ties_more k x v (u ∷ vs) = ap (λ ts. (x, u, k % 2 == 1) ∷ ts) (ties_more (k / 2) x v vs)

-- one more variable
ties_from_more : {V : Type 0} (k : ℕ) (xs : List V) (x : V) (vs : List V) → ties_from k (xs ++ x ∷ []) vs ≡ ties_from k xs vs ++ ties (k + length xs) x vs
ties_from_more k [] x vs = append-nil (ties k x vs) ∙ ap (λ n. ties n x vs) (let e : k ≡ k + 0 = omega arith in e)
ties_from_more k (y ∷ xs) x vs =
    ap (λ ts. ties k y vs ++ ts) (ties_from_more (k + 1) xs x vs)
    ∙ sym (append_assoc (ties k y vs) (ties_from (k + 1) xs vs) (ties (k + 1 + length xs) x vs))
    ∙ ap (λ n. (ties k y vs ++ ties_from (k + 1) xs vs) ++ ties n x vs) (let e : k + 1 + length xs ≡ k + length (y ∷ xs) = omega arith in e)

-- a new helper, at which each place has the digit 0
helper_sum : {V : Type 0} (f : V × V × Bool → ℕ) (k : ℕ) (xs : List V) (v : V) (vs : List V) → k + length xs ≤ 2 ^ length vs → sum_by f (ties_from k xs (vs ++ v ∷ [])) ≡ sum_by f (ties_from k xs vs) + sum_by f (map (λ y. (y, v, false)) xs)
helper_sum f k [] v vs h = refl
helper_sum {V} f k (x ∷ xs) v vs h =
    let T : Type 0 = V × V × Bool in
    let none : digit k (length vs) ≡ false = digit_below (length vs) k (omega arith) in
    let one : ties k x (vs ++ v ∷ []) ≡ ties k x vs ++ (x, v, false) ∷ [] = ties_more k x v vs ∙ ap (λ b. ties k x vs ++ (x, v, b) ∷ []) none in
    let a : sum_by f (ties k x (vs ++ v ∷ []) ++ ties_from (k + 1) xs (vs ++ v ∷ [])) ≡ sum_by f (ties k x (vs ++ v ∷ [])) + sum_by f (ties_from (k + 1) xs (vs ++ v ∷ [])) = sum_by-append f (ties k x (vs ++ v ∷ [])) (ties_from (k + 1) xs (vs ++ v ∷ [])) in
    let b : sum_by f (ties k x (vs ++ v ∷ [])) ≡ sum_by f (ties k x vs) + sum_by f ((x, v, false) ∷ []) = ap (sum_by f) one ∙ sum_by-append f (ties k x vs) ((x, v, false) ∷ []) in
    let c : sum_by f ((x, v, false) ∷ []) ≡ f (x, v, false) + sum_by f [] = sum_by-cons f (x, v, false) [] in
    let d : sum_by f (ties_from (k + 1) xs (vs ++ v ∷ [])) ≡ sum_by f (ties_from (k + 1) xs vs) + sum_by f (map (λ y. (y, v, false)) xs) = helper_sum f (k + 1) xs v vs (omega arith) in
    let e : sum_by f (ties k x vs ++ ties_from (k + 1) xs vs) ≡ sum_by f (ties k x vs) + sum_by f (ties_from (k + 1) xs vs) = sum_by-append f (ties k x vs) (ties_from (k + 1) xs vs) in
    let g : sum_by f ((x, v, false) ∷ map (λ y. (y, v, false)) xs) ≡ f (x, v, false) + sum_by f (map (λ y. (y, v, false)) xs) = sum_by-cons f (x, v, false) (map (λ y. (y, v, false)) xs) in
    let z : sum_by f [] ≡ 0 = refl in
    omega arith

-- the clauses of a tracker with one more variable are the old ones and the new ones
pub ties_added_none : {V : Type 0} (f : V × V × Bool → ℕ) (xs vs : List V) (x : V) → sum_by f (ties_from 0 (xs ++ x ∷ []) (vs ++ [])) ≡ sum_by f (ties_from 0 xs vs) + sum_by f (tie_all xs vs x None)
ties_added_none f xs vs x =
    ap (λ ws. sum_by f (ties_from 0 (xs ++ x ∷ []) ws)) (append-nil vs) ∙ ap (sum_by f) (ties_from_more 0 xs x vs) ∙ sum_by-append f (ties_from 0 xs vs) (ties (0 + length xs) x vs)
    ∙ ap (λ n. sum_by f (ties_from 0 xs vs) + sum_by f (ties n x vs)) (let e : 0 + length xs ≡ length xs = omega arith in e)

pub ties_added_some : {V : Type 0} (f : V × V × Bool → ℕ) (xs vs : List V) (x v : V) → length xs ≡ 2 ^ length vs → sum_by f (ties_from 0 (xs ++ x ∷ []) (vs ++ v ∷ [])) ≡ sum_by f (ties_from 0 xs vs) + sum_by f (tie_all xs vs x (Some v))
ties_added_some f xs vs x v full =
    let one : digit (0 + length xs) (length vs) ≡ true = ap (λ n. digit n (length vs)) (let e : 0 + length xs ≡ 2 ^ length vs = omega arith in e) ∙ digit_power (length vs) in
    let last : ties (0 + length xs) x (vs ++ v ∷ []) ≡ ties (length xs) x vs ++ (x, v, true) ∷ [] =
    ties_more (0 + length xs) x v vs ∙ ap (λ b. ties (0 + length xs) x vs ++ (x, v, b) ∷ []) one ∙ ap (λ n. ties n x vs ++ (x, v, true) ∷ []) (let e : 0 + length xs ≡ length xs = omega arith in e) in
    let a : sum_by f (ties_from 0 (xs ++ x ∷ []) (vs ++ v ∷ [])) ≡ sum_by f (ties_from 0 xs (vs ++ v ∷ [])) + sum_by f (ties (0 + length xs) x (vs ++ v ∷ [])) = ap (sum_by f) (ties_from_more 0 xs x (vs ++ v ∷ [])) ∙ sum_by-append f (ties_from 0 xs (vs ++ v ∷ [])) (ties (0 + length xs) x (vs ++ v ∷ [])) in
    let b : sum_by f (ties_from 0 xs (vs ++ v ∷ [])) ≡ sum_by f (ties_from 0 xs vs) + sum_by f (map (λ y. (y, v, false)) xs) = helper_sum f 0 xs v vs (omega arith) in
    let c : sum_by f (ties (0 + length xs) x (vs ++ v ∷ [])) ≡ sum_by f (ties (length xs) x vs ++ (x, v, true) ∷ []) = ap (sum_by f) last in
    let d : sum_by f (tie_all xs vs x (Some v)) ≡ sum_by f (map (λ y. (y, v, false)) xs) + sum_by f (ties (length xs) x vs ++ (x, v, true) ∷ []) = sum_by-append f (map (λ y. (y, v, false)) xs) (ties (length xs) x vs ++ (x, v, true) ∷ []) in
    omega arith

-- the clauses can be met exactly where at most one variable is true
pub met_is_at_most_one : {V : Type 0} (t : Tracking V) (value : V → Bool) → length t.variables ≤ 2 ^ length t.helpers → (w : ℕ → Bool) × IsMet value w t → IsAtMostOne value t.variables
met_is_at_most_one t value few (w, met) j k d a b p q =
    same_digits (length t.helpers) j k (omega arith) (omega arith) (λ i h. sym (met j i d a h p) ∙ met k i d b h q)

pub at_most_one_is_met : {V : Type 0} (t : Tracking V) (value : V → Bool) → IsAtMostOne value t.variables → (w : ℕ → Bool) × IsMet value w t
at_most_one_is_met t value one = (λ i. digit (position_or_len value t.variables) i, λ k i d a b p. ap (λ n. digit n i) (first k d a p))
  where
    before : (k : ℕ) (d : _) → value (get_or t.variables k d) ≡ true → position_or_len value t.variables ≤ k
    before k d p = omega (arith, (λ (h : k < position_or_len value t.variables). both_ways _ (fails_before_first value t.variables k d h) p))

    first : (k : ℕ) (d : _) → k < length t.variables → value (get_or t.variables k d) ≡ true → position_or_len value t.variables ≡ k
    first k d a p =
        let at : position_or_len value t.variables ≤ k = before k d p in
        one (position_or_len value t.variables) k d (omega arith) a (passes_at_first value t.variables d (omega arith)) p

-- the clauses of a new variable and the older clauses are those of the tracker with it
pub add_ties : {V : Type 0} (eq : V → V → Bool) (t : Tracking V) (x : V) (o : Option V) → is_some o ≡ needs_helper eq t x → (p : V × V × Bool → Bool) → count_by p (all_ties (tracked eq t x o)) ≡ count_by p (all_ties t) + count_by p (new_ties eq t x o)
add_ties {V} eq t x o need p = go (among eq t x) o need
  where
    go : (b : Bool) (h : Option V) → is_some h ≡ (not b && (length t.variables == 2 ^ length t.helpers))
        → count_by p (all_ties (cond b t (record { variables = t.variables ++ x ∷ []; helpers = t.helpers ++ option_to_list h }))) ≡ count_by p (all_ties t) + count_by p (cond b [] (tie_all t.variables t.helpers x h))
    go true h n = let e : count_by p (all_ties t) ≡ count_by p (all_ties t) + 0 = omega arith in e
    go false None n = ties_added_none (λ c. cond (p c) 1 0) t.variables t.helpers x
    go false (Some v) n = ties_added_some (λ c. cond (p c) 1 0) t.variables t.helpers x v (eqb-true (length t.variables) (2 ^ length t.helpers) (sym n))
