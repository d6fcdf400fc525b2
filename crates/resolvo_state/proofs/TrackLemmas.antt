-- One solvable more in a package's tracker.
use Rattle.std.proofs.Common.{◌≡◌, ℕ, zero, suc, ◌+◌, ◌*◌, ◌/◌, ◌%◌, ◌^◌, ◌<◌, ◌≤◌, ◌==◌, ◌&&◌, inl, inr, Bool, true, false, not, cond, min, List, [], ◌∷◌, ◌++◌, map, length, Option, Some, None, refl, sym, ◌∙◌, ap, subst, arith, eqb-true, eq-eqb}
use Rattle.std.specs.Prelude.{slice_get, Contains, is_some}
use Rattle.std.specs.Option.{option_to_list}
use Rattle.std.proofs.Math.Nat.{pow-suc, pow-le-pow_right, min-eq_left, min-eq_right}
use Rattle.std.proofs.lemmas.List.{length-append, length-map, append-nil}
use Rattle.std.proofs.lemmas.Option.{slice_get_within}
use Rattle.std.proofs.lemmas.Bool.{both_ways}
use Rattle.indexmap.proofs.IndexTableLemmas.Probe.{pigeonhole}
use Rattle.resolvo_pool_core.specs.declared.id.VariableId.{VariableId}
use Rattle.resolvo_store_core.specs.AtMostOne.{Tracking, digit, ties, tie_all, among, needs_helper, tracked}
use Rattle.resolvo_store_core.proofs.Digits.{digit_below, digit_power}
use Rattle.resolvo_sat.specs.State.{count_of}
use Rattle.resolvo_sat.specs.RuleClauses.{Rule}
use Rattle.resolvo_sat.proofs.Lists.{contains_one, contains_parts, contains_left, contains_right, contains_only, contains_first, contains_later, contains_map, any_contained, contained_any}
use Rattle.resolvo_state.specs.declared.atom.ProofAtom.TheVariants.{Solvable, Bit}
use Rattle.resolvo_state.specs.declared.solver_state.SolverState.{SolverState}
use Rattle.resolvo_state.specs.Atoms.{Represents}
use Rattle.resolvo_state.specs.ClauseKinds.{rules_in}
use Rattle.resolvo_state.specs.SolverState.{IsCoding}
use Rattle.resolvo_state.specs.Registered.{same_variable, IsTied, first_of, place_from, IsTie, AreTies, AddsTies, GivesDigit, Tracks}
use Rattle.resolvo_state.proofs.Positions.{get_in_prefix, get_last, get_push, get_parts, get_mapped, get_contains, contains_get, get_below, prefix_same, once_push}
use Rattle.resolvo_state.proofs.Origins.{represents_same}
use Rattle.resolvo_state.proofs.Growth.{grows_same, grows_then, trail_same, trail_then, represents_grow, represents_in_range, rules_grow, below_or_not}
use Rattle.resolvo_state.proofs.TieLemmas.{tie_rule}
use Rattle.resolvo_state.proofs.NewTies.{ties_at}

abbrev Tie : Type 0
Tie = VariableId × VariableId × Bool

-- a tie of the variable, with the digit of its place
has_ties : (k : ℕ) (x : VariableId) (vs : List VariableId) (i : ℕ) (v : VariableId) → slice_get vs i ≡ Some v → Contains (ties k x vs) (x, v, digit k i)
has_ties k x [] i v h = absurd cc
has_ties k x (w ∷ vs) zero v h = let e : w ≡ v = cc in contains_first (x, v, k % 2 == 1) (x, w, k % 2 == 1) (ties (k / 2) x vs) (ap (λ (u : VariableId). let t : Tie = (x, u, k % 2 == 1) in t) e)
has_ties k x (w ∷ vs) (suc i) v h = contains_later (x, v, digit (k / 2) i) (x, w, k % 2 == 1) (ties (k / 2) x vs) (has_ties (k / 2) x vs i v h)

-- the tie's variable is at the place, and its helper is a digit of that
record IsTieAt (xs vs : List VariableId) (place : ℕ) (tie : Tie) : Type 0 where
  present : slice_get xs place ≡ Some tie.0
  bit : ℕ
  is_bit : slice_get vs bit ≡ Some tie.1
  value : tie.2 ≡ digit place bit

-- a tie of the new variable
own_at : (xs vs more : List VariableId) (x : VariableId) (i : ℕ) (tie : Tie) → slice_get (ties (length xs) x vs) i ≡ Some tie → IsTieAt (xs ++ x ∷ []) (vs ++ more) (length xs) tie
own_at xs vs more x i tie h =
    let (e, at, value) = ties_at (length xs) x vs i tie h in
    record { present = get_last xs x ∙ ap Some (sym e); bit = i; is_bit = get_in_prefix vs more i tie.1 at; value = value }

-- each new tie is of the place of a tracked variable, or of the new one
all_at : (xs vs : List VariableId) (x : VariableId) (o : Option VariableId) (i : ℕ) (tie : Tie) → length xs ≤ 2 ^ length vs → (is_some o ≡ true → length xs ≡ 2 ^ length vs) → slice_get (tie_all xs vs x o) i ≡ Some tie
    → IsTieAt (xs ++ x ∷ []) (vs ++ option_to_list o) (place_from (first_of o (length xs)) (length xs) i) tie
all_at xs vs x None i tie few full h =
    let place : min (length xs + i) (length xs) ≡ length xs = min-eq_right (let a : length xs ≤ length xs + i = omega arith in a) in
    subst (λ k. IsTieAt (xs ++ x ∷ []) (vs ++ []) k tie) (sym place) (own_at xs vs [] x i tie h)
all_at xs vs x (Some v) i tie few full h = elim (get_parts (map (λ (y : VariableId). let t : Tie = (y, v, false) in t) xs) (ties (length xs) x vs ++ (x, v, true) ∷ []) i tie h) [
  | inl a ↦
      let (y, at, e) = get_mapped (λ (y : VariableId). let t : Tie = (y, v, false) in t) xs i tie a in
      let within : i < length xs = slice_get_within xs i y at in
      let place : min (0 + i) (length xs) ≡ i = min-eq_left (let b : 0 + i ≤ length xs = omega arith in b) ∙ (let b : 0 + i ≡ i = omega arith in b) in
      let none : digit i (length vs) ≡ false = digit_below (length vs) i (omega arith) in
      subst (λ k. IsTieAt (xs ++ x ∷ []) (vs ++ v ∷ []) k tie) (sym place) (record {
        present = get_in_prefix xs (x ∷ []) i y at ∙ ap (λ (t : Tie). Some t.0) e;
        bit = length vs;
        is_bit = get_last vs v ∙ ap (λ (t : Tie). Some t.1) e;
        value = sym (ap (λ (t : Tie). t.2) e) ∙ sym none;
      })
  | inr (j, e, b) ↦
      let long : length (map (λ (y : VariableId). let t : Tie = (y, v, false) in t) xs) ≡ length xs = length-map xs (λ (y : VariableId). let t : Tie = (y, v, false) in t) in
      let place : min (0 + i) (length xs) ≡ length xs = min-eq_right (let a : length xs ≤ 0 + i = omega arith in a) in
      subst (λ k. IsTieAt (xs ++ x ∷ []) (vs ++ v ∷ []) k tie) (sym place) (elim (get_push (ties (length xs) x vs) (x, v, true) tie j b) [
        | inl a ↦ own_at xs vs (v ∷ []) x j tie a
        | inr (at, is) ↦
            let one : digit (length xs) (length vs) ≡ true = ap (λ n. digit n (length vs)) (full refl) ∙ digit_power (length vs) in
            record {
              present = get_last xs x ∙ ap (λ (t : Tie). Some t.0) (sym is);
              bit = length vs;
              is_bit = get_last vs v ∙ ap (λ (t : Tie). Some t.1) (sym is);
              value = ap (λ (t : Tie). t.2) is ∙ sym one;
            }
      ])
]

-- there is a tie for each place and the new digit
tie_of_each : (xs vs : List VariableId) (x : VariableId) (o : Option VariableId) (i : ℕ) (v : VariableId) → length xs ≤ 2 ^ length vs → (is_some o ≡ true → length xs ≡ 2 ^ length vs) → slice_get (vs ++ option_to_list o) i ≡ Some v → Contains (tie_all xs vs x o) (x, v, digit (length xs) i)
tie_of_each xs vs x None i v few full h = has_ties (length xs) x vs i v (subst (λ (ws : List VariableId). slice_get ws i ≡ Some v) (append-nil vs) h)
tie_of_each xs vs x (Some w) i v few full h =
    contains_right (x, v, digit (length xs) i) (map (λ (y : VariableId). let t : Tie = (y, w, false) in t) xs) (ties (length xs) x vs ++ (x, w, true) ∷ []) (elim (get_push vs w v i h) [
      | inl a ↦ contains_left (x, v, digit (length xs) i) (ties (length xs) x vs) ((x, w, true) ∷ []) (has_ties (length xs) x vs i v a)
      | inr (e, same) ↦
          let one : digit (length xs) i ≡ true = ap (λ n. digit n i) (full refl) ∙ ap (λ k. digit (2 ^ length vs) k) e ∙ digit_power (length vs) in
          contains_right (x, v, digit (length xs) i) (ties (length xs) x vs) ((x, w, true) ∷ []) (contains_first (x, v, digit (length xs) i) (x, w, true) [] (let back = sym same in let digit_back = sym one in λ j. (x, back j, digit_back j)))
    ])

-- so there is for each old place and the new digit
tie_of_old : (xs vs : List VariableId) (x w : VariableId) (place : ℕ) (y : VariableId) → length xs ≤ 2 ^ length vs → slice_get xs place ≡ Some y → Contains (tie_all xs vs x (Some w)) (y, w, digit place (length vs))
tie_of_old xs vs x w place y few h =
    let within : place < length xs = slice_get_within xs place y h in
    let none : digit place (length vs) ≡ false = digit_below (length vs) place (omega arith) in
    contains_left (y, w, digit place (length vs)) (map (λ (u : VariableId). let t : Tie = (u, w, false) in t) xs) (ties (length xs) x vs ++ (x, w, true) ∷ [])
    (subst (λ b. Contains (map (λ (u : VariableId). let t : Tie = (u, w, false) in t) xs) (y, w, b)) (sym none) (contains_map (λ (u : VariableId). let t : Tie = (u, w, false) in t) y xs (get_contains xs place y h)))

one_or_more : (h : ℕ) → 1 ≤ 2 ^ h
one_or_more zero = omega arith
one_or_more (suc h) = let t : 2 ^ suc h ≡ 2 ^ h * 2 = pow-suc 2 h in let r : 1 ≤ 2 ^ h = one_or_more h in omega arith

variable_one : (x y : VariableId) → same_variable x y ≡ true → x ≡ y
variable_one x y h = let e : x.0 ≡ y.0 = eqb-true x.0 y.0 h in λ i. record { 0 = e i }

-- the number of a variable
abbrev number_in : Option VariableId → ℕ
number_in None = 0
number_in (Some v) = v.0

-- as many variables are tracked as the search has, or fewer
pub few_tracked : {N S : Type 0} (name : N) (t : Tracking VariableId) (c : SolverState N S) → IsCoding c → IsTied name t c → length t.variables < 2147483648
few_tracked {N} {S} name t c coding tied =
    let few : length t.variables ≤ count_of c.search = pigeonhole (length t.variables) (count_of c.search) (λ i. number_in (slice_get t.variables i)) into one in
    let small : count_of c.search < 2 ^ 31 = coding.ready.state.small in
    omega arith
  where
    into : (i : ℕ) → i < length t.variables → number_in (slice_get t.variables i) < count_of c.search
    into i below =
        let (v, at) = get_below t.variables i below in
        let (s, present) = tied.solvables v (get_contains t.variables i v at) in
        subst (λ n. n < count_of c.search) (sym (ap number_in at)) (represents_in_range c v (Solvable s) coding present)

    one : (i j : ℕ) → i < length t.variables → j < length t.variables → number_in (slice_get t.variables i) ≡ number_in (slice_get t.variables j) → i ≡ j
    one i j low high e =
        let (v, at) = get_below t.variables i low in
        let (w, bt) = get_below t.variables j high in
        let same : w.0 ≡ v.0 = sym (ap number_in bt) ∙ sym e ∙ ap number_in at in
        let is : w ≡ v = λ k. record { 0 = same k } in
        tied.once i j v at (bt ∙ ap Some is)

-- fewer than 2^31 places take fewer than 31 digits
few_digits : (h : ℕ) → 2 ^ h < 2147483648 → h < 31
few_digits h small = elim (below_or_not h 31) [ inl below ↦ below | inr past ↦ (let more : 2 ^ 31 ≤ 2 ^ h = pow-le-pow_right (let two : zero < 2 = omega arith in two) past in absurd (omega arith)) ]

-- a tracker with one variable more, and the helper that it takes
abbrev longer : Tracking VariableId → VariableId → Option VariableId → Tracking VariableId
longer t x o = record { variables = t.variables ++ x ∷ []; helpers = t.helpers ++ option_to_list o }

-- the helpers distinguish the places
room_more : (t : Tracking VariableId) (x : VariableId) (o : Option VariableId) → length t.variables ≤ 2 ^ length t.helpers → is_some o ≡ (length t.variables == 2 ^ length t.helpers) → length (t.variables ++ x ∷ []) ≤ 2 ^ length (t.helpers ++ option_to_list o)
room_more t x None few full =
    let long : length (t.variables ++ x ∷ []) ≡ length t.variables + 1 = length-append t.variables (x ∷ []) in
    let same : length (t.helpers ++ []) ≡ length t.helpers = ap length (append-nil t.helpers) in
    let other : length t.variables ≡ 2 ^ length t.helpers → ⊥ = λ e. both_ways _ (sym full) (eq-eqb (length t.variables) (2 ^ length t.helpers) e) in
    let power : 2 ^ length (t.helpers ++ []) ≡ 2 ^ length t.helpers = ap (λ k. 2 ^ k) same in
    omega arith
room_more t x (Some v) few full =
    let long : length (t.variables ++ x ∷ []) ≡ length t.variables + 1 = length-append t.variables (x ∷ []) in
    let more : length (t.helpers ++ v ∷ []) ≡ suc (length t.helpers) = length-append t.helpers (v ∷ []) ∙ (let e : length t.helpers + 1 ≡ suc (length t.helpers) = omega arith in e) in
    let power : 2 ^ length (t.helpers ++ v ∷ []) ≡ 2 ^ length t.helpers * 2 = ap (λ k. 2 ^ k) more ∙ pow-suc 2 (length t.helpers) in
    let here : length t.variables ≡ 2 ^ length t.helpers = eqb-true (length t.variables) (2 ^ length t.helpers) (sym full) in
    let low : 1 ≤ 2 ^ length t.helpers = one_or_more (length t.helpers) in
    omega arith

module _ {N S : Type 0} (name : N) (x : VariableId) (s : S) (t : Tracking VariableId) (o : Option VariableId) (a b : SolverState N S) (tied : IsTied name t a) (present : Represents a.atoms.keys x (Solvable s)) (given : GivesDigit name (length t.helpers) o a b) where
  longer_solvables : (v : VariableId) → Contains (t.variables ++ x ∷ []) v → (u : S) × Represents b.atoms.keys v (Solvable u)
  longer_solvables v h = elim (contains_parts v t.variables (x ∷ []) h) [
    | inl c ↦ let (u, f) = tied.solvables v c in (u, represents_grow a b v (Solvable u) given.grows f)
    | inr c ↦ (s, represents_grow a b v (Solvable s) given.grows (subst (λ (w : VariableId). Represents a.atoms.keys w (Solvable s)) (sym (contains_one v x c)) present))
  ]

  longer_digits : (i : ℕ) (v : VariableId) → slice_get (t.helpers ++ option_to_list o) i ≡ Some v → Represents b.atoms.keys v (Bit name i)
  longer_digits i v h = go o given.present h
    where
      go : (q : Option VariableId) → ((w : VariableId) → q ≡ Some w → Represents b.atoms.keys w (Bit name (length t.helpers))) → slice_get (t.helpers ++ option_to_list q) i ≡ Some v → Represents b.atoms.keys v (Bit name i)
      go None f g = represents_grow a b v (Bit name i) given.grows (tied.digits i v (subst (λ (ws : List VariableId). slice_get ws i ≡ Some v) (append-nil t.helpers) g))
      go (Some w) f g = elim (get_push t.helpers w v i g) [
        | inl at ↦ represents_grow a b v (Bit name i) given.grows (tied.digits i v at)
        | inr (e, same) ↦ subst (λ k. Represents b.atoms.keys v (Bit name k)) (sym e) (subst (λ (u : VariableId). Represents b.atoms.keys u (Bit name (length t.helpers))) (sym same) (f w refl))
      ]

  -- the helpers stay few
  few_more : IsCoding a → (is_some o ≡ true → length t.variables ≡ 2 ^ length t.helpers) → length (t.helpers ++ option_to_list o) < 32
  few_more coding full = go o full
    where
      go : (q : Option VariableId) → (is_some q ≡ true → length t.variables ≡ 2 ^ length t.helpers) → length (t.helpers ++ option_to_list q) < 32
      go None f =
          let same : length (t.helpers ++ []) ≡ length t.helpers = ap length (append-nil t.helpers) in
          let few : length t.helpers < 32 = tied.few in
          omega arith
      go (Some v) f =
          let long : length (t.helpers ++ v ∷ []) ≡ length t.helpers + 1 = length-append t.helpers (v ∷ []) in
          let small : length t.variables < 2147483648 = few_tracked name t a coding tied in
          let few : length t.helpers < 31 = few_digits (length t.helpers) (subst (λ n. n < 2147483648) (f refl) small) in
          omega arith

  ties_are : IsCoding a → (is_some o ≡ true → length t.variables ≡ 2 ^ length t.helpers) → (i : ℕ) (tie : Tie) → slice_get (tie_all t.variables t.helpers x o) i ≡ Some tie → IsTie name b.atoms.keys (place_from (first_of o (length t.variables)) (length t.variables) i) tie
  ties_are coding full i tie h =
      let q = all_at t.variables t.helpers x o i tie tied.room full h in
      let within : q.bit < length (t.helpers ++ option_to_list o) = slice_get_within (t.helpers ++ option_to_list o) q.bit tie.1 q.is_bit in
      let few : length (t.helpers ++ option_to_list o) < 32 = few_more coding full in
      let (u, f) = longer_solvables tie.0 (get_contains (t.variables ++ x ∷ []) _ tie.0 q.present) in
      record { solvable = u; bit = q.bit; few = omega arith; present = f; is_bit = longer_digits q.bit tie.1 q.is_bit; value = q.value }

  -- a helper was added where the helpers distinguished no more places
  full_at_new : (q : Bool) → is_some o ≡ (not q && (length t.variables == 2 ^ length t.helpers)) → is_some o ≡ true → length t.variables ≡ 2 ^ length t.helpers
  full_at_new true n some = absurd (both_ways _ n some)
  full_at_new false n some = eqb-true (length t.variables) (2 ^ length t.helpers) (sym n ∙ some)

  -- the ties of a new variable are of the places one after another
  pub new_are_ties : IsCoding a → is_some o ≡ needs_helper same_variable t x → among same_variable t x ≡ false → AreTies name b.atoms.keys (first_of o (length t.variables)) (length t.variables) (tie_all t.variables t.helpers x o)
  new_are_ties coding needed fresh i tie h = ties_are coding (full_at_new false (needed ∙ ap (λ q. not q && (length t.variables == 2 ^ length t.helpers)) fresh)) i tie h

  module _ (c : SolverState N S) (all : AddsTies name (tie_all t.variables t.helpers x o) (first_of o (length t.variables)) (length t.variables) b c) (full : is_some o ≡ (length t.variables == 2 ^ length t.helpers)) where
    tie_encoded : (v w : VariableId) (place : ℕ) (u : S) (i : ℕ) → Contains (tie_all t.variables t.helpers x o) (v, w, digit place i) → Represents c.atoms.keys v (Solvable u) → Represents c.atoms.keys w (Bit name i) → rules_in c.kinds.items (Rule.has_digit u i (digit place i))
    tie_encoded v w place u i h f g =
        let (j, at) = contains_get (tie_all t.variables t.helpers x o) (v, w, digit place i) h in
        let (n, below, st) = all.each j (v, w, digit place i) at in
        tie_rule name _ (v, w, digit place i) c n u i st f g

    -- an old variable, by an old digit or the new one
    old_encoded : (place i : ℕ) (v w : VariableId) (u : S) → slice_get t.variables place ≡ Some v → Represents c.atoms.keys v (Solvable u) → slice_get (t.helpers ++ option_to_list o) i ≡ Some w → Represents c.atoms.keys w (Bit name i) → rules_in c.kinds.items (Rule.has_digit u i (digit place i))
    old_encoded place i v w u at f wt g = elim (below_or_not i (length t.helpers)) [
      | inl below ↦
          let (r, there) = tied.solvables v (get_contains t.variables place v at) in
          let grows = grows_then a b c given.grows all.grows in
          let one = represents_same c.atoms.keys v (Solvable r) (Solvable u) (represents_grow a c v (Solvable r) grows there) f in
          let same : r ≡ u = cc in
          subst (λ (y : S). rules_in c.kinds.items (Rule.has_digit y i (digit place i))) same (rules_grow a c grows (Rule.has_digit r i (digit place i)) (tied.by_digits place i v r at there below))
      | inr past ↦ go o refl past wt
    ]
      where
        go : (q : Option VariableId) → o ≡ q → length t.helpers ≤ i → slice_get (t.helpers ++ option_to_list q) i ≡ Some w → rules_in c.kinds.items (Rule.has_digit u i (digit place i))
        go None e past h =
            let within : i < length t.helpers = slice_get_within t.helpers i w (subst (λ (ws : List VariableId). slice_get ws i ≡ Some w) (append-nil t.helpers) h) in
            absurd (omega arith)
        go (Some r) e past h = elim (get_push t.helpers r w i h) [
          | inl old ↦ let within : i < length t.helpers = slice_get_within t.helpers i w old in absurd (omega arith)
          | inr (here, same) ↦
              let there = tie_of_old t.variables t.helpers x r place v tied.room at in
              let moved = subst (λ (y : VariableId). Contains (tie_all t.variables t.helpers x (Some r)) (v, y, digit place (length t.helpers))) (sym same) there in
              let placed = subst (λ k. Contains (tie_all t.variables t.helpers x (Some r)) (v, w, digit place k)) (sym here) moved in
              tie_encoded v w place u i (subst (λ (y : Option VariableId). Contains (tie_all t.variables t.helpers x y) (v, w, digit place i)) (sym e) placed) f g
        ]

    unseen : among same_variable t x ≡ false → (k : ℕ) → slice_get t.variables k ≡ Some x → ⊥
    unseen fresh k at = both_ways _ fresh (contained_any (same_variable x) x t.variables (get_contains t.variables k x at) (eq-eqb x.0 x.0 refl))

    tied_more : IsCoding a → among same_variable t x ≡ false → IsTied name (longer t x o) c
    tied_more coding fresh = record {
      solvables = λ v h. (let (u, f) = longer_solvables v h in (u, represents_grow b c v (Solvable u) all.grows f));
      digits = λ i v h. represents_grow b c v (Bit name i) all.grows (longer_digits i v h);
      room = room_more t x o tied.room full;
      few = few_more coding (full_at_new false full);
      once = once_push t.variables x tied.once (unseen fresh);
      by_digits = λ place i v u at f below. (
          let (w, wt) = get_below (t.helpers ++ option_to_list o) i below in
          let g = represents_grow b c w (Bit name i) all.grows (longer_digits i w wt) in
          elim (get_push t.variables x v place at) [
            | inl old ↦ old_encoded place i v w u old f wt g
            | inr (e, same) ↦
                let there = tie_of_each t.variables t.helpers x o i w tied.room (λ some. eqb-true (length t.variables) (2 ^ length t.helpers) (sym full ∙ some)) wt in
                let moved = subst (λ (y : VariableId). Contains (tie_all t.variables t.helpers x o) (y, w, digit (length t.variables) i)) (sym same) there in
                tie_encoded v w place u i (subst (λ k. Contains (tie_all t.variables t.helpers x o) (v, w, digit k i)) (sym e) moved) f g
          ]);
    }

    tracks_more : IsCoding a → among same_variable t x ≡ false → Tracks name x t a (longer t x o) c
    tracks_more coding fresh = record {
      coding = all.coding;
      grows = grows_then a b c given.grows all.grows;
      trail = trail_then a b c given.trail all.trail;
      tied = tied_more coding fresh;
      tracked = contains_right x t.variables (x ∷ []) (contains_only x);
      prefix = (x ∷ [], refl);
      only = λ w h. elim (contains_parts w t.variables (x ∷ []) h) [ inl i ↦ inl i | inr i ↦ inr (contains_one w x i) ];
      digits = λ n low below. (
          let same : length b.search.clauses ≡ length a.search.clauses = ap length given.clauses in
          let (i, tie, at, st) = all.only n (omega arith) below in
          (place_from (first_of o (length t.variables)) (length t.variables) i, tie, (all_at t.variables t.helpers x o i tie tied.room (full_at_new false full) at).present, st));
      same = λ h. absurd (both_ways _ fresh (contained_any (same_variable x) x t.variables h (eq-eqb x.0 x.0 refl)));
    }

  -- the tracker takes a variable that it doesn't have, and its ties are added as clauses
  pub track_is : (u : Tracking VariableId) (c : SolverState N S) → IsCoding a → is_some o ≡ needs_helper same_variable t x → among same_variable t x ≡ false → u ≡ tracked same_variable t x o
      → AddsTies name (tie_all t.variables t.helpers x o) (first_of o (length t.variables)) (length t.variables) b c → Tracks name x t a u c
  track_is u c coding needed fresh next all =
      subst (λ (w : Tracking VariableId). Tracks name x t a w c) (sym (next ∙ ap (λ q. cond q t (longer t x o)) fresh))
      (tracks_more c all (needed ∙ ap (λ q. not q && (length t.variables == 2 ^ length t.helpers)) fresh) coding fresh)

-- a variable that the tracker has stays there, and brings no clause
pub tracks_same : {N S : Type 0} (name : N) (x : VariableId) (t : Tracking VariableId) (a : SolverState N S) → IsCoding a → IsTied name t a → among same_variable t x ≡ true → Tracks name x t a t a
tracks_same name x t a coding tied has = record {
  coding = coding;
  grows = grows_same a;
  trail = trail_same a;
  tied = tied;
  tracked = (let (y, there, same) = any_contained (same_variable x) t.variables has in subst (Contains t.variables) (sym (variable_one x y same)) there);
  prefix = prefix_same t.variables;
  only = λ w i. inl i;
  digits = λ n low below. absurd (omega arith);
  same = λ i. refl;
}
