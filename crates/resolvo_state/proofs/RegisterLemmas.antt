-- A solvable more is registered.
use Rattle.std.proofs.Common.{◌≡◌, ℕ, zero, suc, ◌^◌, ◌<◌, ◌≤◌, ◌==◌, ◌⊎◌, inl, inr, Bool, true, false, not, List, [], ◌∷◌, ◌++◌, length, Some, refl, sym, ◌∙◌, ap, subst, arith, eqb-true, eq-eqb}
use Rattle.std.specs.Prelude.{slice_get, Contains}
use Rattle.std.proofs.lemmas.Bool.{both_ways, cases_Bool}
use Rattle.std.proofs.lemmas.Option.{slice_get_within}
use Rattle.resolvo_pool_core.specs.declared.id.VariableId.{VariableId}
use Rattle.resolvo_pool_core.specs.OnePass.{Literal}
use Rattle.resolvo_pool_core.specs.RuleKeeping.{Packages}
use Rattle.resolvo_store_core.specs.AtMostOne.{Tracking, IsPrefixOf, digit}
use Rattle.resolvo_store_core.specs.Clauses.{no}
use Rattle.resolvo_store_core.specs.Signed.{Signed, has}
use Rattle.resolvo_sat.specs.Known.{clause_at}
use Rattle.resolvo_sat.specs.State.{clauses_of}
use Rattle.resolvo_sat.proofs.Literals.{has-cons, has_here, has_later}
use Rattle.resolvo_sat.specs.RuleClauses.{Atom, Rule, plus, minus, literals_of}
use Rattle.resolvo_sat.specs.SearchEnd.{DifferInDigit}
use Rattle.resolvo_sat.specs.Numbered.{meaning, Means, Spells}
use Rattle.resolvo_sat.proofs.Lists.{contains_none, contains_one, contains_cases, contains_first, contains_later}
use Rattle.resolvo_sat.proofs.Places.{differ_in_digit}
use Rattle.resolvo_sat.proofs.Members.{twice}
use Rattle.resolvo_state.specs.declared.atom.ProofAtom.TheVariants.{Solvable, Bit}
use Rattle.resolvo_state.specs.Kinds.{Kind}
use Rattle.resolvo_state.specs.Kinds.{Root, Digit}
use Rattle.resolvo_state.specs.declared.solver_state.SolverState.{SolverState}
use Rattle.resolvo_state.specs.declared.registry.Registry.{Registry}
use Rattle.resolvo_state.specs.declared.registry.Member.{Member}
use Rattle.resolvo_state.specs.Atoms.{origin, Represents}
use Rattle.resolvo_state.specs.Keys.{AreOnce}
use Rattle.resolvo_state.specs.ClauseKinds.{kind_at, rule_at, rules_in}
use Rattle.resolvo_state.specs.StoredKinds.{KindList}
use Rattle.resolvo_state.specs.SolverState.{IsCoding, Grows, Gives}
use Rattle.resolvo_state.specs.Registered.{digit_literals, IsTied, IsPlaced, AreTied, IsInTracker, IsTracked, IsQueued, IsMany, IsRegistered, member, IsNothing, IsDigitClause, Registers, Places, PlacesName, IsTieClause, Tracks}
use Rattle.resolvo_state.proofs.Positions.{get_old, get_push, get_contains, contains_get, prefix_get, prefix_same, once_none}
use Rattle.resolvo_state.proofs.Origins.{represents_same, one_variable, means_atom}
use Rattle.resolvo_state.proofs.Growth.{grows_then, trail_then, represents_grow, represents_once, rules_grow, kind_split, below_or_not}
use Rattle.resolvo_state.proofs.Rules.{rule_at_kind}
use Rattle.resolvo_state.proofs.TieLemmas.{tie_literals}

-- a package's tracker stays tied
pub tied_grows : {N S : Type 0} (name : N) (t : Tracking VariableId) (a c : SolverState N S) → Grows a c → IsTied name t a → IsTied name t c
tied_grows {N} {S} name t a c grows tied = record {
  solvables = λ v h. (let (s, f) = tied.solvables v h in (s, represents_grow a c v (Solvable s) grows f));
  digits = λ i v h. represents_grow a c v (Bit name i) grows (tied.digits i v h);
  room = tied.room;
  few = tied.few;
  once = tied.once;
  by_digits = λ place i v u at f below. (
      let (s, there) = tied.solvables v (get_contains t.variables place v at) in
      let one = represents_same c.atoms.keys v (Solvable s) (Solvable u) (represents_grow a c v (Solvable s) grows there) f in
      let same : s ≡ u = cc in
      subst (λ (y : S). rules_in c.kinds.items (Rule.has_digit y i (digit place i))) same (rules_grow a c grows (Rule.has_digit s i (digit place i)) (tied.by_digits place i v s at there below)));
}

-- so does one that has nothing
tied_none : {N S : Type 0} (name : N) (t : Tracking VariableId) (c : SolverState N S) → t.variables ≡ [] → t.helpers ≡ [] → IsTied name t c
tied_none {N} {S} name t c none helpers = record {
  solvables = λ v h. absurd (contains_none v (subst (λ (xs : List VariableId). Contains xs v) none h));
  digits = λ i v h. absurd (nothing i v (subst (λ (xs : List VariableId). slice_get xs i ≡ Some v) helpers h));
  room = (let a : length t.variables ≡ 0 = ap length none in omega arith);
  few = (let a : length t.helpers ≡ 0 = ap length helpers in omega arith);
  once = once_none t.variables none;
  by_digits = λ place i v s at f below. absurd (nothing place v (subst (λ (xs : List VariableId). slice_get xs place ≡ Some v) none at));
}
  where
    nothing : (i : ℕ) (v : VariableId) → slice_get [] i ≡ Some v → ⊥
    nothing i v h = absurd cc

-- each digit that clauses encode was encoded before
abbrev pub KeepsDigits : {N S : Type 0} → SolverState N S → SolverState N S → Type 0
KeepsDigits {N} {S} a c = (n : ℕ) (name : N) (s : S) (place bit : ℕ) → kind_at c.kinds.items n ≡ Some (Digit name s place bit) → kind_at a.kinds.items n ≡ Some (Digit name s place bit)

-- so it is where no kind was added, or one of another rule
pub digits_same : {N S : Type 0} (a c : SolverState N S) → c.kinds ≡ a.kinds → KeepsDigits a c
digits_same {N} {S} a c e n name s place bit h = subst (λ (xs : KindList N S). kind_at xs.items n ≡ Some (Digit name s place bit)) e h

pub digits_more : {N S : Type 0} (x : Kind N S) (a c : SolverState N S) → c.kinds.items ≡ a.kinds.items ++ x ∷ [] → ((name : N) (s : S) (place bit : ℕ) → x ≡ Digit name s place bit → ⊥) → KeepsDigits a c
digits_more {N} {S} x a c e other n name s place bit h = elim (get_push a.kinds.items x (Digit name s place bit) n (subst (λ (xs : List (Kind N S)). slice_get xs n ≡ Some (Digit name s place bit)) e h)) [
  | inl old ↦ old
  | inr (last, is) ↦ absurd (other name s place bit (sym is))
]

-- places stay where packages and their trackers do
placed_stays : {N S : Type 0} (r t : Registry N) (a c : SolverState N S) (name : N) (place : ℕ) (s : S) → IsPrefixOf r.names.keys t.names.keys → IsPrefixOf r.trackers.items t.trackers.items → Grows a c → IsPlaced r a name place s → IsPlaced t c name place s
placed_stays r t a c name place s names trackers grows h = record {
  number = h.number;
  tracker = h.tracker;
  variable = h.variable;
  named = prefix_get r.names.keys t.names.keys h.number name names h.named;
  tracked = prefix_get r.trackers.items t.trackers.items h.number h.tracker trackers h.tracked;
  present = h.present;
  means = represents_grow a c h.variable (Solvable s) grows h.means;
}

pub ties_grow : {N S : Type 0} (r : Registry N) (a c : SolverState N S) → Grows a c → KeepsDigits a c → AreTied r a → AreTied r c
ties_grow r a c grows kept tied = record {
  each = tied.each;
  once = tied.once;
  tied = λ k name t n h. tied_grows name t a c grows (tied.tied k name t n h);
  placed = λ n name s place bit h. placed_stays r r a c name place s (prefix_same r.names.keys) (prefix_same r.trackers.items) grows (tied.placed n name s place bit (kept n name s place bit h));
  within = tied.within;
  solvables = λ name v h. (let (s, f) = tied.solvables name v h in (s, represents_grow a c v (Solvable s) grows f));
  registered = tied.registered;
  rest = tied.rest;
}

-- registered solvables stay registered
pub registered_stays : {N S : Type 0} (r : Registry N) (a c : SolverState N S) (name : N) (s : S) → Grows a c → IsRegistered r a name s → IsRegistered r c name s
registered_stays r a c name s grows (v, f, h) = (v, represents_grow a c v (Solvable s) grows f, h)

-- no solvable is registered at first
pub nothing_tied : {N S : Type 0} (r : Registry N) (c : SolverState N S) → IsNothing r → c.kinds.items ≡ Root ∷ [] → AreTied r c
nothing_tied {N} {S} r c none kinds = record {
  each = ap length none.names ∙ sym (ap length none.trackers);
  once = λ i j x a b. absurd (nothing i x (subst (λ (xs : List N). slice_get xs i ≡ Some x) none.names a));
  tied = λ k name t n h. absurd (nothing k name (subst (λ (xs : List N). slice_get xs k ≡ Some name) none.names n));
  placed = λ n name s place bit h. absurd (no_digit n name s place bit (subst (λ (xs : List (Kind N S)). slice_get xs n ≡ Some (Digit name s place bit)) kinds h));
  within = (let start : r.tied ≡ 0 = none.tied in omega arith);
  solvables = λ name v h. absurd (contains_none (member name v) (subst (λ (xs : List (Member N)). Contains xs (member name v)) none.members h));
  registered = λ name v h. absurd (nothing h.place name (subst (λ (xs : List N). slice_get xs h.place ≡ Some name) none.names h.named));
  rest = λ name v h. absurd (contains_none (member name v) (subst (λ (xs : List (Member N)). Contains xs (member name v)) none.members h));
}
  where
    nothing : (i : ℕ) (x : N) → slice_get [] i ≡ Some x → ⊥
    nothing i x h = absurd cc

    no_digit : (n : ℕ) (name : N) (s : S) (place bit : ℕ) → slice_get (Root ∷ []) n ≡ Some (Digit name s place bit) → ⊥
    no_digit zero name s place bit h = absurd cc
    no_digit (suc n) name s place bit h = absurd cc

module _ {N S : Type 0} (name : N) (place : ℕ) (r r1 : Registry N) (a : SolverState N S) (tied : AreTied r a) (places : PlacesName name place r r1) where
  -- a place with its package and its tracker is an old one, or has nothing
  old_or_empty : (k : ℕ) (m : N) (t : Tracking VariableId) → slice_get r1.names.keys k ≡ Some m → slice_get r1.trackers.items k ≡ Some t
      → ((slice_get r.names.keys k ≡ Some m) × (slice_get r.trackers.items k ≡ Some t)) ⊎ ((t.variables ≡ []) × (t.helpers ≡ []))
  old_or_empty k m t named tracked = elim (below_or_not k (length r.trackers.items)) [
    | inr past ↦ inr (places.fresh k t past tracked)
    | inl below ↦
        let (more, e) = places.names in
        let (others, f) = places.trackers in
        let long : length r.names.keys ≡ length r.trackers.items = tied.each in
        inl (
          get_old r.names.keys more k m (omega arith) (subst (λ (xs : List N). slice_get xs k ≡ Some m) e named),
          get_old r.trackers.items others k t below (subst (λ (xs : List (Tracking VariableId)). slice_get xs k ≡ Some t) f tracked),
        )
  ]

  old_tracked : (k : ℕ) (m : N) (t : Tracking VariableId) (w : VariableId) → slice_get r1.names.keys k ≡ Some m → slice_get r1.trackers.items k ≡ Some t → Contains t.variables w → IsInTracker r m w
  old_tracked k m t w named tracked h = elim (old_or_empty k m t named tracked) [
    | inl (n, f) ↦ record { place = k; tracker = t; named = n; tracked = f; present = h }
    | inr (none, helpers) ↦ absurd (contains_none w (subst (λ (xs : List VariableId). Contains xs w) none h))
  ]

  -- the trackers are tied where the package has its place
  pub named_tied : (b : SolverState N S) → Grows a b → KeepsDigits a b → AreTied r1 b
  named_tied b grows kept = record {
    each = places.each;
    once = places.once tied.once;
    tied = λ k m t named tracked. elim (old_or_empty k m t named tracked) [
      | inl (n, h) ↦ tied_grows m t a b grows (tied.tied k m t n h)
      | inr (none, helpers) ↦ tied_none m t b none helpers
    ];
    placed = λ n m s at bit h. placed_stays r r1 a b m at s places.names places.trackers grows (tied.placed n m s at bit (kept n m s at bit h));
    within = subst (λ k. k ≤ length r1.members.keys) (sym places.waits) (subst (λ ms. r.tied ≤ length ms.keys) (sym places.members) tied.within);
    solvables = λ m v h. (let (s, f) = tied.solvables m v (subst (λ ms. Contains ms.keys (member m v)) places.members h) in (s, represents_grow a b v (Solvable s) grows f));
    registered = λ m v h. subst (λ ms. Contains ms.keys (member m v)) (sym places.members) (tied.registered m v (old_tracked h.place m h.tracker v h.named h.tracked h.present));
    rest = λ m v h. elim (tied.rest m v (subst (λ ms. Contains ms.keys (member m v)) places.members h)) [
      | inl k ↦ inl (record {
        place = k.place;
        tracker = k.tracker;
        named = prefix_get r.names.keys r1.names.keys k.place m places.names k.named;
        tracked = prefix_get r.trackers.items r1.trackers.items k.place k.tracker places.trackers k.tracked;
        present = k.present;
      })
      | inr (inl (k, low, at)) ↦ inr (inl (k, subst (λ j. j ≤ k) (sym places.waits) low, subst (λ ms. slice_get ms.keys k ≡ Some (member m v)) (sym places.members) at))
      | inr (inr k) ↦ inr (inr (subst (λ ns. Contains ns.keys m) (sym places.many) k))
    ];
  }

-- the clause of a tie encodes the digit of its solvable
pub tie_spells : {N S : Type 0} (name : N) (place : ℕ) (tie : VariableId × VariableId × Bool) (c : SolverState N S) (n : ℕ) → (st : IsTieClause name place tie c n) → Spells (origin c.atoms.keys) (clause_at (clauses_of c.search) n) (digit_literals name st.is.solvable st.is.bit tie.2)
tie_spells {N} {S} name place tie c n st = subst (λ (clause : List Signed). Spells (origin c.atoms.keys) clause (digit_literals name st.is.solvable st.is.bit tie.2)) (sym st.clause) (record { only = only; each = each })
  where
    first : Signed
    first = no tie.0

    second : Signed
    second = record { variable = tie.1; positive = tie.2 }

    is_bit : Literal (Atom N S)
    is_bit = record { atom = Atom.digit name st.is.bit; positive = tie.2 }

    first_means : Means (origin c.atoms.keys) (no tie.0) (minus (Atom.solvable st.is.solvable))
    first_means = means_atom c.atoms.keys (no tie.0) (Solvable st.is.solvable) st.is.present

    second_means : Means (origin c.atoms.keys) (record { variable = tie.1; positive = tie.2 }) (record { atom = Atom.digit name st.is.bit; positive = tie.2 })
    second_means = means_atom c.atoms.keys (record { variable = tie.1; positive = tie.2 }) (Bit name st.is.bit) st.is.is_bit

    only : (l : Signed) → has (tie_literals tie.0 tie.1 tie.2) l ≡ true → (l ≡ no (record { 0 = 0 })) ⊎ ((0 < l.variable.0) × Contains (digit_literals name st.is.solvable st.is.bit tie.2) (meaning (origin c.atoms.keys) l))
    only l h = elim (has-cons (no tie.0) ((let m : Signed = record { variable = tie.1; positive = tie.2 } in m) ∷ []) l h) [
      | inl e ↦ inr (subst (λ (x : Signed). (0 < x.variable.0) × Contains (digit_literals name st.is.solvable st.is.bit tie.2) (meaning (origin c.atoms.keys) x)) e
          (first_means.0, contains_first (meaning (origin c.atoms.keys) (no tie.0)) (minus (Atom.solvable st.is.solvable)) ((let m : Literal (Atom N S) = record { atom = Atom.digit name st.is.bit; positive = tie.2 } in m) ∷ []) first_means.1))
      | inr g ↦ elim (has-cons (record { variable = tie.1; positive = tie.2 }) [] l g) [
        | inl e ↦ inr (subst (λ (x : Signed). (0 < x.variable.0) × Contains (digit_literals name st.is.solvable st.is.bit tie.2) (meaning (origin c.atoms.keys) x)) e (
          second_means.0,
          contains_later (meaning (origin c.atoms.keys) (record { variable = tie.1; positive = tie.2 })) (minus (Atom.solvable st.is.solvable)) ((let m : Literal (Atom N S) = record { atom = Atom.digit name st.is.bit; positive = tie.2 } in m) ∷ [])
              (contains_first (meaning (origin c.atoms.keys) (record { variable = tie.1; positive = tie.2 })) (record { atom = Atom.digit name st.is.bit; positive = tie.2 }) [] second_means.1),
        ))
        | inr none ↦ absurd (both_ways false refl none)
      ]
    ]

    each : (m : Literal (Atom N S)) → Contains (digit_literals name st.is.solvable st.is.bit tie.2) m → (l : Signed) × (has (tie_literals tie.0 tie.1 tie.2) l ≡ true) × Means (origin c.atoms.keys) l m
    each m h = elim (contains_cases m (minus (Atom.solvable st.is.solvable)) ((let x : Literal (Atom N S) = record { atom = Atom.digit name st.is.bit; positive = tie.2 } in x) ∷ []) h) [
      | inl e ↦ (no tie.0, has_here (no tie.0) ((let x : Signed = record { variable = tie.1; positive = tie.2 } in x) ∷ []) (no tie.0) refl, (first_means.0, e ∙ first_means.1))
      | inr g ↦ (
        record { variable = tie.1; positive = tie.2 },
        has_later (no tie.0) ((let x : Signed = record { variable = tie.1; positive = tie.2 } in x) ∷ []) (record { variable = tie.1; positive = tie.2 }) (has_here (record { variable = tie.1; positive = tie.2 }) [] (record { variable = tie.1; positive = tie.2 }) refl),
        (second_means.0, contains_one m (record { atom = Atom.digit name st.is.bit; positive = tie.2 }) g ∙ second_means.1),
      )
    ]

same_or_other : (k n : ℕ) → (k ≡ n) ⊎ (k ≡ n → ⊥)
same_or_other k n = elim (cases_Bool (k == n)) [ inl e ↦ inl (eqb-true k n e) | inr e ↦ inr (λ same. both_ways _ e (eq-eqb k n same)) ]

module _ {N S : Type 0} (name : N) (s : S) (v : VariableId) (place : ℕ) (r r1 r2 : Registry N) (t u : Tracking VariableId) (a b c : SolverState N S)
    (tied : AreTied r a) (places : PlacesName name place r r1) (gives : Gives (Solvable s) v a b) (tracks : Tracks name v t b u c) (there : slice_get r1.trackers.items place ≡ Some t)
    (names : r2.names ≡ r1.names) (here : slice_get r2.trackers.items place ≡ Some u) (others : (k : ℕ) → (k ≡ place → ⊥) → slice_get r2.trackers.items k ≡ slice_get r1.trackers.items k) (long : length r2.trackers.items ≡ length r1.trackers.items)
    (members : r2.members ≡ r1.members) (waits : r2.tied ≡ r1.tied) (many : r2.many ≡ r1.many) (given : IsRegistered r a name s) where
  named : (k : ℕ) (m : N) → slice_get r2.names.keys k ≡ Some m → slice_get r1.names.keys k ≡ Some m
  named k m h = subst (λ n. slice_get n.keys k ≡ Some m) names h

  tied_before : AreTied r1 b
  tied_before = named_tied name place r r1 a tied places b gives.grows (digits_same a b gives.kinds)

  -- at the package's place is its new tracker
  at_place : (m : N) (w : Tracking VariableId) → slice_get r2.names.keys place ≡ Some m → slice_get r2.trackers.items place ≡ Some w → (m ≡ name) × (w ≡ u)
  at_place m w n h = (let x : slice_get r1.names.keys place ≡ Some m = named place m n in let y : slice_get r1.names.keys place ≡ Some name = places.present in cc, cc)

  renamed : (k : ℕ) (m : N) → slice_get r1.names.keys k ≡ Some m → slice_get r2.names.keys k ≡ Some m
  renamed k m h = subst (λ n. slice_get n.keys k ≡ Some m) (sym names) h

  -- places of tracked solvables stay
  placed_after : (m : N) (at : ℕ) (x : S) → IsPlaced r1 b m at x → IsPlaced r2 c m at x
  placed_after m at x h = elim (same_or_other h.number place) [
    | inl e ↦
        let f : slice_get r1.trackers.items place ≡ Some h.tracker = subst (λ j. slice_get r1.trackers.items j ≡ Some h.tracker) e h.tracked in
        let one : h.tracker ≡ t = cc in
        record {
          number = place;
          tracker = u;
          variable = h.variable;
          named = renamed place m (subst (λ j. slice_get r1.names.keys j ≡ Some m) e h.named);
          tracked = here;
          present = prefix_get t.variables u.variables at h.variable tracks.prefix (subst (λ (z : Tracking VariableId). slice_get z.variables at ≡ Some h.variable) one h.present);
          means = represents_grow b c h.variable (Solvable x) tracks.grows h.means;
        }
    | inr other ↦ record {
      number = h.number;
      tracker = h.tracker;
      variable = h.variable;
      named = renamed h.number m h.named;
      tracked = others h.number other ∙ h.tracked;
      present = h.present;
      means = represents_grow b c h.variable (Solvable x) tracks.grows h.means;
    }
  ]

  -- a new digit is one of a place of the package's tracker
  placed_new : (n : ℕ) (m : N) (x : S) (at bit : ℕ) → length b.search.clauses ≤ n → n < length c.search.clauses → kind_at c.kinds.items n ≡ Some (Digit m x at bit) → IsPlaced r2 c m at x
  placed_new n m x at bit low high h =
      let same : length b.search.clauses ≡ length a.search.clauses = ap length gives.clauses in
      let (k, tie, present, st) = tracks.digits n low high in
      let kinds : kind_at c.kinds.items n ≡ Some (Digit name st.is.solvable k st.is.bit) = st.kinds in
      let one : name ≡ m = cc in
      let it : st.is.solvable ≡ x = cc in
      let there : k ≡ at = cc in
      subst (λ (y : N). IsPlaced r2 c y at x) one (subst (λ (y : S). IsPlaced r2 c name at y) it (subst (λ j. IsPlaced r2 c name j st.is.solvable) there (record {
        number = place;
        tracker = u;
        variable = tie.0;
        named = renamed place name places.present;
        tracked = here;
        present = present;
        means = st.is.present;
      })))

  in_place : (w : VariableId) → Contains u.variables w → IsInTracker r2 name w
  in_place w h = record { place = place; tracker = u; named = renamed place name places.present; tracked = here; present = h }

  keeps_tracked : (w : VariableId) → Contains t.variables w → Contains u.variables w
  keeps_tracked w h = let (k, at) = contains_get t.variables w h in get_contains u.variables k w (prefix_get t.variables u.variables k w tracks.prefix at)

  placed_keeps : (m : N) (w : VariableId) → IsInTracker r m w → IsInTracker r2 m w
  placed_keeps m w h = elim (same_or_other h.place place) [
    | inl e ↦
        let n : slice_get r1.names.keys place ≡ Some m = subst (λ j. slice_get r1.names.keys j ≡ Some m) e (prefix_get r.names.keys r1.names.keys h.place m places.names h.named) in
        let y : slice_get r1.names.keys place ≡ Some name = places.present in
        let same : name ≡ m = cc in
        let f : slice_get r1.trackers.items place ≡ Some h.tracker = subst (λ j. slice_get r1.trackers.items j ≡ Some h.tracker) e (prefix_get r.trackers.items r1.trackers.items h.place h.tracker places.trackers h.tracked) in
        let one : h.tracker ≡ t = cc in
        subst (λ (z : N). IsInTracker r2 z w) same (in_place w (keeps_tracked w (subst (λ (z : Tracking VariableId). Contains z.variables w) one h.present)))
    | inr other ↦ record {
      place = h.place;
      tracker = h.tracker;
      named = renamed h.place m (prefix_get r.names.keys r1.names.keys h.place m places.names h.named);
      tracked = others h.place other ∙ prefix_get r.trackers.items r1.trackers.items h.place h.tracker places.trackers h.tracked;
      present = h.present;
    }
  ]

  placed_only : (m : N) (w : VariableId) → IsInTracker r2 m w → IsInTracker r m w ⊎ ((m ≡ name) × (w ≡ v))
  placed_only m w h = elim (same_or_other h.place place) [
    | inr other ↦ inl (old_tracked name place r r1 a tied places h.place m h.tracker w (named h.place m h.named) (sym (others h.place other) ∙ h.tracked) h.present)
    | inl e ↦
        let (x, y) = at_place m h.tracker (subst (λ j. slice_get r2.names.keys j ≡ Some m) e h.named) (subst (λ j. slice_get r2.trackers.items j ≡ Some h.tracker) e h.tracked) in
        elim (tracks.only w (subst (λ (z : Tracking VariableId). Contains z.variables w) y h.present)) [
          | inr same ↦ inr (x, same)
          | inl old ↦ inl (subst (λ (z : N). IsInTracker r z w) (sym x) (old_tracked name place r r1 a tied places place name t w places.present there old))
        ]
  ]

  -- the same are registered
  registered_after : (m : N) (w : VariableId) → IsTracked r m w → IsTracked r2 m w
  registered_after m w h = subst (λ ms. Contains ms.keys (member m w)) (sym (members ∙ places.members)) h

  registered_first : (m : N) (w : VariableId) → IsTracked r2 m w → IsTracked r m w
  registered_first m w h = subst (λ ms. Contains ms.keys (member m w)) (members ∙ places.members) h

  own_member : IsTracked r name v
  own_member =
      let (w, present, there) = given in
      let one : w ≡ v = one_variable b.atoms.keys w v (Solvable s) gives.coding.distinct (represents_grow a b w (Solvable s) gives.grows present) gives.present in
      subst (λ (z : VariableId). IsTracked r name z) one there

  tied_after : AreTied r2 c
  tied_after = record {
    each = ap (λ n. length n.keys) names ∙ places.each ∙ sym long;
    once = subst (λ n. AreOnce n.keys) (sym names) tied_before.once;
    tied = λ k m w n h. elim (same_or_other k place) [
      | inl e ↦
          let (x, y) = at_place m w (subst (λ j. slice_get r2.names.keys j ≡ Some m) e n) (subst (λ j. slice_get r2.trackers.items j ≡ Some w) e h) in
          subst (λ (z : N). IsTied z w c) (sym x) (subst (λ (z : Tracking VariableId). IsTied name z c) (sym y) tracks.tied)
      | inr other ↦ tied_grows m w b c tracks.grows (tied_before.tied k m w (named k m n) (sym (others k other) ∙ h))
    ];
    placed = λ n m x at bit h. elim (kind_split b c gives.coding tracks.coding tracks.grows n (Digit m x at bit) h) [
      | inl old ↦ placed_after m at x (tied_before.placed n m x at bit old)
      | inr (low, high) ↦ placed_new n m x at bit low high h
    ];
    within = subst (λ k. k ≤ length r2.members.keys) (sym waits) (subst (λ ms. r1.tied ≤ length ms.keys) (sym members) tied_before.within);
    solvables = λ m w h. (let (x, f) = tied_before.solvables m w (subst (λ ms. Contains ms.keys (member m w)) members h) in (x, represents_grow b c w (Solvable x) tracks.grows f));
    registered = λ m w h. elim (placed_only m w h) [
      | inl k ↦ registered_after m w (tied.registered m w k)
      | inr (is, one) ↦ subst (λ (z : N). IsTracked r2 z w) (sym is) (subst (λ (z : VariableId). IsTracked r2 name z) (sym one) (registered_after name v own_member))
    ];
    rest = λ m w h. elim (tied.rest m w (registered_first m w h)) [
      | inl k ↦ inl (placed_keeps m w k)
      | inr (inl (k, low, at)) ↦ inr (inl (k, subst (λ j. j ≤ k) (sym (waits ∙ places.waits)) low, subst (λ ms. slice_get ms.keys k ≡ Some (member m w)) (sym (members ∙ places.members)) at))
      | inr (inr k) ↦ inr (inr (subst (λ ns. Contains ns.keys m) (sym (many ∙ places.many)) k))
    ];
  }

  digit_clauses : (n : ℕ) → length a.search.clauses ≤ n → n < length c.search.clauses → IsDigitClause r2 c name n
  digit_clauses n low below =
      let same : length b.search.clauses ≡ length a.search.clauses = ap length gives.clauses in
      let (k, tie, at, st) = tracks.digits n (omega arith) below in
      record {
        solvable = st.is.solvable;
        place = k;
        bit = st.is.bit;
        few = st.is.few;
        registered = (tie.0, st.is.present, tied_after.registered name tie.0 (in_place tie.0 (get_contains u.variables k tie.0 at)));
        kinds = st.kinds;
        spells = subst (λ value. Spells (origin c.atoms.keys) (clause_at (clauses_of c.search) n) (digit_literals name st.is.solvable st.is.bit value)) st.is.value (tie_spells name k tie c n st);
      }

  pub places_is : Places name s r a r2 c
  places_is = record {
    coding = tracks.coding;
    grows = grows_then a b c gives.grows tracks.grows;
    trail = trail_then a b c gives.trail tracks.trail;
    tied = tied_after;
    members = members ∙ places.members;
    waits = waits ∙ places.waits;
    many = many ∙ places.many;
    variable = v;
    present = represents_grow b c v (Solvable s) tracks.grows gives.present;
    placed = in_place v tracks.tracked;
    keeps = placed_keeps;
    digits = digit_clauses;
  }

-- all that are registered are in their packages' trackers
abbrev pub ArePlaced : {N : Type 0} → Registry N → Type 0
ArePlaced {N} r = (name : N) (v : VariableId) → IsQueued r name v → ⊥

-- so one that is registered is in its package's tracker, unless this is marked
in_tracker : {N S : Type 0} (r : Registry N) (c : SolverState N S) (name : N) (v : VariableId) → AreTied r c → ArePlaced r → (IsMany r name → ⊥) → IsTracked r name v → IsInTracker r name v
in_tracker r c name v tied placed unmarked h = elim (tied.rest name v h) [ inl k ↦ k | inr (inl w) ↦ absurd (placed name v w) | inr (inr m) ↦ absurd (unmarked m) ]

-- Two registered solvables of one package are the same, or differ in a digit, unless it is marked.
pub by_digits : {N S : Type 0} (r : Registry N) (c : SolverState N S) (name : N) (s t : S) → AreTied r c → ArePlaced r → (IsMany r name → ⊥) → IsRegistered r c name s → IsRegistered r c name t → (s ≡ t) ⊎ DifferInDigit (rules_in c.kinds.items) s t
by_digits {N} {S} r c name s t tied placed unmarked (v, f, first) (w, g, second) =
    let h = in_tracker r c name v tied placed unmarked first in
    let k = in_tracker r c name w tied placed unmarked second in
    let same : k.place ≡ h.place = tied.once k.place h.place name k.named h.named in
    let there : slice_get r.trackers.items h.place ≡ Some k.tracker = subst (λ j. slice_get r.trackers.items j ≡ Some k.tracker) same k.tracked in
    let here : slice_get r.trackers.items h.place ≡ Some h.tracker = h.tracked in
    let one : k.tracker ≡ h.tracker = cc in
    let is = tied.tied h.place name h.tracker h.named h.tracked in
    let (i, at) = contains_get h.tracker.variables v h.present in
    let (j, bt) = contains_get h.tracker.variables w (subst (λ (z : Tracking VariableId). Contains z.variables w) one k.present) in
    let low : i < length h.tracker.variables = slice_get_within h.tracker.variables i v at in
    let high : j < length h.tracker.variables = slice_get_within h.tracker.variables j w bt in
    let room : length h.tracker.variables ≤ 2 ^ length h.tracker.helpers = is.room in
    elim (differ_in_digit (length h.tracker.helpers) i j (omega arith) (omega arith)) [
      | inl e ↦
          let aligned : slice_get h.tracker.variables j ≡ Some v = subst (λ n. slice_get h.tracker.variables n ≡ Some v) e at in
          let single : v ≡ w = cc in
          let both = represents_same c.atoms.keys w (Solvable s) (Solvable t) (subst (λ (z : VariableId). Represents c.atoms.keys z (Solvable s)) single f) g in
          inl cc
      | inr (bit, below, differs) ↦
          let other : digit j bit ≡ not (digit i bit) = sym (twice (digit j bit)) ∙ ap not (sym differs) in
          inr (bit, digit i bit, is.by_digits i bit v s at f below, subst (λ b. rules_in c.kinds.items (Rule.has_digit t bit b)) other (is.by_digits j bit w t bt g below))
    ]

module _ {N S : Type 0} (r : Registry N) (c : SolverState N S) (name : N) where
  -- a solvable that has a place is registered
  pub placed_registered : (place : ℕ) (s : S) → AreTied r c → IsPlaced r c name place s → IsRegistered r c name s
  placed_registered place s tied h = (h.variable, h.means, tied.registered name h.variable (record { place = h.number; tracker = h.tracker; named = h.named; tracked = h.tracked; present = get_contains h.tracker.variables place h.variable h.present }))

  -- the package has one tracker
  one_tracker : {p q : ℕ} {s t : S} → AreTied r c → (h : IsPlaced r c name p s) → (k : IsPlaced r c name q t) → k.tracker ≡ h.tracker
  one_tracker tied h k =
      let same : k.number ≡ h.number = tied.once k.number h.number name k.named h.named in
      let there : slice_get r.trackers.items h.number ≡ Some k.tracker = subst (λ j. slice_get r.trackers.items j ≡ Some k.tracker) same k.tracked in
      let here : slice_get r.trackers.items h.number ≡ Some h.tracker = h.tracked in
      cc

  -- a solvable has one place, and a place one solvable
  pub one_place : (p q : ℕ) (s : S) → IsCoding c → AreTied r c → IsPlaced r c name p s → IsPlaced r c name q s → p ≡ q
  one_place p q s coding tied h k =
      let one : k.tracker ≡ h.tracker = one_tracker tied h k in
      let is : k.variable ≡ h.variable = represents_once c k.variable h.variable (Solvable s) coding k.means h.means in
      let at : slice_get h.tracker.variables q ≡ Some k.variable = subst (λ (z : Tracking VariableId). slice_get z.variables q ≡ Some k.variable) one k.present in
      (tied.tied h.number name h.tracker h.named h.tracked).once p q h.variable h.present (at ∙ ap Some is)

  pub one_solvable : (p : ℕ) (s t : S) → AreTied r c → IsPlaced r c name p s → IsPlaced r c name p t → s ≡ t
  one_solvable p s t tied h k =
      let one : k.tracker ≡ h.tracker = one_tracker tied h k in
      let at : slice_get h.tracker.variables p ≡ Some k.variable = subst (λ (z : Tracking VariableId). slice_get z.variables p ≡ Some k.variable) one k.present in
      let here : slice_get h.tracker.variables p ≡ Some h.variable = h.present in
      let is : h.variable ≡ k.variable = cc in
      let both = represents_same c.atoms.keys k.variable (Solvable s) (Solvable t) (subst (λ (z : VariableId). Represents c.atoms.keys z (Solvable s)) is h.means) k.means in
      cc

-- A clause that encodes a digit spells its rule, where the package's registered solvables are the
-- package's.
pub digit_spelled : {N S : Type 0} (same : S → S → Bool) (p : Packages N S) (r : Registry N) (c : SolverState N S) (name : N) (n : ℕ) (rule : Rule N S) → ((s : S) → IsRegistered r c name s → p.package_of s ≡ name)
    → IsDigitClause r c name n → rule_at c.kinds.items n ≡ Some rule → Spells (origin c.atoms.keys) (clause_at (clauses_of c.search) n) (literals_of same p rule)
digit_spelled {N} {S} same p r c name n rule own d h =
    let kind_is = rule_at_kind c.kinds.items n (Digit name d.solvable d.place d.bit) d.kinds in
    let is : Rule.has_digit d.solvable d.bit (digit d.place d.bit) ≡ rule = cc in
    subst (λ (x : Rule N S). Spells (origin c.atoms.keys) (clause_at (clauses_of c.search) n) (literals_of same p x)) is
    (subst (λ (m : N). Spells (origin c.atoms.keys) (clause_at (clauses_of c.search) n) (digit_literals m d.solvable d.bit (digit d.place d.bit))) (sym (own d.solvable d.registered)) d.spells)
