-- Clauses that encode the digits of places.
use Rattle.std.proofs.Common.{◌≡◌, ℕ, ◌+◌, ◌<◌, ◌≤◌, inl, inr, Bool, not, List, [], ◌∷◌, ◌++◌, length, take, get_or, Some, refl, sym, ◌∙◌, ap, subst, arith}
use Rattle.std.specs.Prelude.{slice_get}
use Rattle.std.proofs.Math.Nat.{min-eq_right}
use Rattle.std.proofs.lemmas.List.{length-append, length-take-le, take_more, take_all}
use Rattle.std.proofs.lemmas.Option.{slice_get-get_or}
use Rattle.resolvo_pool_core.specs.declared.id.ClauseId.{ClauseId}
use Rattle.resolvo_pool_core.specs.declared.id.VariableId.{VariableId}
use Rattle.resolvo_store_core.specs.Signed.{Signed}
use Rattle.resolvo_store_core.specs.AtMostOne.{digit}
use Rattle.resolvo_store_core.specs.Clauses.{no}
use Rattle.resolvo_sat.specs.Clauses.{SatClause}
use Rattle.resolvo_sat.specs.Known.{clause_at}
use Rattle.resolvo_sat.specs.State.{lists, clauses_of}
use Rattle.resolvo_sat.proofs.Literals.{not_not}
use Rattle.resolvo_sat.proofs.Clauses.{length-lists}
use Rattle.resolvo_sat.proofs.StepLemmas.{lists-append, clause_at_end}
use Rattle.resolvo_sat.specs.RuleClauses.{Rule}
use Rattle.resolvo_state.specs.declared.atom.ProofAtom.TheVariants.{Solvable, Bit}
use Rattle.resolvo_state.specs.Kinds.{Kind}
use Rattle.resolvo_state.specs.Kinds.{Digit}
use Rattle.resolvo_state.specs.declared.solver_state.SolverState.{SolverState}
use Rattle.resolvo_state.specs.Atoms.{Represents, solvable_of, bit_of}
use Rattle.resolvo_state.specs.ClauseKinds.{kind_at, rules_in}
use Rattle.resolvo_state.specs.SolverState.{IsCoding, Grows, AddsRule}
use Rattle.resolvo_state.specs.Registered.{place_from, IsTie, IsTieClause, AddsTie, AddsTies}
use Rattle.resolvo_state.proofs.Positions.{get_in_prefix, get_last, get_push, get_parts, get_behind, prefix_long}
use Rattle.resolvo_state.proofs.Origins.{represents_solvable, represents_same, bit_represents}
use Rattle.resolvo_state.proofs.Rules.{rule_at_kind}
use Rattle.resolvo_state.proofs.Growth.{grows_same, grows_then, trail_same, trail_then, represents_grow, kind_grows, clause_grows, below_or_not}

abbrev Tie : Type 0
Tie = VariableId × VariableId × Bool

-- the literals of a tie
abbrev pub tie_literals : VariableId → VariableId → Bool → List Signed
tie_literals v w b = no v ∷ (let l : Signed = record { variable = w; positive = b } in l) ∷ []

pub two_literals : (a l : Signed) (v w : VariableId) (b : Bool) → a ≡ no v → l ≡ record { variable = w; positive = not (not b) } → a ∷ l ∷ [] ≡ tie_literals v w b
two_literals a l v w b is other =
    ap (λ (x : Signed). x ∷ l ∷ []) is
    ∙ ap (λ (x : Signed). no v ∷ x ∷ []) (other ∙ ap (λ c. let m : Signed = record { variable = w; positive = c } in m) (not_not b))

-- the clause of a tie was added
pub tie_added : {N S : Type 0} (name : N) (place : ℕ) (tie : Tie) (old new : SolverState N S) (s : S) (bit : ℕ) (id : ClauseId) (literals : List Signed) → IsCoding old → IsTie name old.atoms.keys place tie
    → solvable_of old.atoms.keys tie.0.0 ≡ Some s → bit_of old.atoms.keys tie.1.0 ≡ Some bit → literals ≡ tie_literals tie.0 tie.1 tie.2 → AddsRule (Digit name s place bit) literals id old new → AddsTie name place tie old new
tie_added {N} {S} name place tie old new s bit id literals coding is solvable known_bit spelled added_rule = record {
  coding = added_rule.coding;
  grows = added_rule.grows;
  trail = added_rule.trail;
  atoms = added_rule.atoms;
  added_rule = record { is = there; kinds = kind_is; clause = clause };
  one = ap length added_rule.added ∙ length-append old.search.clauses (added_rule.clause ∷ []);
}
  where
    same_bit : is.bit ≡ bit
    same_bit = let known = bit_represents old.atoms.keys tie.1 name is.bit is.is_bit in cc

    here : IsTie name old.atoms.keys place tie
    here = record {
      solvable = s;
      bit = bit;
      few = subst (λ k. k < 32) same_bit is.few;
      present = represents_solvable old.atoms.keys tie.0 s solvable;
      is_bit = subst (λ k. Represents old.atoms.keys tie.1 (Bit name k)) same_bit is.is_bit;
      value = is.value ∙ ap (digit place) same_bit;
    }

    there : IsTie name new.atoms.keys place tie
    there = record {
      solvable = s;
      bit = bit;
      few = here.few;
      present = represents_grow old new tie.0 (Solvable s) added_rule.grows here.present;
      is_bit = represents_grow old new tie.1 (Bit name bit) added_rule.grows here.is_bit;
      value = here.value;
    }

    kind_is : kind_at new.kinds.items (length old.search.clauses) ≡ Some (Digit name s place bit)
    kind_is = subst (λ k. kind_at new.kinds.items k ≡ Some (Digit name s place bit)) coding.each (subst (λ (xs : List (Kind N S)). kind_at xs (length old.kinds.items) ≡ Some (Digit name s place bit)) (sym added_rule.kinds) (get_last old.kinds.items (Digit name s place bit)))

    clause : clause_at (clauses_of new.search) (length old.search.clauses) ≡ tie_literals tie.0 tie.1 tie.2
    clause =
        ap (λ (cs : List SatClause). clause_at (lists cs) (length old.search.clauses)) added_rule.added
        ∙ ap (λ (ls : List (List Signed)). clause_at ls (length old.search.clauses)) (lists-append old.search.clauses (added_rule.clause ∷ []))
        ∙ ap (λ k. clause_at (lists old.search.clauses ++ added_rule.clause.literals ∷ []) k) (sym (length-lists old.search.clauses))
        ∙ clause_at_end (lists old.search.clauses) added_rule.clause.literals
        ∙ added_rule.literals ∙ spelled

-- a tie stays one
pub tie_grows : {N S : Type 0} (name : N) (place : ℕ) (tie : Tie) (old new : SolverState N S) → Grows old new → IsTie name old.atoms.keys place tie → IsTie name new.atoms.keys place tie
tie_grows name place tie old new grows t = record {
  solvable = t.solvable;
  bit = t.bit;
  few = t.few;
  present = represents_grow old new tie.0 (Solvable t.solvable) grows t.present;
  is_bit = represents_grow old new tie.1 (Bit name t.bit) grows t.is_bit;
  value = t.value;
}

-- and stays encoded
pub tie_stays : {N S : Type 0} (name : N) (place : ℕ) (tie : Tie) (old new : SolverState N S) (n : ℕ) → Grows old new → n < length old.search.clauses → IsTieClause name place tie old n → IsTieClause name place tie new n
unfolding tie_grows
tie_stays name place tie old new n grows below t = record {
  is = tie_grows name place tie old new grows t.is;
  kinds = kind_grows old new grows n (Digit name t.is.solvable place t.is.bit) t.kinds;
  clause = clause_grows old new grows n below ∙ t.clause;
}

pub all_none : {N S : Type 0} (name : N) (first last : ℕ) (c : SolverState N S) → IsCoding c → AddsTies name [] first last c c
all_none name first last c coding = record {
  coding = coding;
  grows = grows_same c;
  trail = trail_same c;
  atoms = refl;
  each = λ i tie h. absurd (nothing i tie h);
  only = λ n a b. absurd (omega arith);
  count = omega arith;
  same = λ e. refl;
}
  where
    nothing : (i : ℕ) (tie : Tie) → slice_get [] i ≡ Some tie → ⊥
    nothing i tie h = absurd cc

-- one tie more
pub all_more : {N S : Type 0} (name : N) (ties : List Tie) (first last : ℕ) (tie : Tie) (a b c : SolverState N S) → AddsTies name ties first last a b → AddsTie name (place_from first last (length ties)) tie b c → AddsTies name (ties ++ tie ∷ []) first last a c
all_more name ties first last tie a b c all one = record {
  coding = one.coding;
  grows = grows_then a b c all.grows one.grows;
  trail = trail_then a b c all.trail one.trail;
  atoms = one.atoms ∙ all.atoms;
  each = λ i x h. elim (get_push ties tie x i h) [
    | inl at ↦ let (n, below, t) = all.each i x at in (n, (let more : length c.search.clauses ≡ length b.search.clauses + 1 = one.one in omega arith), tie_stays name (place_from first last i) x b c n one.grows below t)
    | inr (e, is) ↦ (
      length b.search.clauses,
      (let more : length c.search.clauses ≡ length b.search.clauses + 1 = one.one in omega arith),
      subst (λ k. IsTieClause name (place_from first last k) x c (length b.search.clauses)) (sym e) (subst (λ (y : Tie). IsTieClause name (place_from first last (length ties)) y c (length b.search.clauses)) (sym is) one.added_rule),
    )
  ];
  only = λ n low below. elim (below_or_not n (length b.search.clauses)) [
    | inl old ↦ let (i, x, at, t) = all.only n low old in (i, x, get_in_prefix ties (tie ∷ []) i x at, tie_stays name (place_from first last i) x b c n one.grows old t)
    | inr past ↦
        let more : length c.search.clauses ≡ length b.search.clauses + 1 = one.one in
        let end : length b.search.clauses ≡ n = omega arith in
        (length ties, tie, get_last ties tie, subst (λ k. IsTieClause name (place_from first last (length ties)) tie c k) end one.added_rule)
  ];
  count =
      let more : length c.search.clauses ≡ length b.search.clauses + 1 = one.one in
      let far : length b.search.clauses ≡ length a.search.clauses + length ties = all.count in
      omega (arith, length-append ties (tie ∷ []));
  same = λ e. (let long : length (ties ++ tie ∷ []) ≡ 0 = ap length e in let more : length (ties ++ tie ∷ []) ≡ length ties + 1 = length-append ties (tie ∷ []) in absurd (omega arith));
}

-- the rule of a tie that a clause encodes
pub tie_rule : {N S : Type 0} (name : N) (place : ℕ) (tie : Tie) (c : SolverState N S) (n : ℕ) (s : S) (i : ℕ) → IsTieClause name place tie c n → Represents c.atoms.keys tie.0 (Solvable s) → Represents c.atoms.keys tie.1 (Bit name i) → rules_in c.kinds.items (Rule.has_digit s i tie.2)
tie_rule name place tie c n s i t present is_bit =
    let first = represents_same c.atoms.keys tie.0 (Solvable t.is.solvable) (Solvable s) t.is.present present in
    let second = represents_same c.atoms.keys tie.1 (Bit name t.is.bit) (Bit name i) t.is.is_bit is_bit in
    let one : t.is.solvable ≡ s = cc in
    let bit : t.is.bit ≡ i = cc in
    let value = sym t.is.value in
    (n, rule_at_kind c.kinds.items n (Digit name t.is.solvable place t.is.bit) t.kinds ∙ (λ j. Some (Rule.has_digit (one j) (bit j) (value j))))

-- the next tie is of the next place
pub tie_next : {N S : Type 0} (name : N) (ties : List Tie) (first last i : ℕ) (d : Tie) (place : ℕ) (a b : SolverState N S) → Grows a b → i < length ties → place ≡ place_from first last i
    → ((k : ℕ) (tie : Tie) → slice_get ties k ≡ Some tie → IsTie name a.atoms.keys (place_from first last k) tie) → IsTie name b.atoms.keys place (get_or ties i d)
tie_next name ties first last i d place a b grows below e are =
    subst (λ k. IsTie name b.atoms.keys k (get_or ties i d)) (sym e) (tie_grows name (place_from first last i) (get_or ties i d) a b grows (are i (get_or ties i d) (slice_get-get_or ties i d below)))

pub all_next : {N S : Type 0} (name : N) (ties : List Tie) (first last i : ℕ) (d : Tie) (place : ℕ) (a b c : SolverState N S) → i < length ties → place ≡ place_from first last i
    → AddsTies name (take i ties) first last a b → AddsTie name place (get_or ties i d) b c → AddsTies name (take (i + 1) ties) first last a c
all_next name ties first last i d place a b c below e all one =
    let long : length (take i ties) ≡ i = length-take-le i ties (let h : i ≤ length ties = omega arith in h) in
    let at : place ≡ place_from first last (length (take i ties)) = e ∙ ap (place_from first last) (sym long) in
    subst (λ (xs : List Tie). AddsTies name xs first last a c) (sym (take_more ties i d below))
    (all_more name (take i ties) first last (get_or ties i d) a b c all (subst (λ k. AddsTie name k (get_or ties i d) b c) at one))

pub all_done : {N S : Type 0} (name : N) (ties : List Tie) (first last i : ℕ) (a b : SolverState N S) → length ties ≤ i → AddsTies name (take i ties) first last a b → AddsTies name ties first last a b
all_done name ties first last i a b past all = subst (λ (xs : List Tie). AddsTies name xs first last a b) (take_all i ties past) all

-- ties of one place after those of the places up to it
pub all_both : {N S : Type 0} (name : N) (xs ys : List Tie) (first last : ℕ) (a b c : SolverState N S) → last ≤ first + length xs → AddsTies name xs first last a b → AddsTies name ys last last b c → AddsTies name (xs ++ ys) first last a c
all_both name xs ys first last a b c past all more = record {
  coding = more.coding;
  grows = grows_then a b c all.grows more.grows;
  trail = trail_then a b c all.trail more.trail;
  atoms = more.atoms ∙ all.atoms;
  each = λ i x h. elim (get_parts xs ys i x h) [
    | inl at ↦
        let (n, below, t) = all.each i x at in
        let long : length b.search.clauses ≤ length c.search.clauses = prefix_long b.search.clauses c.search.clauses more.grows.clauses in
        (n, omega arith, tie_stays name (place_from first last i) x b c n more.grows below t)
    | inr (j, e, at) ↦ let (n, below, t) = more.each j x at in (n, below, subst (λ k. IsTieClause name k x c n) (later j i e) t)
  ];
  only = λ n low below. elim (below_or_not n (length b.search.clauses)) [
    | inl old ↦ let (i, x, at, t) = all.only n low old in (i, x, get_in_prefix xs ys i x at, tie_stays name (place_from first last i) x b c n more.grows old t)
    | inr new ↦ let (j, x, at, t) = more.only n new below in (length xs + j, x, get_behind xs ys j x at, subst (λ k. IsTieClause name k x c n) (later j (length xs + j) refl) t)
  ];
  count =
      let first : length b.search.clauses ≡ length a.search.clauses + length xs = all.count in
      let second : length c.search.clauses ≡ length b.search.clauses + length ys = more.count in
      omega (arith, length-append xs ys);
  same = λ e. (let (p, q) = both_none xs ys e in more.same q ∙ all.same p);
}
  where
    later : (j i : ℕ) → i ≡ length xs + j → place_from last last j ≡ place_from first last i
    later j i e = min-eq_right (let h : last ≤ last + j = omega arith in h) ∙ sym (min-eq_right (let h : last ≤ first + i = omega arith in h))

    both_none : (us vs : List Tie) → us ++ vs ≡ [] → (us ≡ []) × (vs ≡ [])
    both_none [] vs e = (refl, e)
    both_none (u ∷ us) vs e = absurd cc
