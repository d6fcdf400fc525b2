-- The clauses of a place's digits, which are added together.
use Rattle.std.proofs.Common.{◌≡◌, ℕ, zero, suc, ◌+◌, ◌-◌, ◌<◌, ◌≤◌, inl, inr, Bool, true, false, ◌==◌, List, [], ◌∷◌, ◌++◌, length, map, get_or, Some, None, Vec, Global, refl, sym, ◌∙◌, ap, subst, arith}
use Rattle.std.specs.Prelude.{slice_get, IsSome}
use Rattle.std.proofs.lemmas.Bool.{both_ways}
use Rattle.std.proofs.lemmas.List.{length-append, length-map}
use Rattle.std.proofs.lemmas.Option.{slice_get-get_or, slice_get_within}
use Rattle.resolvo_pool_core.specs.Ordered.{Ordered}
use Rattle.resolvo_pool_core.specs.declared.id.VariableId.{VariableId}
use Rattle.resolvo_store_core.specs.Signed.{Signed, has}
use Rattle.resolvo_store_core.specs.AtMostOne.{ties}
use Rattle.resolvo_sat.specs.Clauses.{SatClause}
use Rattle.resolvo_sat.specs.declared.state.VariableKind.{VariableKind}
use Rattle.resolvo_sat.specs.declared.state.VariableKind.TheVariants as Kinds
use Rattle.resolvo_sat.specs.Known.{clause_at}
use Rattle.resolvo_sat.specs.State.{lists, clauses_of, count_of}
use Rattle.resolvo_sat.specs.Propagation.{IsReady, AreCovered}
use Rattle.resolvo_sat.specs.AddClause.{tie_clause, tie_clauses, AreVariables, AddsClauses}
use Rattle.resolvo_sat.proofs.Clauses.{length-lists, literals_at}
use Rattle.resolvo_sat.proofs.StepLemmas.{lists-append}
use Rattle.resolvo_sat.proofs.GrowLemmas.{clause_stays}
use Rattle.resolvo_state.specs.declared.atom.ProofAtom.{ProofAtom}
use Rattle.resolvo_state.specs.declared.atom.ProofAtom.TheVariants.{Solvable, Bit}
use Rattle.resolvo_state.specs.declared.solver_state.SolverState.{SolverState}
use Rattle.resolvo_state.specs.Kinds.{Kind}
use Rattle.resolvo_state.specs.Kinds.{Root, Learnt, Digit}
use Rattle.resolvo_state.specs.StoredKinds.{digit_kinds}
use Rattle.resolvo_state.specs.Atoms.{kind_of, Represents}
use Rattle.resolvo_state.specs.Keys.{AreOnce}
use Rattle.resolvo_state.specs.ClauseKinds.{rule_of, kind_at}
use Rattle.resolvo_state.specs.SolverState.{IsCoding}
use Rattle.resolvo_state.specs.Registered.{AreDigits, IsTieClause, AddsTies, place_from}
use Rattle.resolvo_state.proofs.Positions.{get_in_prefix, get_old, get_parts, get_behind, get_below, prefix_equal}
use Rattle.resolvo_state.proofs.Clauses.{has_before}
use Rattle.resolvo_state.proofs.Growth.{represents_in_range}
use Rattle.resolvo_state.proofs.TieLemmas.{all_none}
use Rattle.resolvo_state.proofs.NewTies.{ties_at, own_count, place_last}

abbrev Tie : Type 0
Tie = VariableId × VariableId × Bool

-- Clauses and their kinds were appended, and each kind encodes a rule.
rules_more : {N S : Type 0} (old new : SolverState N S) (xs : List (Kind N S)) (cs : List SatClause) → IsCoding old → IsReady new.search new.watching → AreCovered new.search new.watching → new.atoms ≡ old.atoms
    → new.search.variables ≡ old.search.variables → new.search.clauses ≡ old.search.clauses ++ cs → new.kinds.items ≡ old.kinds.items ++ xs → length xs ≡ length cs
    → ((i : ℕ) (x : Kind N S) → slice_get xs i ≡ Some x → IsSome (rule_of x)) → IsCoding new
rules_more {N} {S} old new xs cs coding ready covered atoms variables clauses kinds many encodes = record {
  ready = ready;
  covered = covered;
  variable_kinds = ap (λ (variable_kinds : Vec VariableKind Global). variable_kinds.items) variables ∙ coding.variable_kinds ∙ sym (ap (λ (a : Ordered (ProofAtom N S)). Kinds.Root ∷ map kind_of a.keys) atoms);
  each =
      let a : length new.kinds.items ≡ length old.kinds.items + length xs = ap length kinds ∙ length-append old.kinds.items xs in
      let b : length new.search.clauses ≡ length old.search.clauses + length cs = ap length clauses ∙ length-append old.search.clauses cs in
      let c : length old.kinds.items ≡ length old.search.clauses = coding.each in
      omega arith;
  distinct = subst (λ (a : Ordered (ProofAtom N S)). AreOnce a.keys) (sym atoms) coding.distinct;
  learnt = λ n held h is. (let was = old_kind n Learnt refl h in coding.learnt n held was (old_clause n held was is));
  apart = λ n held h is. (let was = old_kind n Learnt refl h in coding.apart n held was (old_clause n held was is));
  drawn = λ n held h is l a. (let was = old_kind n Learnt refl h in let (m, before, there) = coding.drawn n held was (old_clause n held was is) l a in (m, before, stays m l there));
  first = subst (λ (ks : List (Kind N S)). kind_at ks 0 ≡ Some Root) (sym kinds) (get_in_prefix old.kinds.items xs 0 Root coding.first);
  rooted = λ n h. coding.rooted n (old_kind n Root refl h);
  alone = λ l a. coding.alone l (subst (λ (ls : List Signed). has ls l ≡ true) first_stays a);
}
  where
    no_rule : (y : Kind N S) → rule_of y ≡ None → IsSome (rule_of y) → ⊥
    no_rule y none h = both_ways false refl (subst (λ o. IsSome o) none h)

    -- a kind that encodes no rule is an old one
    old_kind : (n : ℕ) (y : Kind N S) → rule_of y ≡ None → kind_at new.kinds.items n ≡ Some y → kind_at old.kinds.items n ≡ Some y
    old_kind n y none h = elim (get_parts old.kinds.items xs n y (subst (λ (ks : List (Kind N S)). slice_get ks n ≡ Some y) kinds h)) [ inl a ↦ a | inr (j, e, at) ↦ absurd (no_rule y none (encodes j y at)) ]

    old_clause : (n : ℕ) (held : SatClause) → kind_at old.kinds.items n ≡ Some Learnt → slice_get new.search.clauses n ≡ Some held → slice_get old.search.clauses n ≡ Some held
    old_clause n held was is =
        let within : n < length old.kinds.items = slice_get_within old.kinds.items n Learnt was in
        let long : length old.kinds.items ≡ length old.search.clauses = coding.each in
        get_old old.search.clauses cs n held (omega arith) (subst (λ (ds : List SatClause). slice_get ds n ≡ Some held) clauses is)

    first_stays : clause_at (clauses_of new.search) 0 ≡ clause_at (clauses_of old.search) 0
    first_stays =
        let within : 0 < length old.kinds.items = slice_get_within old.kinds.items 0 Root coding.first in
        let each : length old.kinds.items ≡ length old.search.clauses = coding.each in
        let long : length (lists old.search.clauses) ≡ length old.search.clauses = length-lists old.search.clauses in
        ap (λ (ds : List SatClause). clause_at (lists ds) 0) clauses
        ∙ ap (λ (ls : List (List Signed)). clause_at ls 0) (lists-append old.search.clauses cs)
        ∙ clause_stays (lists old.search.clauses) (lists cs) 0 (omega arith)

    stays : (m : ℕ) (l : Signed) → has (clause_at (clauses_of old.search) m) l ≡ true → has (clause_at (clauses_of new.search) m) l ≡ true
    stays m l h = subst (λ (ds : List SatClause). has (clause_at (lists ds) m) l ≡ true) (sym clauses) (has_before old.search.clauses cs m l h)

-- the kind of a digit
kind_digit : {N S : Type 0} (name : N) (s : S) (place from count i last : ℕ) → i < count → last ≡ from + i → slice_get (digit_kinds name s place from count) i ≡ Some (Digit name s place last)
kind_digit name s place from zero i last below is = absurd (omega arith)
kind_digit name s place from (suc count) zero last below is = let same : from ≡ last = omega (arith, is) in ap (λ (b : ℕ). Some (Kind.Digit name s place b)) same
kind_digit name s place from (suc count) (suc i) last below is =
    let next : last ≡ suc from + i = omega (arith, is) in
    kind_digit name s place (suc from) count i last (omega arith) next

kinds_many : {N S : Type 0} (name : N) (s : S) (place from count : ℕ) → length (digit_kinds name s place from count) ≡ count
kinds_many name s place from zero = refl
kinds_many name s place from (suc count) = ap suc (kinds_many name s place (suc from) count)

kinds_encode : {N S : Type 0} (name : N) (s : S) (place from count i : ℕ) (x : Kind N S) → slice_get (digit_kinds name s place from count) i ≡ Some x → IsSome (rule_of x)
kinds_encode name s place from zero i x h = absurd cc
kinds_encode {N} {S} name s place from (suc count) zero x h = let is : Kind.Digit name s place from ≡ x = cc in subst (λ (y : Kind N S). IsSome (rule_of y)) is refl
kinds_encode name s place from (suc count) (suc i) x h = kinds_encode name s place (suc from) count i x h

clause_behind : (xs ys : List (List Signed)) (i : ℕ) → clause_at (xs ++ ys) (length xs + i) ≡ clause_at ys i
clause_behind [] ys i = let e : 0 + i ≡ i = omega arith in ap (λ (k : ℕ). clause_at ys k) e
clause_behind (x ∷ xs) ys i = let e : length (x ∷ xs) + i ≡ suc (length xs + i) = omega arith in ap (λ (k : ℕ). clause_at (x ∷ (xs ++ ys)) k) e ∙ clause_behind xs ys i

get_map : {X Y : Type 0} (f : X → Y) (xs : List X) (i : ℕ) (x : X) → slice_get xs i ≡ Some x → slice_get (map f xs) i ≡ Some (f x)
get_map f [] i x h = absurd cc
get_map f (y ∷ xs) zero x h = let e : y ≡ x = cc in ap (λ z. Some (f z)) e
get_map f (y ∷ xs) (suc i) x h = get_map f xs i x h

-- digits are among the variables
pub digits_within : {N S : Type 0} (name : N) (c : SolverState N S) (digits : List VariableId) → IsCoding c → AreDigits name c.atoms.keys digits → AreVariables (count_of c.search) digits
digits_within name c digits coding are i below =
    let v : VariableId = get_or digits i (record { 0 = 0 }) in
    represents_in_range c v (Bit name i) coding (are i v (slice_get-get_or digits i (record { 0 = 0 }) below))

pub some_digits : (n : ℕ) → (n == 0) ≡ false → 0 < n
some_digits zero none = absurd (both_ways true none refl)
some_digits (suc n) some = omega arith

-- of no digits nothing is added
pub digits_none : {N S : Type 0} (name : N) (x : VariableId) (place : ℕ) (digits : List VariableId) (c : SolverState N S) → IsCoding c → length digits ≡ 0 → AddsTies name (ties place x digits) place place c c
digits_none name x place [] c coding none = all_none name place place c coding
digits_none name x place (v ∷ digits) c coding none = absurd (omega arith)

module _ {N S : Type 0} (name : N) (s : S) (x : VariableId) (place : ℕ) (digits : List VariableId) (old new : SolverState N S) (coding : IsCoding old) (present : Represents old.atoms.keys x (Solvable s)) (are : AreDigits name old.atoms.keys digits)
    (few : length digits ≤ 32) (all : AddsClauses (tie_clauses place x digits) old.search new.search new.watching) (atoms : new.atoms ≡ old.atoms) (kinds : new.kinds.items ≡ old.kinds.items ++ digit_kinds name s place 0 (length digits)) where
  moved : (v : VariableId) (a : ProofAtom N S) → Represents old.atoms.keys v a → Represents new.atoms.keys v a
  moved v a h = subst (λ (o : Ordered (ProofAtom N S)). Represents o.keys v a) (sym atoms) h

  -- each is encoded by a clause of its own
  tie_is : (i : ℕ) (tie : Tie) → slice_get (ties place x digits) i ≡ Some tie → IsTieClause name place tie new (length old.search.clauses + i)
  tie_is i tie h =
      let (own, at, value) = ties_at place x digits i tie h in
      let below : i < length digits = slice_get_within digits i tie.1 at in
      record {
        is = record {
          solvable = s;
          bit = i;
          few = omega arith;
          present = subst (λ (v : VariableId). Represents new.atoms.keys v (Solvable s)) (sym own) (moved x (Solvable s) present);
          is_bit = moved tie.1 (Bit name i) (are i tie.1 at);
          value = value;
        };
        kinds =
            subst (λ (ks : List (Kind N S)). slice_get ks (length old.search.clauses + i) ≡ Some (Digit name s place i)) (sym kinds)
            (subst (λ (k : ℕ). slice_get (old.kinds.items ++ digit_kinds name s place 0 (length digits)) (k + i) ≡ Some (Digit name s place i)) coding.each
            (get_behind old.kinds.items (digit_kinds name s place 0 (length digits)) i (Digit name s place i) (kind_digit name s place 0 (length digits) i i below (omega arith))));
        clause =
            ap (λ (cs : List SatClause). clause_at (lists cs) (length old.search.clauses + i)) all.added
            ∙ (ap (λ (ls : List (List Signed)). clause_at ls (length old.search.clauses + i)) (lists-append old.search.clauses (tie_clauses place x digits))
            ∙ (ap (λ (k : ℕ). clause_at (lists old.search.clauses ++ lists (tie_clauses place x digits)) (k + i)) (sym (length-lists old.search.clauses))
            ∙ (clause_behind (lists old.search.clauses) (lists (tie_clauses place x digits)) i
            ∙ literals_at (tie_clauses place x digits) i (tie_clause tie) (get_map tie_clause (ties place x digits) i tie h))));
      }

  long : length new.search.clauses ≡ length old.search.clauses + length (ties place x digits)
  long = ap length all.added ∙ (length-append old.search.clauses (tie_clauses place x digits) ∙ ap (λ (k : ℕ). length old.search.clauses + k) (length-map (ties place x digits) tie_clause))

  pub digits_added : 0 < length digits → AddsTies name (ties place x digits) place place old new
  digits_added some = record {
    coding =
        rules_more old new (digit_kinds name s place 0 (length digits)) (tie_clauses place x digits) coding all.ready all.covered atoms all.variables all.added kinds
        (kinds_many name s place 0 (length digits) ∙ (sym (own_count place x digits) ∙ sym (length-map (ties place x digits) tie_clause))) (kinds_encode name s place 0 (length digits));
    grows = record {
      atoms = prefix_equal old.atoms.keys new.atoms.keys (ap (λ (a : Ordered (ProofAtom N S)). a.keys) atoms);
      clauses = (tie_clauses place x digits, all.added);
      kinds = (digit_kinds name s place 0 (length digits), kinds);
      base_level = all.base_level;
    };
    trail = record { tracker = all.tracker };
    atoms = atoms;
    each = λ i tie h. (
      length old.search.clauses + i,
      (let within : i < length (ties place x digits) = slice_get_within (ties place x digits) i tie h in let many : length new.search.clauses ≡ length old.search.clauses + length (ties place x digits) = long in omega arith),
      subst (λ (k : ℕ). IsTieClause name k tie new (length old.search.clauses + i)) (sym (place_last place i)) (tie_is i tie h),
    );
    only = λ n low below.
        (let many : length new.search.clauses ≡ length old.search.clauses + length (ties place x digits) = long in
        let i : ℕ = n - length old.search.clauses in
        let here : length old.search.clauses + i ≡ n = omega arith in
        let (tie, at) = get_below (ties place x digits) i (omega arith) in
        (i, tie, at, subst (λ (k : ℕ). IsTieClause name (place_from place place i) tie new k) here (subst (λ (k : ℕ). IsTieClause name k tie new (length old.search.clauses + i)) (sym (place_last place i)) (tie_is i tie at))));
    count = long;
    same = λ e. (let none : length (ties place x digits) ≡ 0 = ap length e in let many : length (ties place x digits) ≡ length digits = own_count place x digits in absurd (omega arith));
  }
