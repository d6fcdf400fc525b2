-- A new clause keeps the watches right.
use Rattle.std.proofs.Common.{◌≡◌, ℕ, zero, suc, ◌+◌, ◌<◌, ◌≤◌, ◌⊎◌, inl, inr, Bool, true, false, not, ◌==◌, ◌&&◌, List, [], ◌∷◌, ◌++◌, get_or, take, reverse, length, Option, Some, None, Vec, Global, refl, sym, ◌∙◌, ap, subst, arith, eqb, eqb-true, eq-eqb}
use Rattle.std.specs.Prelude.{slice_index_or, is_none, IfSome, Contains}
use Rattle.std.proofs.lemmas.Bool.{both_ways, cases_Bool}
use Rattle.std.proofs.lemmas.List.{length-append}
use Rattle.resolvo_pool_core.specs.declared.id.ClauseId.{ClauseId}
use Rattle.resolvo_store_core.specs.Signed.{Signed, same_literal, has}
use Rattle.resolvo_store_core.specs.Clauses.{yes, root}
use Rattle.resolvo_store_core.specs.Trail.{Tracked}
use Rattle.resolvo_store_core.specs.Watches.{watchers, pair_at, count, one_if, IsWatched}
use Rattle.resolvo_store_core.specs.declared.watch_map.WatchMap.{WatchMap}
use Rattle.resolvo_store_core.specs.declared.watched_literals.WatchedLiterals.{WatchedLiterals}
use Rattle.resolvo_store_core.proofs.Watched.{pair_at_end, pair_before_end, started_well, unwatched_well}
use Rattle.resolvo_store_core.proofs.ClauseLists.{count-append, one_same}
use Rattle.resolvo_sat.specs.Clauses.{SatClause}
use Rattle.resolvo_sat.specs.declared.state.SatState.{SatState}
use Rattle.resolvo_sat.specs.declared.watch_lists.WatchLists.{WatchLists}
use Rattle.resolvo_sat.specs.declared.watch_lists.UnitClause.{UnitClause}
use Rattle.resolvo_sat.specs.Known.{clause_at}
use Rattle.resolvo_sat.specs.Entries.{made_true, before}
use Rattle.resolvo_sat.specs.State.{clauses_of, history, lists}
use Rattle.resolvo_sat.specs.Steps.{Adds}
use Rattle.resolvo_sat.specs.Propagation.{IsReady, GuardsTo, IsUnit, IsPending, AreCovered, IsOwnPair, IsOnly, AreUnits, HasUnit}
use Rattle.resolvo_sat.specs.Pending.{AreOpen}
use Rattle.resolvo_sat.specs.AddClause.{AreBoth, IsEither, IsBeside, IsBesideSoFar, AreFirst, BeginsIn, with_last, Begins, NotesPending, AddsClause}
use Rattle.resolvo_sat.proofs.Literals.{has-cons, has_here, has_later, has_more}
use Rattle.resolvo_sat.proofs.Trails.{clause_at_kept}
use Rattle.resolvo_sat.proofs.Clauses.{length-lists}
use Rattle.resolvo_sat.proofs.StepLemmas.{lists-append, clause_at_end}
use Rattle.resolvo_sat.proofs.Guards.{open_guards}
use Rattle.resolvo_sat.proofs.DoneLemmas.{FirstSame, first_more, not_none, notes_same, done_kept}

pub has_contained : (xs : List Signed) (l : Signed) → Contains xs l → has xs l ≡ true
has_contained [] l (k, below, at) = absurd (omega arith)
has_contained (x ∷ xs) l (zero, below, at) = has_here x xs l at
has_contained (x ∷ xs) l (suc k, below, at) = has_later x xs l (has_contained xs l (k, omega arith, at))

pub contained_has : (xs : List Signed) (l : Signed) → has xs l ≡ true → Contains xs l
contained_has [] l h = absurd (both_ways false refl h)
contained_has (x ∷ xs) l h = elim (has-cons x xs l h) [
  | inl e ↦ (0, omega arith, e)
  | inr e ↦ let (k, below, at) = contained_has xs l e in (suc k, omega arith, at)
]

pub first_has : (literals : List Signed) (d : Signed) → 0 < length literals → has literals (slice_index_or literals 0 d) ≡ true
first_has [] d some = absurd (omega arith)
first_has (x ∷ xs) d some = has_here x xs x refl

units_kept : (cs ds : List (List Signed)) (xs : List UnitClause) → AreUnits cs xs → AreUnits (cs ++ ds) xs
units_kept cs ds [] a = tt
units_kept cs ds (x ∷ xs) a = (
  (let long : length (cs ++ ds) ≡ length cs + length ds = length-append cs ds in let below : x.clause.0 < length cs = a.0 in omega arith),
  subst (λ (c : List Signed). IsOnly c x.literal) (sym (clause_at_kept cs ds x.clause.0 x.literal a.1.present)) a.1,
  units_kept cs ds xs a.2,
)

units_push : (cs : List (List Signed)) (xs : List UnitClause) (x : UnitClause) → AreUnits cs xs → x.clause.0 < length cs → IsOnly (clause_at cs x.clause.0) x.literal → AreUnits cs (xs ++ x ∷ [])
units_push cs [] x a below only = (below, only, tt)
units_push cs (y ∷ ys) x a below only = (a.0, a.1, units_push cs ys x a.2 below only)

units_with : (cs : List (List Signed)) (b : Bool) (x : UnitClause) (xs : List UnitClause) → AreUnits cs xs → (b ≡ true → (x.clause.0 < length cs) × IsOnly (clause_at cs x.clause.0) x.literal) → AreUnits cs (with_last b x xs)
units_with cs true x xs a only = units_push cs xs x a (only refl).0 (only refl).1
units_with cs false x xs a only = a

has_unit_left : (xs : List UnitClause) (x y : UnitClause) → HasUnit xs y → HasUnit (xs ++ x ∷ []) y
has_unit_left [] x y h = absurd h
has_unit_left (z ∷ zs) x y (inl e) = inl e
has_unit_left (z ∷ zs) x y (inr e) = inr (has_unit_left zs x y e)

has_unit_end : (xs : List UnitClause) (x : UnitClause) → HasUnit (xs ++ x ∷ []) x
has_unit_end [] x = inl refl
has_unit_end (y ∷ ys) x = inr (has_unit_end ys x)

unit_stays : (b : Bool) (x y : UnitClause) (xs : List UnitClause) → HasUnit xs y → HasUnit (with_last b x xs) y
unit_stays true x y xs h = has_unit_left xs x y h
unit_stays false x y xs h = h

unit_listed : (b : Bool) (x : UnitClause) (rules learnt : List UnitClause) → HasUnit (with_last b x rules) x ⊎ HasUnit (with_last (not b) x learnt) x
unit_listed true x rules learnt = inl (has_unit_end rules x)
unit_listed false x rules learnt = inr (has_unit_end learnt x)

cases_number : (a b : ℕ) → (a ≡ b) ⊎ (a ≡ b → ⊥)
cases_number a b = elim (cases_Bool (a == b)) [ inl q ↦ inl (eqb-true a b q) | inr q ↦ inr (λ e. both_ways (a == b) q (eq-eqb a b e)) ]

below_other : (n a b : ℕ) → n < b → b ≡ a + 1 → (n ≡ a → ⊥) → n < a
below_other n a b below long differ = elim (cases_number n a) [ inl f ↦ absurd (differ f) | inr f ↦ grind (arith, f) ]

-- how often a clause is in a list with one clause more
pub count_push : (n : ℕ) (xs : List ClauseId) (c : ClauseId) → count n (xs ++ c ∷ []) ≡ count n xs + one_if (eqb n c.0)
count_push n xs c = let all : count n (xs ++ c ∷ []) ≡ count n xs + count n (c ∷ []) = count-append n xs (c ∷ []) in omega arith

pending_last : (c : ClauseId) (xs : List ClauseId) → 0 < count c.0 (xs ++ c ∷ [])
pending_last c xs =
    let all : count c.0 (xs ++ c ∷ []) ≡ count c.0 xs + one_if (eqb c.0 c.0) = count_push c.0 xs c in
    let one : one_if (eqb c.0 c.0) ≡ 1 = one_same c.0 in
    omega arith

-- ---- the literals that a new clause watches

-- all of the clause was looked at
pub beside_found : (clause part : List Signed) (l : Signed) (o : Option Signed) → part ≡ clause → IsBesideSoFar clause part l o → IsBeside clause l o
beside_found clause part l None whole far = subst (λ (ms : List Signed). (m : Signed) → has ms m ≡ true → m ≡ l) whole far
beside_found clause part l (Some k) whole far = far

has_read : (xs : List Signed) (i : ℕ) (d : Signed) → i < length xs → has xs (get_or xs i d) ≡ true
has_read [] i d below = absurd (omega arith)
has_read (x ∷ xs) zero d below = has_here x xs x refl
has_read (x ∷ xs) (suc i) d below = has_later x xs (get_or xs i d) (has_read xs i d (omega arith))

-- one literal more, which is the one beside
pub beside_past : (xs : List Signed) (i : ℕ) (l d : Signed) (o : Option Signed) → i < length xs → get_or xs i d ≡ l → IsBesideSoFar xs (take i xs) l o → IsBesideSoFar xs (take (i + 1) xs) l o
beside_past xs i l d None below is far = λ m h. elim (has_more xs i d m below h) [ inl a ↦ far m a | inr e ↦ sym e ∙ is ]
beside_past xs i l d (Some k) below is far = far

-- one literal more, which is another one
pub beside_more : (xs : List Signed) (i : ℕ) (l d b : Signed) (o : Option Signed) → i < length xs → same_literal l (get_or xs i d) ≡ false → IsEither o (get_or xs i d) b → IsBesideSoFar xs (take i xs) l o → IsBesideSoFar xs (take (i + 1) xs) l (Some b)
beside_more xs i l d b None below other is far = (
  subst (λ (m : Signed). has xs m ≡ true) (sym is) (has_read xs i d below),
  subst (λ (m : Signed). same_literal l m ≡ false) (sym is) other,
)
beside_more xs i l d b (Some k) below other (inl is) far = (
  subst (λ (m : Signed). has xs m ≡ true) (sym is) (has_read xs i d below),
  subst (λ (m : Signed). same_literal l m ≡ false) (sym is) other,
)
beside_more xs i l d b (Some k) below other (inr is) far = (
  subst (λ (m : Signed). has xs m ≡ true) (sym is) far.0,
  subst (λ (m : Signed). same_literal l m ≡ false) (sym is) far.1,
)

one_of : (a b m : Signed) → a ≡ b → has (a ∷ b ∷ []) m ≡ true → m ≡ a
one_of a b m same h = elim (has-cons a (b ∷ []) m h) [
  | inl e ↦ sym e
  | inr later ↦ elim (has-cons b [] m later) [ inl e ↦ sym e ∙ sym same | inr e ↦ absurd (both_ways false refl e) ]
]

-- a clause of two literals watches both, unless they are equal
pub two_first : (a b l : Signed) (o : Option WatchedLiterals) → has (a ∷ b ∷ []) l ≡ true → AreBoth a b o → AreFirst (a ∷ b ∷ []) l o
two_first a b l None present same = record { present = present; alone = λ m h. one_of a b m same h ∙ sym (one_of a b l same present) }
two_first a b l (Some p) present (first, second, differ) = (
  record {
    first = subst (λ (m : Signed). has (a ∷ b ∷ []) m ≡ true) (sym first) (has_here a (b ∷ []) a refl);
    second = subst (λ (m : Signed). has (a ∷ b ∷ []) m ≡ true) (sym second) (has_later a (b ∷ []) b (has_here b [] b refl));
  },
  subst (λ (m : Signed). same_literal m p.second ≡ false) (sym first) (subst (λ (m : Signed). same_literal a m ≡ false) (sym second) differ),
)

-- what a clause watches differs
pub first_differ : (clause : List Signed) (l : Signed) (o : Option WatchedLiterals) → AreFirst clause l o → IfSome o (λ p. same_literal p.first p.second ≡ false)
first_differ clause l None first = tt
first_differ clause l (Some p) first = first.1

own_of : (clause : List Signed) (l : Signed) (o : Option WatchedLiterals) (q : WatchedLiterals) → AreFirst clause l o → o ≡ Some q → IsOwnPair clause q
own_of clause l None q first is = absurd (not_none q is)
own_of clause l (Some p) q first is = let same : p ≡ q = cc in subst (IsOwnPair clause) same first.0

-- ---- a new clause

-- it is once in each of its lists
began_fit : (id : ClauseId) (l : Signed) (clause : List Signed) (o : Option WatchedLiterals) (v u : WatchLists) → IsWatched v.watched.items (watchers v.watches) → id.0 ≡ length v.watched.items → AreFirst clause l o → BeginsIn id o v u → IsWatched (v.watched.items ++ o ∷ []) (watchers u.watches)
began_fit id l clause None v u well number first same = subst (λ (m : WatchMap). IsWatched (v.watched.items ++ None ∷ []) (watchers m)) (sym same) (unwatched_well v.watched.items (watchers v.watches) well)
began_fit id l clause (Some p) v u well number first starts = started_well v.watched.items (watchers v.watches) (watchers u.watches) id p number well first.1 starts

-- a clause that is listed as a unit clause is one
only_if : (literals : List Signed) (l : Signed) (o : Option WatchedLiterals) (wanted : Bool) → AreFirst literals l o → (is_none o && wanted) ≡ true → IsOnly literals l
only_if literals l None wanted first e = first
only_if literals l (Some p) wanted first e = absurd (both_ways false refl e)

pub clause_added : (c : SatClause) (id : ClauseId) (literal : Signed) (is_rule : Bool) (o : Option WatchedLiterals) (s t : SatState) (v u w : WatchLists) → IsReady s v → AreCovered s v → AreFirst c.literals literal o
    → Adds c id s t → NotesPending id o t v u → Begins (record { clause = id; literal = literal }) o is_rule u w → AddsClause c id s v t w
clause_added c id literal is_rule o s t v u w ready covers first adds noted begins = record {
  adds = adds;
  ready = record {
    state = adds.state;
    fits = record {
      fit = subst (λ (ps : List (Option WatchedLiterals)). IsWatched ps (watchers w.watches)) (sym begun.watched) (began_fit id literal c.literals o (record v { pending = u.pending }) w ready.fits.fit at_end first begun.watches);
      each = ap length begun.watched ∙ length-append v.watched.items (o ∷ []) ∙ ap (λ n. n + 1) ready.fits.each ∙ sym long;
      own = λ n q is. owns n q is (cases_number n (length v.watched.items));
    };
    qhead =
        let low : s.qhead ≤ length s.tracker.trail = ready.qhead in
        let qhead : t.qhead ≡ s.qhead = adds.qhead in
        let same : length t.tracker.trail ≡ length s.tracker.trail = ap (λ (x : Tracked). length x.trail) adds.tracker in
        omega arith;
    walked = λ n q is out. walks n q is out (cases_number n (length v.watched.items));
    done = done_kept s t v w (notes_same v w begun.units_done)
        (subst (FirstSame v.assertions.items) (sym begun.assertions) (first_more (is_none o && is_rule) x v.assertions.items))
        (subst (FirstSame v.learnt.items) (sym begun.learnt) (first_more (is_none o && not is_rule) x v.learnt.items))
        (λ d all below. (let qhead : t.qhead ≡ s.qhead = adds.qhead in (omega arith, ap (λ (y : Tracked). before y.trail d.entries) adds.tracker)))
        ready.done;
  };
  covered = record {
    assertions = subst (AreUnits (clauses_of t)) (sym begun.assertions) (units_with (clauses_of t) (is_none o && is_rule) x v.assertions.items (kept v.assertions.items covers.assertions) (only is_rule));
    learnt = subst (AreUnits (clauses_of t)) (sym begun.learnt) (units_with (clauses_of t) (is_none o && not is_rule) x v.learnt.items (kept v.learnt.items covers.learnt) (only (not is_rule)));
    covered = λ n below none. covered n below none (cases_number n (length v.watched.items));
    first = subst (λ (l : List Signed). has l (yes root) ≡ true) (sym (ap (λ (cs : List (List Signed)). clause_at cs 0) added ∙ clause_at_kept (clauses_of s) (c.literals ∷ []) 0 (yes root) covers.first)) covers.first;
  };
}
  where
    x : UnitClause
    x = record { clause = id; literal = literal }

    begun : Begins x o is_rule (record v { pending = u.pending }) w
    begun = subst (λ (y : WatchLists). Begins x o is_rule y w) noted.rest begins

    added : clauses_of t ≡ clauses_of s ++ c.literals ∷ []
    added = ap lists adds.added ∙ lists-append s.clauses (c ∷ [])

    at_end : id.0 ≡ length v.watched.items
    at_end = adds.number ∙ sym ready.fits.each

    long : length t.clauses ≡ length s.clauses + 1
    long = ap length adds.added ∙ length-append s.clauses (c ∷ [])

    last_clause : clause_at (clauses_of t) id.0 ≡ c.literals
    last_clause = ap (λ (cs : List (List Signed)). clause_at cs id.0) added ∙ ap (clause_at (clauses_of s ++ c.literals ∷ [])) (adds.number ∙ sym (length-lists s.clauses)) ∙ clause_at_end (clauses_of s) c.literals

    below_end : id.0 < length (clauses_of t)
    below_end =
        let same : length (clauses_of t) ≡ length t.clauses = length-lists t.clauses in
        let number : id.0 ≡ length s.clauses = adds.number in
        let more : length t.clauses ≡ length s.clauses + 1 = long in
        omega arith

    only : (wanted : Bool) → (is_none o && wanted) ≡ true → (id.0 < length (clauses_of t)) × IsOnly (clause_at (clauses_of t) id.0) literal
    only wanted e = (below_end, subst (λ (l : List Signed). IsOnly l literal) (sym last_clause) (only_if c.literals literal o wanted first e))

    kept : (xs : List UnitClause) → AreUnits (clauses_of s) xs → AreUnits (clauses_of t) xs
    kept xs a = subst (λ (cs : List (List Signed)). AreUnits cs xs) (sym added) (units_kept (clauses_of s) (c.literals ∷ []) xs a)

    same_clause : (n : ℕ) (l : Signed) → has (clause_at (clauses_of s) n) l ≡ true → clause_at (clauses_of t) n ≡ clause_at (clauses_of s) n
    same_clause n l h = ap (λ (cs : List (List Signed)). clause_at cs n) added ∙ clause_at_kept (clauses_of s) (c.literals ∷ []) n l h

    -- the new clause's pair, and those of the others
    newest_pair : (n : ℕ) → n ≡ length v.watched.items → pair_at w.watched.items n ≡ o
    newest_pair n e = ap (λ (ps : List (Option WatchedLiterals)). pair_at ps n) begun.watched ∙ ap (pair_at (v.watched.items ++ o ∷ [])) e ∙ pair_at_end v.watched.items o

    older_pair : (n : ℕ) → (n ≡ length v.watched.items → ⊥) → pair_at w.watched.items n ≡ pair_at v.watched.items n
    older_pair n e = ap (λ (ps : List (Option WatchedLiterals)). pair_at ps n) begun.watched ∙ pair_before_end v.watched.items o n e

    owns : (n : ℕ) (q : WatchedLiterals) → pair_at w.watched.items n ≡ Some q → (n ≡ length v.watched.items) ⊎ (n ≡ length v.watched.items → ⊥) → IsOwnPair (clause_at (clauses_of t) n) q
    owns n q is (inl e) =
        subst (λ (k : ℕ). IsOwnPair (clause_at (clauses_of t) k) q) (at_end ∙ sym e)
        (subst (λ (l : List Signed). IsOwnPair l q) (sym last_clause) (own_of c.literals literal o q first (sym (newest_pair n e) ∙ is)))
    owns n q is (inr e) =
        let own : IsOwnPair (clause_at (clauses_of s) n) q = ready.fits.own n q (sym (older_pair n e) ∙ is) in
        subst (λ (l : List Signed). IsOwnPair l q) (sym (same_clause n q.first own.first)) own

    -- what was pending is so still
    pending_kept : (n : ℕ) → IsPending n v → IsPending n w
    pending_kept n h =
        subst (λ (cs : Vec ClauseId Global). 0 < count n cs.items) (sym begun.pending)
        (elim noted.listed [
          | inl same ↦ subst (λ (cs : Vec ClauseId Global). 0 < count n cs.items) (sym same.0) h
          | inr pushed ↦ (let all : count n u.pending.items ≡ count n v.pending.items + one_if (eqb n id.0) = ap (count n) pushed ∙ count_push n v.pending.items id in omega arith)
        ])

    walks : (n : ℕ) (q : WatchedLiterals) → pair_at w.watched.items n ≡ Some q → (IsPending n w → ⊥) → (n ≡ length v.watched.items) ⊎ (n ≡ length v.watched.items → ⊥) → GuardsTo t.guard_level (before t.tracker.trail t.qhead) (history t) q
    walks n q is out (inl e) = elim noted.listed [
      | inl same ↦ open_guards t t.guard_level t.qhead q (subst (λ (p : Option WatchedLiterals). IfSome p (AreOpen (made_true (history t)))) (sym (newest_pair n e) ∙ is) same.1)
      | inr pushed ↦ absurd (out (subst (λ (k : ℕ). IsPending k w) (at_end ∙ sym e) (subst (λ (cs : Vec ClauseId Global). 0 < count id.0 cs.items) (sym begun.pending) (subst (λ (cs : List ClauseId). 0 < count id.0 cs) (sym pushed) (pending_last id v.pending.items)))))
    ]
    walks n q is out (inr e) =
        subst (λ (y : Tracked). GuardsTo t.guard_level (before y.trail t.qhead) (reverse y.trail) q) (sym adds.tracker)
        (subst (λ (g : ℕ). GuardsTo g (before s.tracker.trail t.qhead) (history s) q) (sym adds.guard)
        (subst (λ (k : ℕ). GuardsTo s.guard_level (before s.tracker.trail k) (history s) q) (sym adds.qhead) (ready.walked n q (sym (older_pair n e) ∙ is) (λ h. out (pending_kept n h)))))

    -- a clause that watches nothing is listed as a unit clause
    newest : o ≡ None → IsUnit id.0 w
    newest is = (
      x,
      refl,
      elim (unit_listed is_rule x v.assertions.items v.learnt.items) [
        | inl h ↦ inl (subst (λ (xs : List UnitClause). HasUnit xs x) (sym (begun.assertions ∙ ap (λ (p : Option WatchedLiterals). with_last (is_none p && is_rule) x v.assertions.items) is)) h)
        | inr h ↦ inr (subst (λ (xs : List UnitClause). HasUnit xs x) (sym (begun.learnt ∙ ap (λ (p : Option WatchedLiterals). with_last (is_none p && not is_rule) x v.learnt.items) is)) h)
      ],
    )

    unit_kept : (n : ℕ) → IsUnit n v → IsUnit n w
    unit_kept n (y, number, present) = (
      y,
      number,
      elim present [
        | inl h ↦ inl (subst (λ (xs : List UnitClause). HasUnit xs y) (sym begun.assertions) (unit_stays (is_none o && is_rule) x y v.assertions.items h))
        | inr h ↦ inr (subst (λ (xs : List UnitClause). HasUnit xs y) (sym begun.learnt) (unit_stays (is_none o && not is_rule) x y v.learnt.items h))
      ],
    )

    covered : (n : ℕ) → n < length t.clauses → pair_at w.watched.items n ≡ None → (n ≡ length v.watched.items) ⊎ (n ≡ length v.watched.items → ⊥) → (n ≡ 0) ⊎ IsUnit n w
    covered n below none (inl e) = inr (subst (λ (k : ℕ). IsUnit k w) (at_end ∙ sym e) (newest (sym (newest_pair n e) ∙ none)))
    covered n below none (inr e) =
        let within : n < length s.clauses = below_other n (length s.clauses) (length t.clauses) below long (λ f. e (f ∙ sym ready.fits.each)) in
        elim (covers.covered n within (sym (older_pair n e) ∙ none)) [
          | inl z ↦ inl z
          | inr is_unit ↦ inr (unit_kept n is_unit)
        ]
