-- Propagation that went to the trail's end is complete.
use Rattle.std.proofs.Common.{◌≡◌, ℕ, zero, suc, ◌+◌, ◌-◌, ◌<◌, ◌≤◌, ◌⊎◌, inl, inr, true, false, List, [], ◌∷◌, ◌++◌, take, drop, reverse, length, get_or, Vec, Global, Option, Some, None, refl, sym, ◌∙◌, ap, subst, arith}
use Rattle.std.proofs.lemmas.Bool.{cases_Bool}
use Rattle.std.proofs.lemmas.List.{take_more, take_all, take_rest, length-append, length-reverse}
use Rattle.resolvo_pool_core.specs.declared.id.ClauseId.{ClauseId}
use Rattle.resolvo_store_core.specs.Signed.{Signed, negation, same_literal, has}
use Rattle.resolvo_store_core.specs.Clauses.{yes, root}
use Rattle.resolvo_store_core.specs.Watches.{pair_at}
use Rattle.resolvo_store_core.specs.declared.watched_literals.WatchedLiterals.{WatchedLiterals}
use Rattle.resolvo_store_core.specs.declared.decision.Entry.{Entry}
use Rattle.resolvo_sat.specs.declared.state.SatState.{SatState}
use Rattle.resolvo_sat.specs.Clauses.{SatClause}
use Rattle.resolvo_sat.specs.declared.state.VariableKind.{VariableKind}
use Rattle.resolvo_sat.specs.declared.watch_lists.WatchLists.{WatchLists}
use Rattle.resolvo_sat.specs.declared.watch_lists.UnitClause.{UnitClause}
use Rattle.resolvo_sat.specs.declared.watch_lists.UnitsDone.{UnitsDone}
use Rattle.resolvo_sat.specs.Known.{clause_at}
use Rattle.resolvo_sat.specs.Entries.{made_true, before}
use Rattle.resolvo_sat.specs.State.{count_of, history, clauses_of, IsState}
use Rattle.resolvo_sat.specs.Propagation.{IsReady, IsFit, IsUnit, SameWatching, FellAt, AreCovered, AreUnits, IsOnly, HasUnit, AllTrue, IsDone, AreDone, AreWithin, Guards, GuardsTo, IsWalkedTo, Extends, Walked, Running, IsFalsified, Conflicts, IsQuiet, IsComplete, IsUnitAssigned, IsUnitsEnd, AssignsUnits}
use Rattle.resolvo_sat.specs.Pending.{Proceeds, Settles}
use Rattle.resolvo_sat.specs.UnitsDone.{NotesDone}
use Rattle.resolvo_sat.proofs.Trails.{before_all, length_le, root_known}
use Rattle.resolvo_sat.proofs.Clauses.{length-lists}
use Rattle.resolvo_sat.proofs.ExtendLemmas.{extends_more, still_true, same_clauses, before_kept}
use Rattle.resolvo_sat.proofs.Guards.{guards_known}
use Rattle.resolvo_sat.proofs.DoneLemmas.{within_same, notes_same, done_further, done_noted}
use Rattle.resolvo_sat.proofs.Readiness.{fits_same, ready_extends, qhead_extends, same_watching, watching_more}

pub all_true_more : (s t : SatState) (xs : List UnitClause) → Extends s t → AllTrue (made_true (history s)) xs → AllTrue (made_true (history t)) xs
all_true_more s t [] e a = tt
all_true_more s t (x ∷ xs) e a = (still_true s t x.literal e a.0, all_true_more s t xs e a.1)

all_true_push : (known : List Signed) (xs : List UnitClause) (x : UnitClause) → AllTrue known xs → has known x.literal ≡ true → AllTrue known (xs ++ x ∷ [])
all_true_push known [] x a h = (h, tt)
all_true_push known (y ∷ xs) x a h = (a.0, all_true_push known xs x a.1 h)

pub units_more : (xs : List UnitClause) (i : ℕ) (x : UnitClause) (o s t : SatState) → i < length xs → x ≡ get_or xs i x → AssignsUnits (take i xs) o s → IsUnitAssigned x s t true → AssignsUnits (take (i + 1) xs) o t
units_more xs i x o s t h is sets (e, qhead, present) = record {
  extends = extends_more o s t sets.extends e;
  qhead = qhead ∙ sets.qhead;
  set = subst (AllTrue (made_true (history t))) (sym (take_more xs i x h)) (all_true_push (made_true (history t)) (take i xs) (get_or xs i x) (all_true_more s t (take i xs) e sets.set) (subst (λ (y : UnitClause). has (made_true (history t)) y.literal ≡ true) is present));
}

-- the one at a place represents a clause of one literal
pub unit_at : (cs : List (List Signed)) (xs : List UnitClause) (i : ℕ) (x : UnitClause) → AreUnits cs xs → i < length xs → x ≡ get_or xs i x → (x.clause.0 < length cs) × IsOnly (clause_at cs x.clause.0) x.literal
unit_at cs xs i x a h is = subst (λ (y : UnitClause). (y.clause.0 < length cs) × IsOnly (clause_at cs y.clause.0) y.literal) (sym is) (go xs i a h)
  where
    go : (ys : List UnitClause) (j : ℕ) → AreUnits cs ys → j < length ys → ((get_or ys j x).clause.0 < length cs) × IsOnly (clause_at cs (get_or ys j x).clause.0) (get_or ys j x).literal
    go [] j a h = absurd (omega arith)
    go (y ∷ ys) zero a h = (a.0, a.1)
    go (y ∷ ys) (suc j) a h = go ys j a.2 (omega arith)

pub unit_alone : (o s : SatState) (x : UnitClause) → Extends o s → IsOnly (clause_at (clauses_of o) x.clause.0) x.literal → IsOnly (clause_at (clauses_of s) x.clause.0) x.literal
unit_alone o s x e only = subst (λ (cs : List (List Signed)). IsOnly (clause_at cs x.clause.0) x.literal) (sym (same_clauses o s e)) only

pub unit_falsified : (o s t : SatState) (x : UnitClause) → Extends o s → s.qhead ≡ o.qhead → x.clause.0 < length (clauses_of o) → IsOnly (clause_at (clauses_of o) x.clause.0) x.literal → IsUnitAssigned x s t false → Extends o t × (t.qhead ≡ o.qhead) × IsFalsified x.clause.0 t
unit_falsified o s t x e qhead below only (same, f) =
    let count : length (clauses_of o) ≡ length o.clauses = length-lists o.clauses in
    let below' : x.clause.0 < length o.clauses = omega arith in
    let here = unit_alone o s x e only in
    subst (λ (u : SatState). Extends o u × (u.qhead ≡ o.qhead) × IsFalsified x.clause.0 u) (sym same) (
      e,
      qhead,
      record {
        in_range = subst (λ (cs : List SatClause). x.clause.0 < length cs) (sym e.same.clauses) below';
        falls = λ m h. subst (λ (l : Signed). has (made_true (history s)) (negation l) ≡ true) (sym (here.alone m h)) f;
      },
    )

-- the trail is no longer than there are variables
pub entries_bounded : (s : SatState) → IsState s → length s.tracker.trail ≤ count_of s
entries_bounded s state =
    let a : length (history s) ≤ count_of s = length_le (count_of s) (clauses_of s) (history s) state.trail in
    let b : length (history s) ≡ length s.tracker.trail = length-reverse s.tracker.trail in
    omega arith

-- before the next entry is taken: the singles were gone over, and no clause is pending
pub running_starts : (o r s t u : SatState) (v w x : WatchLists) → AssignsUnits v.assertions.items o r → AssignsUnits v.learnt.items r s → Proceeds s t v w → Settles t u w x → Running o u v x
running_starts o r s t u v w x rules learnt proceeds settles =
    let e : Extends s u = extends_more s t u proceeds.extends settles.extends in
    record {
      watching = watching_more v w x proceeds.watching settles.watching;
      settled = settles.settled;
      fits = settles.ready.fits;
      extends = extends_more o s u (extends_more o r s rules.extends learnt.extends) e;
      walked = settles.ready.walked;
      assertions = all_true_more s u v.assertions.items e (all_true_more r s v.assertions.items learnt.extends rules.set);
      learnt = all_true_more s u v.learnt.items e learnt.set;
      in_range = settles.ready.qhead;
      done = settles.ready.done;
      within = settles.within;
    }

-- what was noted is within what was propagated, before the pending clauses are tested
pub settles_within : (o r s t : SatState) (v w : WatchLists) (xs ys : List UnitClause) → AssignsUnits xs o r → AssignsUnits ys r s → Proceeds s t v w → AreWithin o.qhead v → AreWithin t.qhead w
settles_within o r s t v w xs ys rules learnt proceeds within =
    within_same o.qhead t.qhead v w proceeds.watching.notes (let a : t.qhead ≡ s.qhead = proceeds.qhead in let b : s.qhead ≡ r.qhead = learnt.qhead in let d : r.qhead ≡ o.qhead = rules.qhead in omega arith) within

-- after the singles were gone over the watches are ready still
pub units_ready : (o r s : SatState) (w : WatchLists) (xs ys : List UnitClause) → IsReady o w → AssignsUnits xs o r → AssignsUnits ys r s → IsReady s w
units_ready o r s w xs ys ready rules learnt = ready_extends r s w (ready_extends o r w ready rules.extends rules.qhead) learnt.extends learnt.qhead

-- the entry at the propagation head was walked over, and is passed
pub running_goes_on : (o s u t : SatState) (v w x : WatchLists) (l : Signed) → Running o s v w → FellAt l s.qhead s → Walked (s.qhead + 1) s u w x → t ≡ record u { qhead = u.qhead + 1 } → Running o t v x
running_goes_on o s u t v w x l run fell walked passed =
    subst (λ (y : SatState). Running o y v x) (sym passed)
    (let within : s.qhead < length s.tracker.trail = fell.in_range in
    let grown : length u.tracker.trail ≡ length s.tracker.trail + length walked.extends.more = ap length walked.extends.added ∙ length-append s.tracker.trail walked.extends.more in
    let kept : u.qhead ≡ s.qhead = walked.qhead in
    let here : s.qhead + 1 ≡ u.qhead + 1 = ap (λ (n : ℕ). n + 1) (sym kept) in
    let e : Extends s (record u { qhead = u.qhead + 1 }) = qhead_extends s u (u.qhead + 1) walked.extends in
    record {
      watching = watching_more v w x run.watching walked.watching;
      settled = λ n h. run.settled n (walked.watching.was_pending n h);
      fits = fits_same u (record u { qhead = u.qhead + 1 }) x walked.fits refl;
      extends = extends_more o s (record u { qhead = u.qhead + 1 }) run.extends e;
      walked = subst (λ (k : ℕ). IsWalkedTo k u x) here walked.walked;
      assertions = all_true_more s u v.assertions.items walked.extends run.assertions;
      learnt = all_true_more s u v.learnt.items walked.extends run.learnt;
      in_range = omega arith;
      done = done_further s (record u { qhead = u.qhead + 1 }) w x walked.watching.notes walked.watching.assertions walked.watching.learnt run.within (λ k le. before_kept s u k walked.extends (omega arith)) run.done;
      within = within_same s.qhead (u.qhead + 1) w x walked.watching.notes (omega arith) run.within;
    })

-- a step of the walk leaves fewer entries
pub running_smaller : (o s u t : SatState) (v w x : WatchLists) (l : Signed) → Running o s v w → FellAt l s.qhead s → Walked (s.qhead + 1) s u w x → t ≡ record u { qhead = u.qhead + 1 } → count_of t - t.qhead < count_of s - s.qhead
running_smaller o s u t v w x l run fell walked passed =
    let within : s.qhead < length s.tracker.trail = fell.in_range in
    let bound : length s.tracker.trail ≤ count_of s = entries_bounded s run.extends.state in
    let same : count_of t ≡ count_of s = ap count_of passed ∙ ap (λ (xs : Vec VariableKind Global). length xs.items) walked.extends.same.variables in
    let kept : u.qhead ≡ s.qhead = walked.qhead in
    let moved : t.qhead ≡ u.qhead + 1 = ap (λ (y : SatState). y.qhead) passed in
    omega arith

-- a conflict after more of the trail
pub conflicts_later : (n : ℕ) (o s t : SatState) (v w x : WatchLists) → SameWatching v w → Extends o s → Conflicts n s t w x → Conflicts n o t v x
conflicts_later n o s t v w x same e c = record { watching = watching_more v w x same c.watching; ready = c.ready; extends = extends_more o s t e c.extends; falsified = c.falsified }

-- a clause of one literal is broken
pub units_falsified : (n : ℕ) (o s : SatState) (w : WatchLists) → IsReady o w → Extends o s × (s.qhead ≡ o.qhead) × IsFalsified n s → Conflicts n o s w w
units_falsified n o s w ready (e, qhead, falsified) = record { watching = same_watching w; ready = ready_extends o s w ready e qhead; extends = e; falsified = falsified }

literal_set : (known : List Signed) (xs : List UnitClause) (x : UnitClause) → AllTrue known xs → HasUnit xs x → has known x.literal ≡ true
literal_set known [] x a h = absurd h
literal_set known (y ∷ ys) x a (inl e) = subst (λ (z : UnitClause). has known z.literal ≡ true) e a.0
literal_set known (y ∷ ys) x a (inr e) = literal_set known ys x a.1 e

clause_alone : (cs : List (List Signed)) (xs : List UnitClause) (x : UnitClause) → AreUnits cs xs → HasUnit xs x → has (clause_at cs x.clause.0) x.literal ≡ true
clause_alone cs [] x a h = absurd h
clause_alone cs (y ∷ ys) x a (inl e) = subst (λ (z : UnitClause). has (clause_at cs z.clause.0) z.literal ≡ true) e a.1.present
clause_alone cs (y ∷ ys) x a (inr e) = clause_alone cs ys x a.2 e

pub quiet_pair : (known clause : List Signed) (p : WatchedLiterals) → has clause p.first ≡ true → has clause p.second ≡ true → same_literal p.first p.second ≡ false → Guards known known p → IsQuiet known clause
quiet_pair known clause p a b differ g = go (cases_Bool (has known (negation p.first))) (cases_Bool (has known (negation p.second)))
  where
    go : (has known (negation p.first) ≡ true) ⊎ (has known (negation p.first) ≡ false) → (has known (negation p.second) ≡ true) ⊎ (has known (negation p.second) ≡ false) → IsQuiet known clause
    go (inl e) f = inl (p.second, b, g.first e)
    go (inr e) (inl f) = inl (p.first, a, g.second f)
    go (inr e) (inr f) = inr (p.first, p.second, a, b, differ, e, f)

-- a true literal of a clause that is one of the singles makes it quiet
quiet_unit : (o s : SatState) (v : WatchLists) (xs : List UnitClause) (n : ℕ) (x : UnitClause) → Extends o s → AreUnits (clauses_of o) xs → AllTrue (made_true (history s)) xs → x.clause.0 ≡ n → HasUnit xs x → IsQuiet (made_true (history s)) (clause_at (clauses_of s) n)
quiet_unit o s v xs n x e alone set number present =
    let here : clause_at (clauses_of s) n ≡ clause_at (clauses_of o) x.clause.0 = ap (λ (cs : List (List Signed)). clause_at cs n) (same_clauses o s e) ∙ ap (clause_at (clauses_of o)) (sym number) in
    inl (x.literal, subst (λ (c : List Signed). has c x.literal ≡ true) (sym here) (clause_alone (clauses_of o) xs x alone present), literal_set (made_true (history s)) xs x set present)

-- each clause is quiet where all of the trail was walked
running_quiet : (o s : SatState) (v w : WatchLists) → Running o s v w → AreCovered o v → length s.tracker.trail ≤ s.qhead → (n : ℕ) → n < length s.clauses → IsQuiet (made_true (history s)) (clause_at (clauses_of s) n)
running_quiet o s v w run covers h n below = go (pair_at w.watched.items n) refl
  where
    known : List Signed
    known = made_true (history s)

    walked : IsWalkedTo (length s.tracker.trail) s w
    walked =
        let low : s.qhead ≤ length s.tracker.trail = run.in_range in
        let all : s.qhead ≡ length s.tracker.trail = omega arith in
        subst (λ (k : ℕ). IsWalkedTo k s w) all run.walked

    covered : pair_at w.watched.items n ≡ None → (n ≡ 0) ⊎ IsUnit n v → IsQuiet known (clause_at (clauses_of s) n)
    covered none (inl first) =
        let here : clause_at (clauses_of s) n ≡ clause_at (clauses_of o) 0 = ap (λ (cs : List (List Signed)). clause_at cs n) (same_clauses o s run.extends) ∙ ap (clause_at (clauses_of o)) first in
        inl (yes root, subst (λ (c : List Signed). has c (yes root) ≡ true) (sym here) covers.first, root_known (history s) run.extends.state.rooted)
    covered none (inr (x, number, inl present)) = quiet_unit o s v v.assertions.items n x run.extends covers.assertions run.assertions number present
    covered none (inr (x, number, inr present)) = quiet_unit o s v v.learnt.items n x run.extends covers.learnt run.learnt number present

    go : (p : Option WatchedLiterals) → pair_at w.watched.items n ≡ p → IsQuiet known (clause_at (clauses_of s) n)
    go (Some p) is =
        quiet_pair known (clause_at (clauses_of s) n) p (run.fits.own n p is).first (run.fits.own n p is).second (run.fits.fit.differ n p is)
        (guards_known s.guard_level (history s) (history s) p (subst (λ (ds : List Entry). GuardsTo s.guard_level ds (history s) p) (before_all s.tracker.trail) (walked n p is (run.settled n))))
    go None is = covered is (covers.covered n (subst (λ (cs : List SatClause). n < length cs) run.extends.same.clauses below) (run.watching.pairs n is))

running_ends : (o s : SatState) (v w : WatchLists) → Running o s v w → AreCovered o v → length s.tracker.trail ≤ s.qhead → IsComplete o s v w
running_ends o s v w run covers end =
    let low : s.qhead ≤ length s.tracker.trail = run.in_range in
    record {
      watching = run.watching;
      ready = record { state = run.extends.state; fits = run.fits; qhead = run.in_range; walked = run.walked; done = run.done };
      extends = run.extends;
      qhead = omega arith;
      settled = run.settled;
      quiet = running_quiet o s v w run covers end;
    }

-- notes alone changed
fits_noted : (s : SatState) (w : WatchLists) (notes : Vec UnitsDone Global) → IsFit s w → IsFit s (record w { units_done = notes })
fits_noted s w notes fits = record { fit = fits.fit; each = fits.each; own = fits.own }

pub ready_noted : (s : SatState) (v w : WatchLists) → w ≡ record v { units_done = w.units_done } → AreDone s w → IsReady s v → IsReady s w
ready_noted s v w rest done ready =
    subst (λ (x : WatchLists). IsReady s x) (sym rest) (record {
      state = ready.state;
      fits = fits_noted s v w.units_done ready.fits;
      qhead = ready.qhead;
      walked = ready.walked;
      done = subst (λ (x : WatchLists). AreDone s x) rest done;
    })

pub covered_noted : (s : SatState) (v w : WatchLists) → w ≡ record v { units_done = w.units_done } → AreCovered s v → AreCovered s w
covered_noted s v w rest covers = subst (λ (x : WatchLists). AreCovered s x) (sym rest) (record { assertions = covers.assertions; learnt = covers.learnt; covered = covers.covered; first = covers.first })

-- propagation is complete, and that all unit clauses are true was noted
pub complete_noted : (o s : SatState) (v u w x : WatchLists) → u ≡ record v { units_done = u.units_done } → AreCovered o u → Running o s u w → length s.tracker.trail ≤ s.qhead → NotesDone s.qhead w x → IsComplete o s (record v { units_done = x.units_done }) x
complete_noted o s v u w x rest covers run end notes =
    let is : IsComplete o s u w = running_ends o s u w run covers end in
    let same : record v { units_done = x.units_done } ≡ record u { units_done = x.units_done } = sym (ap (λ (y : WatchLists). record y { units_done = x.units_done }) rest) in
    subst (λ (y : WatchLists). IsComplete o s y x) (sym same)
    (subst (λ (y : WatchLists). IsComplete o s (record u { units_done = x.units_done }) y) (sym notes.rest) (record {
      watching = record { assertions = is.watching.assertions; learnt = is.watching.learnt; notes = λ i d h. h; pairs = is.watching.pairs; was_pending = is.watching.was_pending };
      ready = ready_noted s w (record w { units_done = x.units_done }) refl (subst (λ (y : WatchLists). AreDone s y) notes.rest done) is.ready;
      extends = is.extends;
      qhead = is.qhead;
      settled = is.settled;
      quiet = is.quiet;
    }))
  where
    all_now : (a b : Vec UnitClause Global) → b ≡ a → AllTrue (made_true (history s)) a.items → AllTrue (made_true (before s.tracker.trail s.qhead)) (take (length b.items) b.items)
    all_now a b same set =
        subst (λ (es : List Entry). AllTrue (made_true es) (take (length b.items) b.items)) (sym (ap reverse (take_all s.qhead s.tracker.trail end)))
        (subst (AllTrue (made_true (history s))) (sym (take_all (length b.items) b.items (omega arith)))
        (subst (λ (y : Vec UnitClause Global). AllTrue (made_true (history s)) y.items) (sym same) set))

    noted : IsDone s.tracker.trail s.qhead w.assertions.items w.learnt.items (record { entries = s.qhead; assertions = length w.assertions.items; learnt = length w.learnt.items })
    noted = record {
      assertions_within = omega arith;
      learnt_within = omega arith;
      assertions_true = λ low. all_now u.assertions w.assertions run.watching.assertions run.assertions;
      learnt_true = λ low. all_now u.learnt w.learnt run.watching.learnt run.learnt;
    }

    done : AreDone s x
    done = elim notes.noted [
      | inl e ↦ done_further s s w x (notes_same w x e) (ap (λ (y : WatchLists). y.assertions) notes.rest) (ap (λ (y : WatchLists). y.learnt) notes.rest) run.within (λ k le. refl) run.done
      | inr e ↦ done_noted s w x (record { entries = s.qhead; assertions = length w.assertions.items; learnt = length w.learnt.items }) run.done run.within noted (ap (λ (y : WatchLists). y.assertions) notes.rest) (ap (λ (y : WatchLists). y.learnt) notes.rest) e
    ]

units_drop : (cs : List (List Signed)) (k : ℕ) (xs : List UnitClause) → AreUnits cs xs → AreUnits cs (drop k xs)
units_drop cs zero xs a = a
units_drop cs (suc k) [] a = tt
units_drop cs (suc k) (x ∷ xs) a = units_drop cs k xs a.2

all_true_parts : (known : List Signed) (k : ℕ) (xs : List UnitClause) → AllTrue known (take k xs) → AllTrue known (drop k xs) → AllTrue known xs
all_true_parts known zero xs first rest = rest
all_true_parts known (suc k) [] first rest = tt
all_true_parts known (suc k) (x ∷ xs) first rest = (first.0, all_true_parts known k xs first.1 rest)

-- the unit clauses behind the first ones
pub units_rest : (cs : List (List Signed)) (k : ℕ) (xs rest : List UnitClause) → rest ≡ take (length xs - k) (drop k xs) → AreUnits cs xs → AreUnits cs rest
units_rest cs k xs rest is alone = subst (AreUnits cs) (sym (is ∙ take_rest xs k)) (units_drop cs k xs alone)

-- once they are true, so are all, where the first ones were
pub units_later : (k : ℕ) (xs rest : List UnitClause) (o s : SatState) (r : Option ClauseId) → rest ≡ take (length xs - k) (drop k xs) → AllTrue (made_true (history o)) (take k xs) → IsUnitsEnd rest o s r → IsUnitsEnd xs o s r
units_later k xs rest o s None is first sets = record {
  extends = sets.extends;
  qhead = sets.qhead;
  set = all_true_parts (made_true (history s)) k xs (all_true_more o s (take k xs) sets.extends first) (subst (AllTrue (made_true (history s))) (is ∙ take_rest xs k) sets.set);
}
units_later k xs rest o s (Some n) is first falsified = falsified
