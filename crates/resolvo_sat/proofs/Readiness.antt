-- The watches stay ready where the trail grows, or propagation restarts; and they stay covered.
use Rattle.std.proofs.Common.{◌≡◌, ℕ, ◌+◌, ◌<◌, ◌≤◌, inl, inr, true, List, [], ◌++◌, take, reverse, length, refl, sym, ◌∙◌, ap, subst, arith}
use Rattle.std.proofs.lemmas.List.{append-nil, length-append, take-append-le, take-take, reverse-append, reverse-reverse}
use Rattle.resolvo_store_core.specs.Signed.{Signed, negation, has}
use Rattle.resolvo_store_core.specs.Clauses.{yes, root}
use Rattle.resolvo_store_core.specs.Trail.{Tracked}
use Rattle.resolvo_store_core.specs.declared.decision.Entry.{Entry}
use Rattle.resolvo_store_core.specs.declared.watched_literals.WatchedLiterals.{WatchedLiterals}
use Rattle.resolvo_sat.specs.Clauses.{SatClause}
use Rattle.resolvo_sat.specs.declared.state.SatState.{SatState}
use Rattle.resolvo_sat.specs.declared.watch_lists.WatchLists.{WatchLists}
use Rattle.resolvo_sat.specs.Known.{clause_at}
use Rattle.resolvo_sat.specs.Entries.{before, top_level, IsTrueAt}
use Rattle.resolvo_sat.specs.State.{count_of, history, clauses_of, lists, IsState}
use Rattle.resolvo_sat.specs.Steps.{Undoes}
use Rattle.resolvo_sat.specs.Propagation.{IsReady, IsFit, IsOwnPair, AreCovered, AreUnits, SameWatching, IsGuard, GuardsTo, RecordsGuard, IsWalkedTo, Extends}
use Rattle.resolvo_sat.proofs.Trails.{kept, level_le_last, undone_older}
use Rattle.resolvo_sat.proofs.StepLemmas.{undone_low}
use Rattle.resolvo_sat.proofs.ExtendLemmas.{level_in_more, level_by_now}
use Rattle.resolvo_sat.proofs.Guards.{guards_more}
use Rattle.resolvo_sat.proofs.DoneLemmas.{done_same}

-- watches that fit some clauses fit the same clauses
pub fits_same : (s t : SatState) (w : WatchLists) → IsFit s w → t.clauses ≡ s.clauses → IsFit t w
fits_same s t w fits same = record {
  fit = fits.fit;
  each = fits.each ∙ sym (ap (λ (cs : List SatClause). length cs) same);
  own = λ n p is. subst (λ (cs : List SatClause). IsOwnPair (clause_at (lists cs) n) p) (sym same) (fits.own n p is);
}

-- before the first entry no literal is false
pub walked_none : (s : SatState) (w : WatchLists) → IsWalkedTo 0 s w
walked_none s w n p is out = record { first = λ k f. absurd f; second = λ k f. absurd f }

-- a pair is guarded as far where the trail is longer
pub guards_longer : (s t : SatState) (k : ℕ) (more : List Entry) (p : WatchedLiterals) → t.tracker.trail ≡ s.tracker.trail ++ more → s.guard_level ≤ t.guard_level → k ≤ length s.tracker.trail
    → GuardsTo s.guard_level (before s.tracker.trail k) (history s) p → GuardsTo t.guard_level (before t.tracker.trail k) (history t) p
guards_longer s t k more p added higher low x =
    subst (λ (xs : List Entry). GuardsTo t.guard_level (before xs k) (reverse xs) p) (sym added)
    (subst (λ (h : List Entry). GuardsTo t.guard_level h (reverse (s.tracker.trail ++ more)) p) (sym (ap reverse (take-append-le k s.tracker.trail more low)))
    (guards_more s.guard_level t.guard_level (before s.tracker.trail k) (history s) (reverse (s.tracker.trail ++ more)) p higher (λ l j h. level_in_more s.tracker.trail more l j h) x))

-- a longer trail was walked as far
pub walked_more : (s t : SatState) (k : ℕ) (w : WatchLists) (more : List Entry) → t.tracker.trail ≡ s.tracker.trail ++ more → s.guard_level ≤ t.guard_level → k ≤ length s.tracker.trail → IsWalkedTo k s w → IsWalkedTo k t w
walked_more s t k w more added higher low walked n p is out = guards_longer s t k more p added higher low (walked n p is out)

-- entries were added, and the clauses are the same
pub ready_more : (s t : SatState) (w : WatchLists) (more : List Entry) → IsReady s w → IsState t → t.clauses ≡ s.clauses → t.tracker.trail ≡ s.tracker.trail ++ more → t.qhead ≡ s.qhead → s.guard_level ≤ t.guard_level → IsReady t w
ready_more s t w more ready state clauses added qhead higher = record {
  state = state;
  fits = fits_same s t w ready.fits clauses;
  qhead =
      let low : s.qhead ≤ length s.tracker.trail = ready.qhead in
      let long : length t.tracker.trail ≡ length s.tracker.trail + length more = ap length added ∙ length-append s.tracker.trail more in
      omega arith;
  walked = subst (λ (k : ℕ). IsWalkedTo k t w) (sym qhead) (walked_more s t s.qhead w more added higher ready.qhead ready.walked);
  done = done_same s t w w (λ i d h. h) refl refl (omega arith) (λ k le. let low : s.qhead ≤ length s.tracker.trail = ready.qhead in ap (λ (xs : List Entry). before xs k) added ∙ ap reverse (take-append-le k s.tracker.trail more (omega arith))) ready.done;
}

pub ready_extends : (s t : SatState) (w : WatchLists) → IsReady s w → Extends s t → t.qhead ≡ s.qhead → IsReady t w
ready_extends s t w ready e qhead = ready_more s t w e.more ready e.state e.same.clauses e.added qhead e.guard

-- the trail is the same too
pub ready_same : (s t : SatState) (w : WatchLists) → IsReady s w → IsState t → t.clauses ≡ s.clauses → t.tracker ≡ s.tracker → t.qhead ≡ s.qhead → t.guard_level ≡ s.guard_level → IsReady t w
ready_same s t w ready state clauses tracker qhead guard = ready_more s t w [] ready state clauses (ap (λ (x : Tracked). x.trail) tracker ∙ sym (append-nil s.tracker.trail)) qhead (omega arith)

-- entries above the level were taken away, and no guard was above it that has to stay
walked_undone : (s t : SatState) (w : WatchLists) (level : ℕ) → Undoes level s t → 1 ≤ level → IsState s → s.guard_level ≤ level → t.guard_level ≡ s.guard_level → t.qhead ≤ s.qhead → t.qhead ≤ length t.tracker.trail → IsWalkedTo s.qhead s w → IsWalkedTo t.qhead t w
walked_undone s t w level undoes one state low same qhead within walked n p is out =
    let (gone, old) = undone_older level (history s) (history t) undoes.undone in
    record {
      first = λ k f. guard k p.second ((walked n p is out).first k (earlier gone old (negation p.first) k f)) (not_above (negation p.first) k f);
      second = λ k f. guard k p.first ((walked n p is out).second k (earlier gone old (negation p.second) k f)) (not_above (negation p.second) k f);
    }
  where
    not_above : (l : Signed) (k : ℕ) → IsTrueAt (before t.tracker.trail t.qhead) l k → k ≤ level
    not_above l k f =
        let a : k ≤ top_level (history t) = level_le_last (count_of t) (clauses_of t) (history t) l k undoes.state.trail (level_by_now t.tracker.trail t.qhead l k f) in
        let b : top_level (history t) ≤ level = undone_low s t level undoes one in
        omega arith

    earlier : (gone : List Entry) → history s ≡ gone ++ history t → (l : Signed) (k : ℕ) → IsTrueAt (before t.tracker.trail t.qhead) l k → IsTrueAt (before s.tracker.trail s.qhead) l k
    earlier gone old l k f =
        let trail : s.tracker.trail ≡ t.tracker.trail ++ reverse gone = sym (reverse-reverse s.tracker.trail) ∙ ap reverse old ∙ reverse-append gone (history t) ∙ ap (λ (xs : List Entry). xs ++ reverse gone) (reverse-reverse t.tracker.trail) in
        let prefix_same : before s.tracker.trail t.qhead ≡ before t.tracker.trail t.qhead = ap (λ (xs : List Entry). before xs t.qhead) trail ∙ ap reverse (take-append-le t.qhead t.tracker.trail (reverse gone) within) in
        let more : before (take s.qhead s.tracker.trail) t.qhead ≡ before s.tracker.trail t.qhead = ap reverse (take-take t.qhead s.qhead s.tracker.trail qhead) in
        level_by_now (take s.qhead s.tracker.trail) t.qhead l k (subst (λ (h : List Entry). IsTrueAt h l k) (sym (more ∙ prefix_same)) f)

    guard : (k : ℕ) (l : Signed) → IsGuard s.guard_level k (history s) l → k ≤ level → IsGuard t.guard_level k (history t) l
    guard k l (j, le, present) below = (j, omega arith, kept level (history s) (history t) l j undoes.undone present (omega arith))

-- the first entries that are left are the same
entries_left : (s t : SatState) (level k : ℕ) → Undoes level s t → k ≤ length t.tracker.trail → take k t.tracker.trail ≡ take k s.tracker.trail
entries_left s t level k undoes within =
    let (gone, old) = undone_older level (history s) (history t) undoes.undone in
    let trail : s.tracker.trail ≡ t.tracker.trail ++ reverse gone = sym (reverse-reverse s.tracker.trail) ∙ ap reverse old ∙ reverse-append gone (history t) ∙ ap (λ (xs : List Entry). xs ++ reverse gone) (reverse-reverse t.tracker.trail) in
    sym (ap (take k) trail ∙ take-append-le k t.tracker.trail (reverse gone) within)

first_undone : (s t : SatState) (level k : ℕ) → Undoes level s t → k ≤ length t.tracker.trail → before t.tracker.trail k ≡ before s.tracker.trail k
first_undone s t level k undoes within = ap reverse (entries_left s t level k undoes within)

-- entries were taken away
pub ready_undone : (s t : SatState) (w : WatchLists) (level : ℕ) → Undoes level s t → IsReady s w → IsReady t w
ready_undone s t w level undoes ready = elim undoes.qhead [
  | inl anew ↦ record {
    state = undoes.state;
    fits = fits_same s t w ready.fits undoes.same.clauses;
    qhead = omega arith;
    walked = subst (λ (k : ℕ). IsWalkedTo k t w) (sym anew) (walked_none t w);
    done = done_same s t w w (λ i d h. h) refl refl (omega arith) (λ k le. first_undone s t level k undoes (omega arith)) ready.done;
  }
  | inr (one, low, same, qhead) ↦ record {
    state = undoes.state;
    fits = fits_same s t w ready.fits undoes.same.clauses;
    qhead = omega arith;
    walked = walked_undone s t w level undoes one ready.state low same (omega arith) (omega arith) ready.walked;
    done = done_same s t w w (λ i d h. h) refl refl (omega arith) (λ k le. first_undone s t level k undoes (omega arith)) ready.done;
  }
]

-- the trail's least length alone was set
pub ready_floored : (s : SatState) (w : WatchLists) (floor : ℕ) → IsReady s w → IsReady (record s { tracker = record s.tracker { floor = floor } }) w
ready_floored s w floor ready = record {
  state = record { trail = ready.state.trail; derived = ready.state.derived; in_range = ready.state.in_range; small = ready.state.small; floor_low = ready.state.floor_low; rooted = ready.state.rooted };
  fits = fits_same s (record s { tracker = record s.tracker { floor = floor } }) w ready.fits refl;
  qhead = ready.qhead;
  walked = ready.walked;
  done = record { each = ready.done.each; rising = ready.done.rising };
}

-- the propagation head alone was set
pub qhead_extends : (s t : SatState) (qhead : ℕ) → Extends s t → Extends s (record t { qhead = qhead })
qhead_extends s t qhead e = record {
  state = record { trail = e.state.trail; derived = e.state.derived; in_range = e.state.in_range; small = e.state.small; floor_low = e.state.floor_low; rooted = e.state.rooted };
  same = record { variables = e.same.variables; base_level = e.same.base_level; clauses = e.same.clauses; seen = e.same.seen };
  more = e.more;
  added = e.added;
  choices = e.choices;
  guard = e.guard;
}

-- the guards' level alone was set
pub guard_extends : (o s t : SatState) (l m : Signed) → Extends o s → RecordsGuard l m s t → Extends o t
guard_extends o s t l m e recorded =
    subst (Extends o) (sym recorded.same) (record {
      state = record { trail = e.state.trail; derived = e.state.derived; in_range = e.state.in_range; small = e.state.small; floor_low = e.state.floor_low; rooted = e.state.rooted };
      same = record { variables = e.same.variables; base_level = e.same.base_level; clauses = e.same.clauses; seen = e.same.seen };
      more = e.more;
      added = e.added;
      choices = e.choices;
      guard = let a : o.guard_level ≤ s.guard_level = e.guard in let b : s.guard_level ≤ t.guard_level = recorded.higher in omega arith;
    })

-- the clauses' watches are the same
pub same_watching : (w : WatchLists) → SameWatching w w
same_watching w = record { assertions = refl; learnt = refl; notes = λ i d h. h; pairs = λ n h. h; was_pending = λ n h. h }

pub watching_more : (u v w : WatchLists) → SameWatching u v → SameWatching v w → SameWatching u w
watching_more u v w a b = record {
  assertions = b.assertions ∙ a.assertions;
  learnt = b.learnt ∙ a.learnt;
  notes = λ i d h. a.notes i d (b.notes i d h);
  pairs = λ n none. a.pairs n (b.pairs n none);
  was_pending = λ n h. a.was_pending n (b.was_pending n h);
}

-- watches that cover some clauses cover the same clauses
pub covered_same : (s t : SatState) (w : WatchLists) → AreCovered s w → t.clauses ≡ s.clauses → AreCovered t w
covered_same s t w covers same = record {
  assertions = subst (λ (cs : List SatClause). AreUnits (lists cs) w.assertions.items) (sym same) covers.assertions;
  learnt = subst (λ (cs : List SatClause). AreUnits (lists cs) w.learnt.items) (sym same) covers.learnt;
  covered = λ n below none. covers.covered n (subst (λ (cs : List SatClause). n < length cs) same below) none;
  first = subst (λ (cs : List SatClause). has (clause_at (lists cs) 0) (yes root) ≡ true) (sym same) covers.first;
}
