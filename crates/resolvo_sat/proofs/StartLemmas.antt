-- Visits to pending clauses.
use Rattle.std.proofs.Common.{◌≡◌, ℕ, zero, suc, ◌+◌, ◌<◌, ◌≤◌, ◌⊎◌, inl, inr, Bool, true, false, List, [], get_or, take, reverse, length, Option, Some, None, Vec, Global, refl, sym, ◌∙◌, ap, subst, arith, eqb}
use Rattle.std.specs.Prelude.{slice_get}
use Rattle.std.proofs.lemmas.Bool.{both_ways, or_cases}
use Rattle.std.proofs.lemmas.Bool.Decides.{eqb_tells}
use Rattle.std.proofs.lemmas.List.{append-nil, length-append, take-take, take_more}
use Rattle.resolvo_pool_core.specs.declared.id.ClauseId.{ClauseId}
use Rattle.resolvo_store_core.specs.Signed.{Signed, negation, has}
use Rattle.resolvo_store_core.specs.SignLaws.{same_literal_true}
use Rattle.resolvo_store_core.specs.Watches.{watchers, pair_at, count, one_if, IsWatched}
use Rattle.resolvo_store_core.specs.declared.decision.Entry.{Entry}
use Rattle.resolvo_store_core.specs.declared.watch_map.WatchMap.{WatchMap}
use Rattle.resolvo_store_core.specs.declared.watched_literals.WatchedLiterals.{WatchedLiterals}
use Rattle.resolvo_store_core.proofs.Watched.{pair_in_range}
use Rattle.resolvo_sat.specs.declared.state.SatState.{SatState}
use Rattle.resolvo_sat.specs.declared.watch_lists.WatchLists.{WatchLists}
use Rattle.resolvo_sat.specs.declared.watch_lists.UnitsDone.{UnitsDone}
use Rattle.resolvo_sat.specs.Entries.{made_true, literal_of, before, IsTrueAt}
use Rattle.resolvo_sat.specs.State.{history, IsState}
use Rattle.resolvo_sat.specs.Propagation.{IsReady, IsFit, IsFree, FellAt, IsGuard, GuardsTo, Keeps, Replaces, Falsifies, Extends, Conflicts, AreWithin, SameWatching}
use Rattle.resolvo_sat.specs.Pending.{AreFalseBut, IsAhead, MayWatch, GuardsBy, KeepsLists, Proceeds, IsKept, AreGuarded, IsSettled, AreSettled, Settles}
use Rattle.resolvo_sat.proofs.Literals.{has_here}
use Rattle.resolvo_sat.proofs.Trails.{known_from_level, same_or_negated, false_unless}
use Rattle.resolvo_sat.proofs.ExtendLemmas.{extends_nothing, extends_more, true_by_now, level_by_now}
use Rattle.resolvo_sat.proofs.Guards.{guard_more}
use Rattle.resolvo_sat.proofs.DoneLemmas.{done_same, not_none, notes_same, within_same}
use Rattle.resolvo_sat.proofs.Readiness.{fits_same, guards_longer, ready_extends, qhead_extends, same_watching, watching_more}
use Rattle.resolvo_sat.proofs.VisitLemmas.{moved_fits, moved_watching, moved_walked}
use Rattle.resolvo_sat.proofs.CompleteLemmas.{conflicts_later}
use Rattle.resolvo_sat.proofs.WalkLemmas.{Meets}
use Rattle.resolvo_sat.proofs.PendingLemmas.{count_push}

-- watches that are the same but for what no proof rests on are ready too
pub kept_ready : (s : SatState) (v w : WatchLists) → IsReady s v → KeepsLists v w → IsReady s w
kept_ready s v w ready kept = record {
  state = ready.state;
  fits = record {
    fit = subst (λ (x : Vec (Option WatchedLiterals) Global). IsWatched x.items (watchers w.watches)) (sym kept.watched) (subst (λ (m : WatchMap). IsWatched v.watched.items (watchers m)) (sym kept.watches) ready.fits.fit);
    each = ap (λ (x : Vec (Option WatchedLiterals) Global). length x.items) kept.watched ∙ ready.fits.each;
    own = λ n p is. ready.fits.own n p (watched n p is);
  };
  qhead = ready.qhead;
  walked = λ n p is out. ready.walked n p (watched n p is) (λ h. out (subst (λ (x : Vec ClauseId Global). 0 < count n x.items) (sym kept.pending) h));
  done = done_same s s v w (notes_same v w kept.units_done) kept.assertions kept.learnt (omega arith) (λ k le. refl) ready.done;
}
  where
    watched : (n : ℕ) (p : WatchedLiterals) → pair_at w.watched.items n ≡ Some p → pair_at v.watched.items n ≡ Some p
    watched n p is = subst (λ (x : Vec (Option WatchedLiterals) Global). pair_at x.items n ≡ Some p) kept.watched is

pub kept_nothing : (w : WatchLists) → KeepsLists w w
kept_nothing w = record { watched = refl; watches = refl; assertions = refl; learnt = refl; units_done = refl; pending = refl }

pub kept_watching : (v w : WatchLists) → KeepsLists v w → SameWatching v w
kept_watching v w kept = record {
  assertions = kept.assertions;
  learnt = kept.learnt;
  notes = notes_same v w kept.units_done;
  pairs = λ n none. subst (λ (x : Vec (Option WatchedLiterals) Global). pair_at x.items n ≡ None) kept.watched none;
  was_pending = λ n h. subst (λ (x : Vec ClauseId Global). 0 < count n x.items) kept.pending h;
}

-- entries were added, and the watches are the same but for what no proof rests on
pub proceeds_kept : (s t : SatState) (v w : WatchLists) → IsReady s v → Extends s t → t.qhead ≡ s.qhead → KeepsLists v w → Proceeds s t v w
proceeds_kept s t v w ready e qhead kept = record {
  watching = kept_watching v w kept;
  ready = kept_ready t v w (ready_extends s t v ready e qhead) kept;
  extends = e;
  qhead = qhead;
}

pub proceeds_more : (s t u : SatState) (v w x : WatchLists) → Proceeds s t v w → Proceeds t u w x → Proceeds s u v x
proceeds_more s t u v w x a b = record { watching = watching_more v w x a.watching b.watching; ready = b.ready; extends = extends_more s t u a.extends b.extends; qhead = b.qhead ∙ a.qhead }

pub conflicts_after : (n : ℕ) (s t u : SatState) (v w x : WatchLists) → Proceeds s t v w → Conflicts n t u w x → Conflicts n s u v x
conflicts_after n s t u v w x a c = conflicts_later n s t u v w x a.watching a.extends c

-- only the number of noted places changed
pub indexed_extends : (s : SatState) (indexed : ℕ) → IsState s → Extends s (record s { indexed = indexed })
indexed_extends s indexed state = record {
  state = record { trail = state.trail; derived = state.derived; in_range = state.in_range; small = state.small; floor_low = state.floor_low; rooted = state.rooted };
  same = record { variables = refl; base_level = refl; clauses = refl; seen = λ entries h. h };
  more = [];
  added = sym (append-nil s.tracker.trail);
  choices = λ e older present choice. present;
  guard = omega arith;
}

-- ---- a visit to a clause

-- the literal that a place's entry makes false is false
pub fallen_known : (s : SatState) (l : Signed) (place : ℕ) → FellAt l place s → has (made_true (history s)) (negation l) ≡ true
fallen_known s l place fell =
    true_by_now s.tracker.trail (place + 1) (negation l)
    (subst (λ (ls : List Signed). has ls (negation l) ≡ true) (sym fell.entry) (has_here (negation l) (made_true (before s.tracker.trail place)) (negation l) refl))

-- its other watch is true
pub visit_keeps : (o s t : SatState) (v w x : WatchLists) (l : Signed) (p : WatchedLiterals) → Proceeds o s v w → Keeps l p s t w x → Proceeds o t v x
visit_keeps o s t v w x l p a k =
    proceeds_more o s t v w x a (subst (λ (y : WatchLists). Proceeds s t w y) (sym k.same_watching) (proceeds_kept s t w w a.ready k.extends k.qhead (kept_nothing w)))

-- it watches another literal
pub visit_moves : (o s t : SatState) (v w x : WatchLists) (l : Signed) (place : ℕ) (c : ClauseId) → Proceeds o s v w → slice_get (watchers w.watches l) place ≡ Some c → has (made_true (history s)) (negation l) ≡ true → Replaces l place c.0 s t w x → Proceeds o t v x
visit_moves o s t v w x l place c a at known r =
    proceeds_more o s t v w x a (subst (λ (u : SatState). Proceeds s u w x) (sym r.same_state) (record {
      watching = moved_watching l place c s t w x a.ready.fits at r;
      ready = record {
        state = a.ready.state;
        fits = moved_fits l place c s t w x a.ready.fits at r;
        qhead = a.ready.qhead;
        walked = moved_walked l place c s t w x a.ready.fits at r s.qhead a.ready.state known a.ready.walked;
        done = done_same s s w x (notes_same w x r.units_done) r.assertions r.learnt (omega arith) (λ k le. refl) a.ready.done;
      };
      extends = extends_nothing s a.ready.state;
      qhead = refl;
    }))

-- it is falsified
pub visit_breaks : (o s t : SatState) (v w x : WatchLists) (n : ℕ) (p : WatchedLiterals) → Proceeds o s v w → pair_at w.watched.items n ≡ Some p → Falsifies n s t w x → Conflicts n o t v x
visit_breaks o s t v w x n p a is b =
    let below : n < length w.watched.items = pair_in_range w.watched.items n p is in
    let each : length w.watched.items ≡ length s.clauses = a.ready.fits.each in
    let here : Conflicts n s s w w = record { watching = same_watching w; ready = a.ready; extends = extends_nothing s a.ready.state; falsified = record { in_range = omega arith; falls = b.falls } } in
    conflicts_after n o s t v w x a
    (subst (λ (u : SatState). Conflicts n s u w x) (sym b.same_state) (subst (λ (y : WatchLists). Conflicts n s s w y) (sym b.same_watching) here))

-- all are false but one of the two, of which the other one is false
pub false_but_first : (known clause : List Signed) (p : WatchedLiterals) → IsFree known clause p None → has known (negation p.second) ≡ true → AreFalseBut p.first known clause
false_but_first known clause p free fell m h = elim (free m h) [
  | inl w ↦ elim (or_cases _ _ w) [
    | inl e ↦ inl (sym (same_literal_true _ _ e))
    | inr e ↦ inr (subst (λ (l : Signed). has known (negation l) ≡ true) (same_literal_true _ _ e) fell)
  ]
  | inr f ↦ inr f
]

pub false_but_second : (known clause : List Signed) (p : WatchedLiterals) → IsFree known clause p None → has known (negation p.first) ≡ true → AreFalseBut p.second known clause
false_but_second known clause p free fell m h = elim (free m h) [
  | inl w ↦ elim (or_cases _ _ w) [
    | inl e ↦ inr (subst (λ (l : Signed). has known (negation l) ≡ true) (same_literal_true _ _ e) fell)
    | inr e ↦ inl (sym (same_literal_true _ _ e))
  ]
  | inr f ↦ inr f
]

-- ---- before a clause goes on with its watches

-- a literal that isn't false is not false by what was propagated
pub ahead_if_free : (s : SatState) (l : Signed) → has (made_true (history s)) (negation l) ≡ false → IsAhead s l
ahead_if_free s l free = false_unless _ (λ h. both_ways _ free (true_by_now s.tracker.trail s.qhead (negation l) h))

ahead_guard : (s t : SatState) (g k : ℕ) (l m : Signed) → t.tracker.trail ≡ s.tracker.trail → t.qhead ≡ s.qhead → IsAhead s l → IsTrueAt (before t.tracker.trail t.qhead) (negation l) k → ⊥
ahead_guard s t g k l m trail qhead ahead f =
    both_ways _ ahead (known_from_level (before s.tracker.trail s.qhead) (negation l) k
    (subst (λ (q : ℕ). IsTrueAt (before s.tracker.trail q) (negation l) k) qhead (subst (λ (xs : List Entry). IsTrueAt (before xs t.qhead) (negation l) k) trail f)))

-- a literal whose variable's entry is behind the propagation head is not false by what was propagated
pub ahead_by_entry : (s : SatState) (l : Signed) (place : ℕ) (d : Entry) → Meets s place d → s.qhead ≤ place → d.decision.variable.0 ≡ l.variable.0 → IsAhead s l
ahead_by_entry s l place d meets behind same = false_unless _ (λ h. go (earlier h) (same_or_negated (negation l) (literal_of d) (sym same)))
  where
    earlier : has (made_true (before s.tracker.trail s.qhead)) (negation l) ≡ true → has (made_true (before s.tracker.trail place)) (negation l) ≡ true
    earlier h =
        true_by_now (take place s.tracker.trail) s.qhead (negation l)
        (subst (λ (xs : List Entry). has (made_true (reverse xs)) (negation l) ≡ true) (sym (take-take s.qhead place s.tracker.trail behind)) h)

    go : has (made_true (before s.tracker.trail place)) (negation l) ≡ true → (negation l ≡ literal_of d) ⊎ (negation l ≡ negation (literal_of d)) → ⊥
    go h (inl is) = both_ways _ meets.follows.undecided.not_true (subst (λ (m : Signed). has (made_true (before s.tracker.trail place)) m ≡ true) is h)
    go h (inr is) = both_ways _ meets.follows.undecided.not_false (subst (λ (m : Signed). has (made_true (before s.tracker.trail place)) m ≡ true) is h)

-- one of the two guards the other as far as the trail was propagated
guarded_so_far : (s t : SatState) (l m : Signed) → t.tracker.trail ≡ s.tracker.trail → t.qhead ≡ s.qhead → MayWatch s l m
    → (has (made_true (history s)) m ≡ true → (k : ℕ) → IsTrueAt (history s) (negation l) k → IsGuard t.guard_level k (history s) m)
    → (k : ℕ) → IsTrueAt (before t.tracker.trail t.qhead) (negation l) k → IsGuard t.guard_level k (history t) m
guarded_so_far s t l m trail qhead (inl ahead) guard k f = absurd (ahead_guard s t 0 k l m trail qhead ahead f)
guarded_so_far s t l m trail qhead (inr known) guard k f =
    subst (λ (xs : List Entry). IsGuard t.guard_level k (reverse xs) m) (sym trail)
    (guard known k (level_by_now s.tracker.trail t.qhead (negation l) k (subst (λ (xs : List Entry). IsTrueAt (before xs t.qhead) (negation l) k) trail f)))

pub guards_kept : (s u t : SatState) (p : WatchedLiterals) → IsState s → MayWatch s p.first p.second → MayWatch s p.second p.first → GuardsBy p.first p.second s u → GuardsBy p.second p.first u t
    → Extends s t × (t.qhead ≡ s.qhead) × GuardsTo t.guard_level (before t.tracker.trail t.qhead) (history t) p
guards_kept s u t p state first second one two = (
  subst (Extends s) (sym whole) (record {
    state = record { trail = state.trail; derived = state.derived; in_range = state.in_range; small = state.small; floor_low = state.floor_low; rooted = state.rooted };
    same = record { variables = refl; base_level = refl; clauses = refl; seen = λ entries h. h };
    more = [];
    added = sym (append-nil s.tracker.trail);
    choices = λ e older present choice. present;
    guard = (let a : s.guard_level ≤ u.guard_level = one.higher in let b : u.guard_level ≤ t.guard_level = two.higher in omega arith);
  }),
  qhead,
  record {
    first = guarded_so_far s t p.first p.second trail qhead first (λ known k f. guard_more u.guard_level t.guard_level k (history s) (history s) p.second two.higher (λ j h. h) (one.guard known k f));
    second = guarded_so_far s t p.second p.first trail qhead second (λ known k f.
        subst (λ (h : List Entry). IsGuard t.guard_level k h p.first) u_history
        (two.guard (subst (λ (h : List Entry). has (made_true h) p.first ≡ true) (sym u_history) known) k (subst (λ (h : List Entry). IsTrueAt h (negation p.second) k) (sym u_history) f)));
  },
)
  where
    whole : t ≡ record s { guard_level = t.guard_level }
    whole = two.same ∙ ap (λ (x : SatState). record x { guard_level = t.guard_level }) one.same

    trail : t.tracker.trail ≡ s.tracker.trail
    trail = ap (λ (x : SatState). x.tracker.trail) whole

    qhead : t.qhead ≡ s.qhead
    qhead = ap (λ (x : SatState). x.qhead) whole

    u_history : history u ≡ history s
    u_history = ap history one.same

-- a true literal's level was recorded beside a false one; or nothing changed, as one of the two isn't
pub guards_by_nothing : (s : SatState) (l m : Signed) → (has (made_true (history s)) (negation l) ≡ false) ⊎ (has (made_true (history s)) m ≡ false) → GuardsBy l m s s
guards_by_nothing s l m none = record {
  same = refl;
  higher = omega arith;
  guard = λ known k f. elim none [
    | inl free ↦ absurd (both_ways _ free (known_from_level (history s) (negation l) k f))
    | inr free ↦ absurd (both_ways _ free known)
  ];
}

-- ---- the wait of the pending clauses ends

-- a clause goes on with its watches
pub settled_one : (n : ℕ) (w : WatchLists) (s t : SatState) (p : WatchedLiterals) (b : Bool) → pair_at w.watched.items n ≡ Some p → IsKept p s t b → IsSettled n w s t b
settled_one n w s t p true is (e, qhead, guards) = (
  e,
  qhead,
  λ q at.
      let both : Some p ≡ Some q = sym is ∙ at in
      let same : p ≡ q = cc in
      subst (GuardsTo t.guard_level (before t.tracker.trail t.qhead) (history t)) same guards,
)
settled_one n w s t p false is same = same

some_none : (p : WatchedLiterals) → Some p ≡ None → ⊥
some_none p e = cc

-- or it watches nothing
pub settled_none : (n : ℕ) (w : WatchLists) (s : SatState) → IsState s → pair_at w.watched.items n ≡ None → IsSettled n w s s true
settled_none n w s state none = (extends_nothing s state, refl, λ q at. absurd (some_none q (sym at ∙ none)))

-- one clause more goes on
pub guarded_more : (s t : SatState) (w : WatchLists) (cs : List ClauseId) (i m : ℕ) (d : ClauseId) → i < length cs → m ≡ (get_or cs i d).0 → s.qhead ≤ length s.tracker.trail → AreGuarded s w (take i cs) → IsSettled m w s t true → AreGuarded t w (take (i + 1) cs)
guarded_more s t w cs i m d below is low guarded (e, qhead, guards) n p at h = elim (eqb_tells n (get_or cs i d).0) [
  | inl y ↦ guards p (subst (λ (k : ℕ). pair_at w.watched.items k ≡ Some p) (y.1 ∙ sym is) at)
  | inr y ↦
      let all : count n (take (i + 1) cs) ≡ count n (take i cs) + one_if (eqb n (get_or cs i d).0) = ap (count n) (take_more cs i d below) ∙ count_push n (take i cs) (get_or cs i d) in
      let none : one_if (eqb n (get_or cs i d).0) ≡ 0 = ap one_if y.0 in
      subst (λ (k : ℕ). GuardsTo t.guard_level (before t.tracker.trail k) (history t) p) (sym qhead)
      (guards_longer s t s.qhead e.more p e.added e.guard low (guarded n p at (omega arith)))
]

-- what the loop over the pending clauses keeps
pub record SettlesSoFar (w : WatchLists) (old s : SatState) (cs : List ClauseId) : Type 0 where
  pub extends : Extends old s
  pub qhead : s.qhead ≡ old.qhead
  pub guarded : AreGuarded s w cs

pub so_far_none : (w : WatchLists) (s : SatState) (cs : List ClauseId) → IsState s → SettlesSoFar w s s (take 0 cs)
so_far_none w s cs state = record { extends = extends_nothing s state; qhead = refl; guarded = λ n p at h. (let none : 0 < 0 = h in absurd (omega arith)) }

pub so_far_more : (w : WatchLists) (o s t : SatState) (cs : List ClauseId) (i m : ℕ) (d : ClauseId) (b : Bool) → o.qhead ≤ length o.tracker.trail → i < length cs → m ≡ (get_or cs i d).0 → SettlesSoFar w o s (take i cs) → b ≡ true → IsSettled m w s t b → SettlesSoFar w o t (take (i + 1) cs)
so_far_more w o s t cs i m d b low below is far passed settled = go (subst (IsSettled m w s t) passed settled)
  where
    go : IsSettled m w s t true → SettlesSoFar w o t (take (i + 1) cs)
    go (e, qhead, guards) = record {
      extends = extends_more o s t far.extends e;
      qhead = qhead ∙ far.qhead;
      guarded = guarded_more s t w cs i m d below is
          (let long : length s.tracker.trail ≡ length o.tracker.trail + length far.extends.more = ap length far.extends.added ∙ length-append o.tracker.trail far.extends.more in
          let same : s.qhead ≡ o.qhead = far.qhead in
          omega arith)
          far.guarded (e, qhead, guards);
    }

pub so_far_fails : (n : ℕ) (w : WatchLists) (o s t : SatState) (cs : List ClauseId) (b : Bool) → SettlesSoFar w o s cs → b ≡ false → IsSettled n w s t b → AreSettled w o t false
so_far_fails n w o s t cs true far failed same = absurd (both_ways true failed refl)
so_far_fails n w o s t cs false far failed same = subst (λ (u : SatState). AreSettled w o u false) (sym same) (record { extends = far.extends; qhead = far.qhead; guarded = λ e. absurd (both_ways false refl e) })

pub so_far_ends : (w : WatchLists) (o s : SatState) (cs : List ClauseId) → cs ≡ w.pending.items → SettlesSoFar w o s cs → AreSettled w o s true
so_far_ends w o s cs whole far = record { extends = far.extends; qhead = far.qhead; guarded = λ e. subst (AreGuarded s w) whole far.guarded }

-- each goes on
pub settles_all : (s t : SatState) (v : WatchLists) (pending : Vec ClauseId Global) → IsReady s v → AreWithin s.qhead v → AreSettled v s t true → pending.items ≡ [] → Settles s t v (record v { pending = pending })
settles_all s t v pending ready within settled empty = record {
  watching = record { assertions = refl; learnt = refl; notes = λ i d h. h; pairs = λ n h. h; was_pending = λ n h. absurd (none n h) };
  ready = record {
    state = settled.extends.state;
    fits = record { fit = still.fits.fit; each = still.fits.each; own = still.fits.own };
    qhead = still.qhead;
    walked = λ n p is out. walks n p is (count n v.pending.items) refl;
    done = done_same t t v (record v { pending = pending }) (λ i d h. h) refl refl (omega arith) (λ k le. refl) still.done;
  };
  extends = settled.extends;
  within = within_same s.qhead t.qhead v (record v { pending = pending }) (λ i d h. h) (let same : t.qhead ≡ s.qhead = settled.qhead in omega arith) within;
  settled = none;
}
  where
    still : IsReady t v
    still = ready_extends s t v ready settled.extends settled.qhead

    none : (n : ℕ) → 0 < count n pending.items → ⊥
    none n h = let no_more : count n pending.items ≡ 0 = ap (count n) empty in absurd (omega arith)

    walks : (n : ℕ) (p : WatchedLiterals) → pair_at v.watched.items n ≡ Some p → (k : ℕ) → count n v.pending.items ≡ k → GuardsTo t.guard_level (before t.tracker.trail t.qhead) (history t) p
    walks n p is zero e = still.walked n p is (λ h. absurd (omega arith))
    walks n p is (suc k) e = settled.guarded refl n p is (omega arith)

-- one doesn't: propagation begins anew at the trail's front, before which no literal is false
pub settles_anew : (s t : SatState) (v : WatchLists) (pending : Vec ClauseId Global) (notes : Vec UnitsDone Global) → IsReady s v → AreSettled v s t false → pending.items ≡ [] → notes.items ≡ []
    → Settles s (record t { qhead = 0 }) v (record v { pending = pending; units_done = notes })
settles_anew s t v pending notes ready settled empty none_left = record {
  watching = record { assertions = refl; learnt = refl; notes = λ i d h. absurd (no_note i d h); pairs = λ n h. h; was_pending = λ n h. absurd (none n h) };
  ready = record {
    state = anew.state;
    fits = record { fit = still.fit; each = still.each; own = still.own };
    qhead = omega arith;
    walked = λ n p is out. record { first = λ k f. absurd f; second = λ k f. absurd f };
    done = record { each = λ i d h. absurd (no_note i d h); rising = λ i j c d le f g. absurd (no_note i c f) };
  };
  extends = anew;
  within = λ i d h. absurd (no_note i d h);
  settled = none;
}
  where
    anew : Extends s (record t { qhead = 0 })
    anew = qhead_extends s t 0 settled.extends

    still : IsFit t v
    still = fits_same s t v ready.fits settled.extends.same.clauses

    none : (n : ℕ) → 0 < count n pending.items → ⊥
    none n h = let no_more : count n pending.items ≡ 0 = ap (count n) empty in absurd (omega arith)

    no_note : (i : ℕ) (d : UnitsDone) → slice_get notes.items i ≡ Some d → ⊥
    no_note i d h = not_none d (subst (λ (ds : List UnitsDone). slice_get ds i ≡ Some d) none_left h)
