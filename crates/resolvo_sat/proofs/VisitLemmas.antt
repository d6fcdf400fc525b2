-- A walk over the clauses that watch a literal.
use Rattle.std.proofs.Common.{◌≡◌, ℕ, zero, suc, ◌+◌, ◌<◌, ◌≤◌, ◌⊎◌, inl, inr, Bool, true, false, cond, List, [], ◌∷◌, drop, length, get_or, Vec, Global, Option, Some, None, refl, sym, ◌∙◌, ap, subst, arith, eqb}
use Rattle.std.specs.Prelude.{slice_get}
use Rattle.std.proofs.lemmas.Bool.{both_ways, or_cases, or_left, or_right}
use Rattle.std.proofs.lemmas.Bool.Decides.{eqb_tells}
use Rattle.std.proofs.lemmas.List.{length-append, length-set}
use Rattle.resolvo_pool_core.specs.declared.id.ClauseId.{ClauseId}
use Rattle.resolvo_store_core.specs.Signed.{Signed, negation, same_literal, has}
use Rattle.resolvo_store_core.specs.SignLaws.{same_literal_true, same_literal-self}
use Rattle.resolvo_store_core.specs.Pairs.{watches, other_of, moved_pair}
use Rattle.resolvo_store_core.specs.Watches.{watchers, pair_at, count, one_if}
use Rattle.resolvo_store_core.specs.declared.watched_literals.WatchedLiterals.{WatchedLiterals}
use Rattle.resolvo_store_core.specs.declared.decision.Entry.{Entry}
use Rattle.resolvo_store_core.proofs.Watched.{not_same, first_watched, pair_at-set_same, pair_at-set_other, pair_in_range, pair_of_watcher, moved_from}
use Rattle.resolvo_store_core.proofs.ClauseLists.{drop_here, drop_taken, nothing_left}
use Rattle.resolvo_sat.specs.declared.state.SatState.{SatState}
use Rattle.resolvo_sat.specs.declared.watch_lists.WatchLists.{WatchLists}
use Rattle.resolvo_sat.specs.Known.{IsFalseUnder, Forces, clause_at}
use Rattle.resolvo_sat.specs.Entries.{literal_of, made_true, before, IsTrueAt}
use Rattle.resolvo_sat.specs.State.{count_of, history, clauses_of, IsState}
use Rattle.resolvo_sat.specs.Propagation.{IsFit, IsPending, AreDone, SameWatching, FellAt, IsOwnPair, IsFree, IsGuard, GuardsTo, RecordsGuard, Passed, IsWalkedTo, Extends, IsVisiting, Keeps, Replaces, Falsifies, Walked, Conflicts}
use Rattle.resolvo_sat.proofs.Literals.{has_here, negation-negation}
use Rattle.resolvo_sat.proofs.Trails.{consistent, entry_read, known_from_level, level_from_known}
use Rattle.resolvo_sat.proofs.ExtendLemmas.{extends_more, extends_nothing, true_by_now, level_kept, level_by_now, before_kept}
use Rattle.resolvo_sat.proofs.Guards.{guard_more, level_is}
use Rattle.resolvo_sat.proofs.DoneLemmas.{done_same, notes_same}
use Rattle.resolvo_sat.proofs.Readiness.{fits_same, walked_more, guard_extends, same_watching, watching_more}

pub pair_watches : (s : SatState) (w : WatchLists) (l : Signed) (place : ℕ) (n : ClauseId) (p : WatchedLiterals) → IsFit s w → slice_get (watchers w.watches l) place ≡ Some n → pair_at w.watched.items n.0 ≡ Some p → watches (Some p) l ≡ true
pair_watches s w l place n p fits at is =
    let found = pair_of_watcher w.watched.items (watchers w.watches) l place n fits.fit at in
    let both : Some found.0 ≡ Some p = sym found.1 ∙ is in
    let same : found.0 ≡ p = cc in
    subst (λ (q : WatchedLiterals). watches (Some q) l ≡ true) same found.2

-- one of the pair is the literal or the other one
pair_cases : (p : WatchedLiterals) (l m : Signed) → watches (Some p) l ≡ true → watches (Some p) m ≡ true → (m ≡ l) ⊎ (m ≡ other_of p l)
pair_cases p l m wl wm = go (same_literal p.first l) refl
  where
    go : (b : Bool) → same_literal p.first l ≡ b → (m ≡ l) ⊎ (m ≡ cond b p.second p.first)
    go true e = elim (or_cases _ _ wm) [ inl f ↦ inl (sym (same_literal_true _ _ f) ∙ same_literal_true _ _ e) | inr f ↦ inr (sym (same_literal_true _ _ f)) ]
    go false e = elim (or_cases _ _ wm) [ inl f ↦ inr (sym (same_literal_true _ _ f)) | inr f ↦ inl (sym (same_literal_true _ _ f) ∙ first_watched p l wl e) ]

other_own : (clause : List Signed) (p : WatchedLiterals) (l : Signed) → IsOwnPair clause p → has clause (other_of p l) ≡ true
other_own clause p l own = go (same_literal p.first l)
  where
    go : (b : Bool) → has clause (cond b p.second p.first) ≡ true
    go true = own.second
    go false = own.first

pub forces_other :
    (known clause : List Signed) (p : WatchedLiterals) (l : Signed) → IsOwnPair clause p → watches (Some p) l ≡ true → has known (negation l) ≡ true → IsFree known clause p None
    → has known (other_of p l) ≡ false → has known (negation (other_of p l)) ≡ false → Forces known clause (other_of p l)
forces_other known clause p l own w fallen free nt nf = record {
  forced = record {
    present = other_own clause p l own;
    others = λ m h. elim (free m h) [
      | inl wm ↦ elim (pair_cases p l m w wm) [ inl e ↦ inr (subst (λ (x : Signed). has known (negation x) ≡ true) (sym e) fallen) | inr e ↦ inl e ]
      | inr f ↦ inr f
    ];
  };
  undecided = record { not_true = nt; not_false = nf };
}

pub falls_whole : (known clause : List Signed) (p : WatchedLiterals) (l : Signed) → watches (Some p) l ≡ true → has known (negation l) ≡ true → IsFree known clause p None → has known (negation (other_of p l)) ≡ true → IsFalseUnder known clause
falls_whole known clause p l w fallen free f m h = elim (free m h) [
  | inl wm ↦ elim (pair_cases p l m w wm) [ inl e ↦ subst (λ (x : Signed). has known (negation x) ≡ true) (sym e) fallen | inr e ↦ subst (λ (x : Signed). has known (negation x) ≡ true) (sym e) f ]
  | inr g ↦ g
]

passed_kept : (p : WatchedLiterals) (l : Signed) (g : ℕ) (all : List Entry) → same_literal p.first p.second ≡ false → ((k : ℕ) → IsTrueAt all (negation l) k → IsGuard g k all (other_of p l)) → Passed l g all p
passed_kept p l g all differ guard = go (same_literal p.first l) refl guard
  where
    go : (b : Bool) → same_literal p.first l ≡ b → ((k : ℕ) → IsTrueAt all (negation l) k → IsGuard g k all (cond b p.second p.first)) → Passed l g all p
    go true e h = record { first = λ _. h; second = λ is. absurd (not_same p.first p.second differ (same_literal_true _ _ e ∙ sym is)) }
    go false e h = record { first = λ is. absurd (not_same p.first l e is); second = λ _. h }

passed_more : (p : WatchedLiterals) (l : Signed) (s t : SatState) (k : ℕ) → IsState t → IsTrueAt (history s) (negation l) k → Extends s t → Passed l s.guard_level (history s) p → Passed l t.guard_level (history t) p
passed_more p l s t k state fell e q = record {
  first = λ is j f. guard j p.second (same j f) (q.first is k fell);
  second = λ is j f. guard j p.first (same j f) (q.second is k fell);
}
  where
    same : (j : ℕ) → IsTrueAt (history t) (negation l) j → k ≡ j
    same j f = sym (level_is t (negation l) k state (level_kept s t (negation l) k e fell)) ∙ level_is t (negation l) j state f

    guard : (j : ℕ) (m : Signed) → k ≡ j → IsGuard s.guard_level k (history s) m → IsGuard t.guard_level j (history t) m
    guard j m is x = subst (λ (n : ℕ). IsGuard t.guard_level n (history t) m) is (guard_more s.guard_level t.guard_level k (history s) (history t) m e.guard (λ n h. level_kept s t m n e h) x)

same_pair : (ps : List (Option WatchedLiterals)) (n : ℕ) (p q : WatchedLiterals) → pair_at ps n ≡ Some p → pair_at ps n ≡ Some q → p ≡ q
same_pair ps n p q a b = let both : Some p ≡ Some q = sym a ∙ b in cc

count_here : (xs : List ClauseId) (place : ℕ) (c : ClauseId) (n : ℕ) → slice_get xs place ≡ Some c → eqb n c.0 ≡ false → count n (drop (suc place) xs) ≡ 0 → count n (drop place xs) ≡ 0
count_here xs place c n at ne none =
    let a : count n (drop place xs) ≡ one_if (eqb n c.0) + count n (drop (suc place) xs) = ap (count n) (drop_here xs place c at) in
    let b : one_if (eqb n c.0) ≡ 0 = ap one_if ne in
    omega arith

pub fallen_now : (k : ℕ) (l : Signed) (place : ℕ) (o s : SatState) (v w : WatchLists) → IsVisiting k l place o s v w → has (made_true (history s)) (negation l) ≡ true
fallen_now k l place o s v w propagate_literal = true_by_now s.tracker.trail (k + 1) (negation l) (subst (λ (ls : List Signed). has ls (negation l) ≡ true) (sym propagate_literal.entry) (has_here (negation l) (made_true (before s.tracker.trail k)) (negation l) refl))

fallen_at : (k : ℕ) (l : Signed) (place : ℕ) (o s : SatState) (v w : WatchLists) → IsVisiting k l place o s v w → (j : ℕ) × IsTrueAt (history s) (negation l) j
fallen_at k l place o s v w propagate_literal = level_from_known (history s) (negation l) (fallen_now k l place o s v w propagate_literal)

keeps_here : (k : ℕ) (l : Signed) (place : ℕ) (c : ClauseId) (p : WatchedLiterals) (o s t : SatState) (v w : WatchLists) → IsVisiting k l place o s v w → slice_get (watchers w.watches l) place ≡ Some c → pair_at w.watched.items c.0 ≡ Some p
    → Extends s t → t.qhead ≡ s.qhead → ((j : ℕ) → IsTrueAt (history t) (negation l) j → IsGuard t.guard_level j (history t) (other_of p l)) → IsVisiting k l (place + 1) o t v w
keeps_here k l place c p o s t v w propagate_literal at is e qhead guard =
    let long : k < length s.tracker.trail = propagate_literal.long in
    let grown : length t.tracker.trail ≡ length s.tracker.trail + length e.more = ap length e.added ∙ length-append s.tracker.trail e.more in
    let next : place + 1 ≡ suc place = omega arith in
    record {
      fits = fits_same s t w propagate_literal.fits e.same.clauses;
      extends = extends_more o s t propagate_literal.extends e;
      qhead = qhead ∙ propagate_literal.qhead;
      walked = walked_more s t k w e.more e.added e.guard (omega arith) propagate_literal.walked;
      passed = λ n q h none. go n q h (subst (λ (m : ℕ). count n (drop m (watchers w.watches l)) ≡ 0) next none) (eqb_tells n c.0);
      entry = ap made_true (before_kept s t (k + 1) e (omega arith)) ∙ propagate_literal.entry ∙ ap (λ (ds : List Entry). negation l ∷ made_true ds) (sym (before_kept s t k e (omega arith)));
      long = omega arith;
      watching = propagate_literal.watching;
    }
  where
    go : (n : ℕ) (q : WatchedLiterals) → pair_at w.watched.items n ≡ Some q → count n (drop (suc place) (watchers w.watches l)) ≡ 0 → ((eqb n c.0 ≡ true) × (n ≡ c.0)) ⊎ ((eqb n c.0 ≡ false) × (n ≡ c.0 → ⊥)) → Passed l t.guard_level (history t) q
    go n q h none (inl y) =
        let same : p ≡ q = same_pair w.watched.items c.0 p q is (subst (λ (m : ℕ). pair_at w.watched.items m ≡ Some q) y.1 h) in
        subst (Passed l t.guard_level (history t)) same (passed_kept p l t.guard_level (history t) (propagate_literal.fits.fit.differ c.0 p is) guard)
    go n q h none (inr y) = let (j, fell) = fallen_at k l place o s v w propagate_literal in passed_more q l s t j e.state fell e (propagate_literal.passed n q h (count_here (watchers w.watches l) place c n at y.0 none))

pub visiting_keeps : (k : ℕ) (l : Signed) (place : ℕ) (c : ClauseId) (p : WatchedLiterals) (o s t : SatState) (v w x : WatchLists) → IsVisiting k l place o s v w → slice_get (watchers w.watches l) place ≡ Some c → pair_at w.watched.items c.0 ≡ Some p
    → Keeps l p s t w x → IsVisiting k l (place + 1) o t v x
visiting_keeps k l place c p o s t v w x propagate_literal at is keeps = subst (IsVisiting k l (place + 1) o t v) (sym keeps.same_watching) (keeps_here k l place c p o s t v w propagate_literal at is keeps.extends keeps.qhead keeps.guard)

-- the other one of the two is true, and its level was recorded
pub keeps_recorded : (l m : Signed) (p : WatchedLiterals) (s u t : SatState) (w : WatchLists) → m ≡ other_of p l → Extends s u → u.qhead ≡ s.qhead → RecordsGuard l m u t → Keeps l p s t w w
keeps_recorded l m p s u t w is e qhead recorded =
    let same : history t ≡ history u = ap history recorded.same in
    record {
      extends = guard_extends s u t l m e recorded;
      qhead = ap (λ (x : SatState). x.qhead) recorded.same ∙ qhead;
      same_watching = refl;
      guard = λ k f.
          subst (λ (h : List Entry). IsGuard t.guard_level k h (other_of p l)) (sym same)
          (subst (λ (x : Signed). IsGuard t.guard_level k (history u) x) is (recorded.guard k (subst (λ (h : List Entry). IsTrueAt h (negation l) k) same f)));
    }

own_moved : (clause : List Signed) (p : WatchedLiterals) (from to : Signed) → IsOwnPair clause p → has clause to ≡ true → IsOwnPair clause (moved_pair p from to)
own_moved clause p from to own h = go (same_literal p.first from)
  where
    go : (b : Bool) → IsOwnPair clause (cond b (record p { first = to }) (record p { second = to }))
    go true = record { first = h; second = own.second }
    go false = record { first = own.first; second = h }

guards_moved : (g : ℕ) (fallen all : List Entry) (p : WatchedLiterals) (l to : Signed) → GuardsTo g fallen all p → watches (Some p) l ≡ true → ((m : Signed) (k : ℕ) → IsTrueAt fallen m k → IsTrueAt all m k)
    → has (made_true all) (negation to) ≡ false → (has (made_true all) l ≡ true → ⊥) → GuardsTo g fallen all (moved_pair p l to)
guards_moved g fallen all p l to x w inside free untrue = go (same_literal p.first l) refl
  where
    not_to : (k : ℕ) → IsTrueAt fallen (negation to) k → ⊥
    not_to k f = both_ways _ free (known_from_level all (negation to) k (inside (negation to) k f))

    not_l : (m : Signed) (k : ℕ) → m ≡ l → IsGuard g k all m → ⊥
    not_l m k is (j, low, present) = untrue (subst (λ (y : Signed). has (made_true all) y ≡ true) is (known_from_level all m j present))

    go : (b : Bool) → same_literal p.first l ≡ b → GuardsTo g fallen all (cond b (record p { first = to }) (record p { second = to }))
    go true e = record { first = λ k f. absurd (not_to k f); second = λ k f. absurd (not_l p.first k (same_literal_true _ _ e) (x.second k f)) }
    go false e = record { first = λ k f. absurd (not_l p.second k (first_watched p l w e) (x.first k f)); second = λ k f. absurd (not_to k f) }

passed_moved : (p : WatchedLiterals) (l : Signed) (g : ℕ) (all : List Entry) → watches (Some p) l ≡ false → Passed l g all p
passed_moved p l g all n = record {
  first = λ is. absurd (both_ways _ n (or_left _ _ (subst (λ (m : Signed). same_literal p.first m ≡ true) is (same_literal-self p.first))));
  second = λ is. absurd (both_ways _ n (or_right _ _ (subst (λ (m : Signed). same_literal p.second m ≡ true) is (same_literal-self p.second))));
}

pub got_in_range : (xs : List ClauseId) (place : ℕ) (c : ClauseId) → slice_get xs place ≡ Some c → place < length xs
got_in_range [] place c e = cc
got_in_range (x ∷ xs) zero c e = omega arith
got_in_range (x ∷ xs) (suc place) c e = let a : place < length xs = got_in_range xs place c e in omega arith

-- ---- a clause watches another literal

module _ (l : Signed) (place : ℕ) (c : ClauseId) (s t : SatState) (w x : WatchLists) (fits : IsFit s w) (at : slice_get (watchers w.watches l) place ≡ Some c) (r : Replaces l place c.0 s t w x) where
  moved_is : r.moves.clause ≡ c
  moved_is = let both : Some r.moves.clause ≡ Some c = sym r.moves.lists.was_in ∙ at in cc

  moved_watched : watches (Some r.moves.pair) l ≡ true
  moved_watched = pair_watches s w l place r.moves.clause r.moves.pair fits r.moves.lists.was_in r.moves.watched

  moved_unwatched : watches (Some r.moves.pair) r.to ≡ false
  moved_unwatched = ap (λ (o : Option WatchedLiterals). watches o r.to) (sym r.moves.watched) ∙ subst (λ (i : ClauseId). watches (pair_at w.watched.items i.0) r.to ≡ false) (sym moved_is) r.unwatched

  moved_here : pair_at x.watched.items r.moves.clause.0 ≡ Some (moved_pair r.moves.pair l r.to)
  moved_here = ap (λ (ps : List (Option WatchedLiterals)). pair_at ps r.moves.clause.0) r.moves.pairs ∙ pair_at-set_same w.watched.items r.moves.clause.0 (Some (moved_pair r.moves.pair l r.to)) (pair_in_range w.watched.items r.moves.clause.0 r.moves.pair r.moves.watched)

  moved_elsewhere : (n : ℕ) → (n ≡ r.moves.clause.0 → ⊥) → pair_at x.watched.items n ≡ pair_at w.watched.items n
  moved_elsewhere n other = ap (λ (ps : List (Option WatchedLiterals)). pair_at ps n) r.moves.pairs ∙ pair_at-set_other w.watched.items r.moves.clause.0 n (Some (moved_pair r.moves.pair l r.to)) (λ e. other (sym e))

  -- a pair is that of the clause that moved, or was there
  moved_after : (n : ℕ) (q : WatchedLiterals) → pair_at x.watched.items n ≡ Some q → ((n ≡ r.moves.clause.0) × (moved_pair r.moves.pair l r.to ≡ q)) ⊎ ((eqb n r.moves.clause.0 ≡ false) × (pair_at w.watched.items n ≡ Some q))
  moved_after n q h = elim (eqb_tells n r.moves.clause.0) [
    | inl y ↦ inl (y.1, same_pair x.watched.items r.moves.clause.0 (moved_pair r.moves.pair l r.to) q moved_here (subst (λ (i : ℕ). pair_at x.watched.items i ≡ Some q) y.1 h))
    | inr y ↦ inr (y.0, sym (moved_elsewhere n y.1) ∙ h)
  ]

  moved_none : (n : ℕ) → pair_at x.watched.items n ≡ None → ((eqb n r.moves.clause.0 ≡ true) × (n ≡ r.moves.clause.0)) ⊎ ((eqb n r.moves.clause.0 ≡ false) × (n ≡ r.moves.clause.0 → ⊥)) → pair_at w.watched.items n ≡ None
  moved_none n h (inl y) =
      let both : Some (moved_pair r.moves.pair l r.to) ≡ None = sym moved_here ∙ subst (λ (i : ℕ). pair_at x.watched.items i ≡ None) y.1 h in
      cc
  moved_none n h (inr y) = sym (moved_elsewhere n y.1) ∙ h

  moved_own : (n : ℕ) (q : WatchedLiterals) → ((n ≡ r.moves.clause.0) × (moved_pair r.moves.pair l r.to ≡ q)) ⊎ ((eqb n r.moves.clause.0 ≡ false) × (pair_at w.watched.items n ≡ Some q)) → IsOwnPair (clause_at (clauses_of s) n) q
  moved_own n q (inl y) =
      subst (IsOwnPair (clause_at (clauses_of s) n)) y.1
      (own_moved (clause_at (clauses_of s) n) r.moves.pair l r.to
      (subst (λ (i : ℕ). IsOwnPair (clause_at (clauses_of s) i) r.moves.pair) (sym y.0) (fits.own r.moves.clause.0 r.moves.pair r.moves.watched))
      (subst (λ (i : ℕ). has (clause_at (clauses_of s) i) r.to ≡ true) (sym (y.0 ∙ ap (λ (i : ClauseId). i.0) moved_is)) r.own))
  moved_own n q (inr y) = fits.own n q y.1

  pub moved_fits : IsFit s x
  moved_fits = record {
    fit = r.moves.fit;
    each = ap length r.moves.pairs ∙ length-set w.watched.items r.moves.clause.0 (Some (moved_pair r.moves.pair l r.to)) ∙ fits.each;
    own = λ n q h. moved_own n q (moved_after n q h);
  }

  moved_pending : (n : ℕ) → IsPending n w → IsPending n x
  moved_pending n h = subst (λ (cs : Vec ClauseId Global). 0 < count n cs.items) (sym r.pending) h

  pub moved_watching : SameWatching w x
  moved_watching = record {
    assertions = r.assertions;
    learnt = r.learnt;
    notes = notes_same w x r.units_done;
    pairs = λ n h. moved_none n h (eqb_tells n r.moves.clause.0);
    was_pending = λ n h. subst (λ (cs : Vec ClauseId Global). 0 < count n cs.items) r.pending h;
  }

  moved_guards : (k n : ℕ) (q : WatchedLiterals) → IsState s → has (made_true (history s)) (negation l) ≡ true → IsWalkedTo k s w → (IsPending n x → ⊥) → ((n ≡ r.moves.clause.0) × (moved_pair r.moves.pair l r.to ≡ q)) ⊎ ((eqb n r.moves.clause.0 ≡ false) × (pair_at w.watched.items n ≡ Some q))
      → GuardsTo s.guard_level (before s.tracker.trail k) (history s) q
  moved_guards k n q state known walked out (inl y) =
      subst (GuardsTo s.guard_level (before s.tracker.trail k) (history s)) y.1
      (guards_moved s.guard_level (before s.tracker.trail k) (history s) r.moves.pair l r.to
      (walked r.moves.clause.0 r.moves.pair r.moves.watched (λ h. out (subst (λ (i : ℕ). IsPending i x) (sym y.0) (moved_pending r.moves.clause.0 h)))) moved_watched (λ m j h. level_by_now s.tracker.trail k m j h) r.free
      (λ h. consistent (count_of s) (clauses_of s) (history s) l state.trail h known))
  moved_guards k n q state known walked out (inr y) = walked n q y.1 (λ h. out (moved_pending n h))

  pub moved_walked : (k : ℕ) → IsState s → has (made_true (history s)) (negation l) ≡ true → IsWalkedTo k s w → IsWalkedTo k s x
  moved_walked k state known walked n q h out = moved_guards k n q state known walked out (moved_after n q h)

  moved_passed : (n : ℕ) (q : WatchedLiterals) → ((m : ℕ) (p : WatchedLiterals) → pair_at w.watched.items m ≡ Some p → count m (drop place (watchers w.watches l)) ≡ 0 → Passed l s.guard_level (history s) p) → count n (drop place (watchers x.watches l)) ≡ 0
      → ((n ≡ r.moves.clause.0) × (moved_pair r.moves.pair l r.to ≡ q)) ⊎ ((eqb n r.moves.clause.0 ≡ false) × (pair_at w.watched.items n ≡ Some q)) → Passed l s.guard_level (history s) q
  moved_passed n q passed none (inl y) =
      subst (Passed l s.guard_level (history s)) y.1
      (passed_moved (moved_pair r.moves.pair l r.to) l s.guard_level (history s)
      (moved_from r.moves.pair l r.to (fits.fit.differ r.moves.clause.0 r.moves.pair r.moves.watched) moved_watched moved_unwatched))
  moved_passed n q passed none (inr y) =
      let rest : drop place (watchers x.watches l) ≡ drop (suc place) (watchers w.watches l) = ap (drop place) r.moves.lists.taken ∙ drop_taken (watchers w.watches l) place (got_in_range (watchers w.watches l) place r.moves.clause r.moves.lists.was_in) in
      passed n q y.1 (count_here (watchers w.watches l) place r.moves.clause n r.moves.lists.was_in y.0 (sym (ap (count n) rest) ∙ none))

moves_here : (k : ℕ) (l : Signed) (place : ℕ) (c : ClauseId) (o s t : SatState) (v w x : WatchLists) → IsVisiting k l place o s v w → slice_get (watchers w.watches l) place ≡ Some c → Replaces l place c.0 s t w x → IsVisiting k l place o s v x
moves_here k l place c o s t v w x propagate_literal at r = record {
  fits = moved_fits l place c s t w x propagate_literal.fits at r;
  extends = propagate_literal.extends;
  qhead = propagate_literal.qhead;
  walked = moved_walked l place c s t w x propagate_literal.fits at r k propagate_literal.extends.state (fallen_now k l place o s v w propagate_literal) propagate_literal.walked;
  passed = λ n q h none. moved_passed l place c s t w x propagate_literal.fits at r n q propagate_literal.passed none (moved_after l place c s t w x propagate_literal.fits at r n q h);
  entry = propagate_literal.entry;
  long = propagate_literal.long;
  watching = watching_more v w x propagate_literal.watching (moved_watching l place c s t w x propagate_literal.fits at r);
}

pub visiting_moves : (k : ℕ) (l : Signed) (place : ℕ) (c : ClauseId) (o s t : SatState) (v w x : WatchLists) → IsVisiting k l place o s v w → slice_get (watchers w.watches l) place ≡ Some c
    → Replaces l place c.0 s t w x → IsVisiting k l place o t v x
visiting_moves k l place c o s t v w x propagate_literal at r = subst (λ (u : SatState). IsVisiting k l place o u v x) (sym r.same_state) (moves_here k l place c o s t v w x propagate_literal at r)

-- a walk begins: each clause that doesn't watch the literal was passed
pub visiting_starts : (k : ℕ) (s : SatState) (w : WatchLists) (l : Signed) → IsState s → IsFit s w → FellAt l k s → IsWalkedTo k s w → IsVisiting k l 0 s s w w
visiting_starts k s w l state fits fell walked = record {
  fits = fits;
  extends = extends_nothing s state;
  qhead = refl;
  walked = walked;
  passed = λ n q h none. passed_moved q l s.guard_level (history s) (unwatched n q h none (watches (Some q) l) refl);
  entry = fell.entry;
  long = fell.in_range;
  watching = same_watching w;
}
  where
    unwatched : (n : ℕ) (q : WatchedLiterals) → pair_at w.watched.items n ≡ Some q → count n (watchers w.watches l) ≡ 0 → (b : Bool) → watches (Some q) l ≡ b → watches (Some q) l ≡ false
    unwatched n q h none true e =
        let a : count n (watchers w.watches l) ≡ one_if (watches (pair_at w.watched.items n) l) = fits.fit.once l n in
        let b : one_if (watches (pair_at w.watched.items n) l) ≡ 1 = ap (λ (o : Option WatchedLiterals). one_if (watches o l)) h ∙ ap one_if e in
        absurd (omega arith)
    unwatched n q h none false e = e

pub visiting_ends : (k : ℕ) (l : Signed) (place : ℕ) (o s : SatState) (v w : WatchLists) → IsVisiting k l place o s v w → slice_get (watchers w.watches l) place ≡ None → Walked (k + 1) o s v w
visiting_ends k l place o s v w propagate_literal end = record {
  watching = propagate_literal.watching;
  fits = propagate_literal.fits;
  extends = propagate_literal.extends;
  qhead = propagate_literal.qhead;
  walked = λ n q h out.
      let passed = propagate_literal.passed n q h (ap (count n) (nothing_left (watchers w.watches l) place end)) in
      record {
        first = λ j f. elim (cases q.first j f) [ inl e ↦ passed.first e.0 j e.1 | inr e ↦ (propagate_literal.walked n q h out).first j e ];
        second = λ j f. elim (cases q.second j f) [ inl e ↦ passed.second e.0 j e.1 | inr e ↦ (propagate_literal.walked n q h out).second j e ];
      };
}
  where
    no_entry : Entry
    no_entry = record { decision = record { variable = record { 0 = 0 }; value = true; derived_from = record { 0 = 0 } }; level = 0 }

    -- an entry of the first k + 1 is the last one, or one of those before it
    newest : (xs : List Entry) → made_true xs ≡ negation l ∷ made_true (before s.tracker.trail k) → (d : Entry) → xs ≡ d ∷ before s.tracker.trail k → literal_of d ≡ negation l
    newest xs e d is = let both : literal_of d ∷ made_true (before s.tracker.trail k) ≡ negation l ∷ made_true (before s.tracker.trail k) = sym (ap made_true is) ∙ e in cc

    cases : (m : Signed) (j : ℕ) → IsTrueAt (before s.tracker.trail (k + 1)) (negation m) j → ((m ≡ l) × IsTrueAt (history s) (negation l) j) ⊎ IsTrueAt (before s.tracker.trail k) (negation m) j
    cases m j f =
        let d : Entry = get_or s.tracker.trail k no_entry in
        let is : before s.tracker.trail (k + 1) ≡ d ∷ before s.tracker.trail k = entry_read s.tracker.trail s.tracker.trail k no_entry propagate_literal.long refl in
        elim (subst (λ (h : List Entry). IsTrueAt h (negation m) j) is f) [
          | inl e ↦
              let same : negation l ≡ negation m = sym (newest (before s.tracker.trail (k + 1)) propagate_literal.entry d is) ∙ e.0 in
              let back : m ≡ l = sym (negation-negation m) ∙ ap negation (sym same) ∙ negation-negation l in
              inl (back, subst (λ (x : Signed). IsTrueAt (history s) x j) (sym same) (level_by_now s.tracker.trail (k + 1) (negation m) j f))
          | inr e ↦ inr e
        ]

-- what was noted of the unit clauses holds after visits
pub visited_done : (o s : SatState) (v w : WatchLists) → Extends o s → s.qhead ≡ o.qhead → o.qhead ≤ length o.tracker.trail → SameWatching v w → AreDone o v → AreDone s w
visited_done o s v w e qhead low watching done =
    done_same o s v w watching.notes watching.assertions watching.learnt (omega arith) (λ k le. before_kept o s k e (omega arith)) done

-- a clause is falsified
pub visiting_breaks : (l : Signed) (place n : ℕ) (p : WatchedLiterals) (o s t : SatState) (v w x : WatchLists) → o.qhead < length o.tracker.trail → AreDone o v → IsVisiting o.qhead l place o s v w → pair_at w.watched.items n ≡ Some p → Falsifies n s t w x → Conflicts n o t v x
visiting_breaks l place n p o s t v w x below_end done propagate_literal is b =
    subst (λ (m : SatState). Conflicts n o m v x) (sym b.same_state)
    (subst (λ (y : WatchLists). Conflicts n o s v y) (sym b.same_watching) here)
  where
    here : Conflicts n o s v w
    here =
        let below : n < length w.watched.items = pair_in_range w.watched.items n p is in
        let each : length w.watched.items ≡ length s.clauses = propagate_literal.fits.each in
        let qhead : s.qhead ≡ o.qhead = propagate_literal.qhead in
        let long : o.qhead < length s.tracker.trail = propagate_literal.long in
        record {
          watching = propagate_literal.watching;
          ready = record { state = propagate_literal.extends.state; fits = propagate_literal.fits; qhead = omega arith; walked = subst (λ (k : ℕ). IsWalkedTo k s w) (sym qhead) propagate_literal.walked; done = visited_done o s v w propagate_literal.extends qhead (omega arith) propagate_literal.watching done };
          extends = propagate_literal.extends;
          falsified = record { in_range = omega arith; falls = b.falls };
        }
