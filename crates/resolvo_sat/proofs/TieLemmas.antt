-- Rules of a place's digits, for which there is room.
use Rattle.std.proofs.Common.{◌≡◌, ℕ, ◌+◌, ◌<◌, inl, inr, get_or, arith, Bool, true, false, List, [], ◌∷◌, reverse, length, Some, refl, sym, ◌∙◌, ap, subst}
use Rattle.std.proofs.lemmas.Bool.Decides.{eqb_tells}
use Rattle.std.proofs.lemmas.List.{length-append}
use Rattle.resolvo_pool_core.specs.declared.id.ClauseId.{ClauseId}
use Rattle.resolvo_pool_core.specs.declared.id.VariableId.{VariableId}
use Rattle.resolvo_store_core.specs.Signed.{Signed, negation, same_literal, has}
use Rattle.resolvo_store_core.specs.Clauses.{no}
use Rattle.resolvo_store_core.specs.Trail.{Tracked}
use Rattle.resolvo_store_core.specs.Watches.{watchers, count, SameLists, HasRoomFor, IsReadyFor}
use Rattle.resolvo_store_core.specs.declared.watch_map.WatchMap.{WatchMap}
use Rattle.resolvo_store_core.specs.declared.watched_literals.WatchedLiterals.{WatchedLiterals}
use Rattle.resolvo_store_core.proofs.Rooms.{next_ready}
use Rattle.resolvo_store_core.proofs.Watched.{differs_from}
use Rattle.resolvo_sat.specs.Clauses.{SatClause, pair_clause}
use Rattle.resolvo_sat.specs.declared.state.SatState.{SatState}
use Rattle.resolvo_sat.specs.declared.watch_lists.WatchLists.{WatchLists}
use Rattle.resolvo_sat.specs.Entries.{made_true}
use Rattle.resolvo_sat.specs.State.{history, count_of}
use Rattle.resolvo_sat.specs.Steps.{Adds, AreInRange}
use Rattle.resolvo_sat.specs.Propagation.{IsReady, AreCovered}
use Rattle.resolvo_sat.specs.Pending.{AreOpen}
use Rattle.resolvo_sat.specs.AddClause.{Begins, AddsClause, IsPlainDigit}
use Rattle.resolvo_sat.proofs.Literals.{has_here, has_later}
use Rattle.resolvo_sat.proofs.PairLemmas.{begun_plain, pair_added}

-- the lists of a map with more room are the same
pub ready_with_room : (s : SatState) (v : WatchLists) (m : WatchMap) → SameLists (watchers v.watches) (watchers m) → IsReady s v → IsReady s (record v { watches = m })
ready_with_room s v m same ready = record {
  state = ready.state;
  fits = record {
    fit = record { once = λ l c. ap (count c) (same l) ∙ ready.fits.fit.once l c; differ = ready.fits.fit.differ };
    each = ready.fits.each;
    own = ready.fits.own;
  };
  qhead = ready.qhead;
  walked = ready.walked;
  done = record { each = ready.done.each; rising = ready.done.rising };
}

pub covered_with_room : (s : SatState) (v : WatchLists) (m : WatchMap) → AreCovered s v → AreCovered s (record v { watches = m })
covered_with_room s v m covers = record { assertions = covers.assertions; learnt = covers.learnt; covered = covers.covered; first = covers.first }

-- a variable that has no value, and is another one than the tie's
pub plain_digit : (known : List Signed) (x d : VariableId) → (x.0 ≡ d.0 → ⊥) → has known (negation (record { variable = d; positive = false })) ≡ false → has known (negation (record { variable = d; positive = true })) ≡ false → IsPlainDigit known x d
plain_digit known x d apart zero one = record {
  differ = λ b. differs_from (no x) (record { variable = d; positive = b }) (λ e. apart (ap (λ (l : Signed). l.variable.0) e));
  free = free;
}
  where
    free : (b : Bool) → has known (negation (record { variable = d; positive = b })) ≡ false
    free true = one
    free false = zero

pub plain_more : (known : List Signed) (x : VariableId) (digits : List VariableId) (i : ℕ) → ((k : ℕ) → k < i → IsPlainDigit known x (get_or digits k (record { 0 = 0 }))) → IsPlainDigit known x (get_or digits i (record { 0 = 0 }))
    → (k : ℕ) → k < i + 1 → IsPlainDigit known x (get_or digits k (record { 0 = 0 }))
plain_more known x digits i before here k h = elim (eqb_tells k i) [
  | inl e ↦ subst (λ (j : ℕ). IsPlainDigit known x (get_or digits j (record { 0 = 0 }))) (sym e.1) here
  | inr e ↦ before k (less e.1)
]
  where
    less : (k ≡ i → ⊥) → k < i
    less d = omega arith

-- the literals of a tie to a plain digit differ, and aren't false
pub tie_differs : (known : List Signed) (x d : VariableId) (b : Bool) (p : WatchedLiterals) → p.first ≡ no x → p.second ≡ record { variable = d; positive = b } → IsPlainDigit known x d → same_literal p.first p.second ≡ false
tie_differs known x d b p first second plain = ap (λ (l : Signed). same_literal l p.second) first ∙ (ap (λ (l : Signed). same_literal (no x) l) second ∙ plain.differ b)

pub tie_open : (s t : SatState) (x d : VariableId) (b : Bool) (p : WatchedLiterals) → t.tracker ≡ s.tracker → p.first ≡ no x → p.second ≡ record { variable = d; positive = b } → has (made_true (history s)) (negation (no x)) ≡ false → IsPlainDigit (made_true (history s)) x d
    → AreOpen (made_true (history t)) p
tie_open s t x d b p same first second free plain = subst (λ (y : Tracked). AreOpen (made_true (reverse y.trail)) p) (sym same) (record {
  first = ap (λ (l : Signed). has (made_true (history s)) (negation l)) first ∙ free;
  second = ap (λ (l : Signed). has (made_true (history s)) (negation l)) second ∙ plain.free b;
})

-- the next clause is ready to watch its two literals
pub tie_ready : (s t : SatState) (v : WatchLists) (id : ClauseId) (p : WatchedLiterals) → IsReady s v → AreInRange (count_of s) (p.first ∷ p.second ∷ []) → HasRoomFor (count_of s) (length s.clauses + 1) v.watches → Adds (pair_clause p) id s t → IsReadyFor v.watches p id
tie_ready s t v id p ready in_range room adds =
    next_ready v.watches v.watched.items p id (count_of s) ready.fits.fit (adds.number ∙ sym ready.fits.each) (in_range p.first (has_here p.first (p.second ∷ []) p.first refl))
    (in_range p.second (has_later p.first (p.second ∷ []) p.second (has_here p.second [] p.second refl)))
    (subst (λ (n : ℕ). HasRoomFor (count_of s) (n + 1) v.watches) (sym ready.fits.each) room)

pub tie_added : (id : ClauseId) (p : WatchedLiterals) (s t : SatState) (v w : WatchLists) → IsReady s v → AreCovered s v → same_literal p.first p.second ≡ false → AreOpen (made_true (history s)) p → Adds (pair_clause p) id s t
    → Begins (record { clause = id; literal = p.first }) (Some p) true v w → AddsClause (pair_clause p) id s v t w
tie_added id p s t v w ready covers differ free adds begins =
    pair_added id p s t v w ready covers differ adds (begun_plain id p t v w (subst (λ (y : Tracked). AreOpen (made_true (reverse y.trail)) p) (sym adds.tracker) free) begins)

-- one clause more
pub one_added : (c : SatClause) (id : ClauseId) (s t : SatState) (v w : WatchLists) → AddsClause c id s v t w → length t.clauses ≡ length s.clauses + 1
one_added c id s t v w one = ap (λ (cs : List SatClause). length cs) one.adds.added ∙ length-append s.clauses (c ∷ [])
