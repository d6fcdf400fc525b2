-- The notes of true unit clauses hold where the trail grows or is undone.
use Rattle.std.proofs.Common.{◌≡◌, ℕ, zero, suc, ◌+◌, ◌-◌, ◌<◌, ◌≤◌, ◌⊎◌, inl, inr, Bool, true, false, List, [], ◌∷◌, ◌++◌, take, length, Some, None, Vec, Global, refl, sym, ◌∙◌, ap, subst, arith}
use Rattle.std.specs.Prelude.{slice_get}
use Rattle.std.proofs.lemmas.List.{take-append-le, length-append}
use Rattle.resolvo_store_core.specs.declared.decision.Entry.{Entry}
use Rattle.resolvo_sat.specs.declared.state.SatState.{SatState}
use Rattle.resolvo_sat.specs.declared.watch_lists.WatchLists.{WatchLists}
use Rattle.resolvo_sat.specs.declared.watch_lists.UnitClause.{UnitClause}
use Rattle.resolvo_sat.specs.declared.watch_lists.UnitsDone.{UnitsDone}
use Rattle.resolvo_sat.specs.Entries.{made_true, before}
use Rattle.resolvo_sat.specs.State.{history}
use Rattle.resolvo_sat.specs.Propagation.{AllTrue, IsDone, AreDone, AreWithin, HasDone, KeepsNotes}
use Rattle.resolvo_sat.specs.AddClause.{with_last}
use Rattle.resolvo_sat.specs.UnitsDone.{DropsDone, IsLastDone}
use Rattle.resolvo_sat.proofs.ExtendLemmas.{true_by_now}

-- the first ones of a list are the first ones of another one too
abbrev pub FirstSame : List UnitClause → List UnitClause → Type 0
FirstSame xs ys = (n : ℕ) → n ≤ length xs → (n ≤ length ys) × (take n ys ≡ take n xs)

pub first_same : (v w : Vec UnitClause Global) → w ≡ v → FirstSame v.items w.items
first_same v w same n low = subst (λ (u : Vec UnitClause Global). (n ≤ length u.items) × (take n u.items ≡ take n v.items)) (sym same) (low, refl)

pub first_more : (b : Bool) (x : UnitClause) (xs : List UnitClause) → FirstSame xs (with_last b x xs)
first_more true x xs n low = (
  (let long : length (xs ++ x ∷ []) ≡ length xs + 1 = length-append xs (x ∷ []) in omega arith),
  take-append-le n xs (x ∷ []) low,
)
first_more false x xs n low = (low, refl)

-- the notes hold where the first unit clauses are the same, and the entries of those that are to hold
pub done_kept : (s t : SatState) (v w : WatchLists) → KeepsNotes v w → FirstSame v.assertions.items w.assertions.items → FirstSame v.learnt.items w.learnt.items
    → ((d : UnitsDone) → ((k : ℕ) → AreWithin k v → d.entries ≤ k) → d.entries ≤ t.qhead → (d.entries ≤ s.qhead) × (before t.tracker.trail d.entries ≡ before s.tracker.trail d.entries)) → AreDone s v → AreDone t w
done_kept s t v w notes rules learnt low done = record {
  each = λ i d h.
      let was : slice_get v.units_done.items i ≡ Some d = notes i d h in
      let old : IsDone s.tracker.trail s.qhead v.assertions.items v.learnt.items d = done.each i d was in
      record {
        assertions_within = (rules d.assertions old.assertions_within).0;
        learnt_within = (learnt d.learnt old.learnt_within).0;
        assertions_true = λ below.
            let (within, same) = low d (λ k all. all i d was) below in
            subst (λ (xs : List UnitClause). AllTrue (made_true (before t.tracker.trail d.entries)) xs) (sym (rules d.assertions old.assertions_within).1)
            (subst (λ (es : List Entry). AllTrue (made_true es) (take d.assertions v.assertions.items)) (sym same) (old.assertions_true within));
        learnt_true = λ below.
            let (within, same) = low d (λ k all. all i d was) below in
            subst (λ (xs : List UnitClause). AllTrue (made_true (before t.tracker.trail d.entries)) xs) (sym (learnt d.learnt old.learnt_within).1)
            (subst (λ (es : List Entry). AllTrue (made_true es) (take d.learnt v.learnt.items)) (sym same) (old.learnt_true within));
      };
  rising = λ i j c d le f g. done.rising i j c d le (notes i c f) (notes j d g);
}

-- the notes are the same
pub notes_same : (v w : WatchLists) → w.units_done ≡ v.units_done → KeepsNotes v w
notes_same v w same i d h = subst (λ (u : Vec UnitsDone Global). slice_get u.items i ≡ Some d) same h

-- the unit clauses are the same, and no note came
pub done_same : (s t : SatState) (v w : WatchLists) → KeepsNotes v w → w.assertions ≡ v.assertions → w.learnt ≡ v.learnt
    → t.qhead ≤ s.qhead → ((k : ℕ) → k ≤ t.qhead → before t.tracker.trail k ≡ before s.tracker.trail k) → AreDone s v → AreDone t w
done_same s t v w notes rules learnt low same done =
    done_kept s t v w notes (first_same v.assertions w.assertions rules) (first_same v.learnt w.learnt learnt) (λ d all below. (omega arith, same d.entries below)) done

-- the propagation head advanced past all entries of the notes
pub done_further : (s t : SatState) (v w : WatchLists) → KeepsNotes v w → w.assertions ≡ v.assertions → w.learnt ≡ v.learnt
    → AreWithin s.qhead v → ((k : ℕ) → k ≤ s.qhead → before t.tracker.trail k ≡ before s.tracker.trail k) → AreDone s v → AreDone t w
done_further s t v w notes rules learnt within same done =
    done_kept s t v w notes (first_same v.assertions w.assertions rules) (first_same v.learnt w.learnt learnt)
    (λ d all below. (let low : d.entries ≤ s.qhead = all s.qhead within in (low, same d.entries low))) done

pub within_same : (k m : ℕ) (v w : WatchLists) → KeepsNotes v w → k ≤ m → AreWithin k v → AreWithin m w
within_same k m v w notes le within i d h = let low : d.entries ≤ k = within i d (notes i d h) in omega arith

-- notes were dropped
pub done_dropped : (s : SatState) (v w : WatchLists) → DropsDone v w → AreDone s v → AreDone s w
done_dropped s v w drops done = subst (λ (x : WatchLists). AreDone s x) (sym drops.rest) (record {
  each = λ i d h. (let old = done.each i d (drops.kept i d h) in record { assertions_within = old.assertions_within; learnt_within = old.learnt_within; assertions_true = old.assertions_true; learnt_true = old.learnt_true });
  rising = λ i j c d le f g. done.rising i j c d le (drops.kept i c f) (drops.kept j d g);
})

got_below : {X : Type 0} (xs : List X) (i : ℕ) (x : X) → slice_get xs i ≡ Some x → i < length xs
got_below [] i x h = cc
got_below (y ∷ ys) zero x h = omega arith
got_below (y ∷ ys) (suc i) x h = let low : i < length ys = got_below ys i x h in omega arith

-- where the last note is of no more entries than these, none is
pub within_last : (s : SatState) (w : WatchLists) (k : ℕ) (d : UnitsDone) → AreDone s w → IsLastDone k w.units_done.items d → AreWithin k w
within_last s w k d done (inl (last, low)) i c h =
    let below : i < length w.units_done.items = got_below w.units_done.items i c h in
    let up : c.entries ≤ d.entries = done.rising i (length w.units_done.items - 1) c d (omega arith) h last in
    omega arith
within_last s w k d done (inr (none, is)) i c h = let below : i < length w.units_done.items = got_below w.units_done.items i c h in absurd (omega arith)

all_true_now : (s : SatState) (k : ℕ) (us : List UnitClause) → AllTrue (made_true (before s.tracker.trail k)) us → AllTrue (made_true (history s)) us
all_true_now s k [] a = tt
all_true_now s k (u ∷ us) a = (true_by_now s.tracker.trail k u.literal a.0, all_true_now s k us a.1)

-- the unit clauses of the last note are true
pub last_has_done : (s : SatState) (w : WatchLists) (d : UnitsDone) → AreDone s w → IsLastDone s.qhead w.units_done.items d → HasDone s w d
last_has_done s w d done (inl (last, low)) =
    let is : IsDone s.tracker.trail s.qhead w.assertions.items w.learnt.items d = done.each (length w.units_done.items - 1) d last in
    record {
      assertions_within = is.assertions_within;
      learnt_within = is.learnt_within;
      assertions = all_true_now s d.entries (take d.assertions w.assertions.items) (is.assertions_true low);
      learnt = all_true_now s d.entries (take d.learnt w.learnt.items) (is.learnt_true low);
    }
last_has_done s w d done (inr (none, is)) = subst (HasDone s w) (sym is) (record { assertions_within = omega arith; learnt_within = omega arith; assertions = tt; learnt = tt })

pub not_none : {X : Type 0} (x : X) → None ≡ Some x → ⊥
not_none x h = cc

got_push : {X : Type 0} (xs : List X) (y : X) (i : ℕ) (x : X) → slice_get (xs ++ y ∷ []) i ≡ Some x → (slice_get xs i ≡ Some x) ⊎ ((i ≡ length xs) × (x ≡ y))
got_push [] y zero x h = inr (refl, cc)
got_push [] y (suc i) x h = absurd (not_none x h)
got_push (z ∷ zs) y zero x h = inl h
got_push (z ∷ zs) y (suc i) x h = elim (got_push zs y i x h) [ inl e ↦ inl e | inr e ↦ inr (let here : i ≡ length zs = e.0 in (omega arith, e.1)) ]

-- one note more
pub done_noted : (s : SatState) (w x : WatchLists) (d : UnitsDone) → AreDone s w → AreWithin d.entries w → IsDone s.tracker.trail s.qhead w.assertions.items w.learnt.items d
    → x.assertions ≡ w.assertions → x.learnt ≡ w.learnt → x.units_done.items ≡ w.units_done.items ++ d ∷ [] → AreDone s x
done_noted s w x d done within is rules learnt pushed = record {
  each = λ i e h. subst (λ (u : Vec UnitClause Global). IsDone s.tracker.trail s.qhead u.items x.learnt.items e) (sym rules)
      (subst (λ (u : Vec UnitClause Global). IsDone s.tracker.trail s.qhead w.assertions.items u.items e) (sym learnt)
      (elim (cases i e h) [ inl old ↦ done.each i e old | inr new ↦ subst (IsDone s.tracker.trail s.qhead w.assertions.items w.learnt.items) (sym new.1) is ]));
  rising = λ i j b c le f g. rises i j b c le (cases i b f) (cases j c g);
}
  where
    cases : (i : ℕ) (e : UnitsDone) → slice_get x.units_done.items i ≡ Some e → (slice_get w.units_done.items i ≡ Some e) ⊎ ((i ≡ length w.units_done.items) × (e ≡ d))
    cases i e h = got_push w.units_done.items d i e (subst (λ (ds : List UnitsDone). slice_get ds i ≡ Some e) pushed h)

    rises : (i j : ℕ) (b c : UnitsDone) → i ≤ j → (slice_get w.units_done.items i ≡ Some b) ⊎ ((i ≡ length w.units_done.items) × (b ≡ d)) → (slice_get w.units_done.items j ≡ Some c) ⊎ ((j ≡ length w.units_done.items) × (c ≡ d)) → b.entries ≤ c.entries
    rises i j b c le (inl f) (inl g) = done.rising i j b c le f g
    rises i j b c le (inl f) (inr g) = subst (λ (e : UnitsDone). b.entries ≤ e.entries) (sym g.1) (within i b f)
    rises i j b c le (inr f) (inl g) = let low : j < length w.units_done.items = got_below w.units_done.items j c g in let here : i ≡ length w.units_done.items = f.0 in absurd (omega arith)
    rises i j b c le (inr f) (inr g) = let same : b.entries ≡ c.entries = ap (λ (e : UnitsDone). e.entries) (f.1 ∙ sym g.1) in omega arith
