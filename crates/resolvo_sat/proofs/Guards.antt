-- The literals that guard false ones, and their levels.
use Rattle.std.proofs.Common.{◌≡◌, ℕ, ◌≤◌, inl, inr, true, List, [], ◌∷◌, ◌++◌, reverse, Option, Some, None, refl, sym, ◌∙◌, ap, subst, arith}
use Rattle.std.specs.Prelude.{max}
use Rattle.std.specs.Option.{option_map}
use Rattle.std.proofs.lemmas.Bool.{both_ways}
use Rattle.std.proofs.lemmas.Grind.{reverse_onto}
use Rattle.std.proofs.lemmas.List.{reverse-reverse}
use Rattle.resolvo_store_core.specs.Signed.{Signed, negation, has}
use Rattle.resolvo_store_core.specs.Trail.{assigned, assignment_of, level_or}
use Rattle.resolvo_store_core.specs.declared.decision.Entry.{Entry}
use Rattle.resolvo_store_core.specs.declared.decision_map.Assignment.{Assignment}
use Rattle.resolvo_store_core.specs.declared.watched_literals.WatchedLiterals.{WatchedLiterals}
use Rattle.resolvo_store_core.proofs.Trails.{assigned_end_same, assigned_end_other}
use Rattle.resolvo_sat.specs.declared.state.SatState.{SatState}
use Rattle.resolvo_sat.specs.Known.{IsUndecided}
use Rattle.resolvo_sat.specs.Entries.{literal_of, made_true, before, IsTrail, IsTrueAt}
use Rattle.resolvo_sat.specs.State.{count_of, history, clauses_of, IsState}
use Rattle.resolvo_sat.specs.Propagation.{IsGuard, Guards, GuardsTo}
use Rattle.resolvo_sat.specs.Pending.{AreOpen}
use Rattle.resolvo_sat.proofs.Trails.{same_or_negated, known_from_level, level_from_known}
use Rattle.resolvo_sat.proofs.Values.{undecided_none}
use Rattle.resolvo_sat.proofs.ExtendLemmas.{level_by_now}

-- a guard stays one where entries are added, and where the guards' level rises
pub guard_more : (g h k : ℕ) (all more : List Entry) (l : Signed) → g ≤ h → ((j : ℕ) → IsTrueAt all l j → IsTrueAt more l j) → IsGuard g k all l → IsGuard h k more l
guard_more g h k all more l le inside (j, low, present) = (j, omega arith, inside j present)

pub guards_more : (g h : ℕ) (fallen all more : List Entry) (p : WatchedLiterals) → g ≤ h → ((l : Signed) (j : ℕ) → IsTrueAt all l j → IsTrueAt more l j) → GuardsTo g fallen all p → GuardsTo h fallen more p
guards_more g h fallen all more p le inside x = record {
  first = λ k f. guard_more g h k all more p.second le (inside p.second) (x.first k f);
  second = λ k f. guard_more g h k all more p.first le (inside p.first) (x.second k f);
}

-- a guard is true
pub guards_known : (g : ℕ) (fallen all : List Entry) (p : WatchedLiterals) → GuardsTo g fallen all p → Guards (made_true fallen) (made_true all) p
guards_known g fallen all p x = record {
  first = λ f. (let (k, at_level) = level_from_known fallen (negation p.first) f in let (j, low, present) = x.first k at_level in known_from_level all p.second j present);
  second = λ f. (let (k, at_level) = level_from_known fallen (negation p.second) f in let (j, low, present) = x.second k at_level in known_from_level all p.first j present);
}

none_from_value : (o : Option Assignment) → option_map (λ (a : Assignment). a.value) o ≡ None → o ≡ None
none_from_value None h = refl
none_from_value (Some a) h = cc

-- the level that the trail gives a variable is that of its entry
level_at : (count : ℕ) (cs : List (List Signed)) (h : List Entry) (l : Signed) (k : ℕ) → IsTrail count cs h → IsTrueAt h l k → level_or (assigned (reverse h) l.variable.0) ≡ k
level_at count cs [] l k t s = absurd s
level_at count cs (d ∷ older) l k t (inl (is, level)) =
    let free : IsUndecided (made_true (reverse (reverse older))) (literal_of d) = subst (λ (xs : List Entry). IsUndecided (made_true xs) (literal_of d)) (sym (reverse-reverse older)) t.0.undecided in
    let none : assigned (reverse older) d.decision.variable.0 ≡ None = none_from_value (assigned (reverse older) d.decision.variable.0) (undecided_none (reverse older) (literal_of d) free) in
    let here : assigned (reverse older ++ d ∷ []) d.decision.variable.0 ≡ Some (assignment_of d) = assigned_end_same (reverse older) d none in
    let same : level_or (assigned (reverse (d ∷ older)) d.decision.variable.0) ≡ d.level = ap (λ (xs : List Entry). level_or (assigned xs d.decision.variable.0)) (reverse_onto older d []) ∙ ap level_or here in
    subst (λ (m : Signed). level_or (assigned (reverse (d ∷ older)) m.variable.0) ≡ k) is (same ∙ level)
level_at count cs (d ∷ older) l k t (inr s) =
    let known : has (made_true older) l ≡ true = known_from_level older l k s in
    let other : l.variable.0 ≡ d.decision.variable.0 → ⊥ = λ e. elim (same_or_negated l (literal_of d) e) [
      | inl i ↦ both_ways _ t.0.undecided.not_true (subst (λ (m : Signed). has (made_true older) m ≡ true) i known)
      | inr i ↦ both_ways _ t.0.undecided.not_false (subst (λ (m : Signed). has (made_true older) m ≡ true) i known)
    ] in
    ap (λ (xs : List Entry). level_or (assigned xs l.variable.0)) (reverse_onto older d []) ∙ ap level_or (assigned_end_other (reverse older) d l.variable.0 other) ∙ level_at count cs older l k t.1 s

pub level_is : (s : SatState) (l : Signed) (k : ℕ) → IsState s → IsTrueAt (history s) l k → level_or (assigned s.tracker.trail l.variable.0) ≡ k
level_is s l k state present = subst (λ (xs : List Entry). level_or (assigned xs l.variable.0) ≡ k) (reverse-reverse s.tracker.trail) (level_at (count_of s) (clauses_of s) (history s) l k state.trail present)

-- the guards' level is that of the guard at least, unless the guard is at the false literal's level
-- or below
pub guard_recorded : (s : SatState) (g : ℕ) (l m : Signed) → IsState s → has (made_true (history s)) m ≡ true → s.guard_level ≤ g
    → (level_or (assigned s.tracker.trail m.variable.0) ≤ max g (level_or (assigned s.tracker.trail l.variable.0))) → (k : ℕ) → IsTrueAt (history s) (negation l) k → IsGuard g k (history s) m
guard_recorded s g l m state known le bound k fell =
    let (j, present) = level_from_known (history s) m known in
    let a : level_or (assigned s.tracker.trail m.variable.0) ≡ j = level_is s m j state present in
    let b : level_or (assigned s.tracker.trail l.variable.0) ≡ k = level_is s (negation l) k state fell in
    (j, omega arith, present)

-- neither of the two is false: there is nothing to guard
pub open_guards : (s : SatState) (g k : ℕ) (p : WatchedLiterals) → AreOpen (made_true (history s)) p → GuardsTo g (before s.tracker.trail k) (history s) p
open_guards s g k p open_pair = record {
  first = λ j f. absurd (both_ways _ open_pair.first (known_from_level (history s) (negation p.first) j (level_by_now s.tracker.trail k (negation p.first) j f)));
  second = λ j f. absurd (both_ways _ open_pair.second (known_from_level (history s) (negation p.second) j (level_by_now s.tracker.trail k (negation p.second) j f)));
}
