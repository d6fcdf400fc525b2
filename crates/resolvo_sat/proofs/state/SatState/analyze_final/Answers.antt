use Rattle.std.proofs.Common.{◌≡◌, ◌<◌, ◌≤◌, ◌+◌, ◌-◌, ℕ, true, false, length, sym, ◌∙◌, subst, arith, refl, inl, inr}
use Rattle.std.proofs.lemmas.Bool.{both_ways}
use Rattle.resolvo_store_core.specs.Signed.{Signed, has}
use Rattle.resolvo_store_core.specs.Clauses.{no}
use Rattle.resolvo_store_core.specs.declared.decision.Entry.{Entry}
use Rattle.resolvo_sat.specs.declared.state.SatState.{SatState}
use Rattle.resolvo_sat.specs.Entries.{before, literal_of, made_true}
use Rattle.resolvo_sat.specs.State.{history}
use Rattle.resolvo_sat.specs.Analysis.{IsReason}
use Rattle.resolvo_sat.proofs.WalkLemmas.{meets, denial_of, no_denial, true_before, entry_true}
use Rattle.resolvo_sat.proofs.state.SatState.analyze_final.Goals.{else-eq-via-then-eq+else-not-entry, else-eq-via-else-eq}
use Rattle.resolvo_sat.proofs.state.SatState.analyze_final.Goals as goal

pub returns-then-not-is_denied-clause-refuted : goal.returns-then-not-is_denied-clause-refuted
returns-then-not-is_denied-clause-refuted c = λ h. both_ways _ (sym c.is_denied.ensures ∙ c.if-not-is_denied.true) h

pub returns-then-not-entry-clause-refuted : goal.returns-then-not-entry-clause-refuted
returns-then-not-entry-clause-refuted c =
    let s : SatState = c.args.self.now in
    let p : ℕ = c.loop-place.place - 1 in
    let d : Entry = c.entry-entry.result in
    let bound : c.loop-place.place ≤ length s.tracker.trail = c.loop-place.invariant.0 in
    let within : p < length s.tracker.trail = omega arith in
    let is : literal_of d ≡ no c.args.variable = denial_of d c.args.variable (sym c.eq.ensures ∙ c.if-eq.true) c.if-not-entry.true in (
      subst (λ (l : Signed). has (made_true (history s)) l ≡ true) is (entry_true s p d (meets s p d c.requires.state within c.entry-entry.ensures.next)),
      subst (λ (l : Signed). IsReason s l c.in_ok-reason.reason.literals.items c.in_ok-reason.reason.causes.items) is c.in_ok-reason.ensures.reason,
    )

pub loop-place-preserved : goal.loop-place-preserved
loop-place-preserved c =
    let s : SatState = c.args.self.now in
    let n : ℕ = c.loop-place.place in
    let same : n ≡ n - 1 + 1 = omega arith in
    let bound : n ≤ length s.tracker.trail = c.loop-place.invariant.0 in (
      omega arith,
      λ h. true_before s (n - 1) c.entry-entry.result (no c.args.variable) c.entry-entry.ensures.next
          (no_denial c.entry-entry.result c.args.variable (elim c.else-eq.branch [
            | else-eq-via-then-eq+else-not-entry w ↦ inr w.if-not-entry.false
            | else-eq-via-else-eq w ↦ inl (sym c.eq.ensures ∙ w.if-eq.false)
          ]))
          (subst (λ (m : ℕ). has (made_true (before s.tracker.trail m)) (no c.args.variable) ≡ true) same (c.loop-place.invariant.1 h)),
    )

pub returns-clause-refuted : goal.returns-clause-refuted
returns-clause-refuted c =
    let s : SatState = c.args.self.now in
    let n : ℕ = c.loop-place.place in
    let low : n ≤ 0 = c.loop-place-test.false in
    let none : n ≡ 0 = omega arith in
    λ h. both_ways false refl (subst (λ (m : ℕ). has (made_true (before s.tracker.trail m)) (no c.args.variable) ≡ true) none (c.loop-place.invariant.1 h))
