use Rattle.std.proofs.Common.{◌≡◌, ℕ, ◌⊎◌, inl, inr, false, arith}
use Rattle.std.specs.Prelude.{slice_set}
use Rattle.std.proofs.lemmas.Grind.{common_steps}
use Rattle.resolvo_decide.specs.States.{is_open_state, bit_of}
use Rattle.resolvo_decide.proofs.MarkLemmas.{marked_put}
use Rattle.resolvo_decide.proofs.clause_states.ClauseStates.put.Goals.{then-is_open, else-is_open}
use Rattle.resolvo_decide.proofs.clause_states.ClauseStates.put.Goals as goal

-- marks of clauses, marks of groups, bounds, and the first positions
pub invariant_of-self : goal.invariant_of-self
invariant_of-self c =
    let old = c.self.inside in
    let new = c.if-is_open.self-inside in
    let put : new.states.items ≡ slice_set old.states.items c.args.position c.args.state = elim c.if-is_open.branch [
      | then-is_open w ↦ grind (arith, common_steps)
      | else-is_open w ↦ grind (arith, common_steps)
    ] in
    let others : (i : ℕ) → bit_of new.marks.items i ≡ 0 → bit_of old.marks.items i ≡ 0 = λ i none. elim c.if-is_open.branch [
      | then-is_open w ↦ grind (arith, common_steps)
      | else-is_open w ↦ grind (arith, common_steps)
    ] in
    let here : (is_open_state c.args.state ≡ false) ⊎ (bit_of new.marks.items c.args.position ≡ 1) = elim c.if-is_open.branch [
      | then-is_open w ↦ inr (grind (arith, common_steps))
      | else-is_open w ↦ inl (grind (arith, common_steps))
    ] in (
      marked_put old.states.items new.states.items c.args.position c.args.state old.marks.items new.marks.items put others here c.self.invariant.0,
      grind (arith, common_steps),
      grind (arith, common_steps),
      grind (arith, common_steps),
    )
