use Rattle.std.proofs.Common.{◌≡◌, ◌<◌, ◌+◌, suc, length, List, ◌++◌, ◌∷◌, [], ap, ◌∙◌, subst, arith}
use Rattle.std.specs.Prelude.{slice_get, Some}
use Rattle.std.proofs.lemmas.List.{length-append}
use Rattle.resolvo_proof.specs.declared.step.ProofStep.{ProofStep}
use Rattle.resolvo_proof.proofs.Parts.{step_more}
use Rattle.resolvo_proof.proofs.proof.steps_of.Goals as goal

pub loop-number-preserved : goal.loop-number-preserved
loop-number-preserved g c =
    let pushed : c.push.new.self.items ≡ c.loop-number.steps.items ++ c.in_ok-write_step.field-0 ∷ [] = c.in_ok-push.ensures.items in
    let long : length c.push.new.self.items ≡ length c.loop-number.steps.items + 1 = ap length pushed ∙ length-append c.loop-number.steps.items (c.in_ok-write_step.field-0 ∷ []) in
    let number : c.loop-number.number ≡ suc (length c.loop-number.steps.items) = c.loop-number.invariant.0 in
    let below : c.loop-number.number < length c.args.coding.now.search.clauses = subst (λ k. c.loop-number.number < k) c.len-number-end.ensures c.loop-number-test.true in (
      omega arith,
      omega arith,
      λ place x h. step_more c.args.coding.now c.loop-number.steps.items c.loop-number.number c.in_ok-write_step.field-0 number c.loop-number.invariant.2 c.in_ok-write_step.ensures.step place x
          (subst (λ (xs : List (ProofStep g.row.N.Denot g.row.S.Denot)). slice_get xs place ≡ Some x) pushed h),
    )
