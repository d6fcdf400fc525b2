use Rattle.std.proofs.Common.{inl, inr, ap, ◌∙◌, arith}
use Rattle.std.proofs.lemmas.Bool.{cases_lt}
use Rattle.resolvo_decide.specs.States.{reopened}
use Rattle.resolvo_decide.proofs.Positions.{all_reopened}
use Rattle.resolvo_decide.proofs.clause_states.ClauseStates.reopen.Goals as goal

pub loop-position-preserved : goal.loop-position-preserved
loop-position-preserved c =
    let kept = c.loop-position.invariant in
    let block = c.reopen_block-position.ensures in
    let p = c.loop-position.position in
    record {
      changed = λ i below. elim (cases_lt i p) [
        | inl less ↦ block.before i less ∙ kept.changed i less
        | inr more ↦ block.changed i more below ∙ ap (reopened c.args.common) (kept.after i more)
      ];
      after = λ i above. block.after i above ∙ kept.after i (omega (arith, block.behind));
      len = block.len ∙ kept.len;
    }

pub returns : goal.returns
returns c = all_reopened c.args.common c.args.self.now c.loop-position.self c.loop-position.invariant.len (λ i low. c.loop-position.invariant.changed i (omega (arith, c.loop-position-test.false, c.loop-position.invariant.len)))
