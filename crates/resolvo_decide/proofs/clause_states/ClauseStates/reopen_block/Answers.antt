use Rattle.std.proofs.Common.{◌≡◌, ◌<◌, length, length-set, refl, ap, ◌∙◌, arith}
use Rattle.resolvo_decide.specs.States.{state_at, reopened}
use Rattle.resolvo_decide.proofs.Positions.{changed_one, before_one, after_one}
use Rattle.resolvo_decide.proofs.clause_states.ClauseStates.reopen_block.Goals as goal

pub loop-position-preserved : goal.loop-position-preserved
loop-position-preserved c =
    let start = c.args.start in
    let p = c.loop-position.position in
    let first = c.args.self.now in
    let old = c.loop-position.self in
    let new = c.reopen_at.new.self in
    let common = c.args.common in
    let s = reopened common (state_at old p) in
    let kept = c.loop-position.invariant in
    let low : p < length old = omega (arith, kept.len, c.loop-position-test.true) in
    let is : s ≡ reopened common (state_at old p) = refl in
    record {
      changed = changed_one common start p first old new s low c.reopen_at.ensures is kept.changed kept.after;
      before = before_one common start p first old new s low c.reopen_at.ensures is (omega arith) kept.before;
      after = after_one common start p first old new s low c.reopen_at.ensures is kept.after;
      len = ap length c.reopen_at.ensures ∙ length-set old p s ∙ kept.len;
    }
