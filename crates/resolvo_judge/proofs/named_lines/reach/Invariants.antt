use Rattle.std.proofs.Common.{◌≡◌, ◌≤◌, ℕ, vec_len}
use Rattle.resolvo_checker.specs.CheckStep.{flag_at}
use Rattle.resolvo_judge.proofs.named_lines.reach.Given as goal

abbrev pub invariant-loop : goal.invariant-loop
invariant-loop l = record {
  len : l.counter ≤ vec_len l.marks;
  same : (n : ℕ) → flag_at l.marks.items n ≡ flag_at l.fn.marks.items n;
}
