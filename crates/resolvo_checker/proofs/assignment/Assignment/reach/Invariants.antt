use Rattle.std.proofs.Common.{◌≡◌, ◌≤◌, vec_len}
use Rattle.resolvo_checker.specs.Truth.{known_in}
use Rattle.resolvo_checker.proofs.assignment.Assignment.reach.Given as goal

abbrev pub invariant-loop : goal.invariant-loop
invariant-loop l = record {
  len : l.counter ≤ vec_len l.self.marks;
  known : known_in l.self.marks.items l.self.pass ≡ known_in l.fn.self.marks.items l.fn.self.pass;
  pass : l.self.pass ≡ l.fn.self.pass;
}
