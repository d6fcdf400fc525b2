use Rattle.std.proofs.Common.{◌≡◌, take}
use Rattle.resolve_install.specs.Numbers.{numbers_of}
use Rattle.resolve_install.proofs.numbers.numbers_of.Given as goal

abbrev pub invariant-loop-solvable : goal.invariant-loop-solvable
invariant-loop-solvable l = l.numbers.items ≡ numbers_of (take l.solvable-index l.chosen)
