use Rattle.std.proofs.Common.{◌≡◌, ◌++◌, take}
use Rattle.resolvo_checker.proofs.clause_atoms.push_name.Given as goal

abbrev pub invariant-loop-byte : goal.invariant-loop-byte
invariant-loop-byte l = l.key.items ≡ l.fn.key.items ++ take l.byte-index l.byte-items
