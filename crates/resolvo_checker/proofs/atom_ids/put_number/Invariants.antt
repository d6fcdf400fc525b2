use Rattle.std.proofs.Common.{◌≡◌, ℕ, ◌+◌, ◌-◌, List, length}
use Rattle.std.specs.Global.{Vec}
use Rattle.resolvo_checker.specs.Noted.{AreNoted}
use Rattle.resolvo_checker.proofs.atom_ids.put_number.Given as goal

abbrev pub invariant-loop-versions : goal.invariant-loop-versions
invariant-loop-versions l = (entries : List (Vec ℕ × ℕ)) → AreNoted entries l.fn.versions.items → AreNoted entries l.versions.items

abbrev pub decreases-loop-versions : goal.decreases-loop-versions
decreases-loop-versions l = l.version + 1 - length l.versions.items
