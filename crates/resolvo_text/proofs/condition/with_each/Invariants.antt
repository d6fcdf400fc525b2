use Rattle.std.proofs.Common.{◌≡◌, ◌++◌, take, map}
use Rattle.resolvo_text.specs.View.{specs_of}
use Rattle.resolvo_text.specs.View.{cases_of}
use Rattle.resolvo_text.proofs.condition.with_each.Given as goal

abbrev pub invariant-loop-case : goal.invariant-loop-case
invariant-loop-case l = cases_of l.all.items ≡ map (λ r. specs_of l.left ++ r) (cases_of (take l.case-index l.right))
