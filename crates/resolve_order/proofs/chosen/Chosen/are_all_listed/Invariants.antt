use Rattle.std.proofs.Common.{List, length}
use Rattle.resolvo_text.specs.Line.{Line}
use Rattle.resolvo_text.specs.Matches.{Set}
use Rattle.resolve_order.specs.Kept.{Holds}
use Rattle.resolve_order.proofs.chosen.Chosen.are_all_listed.Given as goal

abbrev pub invariant-loop-version : goal.invariant-loop-version
invariant-loop-version l = (catalogue : List Line) (chosen entries : Set) → Holds catalogue l.initial.self chosen entries → Holds catalogue l.self chosen entries

abbrev pub decreases-loop-version : goal.decreases-loop-version
decreases-loop-version l = length l.self.left.items
