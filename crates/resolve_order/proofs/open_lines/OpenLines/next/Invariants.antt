use Rattle.std.proofs.Common.{length}
use Rattle.resolvo_text.specs.Matches.{Set}
use Rattle.resolve_order.specs.Kept.{Holds, OthersAreIdle, open_count}
use Rattle.resolve_order.proofs.open_lines.OpenLines.next.Given as goal

abbrev pub invariant-loop-line : goal.invariant-loop-line
invariant-loop-line l = (all entries : Set) → Holds l.catalogue l.chosen all entries → OthersAreIdle l.catalogue l.request.lines all entries l.lines l.initial.self
    → OthersAreIdle l.catalogue l.request.lines all entries l.lines l.self

abbrev pub decreases-loop-line : goal.decreases-loop-line
decreases-loop-line l = open_count l.self (length l.lines)
