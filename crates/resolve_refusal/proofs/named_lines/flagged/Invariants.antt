use Rattle.resolvo_catalogue_core.specs.Questions.{AreAll}
use Rattle.resolve_refusal.specs.Named.{IsFlaggedLine}
use Rattle.resolve_refusal.proofs.named_lines.flagged.Given as goal

-- the lines of the flags so far
abbrev pub invariant-loop-index : goal.invariant-loop-index
invariant-loop-index l = AreAll l.lines.items (IsFlaggedLine l.flags l.index)
