use Rattle.std.proofs.Common.{◌<◌, ℕ}
use Rattle.resolvo_text.specs.Line.{Unknown}
use Rattle.resolve_refusal.specs.Lines.{IsLineAt, number_at}
use Rattle.resolve_refusal.proofs.lines.Texts.unknown_line.Given as goal

-- none of the lines so far
abbrev pub invariant-loop-at : goal.invariant-loop-at
invariant-loop-at l = (k : ℕ) → k < l.at → IsLineAt l.fn.self.catalogue.now (Unknown l.word) (number_at l.lines k) → ⊥
