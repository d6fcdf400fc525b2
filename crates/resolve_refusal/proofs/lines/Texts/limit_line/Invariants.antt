use Rattle.std.proofs.Common.{◌<◌, ℕ}
use Rattle.resolvo_text.specs.Line.{Limits}
use Rattle.resolvo_text.specs.View.{spec_of}
use Rattle.resolve_refusal.specs.Lines.{text_of, IsLineAt, number_at}
use Rattle.resolve_refusal.proofs.lines.Texts.limit_line.Given as goal

-- none of the lines so far
abbrev pub invariant-loop-at : goal.invariant-loop-at
invariant-loop-at l = (k : ℕ) → k < l.at → IsLineAt (text_of l.fn.self.catalogue.now l.fn.self.request.now.lines l.fn.place) (Limits (spec_of l.spec)) (number_at l.lines k) → ⊥
