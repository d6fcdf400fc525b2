use Rattle.std.proofs.Common.{◌<◌, ℕ, None}
use Rattle.resolvo_text.specs.Line.{Needs}
use Rattle.resolvo_text.specs.View.{specs_of}
use Rattle.resolve_refusal.specs.Lines.{text_of, IsLineAt, number_at}
use Rattle.resolve_refusal.proofs.lines.Texts.plain_need_line.Given as goal

-- none of the lines so far
abbrev pub invariant-loop-at : goal.invariant-loop-at
invariant-loop-at l = (k : ℕ) → k < l.at → IsLineAt (text_of l.fn.self.catalogue.now l.fn.self.request.now.lines l.fn.place) (Needs (specs_of l.alternatives) None) (number_at l.lines k) → ⊥
