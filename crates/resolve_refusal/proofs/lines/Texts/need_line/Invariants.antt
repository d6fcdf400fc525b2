use Rattle.std.proofs.Common.{◌<◌, ℕ}
use Rattle.resolvo_text.specs.View.{specs_of}
use Rattle.resolve_refusal.specs.Lines.{text_of, IsAt, NeedsIn, number_at}
use Rattle.resolve_refusal.proofs.lines.Texts.need_line.Given as goal

-- none of the lines so far
abbrev pub invariant-loop-at : goal.invariant-loop-at
invariant-loop-at l = (k : ℕ) → k < l.at → IsAt (text_of l.fn.self.catalogue.now l.fn.self.request.now.lines l.fn.place) (NeedsIn (specs_of l.alternatives) (specs_of l.case)) (number_at l.lines k) → ⊥
