use Rattle.std.proofs.Common.{inl, inr, refl}
use Rattle.resolvo_catalogue.proofs.candidate_flags.lines_to_mark.Goals as goal

pub returns-then-has_marks : goal.returns-then-has_marks
returns-then-has_marks c = inl c.line_count.ensures

pub returns-else-has_marks : goal.returns-else-has_marks
returns-else-has_marks c = inr (refl, λ k v there. (c.has_marks.ensures.locked c.if-has_marks.false v, λ word. c.has_marks.ensures.excluded c.if-has_marks.false k v word there))
