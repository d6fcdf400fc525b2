use Rattle.std.proofs.Common.{ℕ, List, ◌∙◌, ap}
use Rattle.resolvo_decide.specs.States.{bit_of}
use Rattle.resolvo_decide.proofs.MarkLemmas.{bit_end}
use Rattle.resolvo_decide.proofs.clause_states.add_words.Goals as goal

pub loop-marks-preserved : goal.loop-marks-preserved
loop-marks-preserved c = λ i. ap (λ (ws : List ℕ). bit_of ws i) c.in_ok-push.ensures.items ∙ bit_end c.loop-marks.marks.items i ∙ c.loop-marks.invariant i
