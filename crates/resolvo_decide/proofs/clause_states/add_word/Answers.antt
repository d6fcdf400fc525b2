use Rattle.std.proofs.Common.{ℕ, List, ◌∙◌, ap}
use Rattle.resolvo_decide.specs.States.{bit_of}
use Rattle.resolvo_decide.proofs.MarkLemmas.{bit_end}
use Rattle.resolvo_decide.proofs.clause_states.add_word.Goals as goal

pub returns-in_ok-push-clause-kept : goal.returns-in_ok-push-clause-kept
returns-in_ok-push-clause-kept c = λ i. ap (λ (ws : List ℕ). bit_of ws i) c.in_ok-push.ensures.items ∙ bit_end c.args.marks.now.items i
