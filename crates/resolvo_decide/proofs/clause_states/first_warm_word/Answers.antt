use Rattle.std.proofs.Common.{inl, inr}
use Rattle.std.proofs.lemmas.Bool.{cases_lt}
use Rattle.resolvo_decide.proofs.clause_states.first_warm_word.Goals as goal

pub returns-clause-passed : goal.returns-clause-passed
returns-clause-passed c = λ k above below. elim (cases_lt k c.first_of_both-start.result) [
  | inl front ↦ c.first_of_both-start.ensures.passed k above front
  | inr behind ↦ c.first_of_words.ensures.passed k behind below
]
