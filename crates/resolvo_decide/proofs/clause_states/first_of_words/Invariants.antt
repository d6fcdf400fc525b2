use Rattle.std.proofs.Common.{◌≡◌, ℕ, ◌<◌, ◌≤◌}
use Rattle.std.specs.Prelude.{bit_and}
use Rattle.resolvo_decide.specs.States.{word_at}
use Rattle.resolvo_decide.proofs.clause_states.first_of_words.Given as goal

-- no clause of the blocks so far is marked and may be warm
abbrev pub invariant-loop-block : goal.invariant-loop-block
invariant-loop-block l = (k : ℕ) → l.from ≤ k → k < l.block → bit_and (word_at l.marks k) (word_at l.warm k) ≡ 0
