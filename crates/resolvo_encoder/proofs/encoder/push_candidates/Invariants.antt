use Rattle.std.proofs.Common.{◌≡◌, ◌++◌, take}
use Rattle.resolvo_store_core.specs.Clauses.{candidate_literals}
use Rattle.resolvo_encoder.proofs.encoder.push_candidates.Given as goal

-- the literals of the candidates so far are behind the others
abbrev pub invariant-loop-candidate : goal.invariant-loop-candidate
invariant-loop-candidate g l = l.literals.items ≡ l.initial.literals.items ++ candidate_literals (take l.candidate-index l.candidates)
