use Rattle.std.proofs.Common.{◌≡◌, ◌++◌, map, take, drop}
use Rattle.resolvo_proof.specs.Trimmed.{number_of}
use Rattle.resolvo_proof.proofs.trim.renumber.Given as goal

-- the causes so far have their numbers
abbrev pub invariant-loop-cause : goal.invariant-loop-cause
invariant-loop-cause l = l.cause-items ≡ map (number_of l.numbers) (take l.cause-index l.initial.cause-items) ++ drop l.cause-index l.initial.cause-items
