use Rattle.std.proofs.Common.{◌≡◌, take}
use Rattle.resolvo_proof.specs.Written.{places}
use Rattle.resolvo_proof.proofs.write.write_causes.Given as goal

-- the places of the causes so far
abbrev pub invariant-loop-cause : goal.invariant-loop-cause
invariant-loop-cause l = l.written.items ≡ places (take l.cause-index l.causes)
