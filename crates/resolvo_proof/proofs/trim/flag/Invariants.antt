use Rattle.std.proofs.Common.{take}
use Rattle.std.specs.Prelude.{Contains}
use Rattle.resolvo_proof.specs.Trimmed.{Flags}
use Rattle.resolvo_proof.proofs.trim.flag.Given as goal

-- the places so far are flagged
abbrev pub invariant-loop-place : goal.invariant-loop-place
invariant-loop-place l = Flags (Contains (take l.place-index l.places)) l.end l.initial.flags.items l.flags.items
