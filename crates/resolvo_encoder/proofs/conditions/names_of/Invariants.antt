use Rattle.std.proofs.Common.{◌≡◌, take}
use Rattle.resolvo_encoder.specs.Cases.{sets_case}
use Rattle.resolvo_encoder.proofs.conditions.names_of.Given as goal

-- the version sets so far
abbrev pub invariant-loop-set : goal.invariant-loop-set
invariant-loop-set g l = l.case.items ≡ sets_case (take l.set-index l.sets)
