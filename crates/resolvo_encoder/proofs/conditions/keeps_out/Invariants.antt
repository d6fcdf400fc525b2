use Rattle.std.proofs.Common.{◌≡◌, false, take}
use Rattle.std.specs.Prelude.{Contains}
use Rattle.resolvo_packages.specs.PackageSource.{offered_solvables}
use Rattle.resolvo_encoder.specs.declared.conditions.ConditionSet.{ConditionSet}
use Rattle.resolvo_encoder.proofs.conditions.keeps_out.Given as goal

-- the solvable is outside none of those so far
abbrev pub invariant-loop-set : goal.invariant-loop-set
invariant-loop-set g l = (x : ConditionSet g.row.N.Denot g.row.S.Denot) → Contains (take l.set-index l.sets) x → x.many ≡ false → Contains (offered_solvables x.outside.items) l.solvable → ⊥
