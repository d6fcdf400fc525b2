use Rattle.std.proofs.Common.{◌≡◌, take}
use Rattle.std.specs.Prelude.{Contains}
use Rattle.resolvo_packages.specs.declared.package_source.Offered.{Offered}
use Rattle.resolvo_encoder.proofs.conditions.is_offered.Given as goal

-- none of those so far is the solvable
abbrev pub invariant-loop-one : goal.invariant-loop-one
invariant-loop-one g l = (o : Offered g.row.N.Denot g.row.S.Denot) → Contains (take l.one-index l.offered) o → o.solvable ≡ l.solvable → ⊥
