use Rattle.std.proofs.Common.{take}
use Rattle.std.specs.Prelude.{Contains}
use Rattle.resolvo_pool_core.specs.declared.solver_id.SolvableIdOrRoot.TheVariants as Place
use Rattle.resolvo_encoder.specs.Steps.{AddsParent}
use Rattle.resolvo_turn.proofs.turn.add_chosen.Given as goal

-- the solvables so far are among the parents
abbrev pub invariant-loop-solvable : goal.invariant-loop-solvable
invariant-loop-solvable g l = record {
  added : AddsParent l.initial.encoding l.encoding;
  among : (s : g.row.S.Denot) → Contains (take l.solvable-index l.solvable-items) s → Contains l.encoding.parents.keys (Place.Solvable s);
}
