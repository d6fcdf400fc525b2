use Rattle.std.proofs.Common.{refl, ap}
use Rattle.std.specs.Option.{option_map}
use Rattle.resolvo.specs.Conflicts.{left_of}
use Rattle.resolvo.specs.Solver.{Kept}
use Rattle.resolvo.proofs.solver.Solver.keep.Goals as goal

pub returns-in-Chosen : goal.returns-in-Chosen
returns-in-Chosen g c = (
  c.in-Chosen.turns,
  c.in-Chosen.is,
  ap (λ (k : Kept g.row.D.Denot g.row.D-NameId.Denot g.row.D-SolvableId.Denot). record k { clause_count = c.args.solved.clause_count; deferred_count = c.args.solved.deferred_count; turns = c.in-Chosen.turns.items; proof = c.args.solved.proof.items; conflict = option_map left_of c.args.conflict }) c.self.view_is,
)

pub returns-in-Unsat : goal.returns-in-Unsat
returns-in-Unsat g c = (
  _,
  c.in-Unsat.is,
  refl,
  ap (λ (k : Kept g.row.D.Denot g.row.D-NameId.Denot g.row.D-SolvableId.Denot). record k { clause_count = c.args.solved.clause_count; deferred_count = c.args.solved.deferred_count; proof = c.args.solved.proof.items; conflict = option_map left_of c.args.conflict }) c.self.view_is,
)
