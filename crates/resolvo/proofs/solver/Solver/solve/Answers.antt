use Rattle.resolvo.proofs.Answered.{all_left}
use Rattle.resolvo.proofs.solver.Solver.solve.Goals as goal

pub returns-clause-leaves : goal.returns-clause-leaves
returns-clause-leaves g c = all_left c.solve_with.result c.solve_with.new.self c.solve_with.ensures.leaves
