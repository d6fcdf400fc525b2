use Rattle.resolvo_sat.specs.State.{count_of}
use Rattle.resolvo_sat.specs.Steps.{AreInRange}
use Rattle.resolvo_store_tests.proofs.tests.steps.literals_of.Given as goal

abbrev pub invariant-loop-variable : goal.invariant-loop-variable
invariant-loop-variable l = AreInRange (count_of l.search) l.literals.items
