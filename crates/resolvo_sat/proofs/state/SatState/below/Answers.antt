use Rattle.std.proofs.Common.{[], List, sym, subst}
use Rattle.resolvo_store_core.specs.Signed.{Signed}
use Rattle.resolvo_sat.specs.Analysis.{IsBelow}
use Rattle.resolvo_sat.proofs.MetLemmas.{below_none, below_ends}
use Rattle.resolvo_sat.proofs.state.SatState.below.Goals as goal

pub loop-literal-init : goal.loop-literal-init
loop-literal-init c = subst (λ (ls : List Signed). IsBelow c.args.self.now [] c.args.level ls 0) (sym c.new-literals.ensures.items) (below_none c.args.self.now c.args.level c.requires.above)

pub returns-clause-below : goal.returns-clause-below
returns-clause-below c = below_ends c.args.self.now c.args.met.now c.loop-literal.literal-index c.args.level c.loop-literal.literals.items c.move_first.new.literals.items c.loop-literal.highest c.loop-literal-test.false c.move_first.ensures c.loop-literal.invariant
