use Rattle.std.proofs.Common.{◌+◌, sym, subst, arith}
use Rattle.resolvo_sat.proofs.StepLemmas.{level_bounded}
use Rattle.resolvo_state.specs.declared.solver_state.SolverState.{SolverState}
use Rattle.resolvo_state.specs.SolverState.{IsCoding}
use Rattle.resolvo_encoder.specs.Encoded.{IsEncoding}
use Rattle.resolvo_encoder.specs.Steps.{IsBuilt}
use Rattle.resolvo_encoder.proofs.SoftLemmas.{floor_built, floor_keeps}
use Rattle.resolvo_encoder.proofs.encoder.Encoder.begin_turn.Goals as goal

pub overflow_add-level : goal.overflow_add-level
overflow_add-level g c = omega (arith, level_bounded c.args.self.now.coding.search c.requires.coding.ready.state, c.top_level-level.ensures)

pub returns-clause-stays : goal.returns-clause-stays
returns-clause-stays g c = λ p root lawful e.
    subst (λ (x : SolverState _ _). IsEncoding g.S.PartialEq.eq p root (record c.args.self.now { coding = x })) (sym c.set_base_level.ensures.is)
    (floor_keeps g.S.PartialEq.eq p root c.args.self.now (c.top_level-level.result + 1) (subst (λ (x : SolverState _ _). IsCoding x) c.set_base_level.ensures.is c.set_base_level.ensures.kept.coding) e)

pub returns-clause-built : goal.returns-clause-built
returns-clause-built g c =
    subst (λ (x : SolverState _ _). IsBuilt (record c.args.self.now { coding = x })) (sym c.set_base_level.ensures.is)
    (floor_built c.args.self.now (c.top_level-level.result + 1) (subst (λ (x : SolverState _ _). IsCoding x) c.set_base_level.ensures.is c.set_base_level.ensures.kept.coding) c.requires)
