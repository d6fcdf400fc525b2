use Rattle.std.proofs.Common.{rules, refl, subst}
use Rattle.resolvo_sat.specs.declared.state.VariableKind.{VariableKind}
use Rattle.resolvo_sat.specs.Begin.{AddsVariable}
use Rattle.resolvo_state.specs.SolverState.{LacksNumber}
use Rattle.resolvo_state.proofs.StartLemmas.{gives_added}
use Rattle.resolvo_state.proofs.solver_state.SolverState.add_atom.Goals as goal

pub returns-clause-given : goal.returns-clause-given
returns-clause-given g c =
    gives_added c.args.atom c.in_ok-variable.variable c.args.self.now _ c.requires.coding c.requires.fresh
    (subst (λ (k : VariableKind). AddsVariable k c.in_ok-variable.variable c.args.self.now.search c.add_variable.new.self) c.kind.ensures c.in_ok-variable.ensures.added)
    refl c.in_ok-push.ensures.pushed refl

pub returns-in_err-variable-clause-full : goal.returns-in_err-variable-clause-full
returns-in_err-variable-clause-full g c = search (rules, LacksNumber.variables)
