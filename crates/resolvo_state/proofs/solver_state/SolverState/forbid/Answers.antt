use Rattle.std.proofs.Common.{rules, refl, sym, subst}
use Rattle.resolvo_sat.specs.Clauses.{SatClause, sat_clause}
use Rattle.resolvo_sat.specs.State.{count_of}
use Rattle.resolvo_sat.specs.Steps.{AreInRange}
use Rattle.resolvo_sat.specs.AddClause.{AddsClause}
use Rattle.resolvo_sat.proofs.Clauses.{same_parts}
use Rattle.resolvo_state.specs.SolverState.{LacksNumber}
use Rattle.resolvo_state.proofs.Clauses.{denial_is, denial_in_range}
use Rattle.resolvo_state.proofs.solver_state.SolverState.forbid.Goals as goal

pub add_clause-requires-clause-in_range : goal.add_clause-requires-clause-in_range
add_clause-requires-clause-in_range g c =
    subst (AreInRange (count_of c.args.self.now.search)) (sym c.as_slice.ensures.value)
    (denial_in_range c.args.self.now.search c.args.refusal.literals.items c.args.refusal.causes.items c.requires.coding.ready.state c.requires.forbid)

pub returns-clause-learnt : goal.returns-clause-learnt
returns-clause-learnt g c =
    denial_is c.args.self.now _ (sat_clause c.args.refusal.literals.items c.args.refusal.causes.items) c.in_ok-clause.clause c.requires.coding c.requires.forbid
    (subst (λ (x : SatClause). AddsClause x c.in_ok-clause.clause c.args.self.now.search c.args.self.now.watching c.add_clause.new.self c.add_clause.new.watching)
    (same_parts c.as_slice.result.now c.args.refusal.literals.items c.as_slice-2.result.now c.args.refusal.causes.items c.as_slice.ensures.value c.as_slice-2.ensures.value) c.in_ok-clause.ensures.added) refl c.in_ok-push.ensures.items

pub returns-in_err-clause-clause-full : goal.returns-in_err-clause-clause-full
returns-in_err-clause-clause-full g c = search (rules, LacksNumber.clauses)
