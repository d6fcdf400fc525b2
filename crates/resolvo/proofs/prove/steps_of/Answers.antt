use Rattle.std.proofs.Common.{subst}
use Rattle.resolvo.specs.declared.search.SearchResult.{SearchResult}
use Rattle.resolvo.specs.Solve.{IsDenial}
use Rattle.resolvo.proofs.Solved.{with_given}
use Rattle.resolvo.proofs.prove.steps_of.Goals as goal

pub returns-in-Chosen-clause-drawn : goal.returns-in-Chosen-clause-drawn
returns-in-Chosen-clause-drawn g c = with_given c.proof_of.result _ _ c.proof_of.ensures.drawn tt

pub returns-in-Unsat-clause-drawn : goal.returns-in-Unsat-clause-drawn
returns-in-Unsat-clause-drawn g c =
    let denial = subst (λ (f : SearchResult g.row.S.Denot). IsDenial c.args.coding.now f) c.in-Unsat.is c.requires.denial in
    with_given c.proof_of-in-Unsat.result _ _ c.proof_of-in-Unsat.ensures.drawn denial.1
