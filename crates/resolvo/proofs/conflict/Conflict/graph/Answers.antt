use Rattle.std.proofs.Common.{subst}
use Rattle.std.specs.Prelude.{IfOk}
use Rattle.resolvo_proof.specs.Offered.{offered_by}
use Rattle.resolvo_proof.specs.Truth.{IsTrueConflictGraph}
use Rattle.resolvo.proofs.OfferLemmas.{kept_true}
use Rattle.resolvo.proofs.conflict.Conflict.graph.Goals as goal

pub returns-clause-truth : goal.returns-clause-truth
returns-clause-truth g c =
    let same = g.D.SolvableId.PartialEq.eq in
    kept_true same (g.D.Interner.name_of_solvable c.args.solver.now.provider) c.args.solver.now c.conflict_graph.result c.offers.result.now c.proof.result.now c.offers.ensures c.proof.ensures
    (subst (λ (p : g.row.D.Denot). IfOk c.conflict_graph.result (IsTrueConflictGraph same (g.D.Interner.name_of_solvable p) (offered_by c.offers.result.now) c.proof.result.now)) c.provider.ensures c.conflict_graph.ensures.truth)
