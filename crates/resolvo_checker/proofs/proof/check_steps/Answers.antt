use Rattle.resolvo_report.specs.View.{steps_of}
use Rattle.resolvo_checker.specs.CheckStep.{names_catalogue, names_request}
use Rattle.resolvo_checker.proofs.ProofTrue.{proof_refutes}
use Rattle.resolvo_checker.proofs.WholeProofs.{none_then}
use Rattle.resolvo_checker.proofs.proof.check_steps.Goals as goal

pub returns-clause-refutes : goal.returns-clause-refutes
returns-clause-refutes c = none_then c.in_ok-wrong.wrong c.in_ok-wrong.ensures.proof
    (λ proof ends set single obeys. proof_refutes c.args.catalogue.now c.args.request.now.lines (names_catalogue c.args.scope.now) (names_request c.args.scope.now) (steps_of c.args.steps.now) proof ends set single obeys)
