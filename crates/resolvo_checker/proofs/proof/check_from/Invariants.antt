use Rattle.std.proofs.Common.{◌≡◌, ◌≤◌, take, length}
use Rattle.resolvo_catalogue_core.specs.Listed.{listed}
use Rattle.resolvo_report.specs.View.{steps_of}
use Rattle.resolvo_checker.specs.Proof.{IsProof}
use Rattle.resolvo_checker.specs.CheckStep.{names_catalogue, names_request, count_causes, CheckerInvariant}
use Rattle.resolvo_checker.proofs.proof.check_from.Given as goal

abbrev pub invariant-loop-at : goal.invariant-loop-at
invariant-loop-at l = record {
  represents : CheckerInvariant l.catalogue l.request.lines l.checker.numbers l.clauses.kept l.checker.places.items l.checker.rules (steps_of (take l.at l.steps));
  proof : IsProof l.catalogue l.request.lines (names_catalogue l.scope) (names_request l.scope) (steps_of (take l.at l.steps));
  later : l.checker.truth.pass ≤ length l.clauses.kept;
  count : length l.clauses.kept ≡ l.at;
  long : length l.checker.places.items ≡ length (listed l.catalogue);
  named : l.clauses.readings.named ≡ count_causes (steps_of (take l.at l.steps));
  read : l.clauses.readings.read ≡ count_causes (steps_of (take l.at l.steps));
}
