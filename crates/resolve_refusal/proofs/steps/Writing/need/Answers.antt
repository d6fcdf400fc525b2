use Rattle.std.proofs.Common.{ap}
use Rattle.resolvo_report.specs.Value as in_report
use Rattle.resolve_refusal.proofs.steps.Writing.need.Goals as goal

pub returns-clause-written : goal.returns-clause-written
returns-clause-written c =
    let line = c.unwrap_or-line.result.line in
    let case = c.unwrap_or-line.result.case in
    (line, case, ap (λ p. in_report.Need p line case) c.in_ok-place.ensures.place)
