use Rattle.resolve_order.proofs.NeedLemmas.{on_ok, span_found, span_missing}
use Rattle.resolve_order.proofs.package_lines.PackageLines.add_at.Goals as goal

pub returns-in-Some-clause-added : goal.returns-in-Some-clause-added
returns-in-Some-clause-added c = on_ok c.add_spec.result (λ added s at. added s (span_found _ _ _ s c.in-Some.spec c.at.ensures at c.in-Some.is)) c.add_spec.ensures.added

pub returns-in-None-clause-added : goal.returns-in-None-clause-added
returns-in-None-clause-added c = λ s at. absurd (span_missing _ _ _ s c.at.ensures at c.in-None.is)
