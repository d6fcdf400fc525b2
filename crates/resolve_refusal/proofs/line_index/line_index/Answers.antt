use Rattle.resolve_refusal.proofs.line_index.line_index.Goals as goal

pub returns-clause-index : goal.returns-clause-index
returns-clause-index c = record { asked = c.in_ok-request.ensures.first; listed = c.in_ok-versions.ensures.listed }
