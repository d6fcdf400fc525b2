use Rattle.resolve_order.proofs.NeedLemmas.{span_found, span_missing}
use Rattle.resolve_order.proofs.chosen.Chosen.match_at.Goals as goal

pub returns-in-Some-clause-matched : goal.returns-in-Some-clause-matched
returns-in-Some-clause-matched c = λ chosen entries s at h. c.unlisted_match.ensures.matched chosen entries s (span_found _ _ _ s c.in-Some.spec c.at.ensures at c.in-Some.is) h

pub returns-in-None-clause-matched : goal.returns-in-None-clause-matched
returns-in-None-clause-matched c = λ chosen entries s at h. absurd (span_missing _ _ _ s c.at.ensures at c.in-None.is)
