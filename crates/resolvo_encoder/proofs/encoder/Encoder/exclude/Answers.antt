use Rattle.std.proofs.Common.{refl}
use Rattle.resolvo_sat.specs.RuleClauses.{ForbidReason}
use Rattle.resolvo_encoder.proofs.encoder.Encoder.exclude.Goals as goal

pub returns-clause-encodes : goal.returns-clause-encodes
returns-clause-encodes g c = c.in_ok-deny.ensures.encodes (ForbidReason.word c.args.reason) refl
