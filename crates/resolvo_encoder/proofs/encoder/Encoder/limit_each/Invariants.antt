use Rattle.std.proofs.Common.{take}
use Rattle.resolvo_encoder.specs.ClauseRules.{EncodesRules, limit_rules}
use Rattle.resolvo_encoder.proofs.encoder.Encoder.limit_each.Given as goal

-- those so far are forbidden by the constraint
abbrev pub invariant-loop-one : goal.invariant-loop-one
invariant-loop-one g l = EncodesRules g.S.PartialEq.eq (limit_rules l.fn.parent l.fn.version_set (take l.one-index l.outside)) l.initial.self l.self
