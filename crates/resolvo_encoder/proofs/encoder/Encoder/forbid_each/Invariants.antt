use Rattle.std.proofs.Common.{take}
use Rattle.resolvo_encoder.specs.ClauseRules.{EncodesRules, forbid_rules}
use Rattle.resolvo_encoder.proofs.encoder.Encoder.forbid_each.Given as goal

-- those so far are forbidden
abbrev pub invariant-loop-one : goal.invariant-loop-one
invariant-loop-one g l = EncodesRules g.S.PartialEq.eq (forbid_rules (take l.one-index l.barred)) l.initial.self l.self
