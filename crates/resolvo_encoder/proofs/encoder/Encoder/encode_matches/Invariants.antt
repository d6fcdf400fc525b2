use Rattle.std.proofs.Common.{take}
use Rattle.resolvo_encoder.specs.ClauseRules.{EncodesRules, match_rules}
use Rattle.resolvo_encoder.proofs.encoder.Encoder.encode_matches.Given as goal

-- those so far are encoded
abbrev pub invariant-loop-one : goal.invariant-loop-one
invariant-loop-one g l = EncodesRules g.S.PartialEq.eq (match_rules l.fn.version_set (take l.one-index l.matching)) l.initial.self l.self
