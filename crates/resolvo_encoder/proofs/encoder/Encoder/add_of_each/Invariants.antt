use Rattle.std.proofs.Common.{take}
use Rattle.resolvo_encoder.specs.AtLeastOneClauses.{CoversAll}
use Rattle.resolvo_encoder.proofs.encoder.Encoder.add_of_each.Given as goal

-- the packages so far are recorded
abbrev pub invariant-loop-place : goal.invariant-loop-place
invariant-loop-place g l = CoversAll g.S.PartialEq.eq (take l.place l.initial.self.recorded.queued.keys) l.initial.self l.self
