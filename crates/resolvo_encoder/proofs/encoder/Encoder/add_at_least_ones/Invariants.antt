use Rattle.std.proofs.Common.{take}
use Rattle.resolvo_encoder.specs.AtLeastOneClauses.{AddsAtLeastOne}
use Rattle.resolvo_encoder.proofs.encoder.Encoder.add_at_least_ones.Given as goal

-- those so far have at-least-one clauses
abbrev pub invariant-loop-one : goal.invariant-loop-one
invariant-loop-one g l = AddsAtLeastOne g.S.PartialEq.eq (take l.one-index l.list) l.initial.self l.self
