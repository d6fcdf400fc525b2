use Rattle.std.proofs.Common.{take}
use Rattle.resolvo_encoder.specs.AtLeastOneClauses.{PlacesAll}
use Rattle.resolvo_encoder.proofs.encoder.Encoder.place_each.Given as goal

-- those so far are placed
abbrev pub invariant-loop-one : goal.invariant-loop-one
invariant-loop-one g l = PlacesAll g.S.PartialEq.eq (take l.one-index l.list) l.initial.self l.self
