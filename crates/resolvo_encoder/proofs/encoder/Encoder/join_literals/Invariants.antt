use Rattle.std.proofs.Common.{take}
use Rattle.resolvo_encoder.specs.AtLeastOneClauses.{CaseLiterals}
use Rattle.resolvo_encoder.proofs.encoder.Encoder.join_literals.Given as goal

-- these are the literals of the version sets so far
abbrev pub invariant-loop-set : goal.invariant-loop-set
invariant-loop-set g l = CaseLiterals g.S.PartialEq.eq (take l.set-index l.sets) l.literals.items l.initial.self l.self
