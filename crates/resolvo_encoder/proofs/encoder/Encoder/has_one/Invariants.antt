use Rattle.std.proofs.Common.{take}
use Rattle.std.specs.Prelude.{Contains}
use Rattle.resolvo_encoder.specs.Conditions.{IsTrueNow}
use Rattle.resolvo_encoder.proofs.encoder.Encoder.has_one.Given as goal

-- none of those so far is chosen
abbrev pub invariant-loop-candidate : goal.invariant-loop-candidate
invariant-loop-candidate g l = (s : g.row.S.Denot) → Contains (take l.candidate-index l.candidates) s → IsTrueNow l.self s → ⊥
