use Rattle.std.proofs.Common.{take}
use Rattle.std.specs.Prelude.{Contains}
use Rattle.resolvo_store_core.specs.Deferred.{candidates_of}
use Rattle.resolvo_store_core.specs.declared.conditions.DeferredConjunct.{DeferredConjunct}
use Rattle.resolvo_encoder.specs.Conditions.{IsOneChosen}
use Rattle.resolvo_encoder.proofs.encoder.Encoder.has_each.Given as goal

-- each version set so far has a chosen match
abbrev pub invariant-loop-conjunct : goal.invariant-loop-conjunct
invariant-loop-conjunct g l = (c : DeferredConjunct g.row.S.Denot) → Contains (take l.conjunct-index l.conjuncts) c → IsOneChosen l.self (candidates_of c)
