use Rattle.resolvo_sat.specs.PropagateAndLearn.{weight_left}
use Rattle.resolvo_encoder.specs.Base.{KeepsFirst}
use Rattle.resolvo_encoder.specs.Steps.{IsBuilt}
use Rattle.resolvo_encoder.specs.Progress.{GoesOn}
use Rattle.resolvo_turn.specs.Encoder.{StaysInOrder}
use Rattle.resolvo_turn.proofs.cdcl.run_cdcl.Given as goal

-- the encoding is one of the packages, and extends the first one
abbrev pub invariant-loop-encoding : goal.invariant-loop-encoding
invariant-loop-encoding g l = record {
  stays : StaysInOrder g.A.SolvableId.PartialEq.eq g.A.PackageSource l.fn.answers l.initial.encoding l.encoding;
  goes_on : GoesOn l.initial.encoding l.encoding;
  first : KeepsFirst l.initial.encoding l.encoding;
  built : IsBuilt l.encoding;
}

abbrev pub decreases-loop-encoding : goal.decreases-loop-encoding
decreases-loop-encoding g l = weight_left l.encoding.coding.search
