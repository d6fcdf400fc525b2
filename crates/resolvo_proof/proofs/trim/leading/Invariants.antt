use Rattle.std.proofs.Common.{◌≤◌, length}
use Rattle.std.specs.Prelude.{Contains}
use Rattle.resolvo_proof.specs.Trimmed.{AreLeadingFrom}
use Rattle.resolvo_proof.proofs.trim.leading.Given as goal

-- the steps from this place on have flagged those that they name
abbrev pub invariant-loop-place : goal.invariant-loop-place
invariant-loop-place g l = record {
  in_range : l.place ≤ length l.steps;
  leads : AreLeadingFrom l.place (Contains l.wanted) l.steps l.flags.items;
}

abbrev pub decreases-loop-place : goal.decreases-loop-place
decreases-loop-place g l = l.place
