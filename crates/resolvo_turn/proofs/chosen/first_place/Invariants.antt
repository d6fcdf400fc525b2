use Rattle.std.proofs.Common.{◌≡◌, ◌≤◌, length}
use Rattle.resolvo_sat.specs.Entries.{before}
use Rattle.resolvo_sat.specs.State.{history}
use Rattle.resolvo_encoder.specs.Base.{below}
use Rattle.resolvo_turn.proofs.chosen.first_place.Given as goal

-- the entries from the place on are of the turn
abbrev pub invariant-loop-place : goal.invariant-loop-place
invariant-loop-place l = record {
  in_range : l.place ≤ length l.search.tracker.trail;
  base : below l.search.base_level (history l.search) ≡ below l.search.base_level (before l.search.tracker.trail l.place);
}

abbrev pub decreases-loop-place : goal.decreases-loop-place
decreases-loop-place l = l.place
