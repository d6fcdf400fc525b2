use Rattle.std.proofs.Common.{◌≤◌}
use Rattle.resolvo_catalogue_core.specs.Picked.{IsPlaced, AddsEach}
use Rattle.resolvo_catalogue_core.proofs.pick.add_places.Given as goal

abbrev pub invariant-loop-place : goal.invariant-loop-place
invariant-loop-place l = (l.first ≤ l.place) × (l.place ≤ l.last) × AddsEach l.fn.out (IsPlaced l.versions l.first l.place) l.out
