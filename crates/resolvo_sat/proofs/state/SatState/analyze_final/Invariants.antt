use Rattle.std.specs.Prelude.{◌≡◌, ◌≤◌, true, length}
use Rattle.resolvo_store_core.specs.Signed.{has}
use Rattle.resolvo_store_core.specs.Clauses.{no}
use Rattle.resolvo_sat.specs.Entries.{before, made_true}
use Rattle.resolvo_sat.specs.State.{history}
use Rattle.resolvo_sat.proofs.state.SatState.analyze_final.Given as goal

abbrev pub invariant-loop-place : goal.invariant-loop-place
invariant-loop-place l = (l.place ≤ length l.self.tracker.trail) × (has (made_true (history l.self)) (no l.variable) ≡ true → has (made_true (before l.self.tracker.trail l.place)) (no l.variable) ≡ true)

abbrev pub decreases-loop-place : goal.decreases-loop-place
decreases-loop-place l = l.place
