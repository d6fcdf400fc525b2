-- The watches stay right after a choice, and after entries were taken away.
use Rattle.std.proofs.Common.{◌≡◌, ℕ, [], ◌∷◌, arith}
use Rattle.resolvo_pool_core.specs.declared.id.ClauseId.{ClauseId}
use Rattle.resolvo_pool_core.specs.declared.id.VariableId.{VariableId}
use Rattle.resolvo_sat.specs.declared.state.SatState.{SatState}
use Rattle.resolvo_sat.specs.declared.watch_lists.WatchLists.{WatchLists}
use Rattle.resolvo_sat.specs.State.{history}
use Rattle.resolvo_sat.specs.Steps.{Chooses, Undoes, choice_entry}
use Rattle.resolvo_sat.specs.Propagation.{IsReady, AreCovered}
use Rattle.resolvo_sat.proofs.Readiness.{ready_more, covered_same}

pub choice_ready : (s t : SatState) (w : WatchLists) (v : VariableId) (c : ClauseId) → Chooses v c s t → IsReady s w → IsReady t w
choice_ready s t w v c chosen ready = ready_more s t w (choice_entry v c (history s) ∷ []) ready chosen.state chosen.same.clauses chosen.pushed chosen.qhead (let e : t.guard_level ≡ s.guard_level = chosen.guard in omega arith)

pub undo_covered : (s t : SatState) (w : WatchLists) (level : ℕ) → Undoes level s t → AreCovered s w → AreCovered t w
undo_covered s t w level undoes covers = covered_same s t w covers undoes.same.clauses
