use Rattle.std.proofs.Common.{◌≡◌, ◌<◌, ◌≤◌, refl, ◌∙◌, ap, arith}
use Rattle.resolvo_pool_core.specs.declared.id.VariableId.{VariableId}
use Rattle.resolvo_store_core.specs.Trail.{assigned, level_or}
use Rattle.resolvo_sat.specs.declared.state.SatState.{SatState}
use Rattle.resolvo_sat.proofs.Guards.{guard_recorded}
use Rattle.resolvo_sat.proofs.state.SatState.record_guard.Goals as goal
use Rattle.resolvo_sat.proofs.state.SatState.record_guard.Goals.{else-self-level-via-then-self-level+else-level, else-self-level-via-else-self-level}

pub returns-then-level : goal.returns-then-level
returns-then-level c =
    let s : SatState = c.args.self.now in
    let at : c.level-level.result ≡ level_or (assigned s.tracker.trail c.args.guard.variable.0) = c.level-level.ensures ∙ ap (λ (v : VariableId). level_or (assigned s.tracker.trail v.0)) c.variable.ensures.variable in
    let above : s.guard_level < c.level-level.result = c.if-self-level.true in
    record { same = refl; higher = omega arith; guard = guard_recorded s c.level-level.result c.args.fallen c.args.guard c.requires.state c.requires.present (omega arith) (omega arith) }

pub returns-else-self-level : goal.returns-else-self-level
returns-else-self-level c =
    let s : SatState = c.args.self.now in
    let at : c.level-level.result ≡ level_or (assigned s.tracker.trail c.args.guard.variable.0) = c.level-level.ensures ∙ ap (λ (v : VariableId). level_or (assigned s.tracker.trail v.0)) c.variable.ensures.variable in
    record {
      same = refl;
      higher = omega arith;
      guard = guard_recorded s s.guard_level c.args.fallen c.args.guard c.requires.state c.requires.present (omega arith)
          (elim c.else-self-level.branch [
            | else-self-level-via-then-self-level+else-level w ↦
                (let other : w.level.result ≡ level_or (assigned s.tracker.trail c.args.fallen.variable.0) = w.level.ensures ∙ ap (λ (v : VariableId). level_or (assigned s.tracker.trail v.0)) w.variable-then-self-level.ensures.variable in
                let low : c.level-level.result ≤ w.level.result = w.if-level.false in
                omega arith)
            | else-self-level-via-else-self-level w ↦ (let low : c.level-level.result ≤ s.guard_level = w.if-self-level.false in omega arith)
          ]);
    }
