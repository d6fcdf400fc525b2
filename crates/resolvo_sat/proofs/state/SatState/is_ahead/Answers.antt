use Rattle.std.proofs.Common.{◌≡◌, ◌<◌, ◌≤◌, ◌∙◌, ap, length, arith}
use Rattle.resolvo_pool_core.specs.declared.id.VariableId.{VariableId}
use Rattle.resolvo_sat.specs.declared.state.SatState.{SatState}
use Rattle.resolvo_sat.proofs.WalkLemmas.{meets}
use Rattle.resolvo_sat.proofs.StartLemmas.{ahead_by_entry}
use Rattle.resolvo_sat.proofs.state.SatState.is_ahead.Goals as goal

pub returns : goal.returns
returns c = λ _.
    let s : SatState = c.args.self.now in
    let behind : s.qhead ≤ c.place_of-place.result = c.if-place-self.false in
    let below : c.place_of-place.result < length c.stack.result.now = c.if-place-stack.false in
    let long : length c.stack.result.now ≡ length s.tracker.trail = ap length c.stack.ensures.trail in
    ahead_by_entry s c.args.literal c.place_of-place.result c.entry-entry.result
    (meets s c.place_of-place.result c.entry-entry.result c.requires.state (omega arith) c.entry-entry.ensures.next) behind
    (c.if-entry-variable.false ∙ ap (λ (v : VariableId). v.0) c.variable-variable.ensures.variable)
