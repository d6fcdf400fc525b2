use Rattle.std.proofs.Common.{◌≡◌}
use Rattle.resolvo_store_core.specs.declared.decision.Entry.{Entry}
use Rattle.resolvo_sat.specs.Steps.{forced_entry}
use Rattle.resolvo_sat.specs.State.{history}
use Rattle.resolvo_sat.proofs.StepLemmas.{forced_added}
use Rattle.resolvo_sat.proofs.state.SatState.assign.Goals as goal

pub returns-clause-set : goal.returns-clause-set
returns-clause-set c =
    let e : Entry = record { decision = record { variable = c.variable.result; value = c.satisfying_value.result; derived_from = c.args.clause }; level = c.top_level-level.result } in
    let is : e ≡ forced_entry c.args.clause c.args.literal (history c.args.self.now) = λ i. record { decision = record { variable = c.variable.ensures.variable i; value = c.satisfying_value.ensures i; derived_from = c.args.clause }; level = c.top_level-level.ensures i } in
    forced_added c.args.self.now c.try_add_decision.new.self c.args.clause c.args.literal c.in_ok-try_add_decision.field-0 e c.requires.state c.requires.forces is c.in_ok-try_add_decision.ensures.answer c.in_ok-try_add_decision.ensures.trail
