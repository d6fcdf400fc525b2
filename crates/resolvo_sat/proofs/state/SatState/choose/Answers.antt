use Rattle.std.proofs.Common.{◌≡◌, ◌+◌, true, suc, arith}
use Rattle.resolvo_store_core.specs.declared.decision.Entry.{Entry}
use Rattle.resolvo_sat.specs.Steps.{choice_entry}
use Rattle.resolvo_sat.specs.Entries.{top_level}
use Rattle.resolvo_sat.specs.State.{history}
use Rattle.resolvo_sat.proofs.StepLemmas.{choice_added, level_bounded}
use Rattle.resolvo_sat.proofs.state.SatState.choose.Goals as goal

pub overflow_add-level : goal.overflow_add-level
overflow_add-level c = omega (arith, level_bounded c.args.self.now c.requires.state, c.top_level-level.ensures)

pub returns-clause-chosen : goal.returns-clause-chosen
returns-clause-chosen c =
    let e : Entry = record { decision = record { variable = c.args.variable; value = true; derived_from = c.args.clause }; level = c.top_level-level.result + 1 } in
    let level : c.top_level-level.result + 1 ≡ suc (top_level (history c.args.self.now)) = omega (arith, c.top_level-level.ensures) in
    let is : e ≡ choice_entry c.args.variable c.args.clause (history c.args.self.now) = λ i. record { decision = record { variable = c.args.variable; value = true; derived_from = c.args.clause }; level = level i } in
    choice_added c.args.self.now c.try_add_decision.new.self c.args.variable c.args.clause c.in_ok-try_add_decision.field-0 e c.requires.state c.requires.in_range c.requires.undecided is c.in_ok-try_add_decision.ensures.answer c.in_ok-try_add_decision.ensures.trail
