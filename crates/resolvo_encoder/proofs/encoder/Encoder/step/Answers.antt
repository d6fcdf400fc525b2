use Rattle.std.proofs.Common.{◌<◌, ◌≤◌, Bool, subst, arith, refl}
use Rattle.resolvo_sat.specs.declared.propagate_and_learn.StepResult.{StepResult}
use Rattle.resolvo_sat.specs.PropagateAndLearn.{weight_left}
use Rattle.resolvo_sat.specs.RuleClauses.{IsExact}
use Rattle.resolvo_state.specs.SolverState.{Advances}
use Rattle.resolvo_encoder.specs.declared.encoder.Encoder.{Encoder}
use Rattle.resolvo_encoder.specs.Progress.{IsChoice}
use Rattle.resolvo_encoder.proofs.BuildLemmas.{built_rest}
use Rattle.resolvo_encoder.proofs.StayLemmas.{digits_kept, step_goes, step_keeps, learnt_heavier, complete_gains, goes_then}
use Rattle.resolvo_encoder.proofs.Bases.{step_first, first_then}
use Rattle.resolvo_encoder.proofs.encoder.Encoder.step.Goals as goal

pub decide_next-requires-clause-quiet : goal.decide_next-requires-clause-quiet
decide_next-requires-clause-quiet g c =
    let step : Advances c.args.self.now.coding c.propagate_and_learn.new.self StepResult.Complete = subst (λ (q : StepResult). Advances c.args.self.now.coding c.propagate_and_learn.new.self q) c.in-Complete.is c.in_ok-refusal.ensures.advanced in
    step.progress.quiet

pub decide_next-requires-clause-built : goal.decide_next-requires-clause-built
decide_next-requires-clause-built g c =
    let step : Advances c.args.self.now.coding c.propagate_and_learn.new.self StepResult.Complete = subst (λ (q : StepResult). Advances c.args.self.now.coding c.propagate_and_learn.new.self q) c.in-Complete.is c.in_ok-refusal.ensures.advanced in
    let goes = step_goes c.args.self.now c.propagate_and_learn.new.self c.in_ok-refusal.field-0 c.requires.coding c.in_ok-refusal.ensures.advanced in
    built_rest c.args.self.now (record c.args.self.now { coding = c.propagate_and_learn.new.self }) c.requires goes.coding goes.grows (digits_kept c.args.self.now (record c.args.self.now { coding = c.propagate_and_learn.new.self }) c.requires.coding goes) goes.rest refl step.progress.extends.same.seen

pub returns-in-Refused-clause-stays : goal.returns-in-Refused-clause-stays
returns-in-Refused-clause-stays g c = λ p root lawful e.
    let exact : IsExact g.S.PartialEq.eq = record { one = g.met.S.Exact.exact; own = g.met.S.Eq.laws.refl } in
    step_keeps c.args.self.now c.propagate_and_learn.new.self g.S.PartialEq.eq exact p root lawful c.in_ok-refusal.field-0 c.in_ok-refusal.ensures.advanced e

pub returns-in-Learnt-clause-stays : goal.returns-in-Learnt-clause-stays
returns-in-Learnt-clause-stays g c = λ p root lawful e.
    let exact : IsExact g.S.PartialEq.eq = record { one = g.met.S.Exact.exact; own = g.met.S.Eq.laws.refl } in
    step_keeps c.args.self.now c.propagate_and_learn.new.self g.S.PartialEq.eq exact p root lawful c.in_ok-refusal.field-0 c.in_ok-refusal.ensures.advanced e

pub returns-in-Refused-clause-goes_on : goal.returns-in-Refused-clause-goes_on
returns-in-Refused-clause-goes_on g c =
    step_goes c.args.self.now c.propagate_and_learn.new.self c.in_ok-refusal.field-0 c.requires.coding c.in_ok-refusal.ensures.advanced

pub returns-in-Learnt-clause-goes_on : goal.returns-in-Learnt-clause-goes_on
returns-in-Learnt-clause-goes_on g c =
    step_goes c.args.self.now c.propagate_and_learn.new.self c.in_ok-refusal.field-0 c.requires.coding c.in_ok-refusal.ensures.advanced

pub returns-in-Learnt-clause-step : goal.returns-in-Learnt-clause-step
returns-in-Learnt-clause-step g c =
    let step : Advances c.args.self.now.coding c.propagate_and_learn.new.self (StepResult.Learnt c.in-Learnt.clause) = subst (λ (q : StepResult). Advances c.args.self.now.coding c.propagate_and_learn.new.self q) c.in-Learnt.is c.in_ok-refusal.ensures.advanced in
    learnt_heavier c.in-Learnt.clause c.args.self.now.coding.search c.propagate_and_learn.new.self.search c.propagate_and_learn.new.self.watching step.progress

pub returns-then-has_chosen-clause-stays : goal.returns-then-has_chosen-clause-stays
returns-then-has_chosen-clause-stays g c = λ p root lawful e.
    let exact : IsExact g.S.PartialEq.eq = record { one = g.met.S.Exact.exact; own = g.met.S.Eq.laws.refl } in
    c.in_ok-has_chosen-in-Complete.ensures.stays p root lawful (step_keeps c.args.self.now c.propagate_and_learn.new.self g.S.PartialEq.eq exact p root lawful c.in_ok-refusal.field-0 c.in_ok-refusal.ensures.advanced e)

pub returns-then-has_chosen-clause-goes_on : goal.returns-then-has_chosen-clause-goes_on
returns-then-has_chosen-clause-goes_on g c =
    goes_then c.args.self.now (record c.args.self.now { coding = c.propagate_and_learn.new.self }) c.decide_next.new.self (step_goes c.args.self.now c.propagate_and_learn.new.self c.in_ok-refusal.field-0 c.requires.coding c.in_ok-refusal.ensures.advanced) c.in_ok-has_chosen-in-Complete.ensures.goes_on

pub returns-then-has_chosen-clause-step : goal.returns-then-has_chosen-clause-step
returns-then-has_chosen-clause-step g c =
    let step : Advances c.args.self.now.coding c.propagate_and_learn.new.self StepResult.Complete = subst (λ (q : StepResult). Advances c.args.self.now.coding c.propagate_and_learn.new.self q) c.in-Complete.is c.in_ok-refusal.ensures.advanced in
    let middle : Encoder _ _ = record c.args.self.now { coding = c.propagate_and_learn.new.self } in
    let set : weight_left c.propagate_and_learn.new.self.search ≤ weight_left c.args.self.now.coding.search = complete_gains c.args.self.now.coding.search c.propagate_and_learn.new.self.search c.propagate_and_learn.new.self.watching step.progress in
    let chosen : weight_left c.decide_next.new.self.coding.search < weight_left c.propagate_and_learn.new.self.search = subst (λ (b : Bool). IsChoice middle c.decide_next.new.self b) c.if-has_chosen.true c.in_ok-has_chosen-in-Complete.ensures.chosen in
    omega arith

pub returns-else-has_chosen-clause-stays : goal.returns-else-has_chosen-clause-stays
returns-else-has_chosen-clause-stays g c = λ p root lawful e.
    let exact : IsExact g.S.PartialEq.eq = record { one = g.met.S.Exact.exact; own = g.met.S.Eq.laws.refl } in
    c.in_ok-has_chosen-in-Complete.ensures.stays p root lawful (step_keeps c.args.self.now c.propagate_and_learn.new.self g.S.PartialEq.eq exact p root lawful c.in_ok-refusal.field-0 c.in_ok-refusal.ensures.advanced e)

pub returns-else-has_chosen-clause-goes_on : goal.returns-else-has_chosen-clause-goes_on
returns-else-has_chosen-clause-goes_on g c =
    goes_then c.args.self.now (record c.args.self.now { coding = c.propagate_and_learn.new.self }) c.decide_next.new.self (step_goes c.args.self.now c.propagate_and_learn.new.self c.in_ok-refusal.field-0 c.requires.coding c.in_ok-refusal.ensures.advanced) c.in_ok-has_chosen-in-Complete.ensures.goes_on

pub returns-else-has_chosen-clause-step : goal.returns-else-has_chosen-clause-step
returns-else-has_chosen-clause-step g c =
    let middle : Encoder _ _ = record c.args.self.now { coding = c.propagate_and_learn.new.self } in
    subst (λ (b : Bool). IsChoice middle c.decide_next.new.self b) c.if-has_chosen.false c.in_ok-has_chosen-in-Complete.ensures.chosen

pub returns-in-Refused-clause-built : goal.returns-in-Refused-clause-built
returns-in-Refused-clause-built g c =
    let step : Advances c.args.self.now.coding c.propagate_and_learn.new.self (StepResult.Refused c.in-Refused.refusal) = subst (λ (q : StepResult). Advances c.args.self.now.coding c.propagate_and_learn.new.self q) c.in-Refused.is c.in_ok-refusal.ensures.advanced in
    let goes = step_goes c.args.self.now c.propagate_and_learn.new.self c.in_ok-refusal.field-0 c.requires.coding c.in_ok-refusal.ensures.advanced in
    built_rest c.args.self.now (record c.args.self.now { coding = c.propagate_and_learn.new.self }) c.requires goes.coding goes.grows (digits_kept c.args.self.now (record c.args.self.now { coding = c.propagate_and_learn.new.self }) c.requires.coding goes) goes.rest refl step.progress.2.same.seen

pub returns-in-Learnt-clause-built : goal.returns-in-Learnt-clause-built
returns-in-Learnt-clause-built g c =
    let step : Advances c.args.self.now.coding c.propagate_and_learn.new.self (StepResult.Learnt c.in-Learnt.clause) = subst (λ (q : StepResult). Advances c.args.self.now.coding c.propagate_and_learn.new.self q) c.in-Learnt.is c.in_ok-refusal.ensures.advanced in
    let goes = step_goes c.args.self.now c.propagate_and_learn.new.self c.in_ok-refusal.field-0 c.requires.coding c.in_ok-refusal.ensures.advanced in
    built_rest c.args.self.now (record c.args.self.now { coding = c.propagate_and_learn.new.self }) c.requires goes.coding goes.grows (digits_kept c.args.self.now (record c.args.self.now { coding = c.propagate_and_learn.new.self }) c.requires.coding goes) goes.rest refl step.progress.seen

pub returns-in-Refused-clause-first : goal.returns-in-Refused-clause-first
returns-in-Refused-clause-first g c = step_first c.args.self.now c.propagate_and_learn.new.self c.in_ok-refusal.field-0 c.in_ok-refusal.ensures.advanced

pub returns-in-Learnt-clause-first : goal.returns-in-Learnt-clause-first
returns-in-Learnt-clause-first g c = step_first c.args.self.now c.propagate_and_learn.new.self c.in_ok-refusal.field-0 c.in_ok-refusal.ensures.advanced

pub returns-then-has_chosen-clause-first : goal.returns-then-has_chosen-clause-first
returns-then-has_chosen-clause-first g c =
    first_then c.args.self.now (record c.args.self.now { coding = c.propagate_and_learn.new.self }) c.decide_next.new.self c.in_ok-refusal.ensures.advanced.grows.base_level (step_first c.args.self.now c.propagate_and_learn.new.self c.in_ok-refusal.field-0 c.in_ok-refusal.ensures.advanced) c.in_ok-has_chosen-in-Complete.ensures.first

pub returns-else-has_chosen-clause-first : goal.returns-else-has_chosen-clause-first
returns-else-has_chosen-clause-first g c =
    first_then c.args.self.now (record c.args.self.now { coding = c.propagate_and_learn.new.self }) c.decide_next.new.self c.in_ok-refusal.ensures.advanced.grows.base_level (step_first c.args.self.now c.propagate_and_learn.new.self c.in_ok-refusal.field-0 c.in_ok-refusal.ensures.advanced) c.in_ok-has_chosen-in-Complete.ensures.first
