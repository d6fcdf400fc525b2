use Rattle.std.proofs.Common.{◌≡◌, ◌+◌, ◌^◌, ◌<◌, ◌≤◌, List, take, length, sym, subst, arith}
use Rattle.resolvo_sat.specs.declared.state.SatState.{SatState}
use Rattle.resolvo_sat.specs.declared.watch_lists.UnitClause.{UnitClause}
use Rattle.resolvo_sat.specs.Propagation.{AllTrue, IsUnitsEnd, AssignsUnits, IsVisit, Walked}
use Rattle.resolvo_sat.specs.Entries.{made_true}
use Rattle.resolvo_sat.specs.State.{count_of, history}
use Rattle.resolvo_sat.specs.Pending.{IsPendingVisit, Proceeds}
use Rattle.resolvo_sat.proofs.Readiness.{ready_extends, same_watching}
use Rattle.resolvo_sat.proofs.ExtendLemmas.{extends_more}
use Rattle.resolvo_sat.proofs.CompleteLemmas.{entries_bounded, running_starts, settles_within, running_goes_on, running_smaller, units_ready, units_falsified, conflicts_later, all_true_more}
use Rattle.resolvo_sat.proofs.state.SatState.propagate_from.Goals as goal

pub loop-literal-init : goal.loop-literal-init
loop-literal-init c =
    let s : SatState = c.assign_units_from-2.new.self in
    let rules : AssignsUnits c.args.watching.now.assertions.items c.args.self.now c.assign_units_from.new.self = subst (λ (xs : List UnitClause). AssignsUnits xs c.args.self.now c.assign_units_from.new.self) c.as_slice.ensures.value (subst (IsUnitsEnd c.as_slice.result.now c.args.self.now c.assign_units_from.new.self) c.in_default.is c.in_ok-clause.ensures.set) in
    let learnt : AssignsUnits c.args.watching.now.learnt.items c.assign_units_from.new.self s = subst (λ (xs : List UnitClause). AssignsUnits xs c.assign_units_from.new.self s) c.as_slice-2.ensures.value (subst (IsUnitsEnd c.as_slice-2.result.now c.assign_units_from.new.self s) c.in_default-2.is c.in_ok-clause-2.ensures.set) in
    running_starts c.args.self.now c.assign_units_from.new.self s c.visit_pending.new.self c.settle_pending.new.self c.args.watching.now c.visit_pending.new.watching c.settle_pending.new.watching rules learnt
    (subst (IsPendingVisit s c.visit_pending.new.self c.args.watching.now c.visit_pending.new.watching) c.in_default-3.is c.in_ok-clause-3.ensures.visited) c.settle_pending.ensures

pub returns-in-Some-clause-run : goal.returns-in-Some-clause-run
returns-in-Some-clause-run c =
    units_falsified c.in-Some.clause.0 c.args.self.now c.assign_units_from.new.self c.args.watching.now c.requires.ready
    (subst (IsUnitsEnd c.as_slice.result.now c.args.self.now c.assign_units_from.new.self) c.in-Some.is c.in_ok-clause.ensures.set)

pub returns-in-Some-2-clause-run : goal.returns-in-Some-2-clause-run
returns-in-Some-2-clause-run c =
    let rules : AssignsUnits c.as_slice.result.now c.args.self.now c.assign_units_from.new.self = subst (IsUnitsEnd c.as_slice.result.now c.args.self.now c.assign_units_from.new.self) c.in_default.is c.in_ok-clause.ensures.set in
    conflicts_later c.in-Some-2.clause.0 c.args.self.now c.assign_units_from.new.self c.assign_units_from-2.new.self c.args.watching.now c.args.watching.now c.args.watching.now (same_watching c.args.watching.now) rules.extends
    (units_falsified c.in-Some-2.clause.0 c.assign_units_from.new.self c.assign_units_from-2.new.self c.args.watching.now (ready_extends c.args.self.now c.assign_units_from.new.self c.args.watching.now c.requires.ready rules.extends rules.qhead)
    (subst (IsUnitsEnd c.as_slice-2.result.now c.assign_units_from.new.self c.assign_units_from-2.new.self) c.in-Some-2.is c.in_ok-clause-2.ensures.set))

pub visit_pending-requires : goal.visit_pending-requires
visit_pending-requires c = record {
  ready = units_ready c.args.self.now c.assign_units_from.new.self c.assign_units_from-2.new.self c.args.watching.now c.as_slice.result.now c.as_slice-2.result.now c.requires.ready
      (subst (IsUnitsEnd c.as_slice.result.now c.args.self.now c.assign_units_from.new.self) c.in_default.is c.in_ok-clause.ensures.set)
      (subst (IsUnitsEnd c.as_slice-2.result.now c.assign_units_from.new.self c.assign_units_from-2.new.self) c.in_default-2.is c.in_ok-clause-2.ensures.set);
}

pub settle_pending-requires : goal.settle_pending-requires
settle_pending-requires c =
    let s : SatState = c.assign_units_from-2.new.self in
    let rules : AssignsUnits c.as_slice.result.now c.args.self.now c.assign_units_from.new.self = subst (IsUnitsEnd c.as_slice.result.now c.args.self.now c.assign_units_from.new.self) c.in_default.is c.in_ok-clause.ensures.set in
    let learnt : AssignsUnits c.as_slice-2.result.now c.assign_units_from.new.self s = subst (IsUnitsEnd c.as_slice-2.result.now c.assign_units_from.new.self s) c.in_default-2.is c.in_ok-clause-2.ensures.set in
    let proceeds : Proceeds s c.visit_pending.new.self c.args.watching.now c.visit_pending.new.watching = subst (IsPendingVisit s c.visit_pending.new.self c.args.watching.now c.visit_pending.new.watching) c.in_default-3.is c.in_ok-clause-3.ensures.visited in
    record {
      ready = proceeds.ready;
      within = settles_within c.args.self.now c.assign_units_from.new.self s c.visit_pending.new.self c.args.watching.now c.visit_pending.new.watching c.as_slice.result.now c.as_slice-2.result.now rules learnt proceeds c.requires.within;
    }

pub returns-in-Some-3-clause-run : goal.returns-in-Some-3-clause-run
returns-in-Some-3-clause-run c =
    let s : SatState = c.assign_units_from-2.new.self in
    let rules : AssignsUnits c.as_slice.result.now c.args.self.now c.assign_units_from.new.self = subst (IsUnitsEnd c.as_slice.result.now c.args.self.now c.assign_units_from.new.self) c.in_default.is c.in_ok-clause.ensures.set in
    let learnt : AssignsUnits c.as_slice-2.result.now c.assign_units_from.new.self s = subst (IsUnitsEnd c.as_slice-2.result.now c.assign_units_from.new.self s) c.in_default-2.is c.in_ok-clause-2.ensures.set in
    conflicts_later c.in-Some-3.clause.0 c.args.self.now s c.visit_pending.new.self c.args.watching.now c.args.watching.now c.visit_pending.new.watching (same_watching c.args.watching.now) (extends_more c.args.self.now c.assign_units_from.new.self s rules.extends learnt.extends)
    (subst (IsPendingVisit s c.visit_pending.new.self c.args.watching.now c.visit_pending.new.watching) c.in-Some-3.is c.in_ok-clause-3.ensures.visited)

pub returns-in-Some-4-clause-run : goal.returns-in-Some-4-clause-run
returns-in-Some-4-clause-run c =
    conflicts_later c.in-Some-4.clause.0 c.args.self.now c.loop-literal.self c.propagate_literal.new.self c.args.watching.now c.loop-literal.watching c.propagate_literal.new.watching c.loop-literal.invariant.watching
    c.loop-literal.invariant.extends
    (subst (IsVisit c.loop-literal.self c.propagate_literal.new.self c.loop-literal.watching c.propagate_literal.new.watching) c.in-Some-4.is c.in_ok-clause-4.ensures.propagate_literal)

pub advance_qhead-requires : goal.advance_qhead-requires
advance_qhead-requires c =
    let s : SatState = c.loop-literal.self in
    let walked : Walked (s.qhead + 1) s c.propagate_literal.new.self c.loop-literal.watching c.propagate_literal.new.watching = subst (IsVisit s c.propagate_literal.new.self c.loop-literal.watching c.propagate_literal.new.watching) c.in_default-4.is c.in_ok-clause-4.ensures.propagate_literal in
    let kept : c.propagate_literal.new.self.qhead ≡ s.qhead = walked.qhead in
    let within : s.qhead < length s.tracker.trail = c.in-Some-next_falsified.ensures.in_range in
    let bound : length s.tracker.trail ≤ count_of s = entries_bounded s c.loop-literal.invariant.extends.state in
    let small : count_of s < 2 ^ 31 = c.loop-literal.invariant.extends.state.small in
    omega arith

pub loop-literal-smaller : goal.loop-literal-smaller
loop-literal-smaller c =
    running_smaller c.args.self.now c.loop-literal.self c.propagate_literal.new.self c.advance_qhead.new.self c.args.watching.now c.loop-literal.watching c.propagate_literal.new.watching c.in-Some-next_falsified.literal c.loop-literal.invariant c.in-Some-next_falsified.ensures
    (subst (IsVisit c.loop-literal.self c.propagate_literal.new.self c.loop-literal.watching c.propagate_literal.new.watching) c.in_default-4.is c.in_ok-clause-4.ensures.propagate_literal) c.advance_qhead.ensures

pub loop-literal-preserved : goal.loop-literal-preserved
loop-literal-preserved c =
    running_goes_on c.args.self.now c.loop-literal.self c.propagate_literal.new.self c.advance_qhead.new.self c.args.watching.now c.loop-literal.watching c.propagate_literal.new.watching c.in-Some-next_falsified.literal c.loop-literal.invariant c.in-Some-next_falsified.ensures
    (subst (IsVisit c.loop-literal.self c.propagate_literal.new.self c.loop-literal.watching c.propagate_literal.new.watching) c.in_default-4.is c.in_ok-clause-4.ensures.propagate_literal) c.advance_qhead.ensures

pub returns-clause-run : goal.returns-clause-run
returns-clause-run c = (c.loop-literal.invariant, c.in_default-next_falsified.ensures)

pub assign_units_from-requires-2-clause-done : goal.assign_units_from-requires-2-clause-done
assign_units_from-requires-2-clause-done c =
    let rules : AssignsUnits c.as_slice.result.now c.args.self.now c.assign_units_from.new.self = subst (IsUnitsEnd c.as_slice.result.now c.args.self.now c.assign_units_from.new.self) c.in_default.is c.in_ok-clause.ensures.set in
    all_true_more c.args.self.now c.assign_units_from.new.self (take c.args.done.learnt c.as_slice-2.result.now) rules.extends
    (subst (λ (xs : List UnitClause). AllTrue (made_true (history c.args.self.now)) (take c.args.done.learnt xs)) (sym c.as_slice-2.ensures.value) c.requires.done.learnt)
