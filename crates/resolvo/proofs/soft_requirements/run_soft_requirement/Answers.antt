use Rattle.std.proofs.Common.{Option, Some, None, sym, subst}
use Rattle.resolvo_encoder.specs.declared.encoder.Encoder.{Encoder}
use Rattle.resolvo_encoder.specs.Steps.{IsBuilt}
use Rattle.resolvo_turn.specs.Turn.{IsRooted}
use Rattle.resolvo.specs.Results.{RunsSoft}
use Rattle.resolvo.specs.SoftTurns.{AreTrueParents, IsOpenSoft, IsOutcome, IsSettled, KeepsTrail}
use Rattle.resolvo.specs.declared.soft_requirements.SoftOutcome.{SoftOutcome}
use Rattle.resolvo.proofs.Outcomes.{settled_order}
use Rattle.resolvo.proofs.soft_requirements.run_soft_requirement.Goals as goal

-- ---- where it is settled

pub returns-in-Some-clause-stays : goal.returns-in-Some-clause-stays
returns-in-Some-clause-stays g c = λ root is candidate e.
    let settled = subst (λ (o : Option SoftOutcome). IsSettled g.A.SolvableId.PartialEq.eq c.args.soft c.args.encoding.now c.settle.new.encoding o) c.in-Some.is c.in_ok-settled.ensures.settled in
    let (holds, justified) = settled.right (g.A.PackageSource.packages c.args.answers.now) root (g.met.A.PackageSource.lawful c.args.answers.now) e.encoding in (
      record { encoding = holds; ordered = settled_order g.A.SolvableId.PartialEq.eq c.args.encoding.now c.settle.new.encoding c.args.soft c.in-Some.settled settled (g.A.PackageSource.orders c.args.answers.now) e.ordered },
      justified,
    )

pub returns-in-Some-clause-outcome : goal.returns-in-Some-clause-outcome
returns-in-Some-clause-outcome g c =
    let settled = subst (λ (o : Option SoftOutcome). IsSettled g.A.SolvableId.PartialEq.eq c.args.soft c.args.encoding.now c.settle.new.encoding o) c.in-Some.is c.in_ok-settled.ensures.settled in
    settled.outcome

pub returns-in-Some-clause-keeps : goal.returns-in-Some-clause-keeps
returns-in-Some-clause-keeps g c =
    let settled = subst (λ (o : Option SoftOutcome). IsSettled g.A.SolvableId.PartialEq.eq c.args.soft c.args.encoding.now c.settle.new.encoding o) c.in-Some.is c.in_ok-settled.ensures.settled in
    settled.keeps

-- ---- where it is undecided

pub run_undecided-requires-clause-rooted : goal.run_undecided-requires-clause-rooted
run_undecided-requires-clause-rooted g c =
    let undecided = subst (λ (o : Option SoftOutcome). IsSettled g.A.SolvableId.PartialEq.eq c.args.soft c.args.encoding.now c.settle.new.encoding o) c.in_default.is c.in_ok-settled.ensures.settled in
    subst (λ (x : Encoder _ _). IsRooted x) (sym undecided.0) c.requires.rooted

pub run_undecided-requires-clause-open : goal.run_undecided-requires-clause-open
run_undecided-requires-clause-open g c =
    let undecided = subst (λ (o : Option SoftOutcome). IsSettled g.A.SolvableId.PartialEq.eq c.args.soft c.args.encoding.now c.settle.new.encoding o) c.in_default.is c.in_ok-settled.ensures.settled in
    subst (λ (x : Encoder _ _). IsOpenSoft x c.args.soft) (sym undecided.0) undecided.1

pub run_undecided-requires-clause-taken : goal.run_undecided-requires-clause-taken
run_undecided-requires-clause-taken g c =
    let undecided = subst (λ (o : Option SoftOutcome). IsSettled g.A.SolvableId.PartialEq.eq c.args.soft c.args.encoding.now c.settle.new.encoding o) c.in_default.is c.in_ok-settled.ensures.settled in
    subst (λ (x : Encoder _ _). AreTrueParents x) (sym undecided.0) c.requires.taken

pub returns-clause-stays : goal.returns-clause-stays
returns-clause-stays g c =
    let undecided = subst (λ (o : Option SoftOutcome). IsSettled g.A.SolvableId.PartialEq.eq c.args.soft c.args.encoding.now c.settle.new.encoding o) c.in_default.is c.in_ok-settled.ensures.settled in
    subst (λ (x : Encoder _ _). RunsSoft g.A.SolvableId.PartialEq.eq g.A.PackageSource c.args.answers.now c.args.input.now c.args.soft x c.run_undecided.new.encoding c.in_ok-outcome.outcome) undecided.0 c.in_ok-outcome.ensures.stays

pub returns-clause-outcome : goal.returns-clause-outcome
returns-clause-outcome g c =
    let undecided = subst (λ (o : Option SoftOutcome). IsSettled g.A.SolvableId.PartialEq.eq c.args.soft c.args.encoding.now c.settle.new.encoding o) c.in_default.is c.in_ok-settled.ensures.settled in
    subst (λ (x : Encoder _ _). IsOutcome g.A.SolvableId.PartialEq.eq c.args.soft x c.run_undecided.new.encoding c.in_ok-outcome.outcome) undecided.0 c.in_ok-outcome.ensures.outcome

pub returns-clause-keeps : goal.returns-clause-keeps
returns-clause-keeps g c =
    let undecided = subst (λ (o : Option SoftOutcome). IsSettled g.A.SolvableId.PartialEq.eq c.args.soft c.args.encoding.now c.settle.new.encoding o) c.in_default.is c.in_ok-settled.ensures.settled in
    subst (λ (x : Encoder _ _). KeepsTrail x c.run_undecided.new.encoding) undecided.0 c.in_ok-outcome.ensures.keeps
