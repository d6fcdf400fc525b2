use Rattle.std.proofs.Common.{◌≡◌, ◌≤◌, ◌+◌, List, length, ap, sym, subst, ◌∙◌, arith, take}
use Rattle.resolvo_report.specs.View.{step_of, steps_of}
use Rattle.resolvo_checker.specs.declared.clauses.Readings.{Readings}
use Rattle.resolvo_checker.specs.Kept.{Kept}
use Rattle.resolvo_checker.specs.Proof.{IsProof}
use Rattle.resolvo_checker.specs.CheckStep.{names_catalogue, names_request, CheckerInvariant}
use Rattle.resolvo_checker.proofs.WholeProofs.{steps_more, count_more, room_for, proof_push, wrong_at}
use Rattle.resolvo_checker.proofs.proof.check_from.Goals as goal

pub check_step-requires-clause-room : goal.check_step-requires-clause-room
check_step-requires-clause-room c = omega (arith, c.loop-at.invariant.read, room_for c.args.steps.now c.loop-at.at c.index-steps-at.result c.loop-at-test.true c.index-steps-at.is, c.requires.room)

pub returns-then-not-branch-clause-wrong : goal.returns-then-not-branch-clause-wrong
returns-then-not-branch-clause-wrong c =
    wrong_at c.args.catalogue.now c.args.request.now.lines (names_catalogue c.args.scope.now) (names_request c.args.scope.now) c.args.steps.now c.loop-at.at c.index-steps-at.result c.loop-at-test.true c.index-steps-at.is c.loop-at.invariant.proof
    (sym (c.in_ok-check_step.ensures.answer (steps_of (take c.loop-at.at c.args.steps.now)) c.loop-at.invariant.represents) ∙ c.if-not-branch.true)

pub name-requires : goal.name-requires
name-requires c =
    let same = ap (λ (r : Readings). r.named) (c.in_ok-check_step.ensures.read c.if-not-branch.false) in
    omega (arith, same, c.loop-at.invariant.named, c.causes_in.ensures, room_for c.args.steps.now c.loop-at.at c.index-steps-at.result c.loop-at-test.true c.index-steps-at.is, c.requires.room)

pub loop-at-preserved : goal.loop-at-preserved
loop-at-preserved c =
    let cat = c.args.catalogue.now in
    let req = c.args.request.now.lines in
    let ct = names_catalogue c.args.scope.now in
    let rt = names_request c.args.scope.now in
    let before = steps_of (take c.loop-at.at c.args.steps.now) in
    let s = step_of c.index-steps-at.result in
    let more = steps_more c.args.steps.now c.loop-at.at c.index-steps-at.result c.loop-at-test.true c.index-steps-at.is in
    let counted = count_more c.args.steps.now c.loop-at.at c.index-steps-at.result c.loop-at-test.true c.index-steps-at.is in
    let advanced = c.in_ok-check_step.ensures.read c.if-not-branch.false in
    let same : c.name.new.self.kept ≡ c.check_step.new.clauses.kept = c.name.ensures.kept in
    record {
      represents = subst (λ (ks : List Kept). CheckerInvariant cat req c.check_step.new.checker.numbers ks c.check_step.new.checker.places.items c.check_step.new.checker.rules (steps_of (take (c.loop-at.at + 1) c.args.steps.now))) (sym same)
          (subst (CheckerInvariant cat req c.check_step.new.checker.numbers c.check_step.new.clauses.kept c.check_step.new.checker.places.items c.check_step.new.checker.rules) (sym more) (c.in_ok-check_step.ensures.represents c.if-not-branch.false before c.loop-at.invariant.represents));
      proof = subst (IsProof cat req ct rt) (sym more) (proof_push cat req ct rt before s c.loop-at.invariant.proof (sym (c.in_ok-check_step.ensures.answer before c.loop-at.invariant.represents) ∙ c.if-not-branch.false));
      later = subst (λ (ks : List Kept). c.check_step.new.checker.truth.pass ≤ length ks) (sym same) (c.in_ok-check_step.ensures.later c.if-not-branch.false);
      count = omega (arith, ap (λ (ks : List Kept). length ks) same, c.in_ok-check_step.ensures.count c.if-not-branch.false, c.loop-at.invariant.count);
      long = c.in_ok-check_step.ensures.long c.if-not-branch.false;
      named = omega (arith, ap (λ (r : Readings). r.named) c.name.ensures.named, ap (λ (r : Readings). r.named) advanced, c.loop-at.invariant.named, c.causes_in.ensures, counted);
      read = omega (arith, ap (λ (r : Readings). r.read) c.name.ensures.named, ap (λ (r : Readings). r.read) advanced, c.loop-at.invariant.read, counted);
    }
