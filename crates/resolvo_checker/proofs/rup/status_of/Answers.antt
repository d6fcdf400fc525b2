use Rattle.std.proofs.Common.{ap, ◌∙◌, false}
use Rattle.resolvo_checker.specs.Truth.{known_in}
use Rattle.resolvo_checker.specs.Literals.{status_of}
use Rattle.resolvo_checker.specs.declared.literal.Literal.{Literal}
use Rattle.resolvo_checker.proofs.ReadLemmas.{read_kept, read_met}
use Rattle.resolvo_checker.proofs.rup.status_of.Goals.{then-not-is_false, else-not-is_false}
use Rattle.resolvo_checker.proofs.rup.status_of.Goals as goal

pub loop-literal-preserved : goal.loop-literal-preserved
loop-literal-preserved c =
    let none : Literal = record { atom = 0; positive = false } in
    let known = known_in c.args.truth.now.marks.items c.args.truth.now.pass in
    elim c.if-not-is_false.branch [
      | then-not-is_false w ↦ ap status_of w.status-is ∙ read_met known c.args.clause.now c.loop-literal.literal-index none (status_of c.loop-literal.status) (status_of w.with_literal-status.result) c.loop-literal-test.true w.if-not-is_false.ensures c.loop-literal.invariant w.with_literal-status.ensures
      | else-not-is_false w ↦ ap status_of w.status-is ∙ read_kept known c.args.clause.now c.loop-literal.literal-index none (status_of c.loop-literal.status) c.loop-literal-test.true w.if-not-is_false.ensures c.loop-literal.invariant
    ]
