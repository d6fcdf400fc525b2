use Rattle.std.proofs.Common.{sym, ◌∙◌, refl, []}
use Rattle.resolvo_catalogue_core.specs.Listed.{listed}
use Rattle.resolvo_checker.proofs.NameLemmas.{extends_none}
use Rattle.resolvo_checker.proofs.CheckLemmas.{derived_more, derived_fails, derived_extends}
use Rattle.resolvo_checker.proofs.check_step.number_derived.Goals as goal

pub loop-literal-init : goal.loop-literal-init
loop-literal-init c = record { fine = refl; extends = rw c.clear.ensures.items (extends_none (listed c.args.catalogue.now) c.args.numbers.now []) }

pub loop-literal-preserved : goal.loop-literal-preserved
loop-literal-preserved c = record {
  fine = derived_more c.args.catalogue.now c.args.literals.now c.loop-literal.literal-index c.literal-item.result c.loop-literal-test.true c.literal-item.is c.loop-literal.invariant.fine (sym c.in_ok-push_derived.ensures.fine ∙ c.if-not-branch.false);
  extends = derived_extends (listed c.args.catalogue.now) c.args.numbers.now c.loop-literal.numbers c.loop-literal.out.items c.push_derived.new.numbers c.push_derived.new.out.items c.args.literals.now c.loop-literal.literal-index c.literal-item.result c.loop-literal-test.true c.literal-item.is c.loop-literal.invariant.extends (c.in_ok-push_derived.ensures.extends c.if-not-branch.false);
}

pub returns-then-not-branch-clause-fine : goal.returns-then-not-branch-clause-fine
returns-then-not-branch-clause-fine c = derived_fails c.args.catalogue.now c.args.literals.now c.loop-literal.literal-index c.literal-item.result c.loop-literal-test.true c.literal-item.is (sym c.in_ok-push_derived.ensures.fine ∙ c.if-not-branch.true)
