use Rattle.std.proofs.Common.{◌∙◌, ap, sym, refl}
use Rattle.resolvo_checker.specs.Kept.{deferred_at}
use Rattle.resolvo_checker.proofs.CheckLemmas.{causes_more}
use Rattle.resolvo_checker.proofs.check_step.build_causes.Goals as goal

pub loop-cause-init : goal.loop-cause-init
loop-cause-init c = record { represents = λ places rules earlier h. h; ready = refl; count = refl; readings = refl }

pub loop-cause-preserved : goal.loop-cause-preserved
loop-cause-preserved c = record {
  represents = λ places rules earlier h. c.in_ok-build.ensures.represents places rules earlier (c.loop-cause.invariant.represents places rules earlier h);
  ready = causes_more c.loop-cause.clauses.kept c.build.new.clauses.kept c.args.causes.now c.loop-cause.cause-index 0 c.loop-cause-test.true c.in_ok-build.ensures.stays
      (ap (deferred_at c.build.new.clauses.kept) (sym c.saturating_sub-place.ensures) ∙ c.in_ok-build.ensures.ready) c.loop-cause.invariant.ready;
  count = c.in_ok-build.ensures.count ∙ c.loop-cause.invariant.count;
  readings = c.in_ok-build.ensures.readings ∙ c.loop-cause.invariant.readings;
}
