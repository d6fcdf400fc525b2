use Rattle.std.proofs.Common.{◌<◌, length, subst, arith}
use Rattle.std.proofs.lemmas.List.{take_all}
use Rattle.resolvo_catalogue_core.specs.Listed.{listed}
use Rattle.resolve_order.specs.Kept.{IsKeptForAll}
use Rattle.resolve_order.specs.Need.{alternatives_in}
use Rattle.resolve_order.proofs.NeedLemmas.{kept_more}
use Rattle.resolve_order.proofs.package_lines.PackageLines.add_alternatives.Goals as goal

pub loop-place-preserved : goal.loop-place-preserved
loop-place-preserved c =
    let within : c.loop-place.place < length (alternatives_in c.args.need.now) = omega (arith, c.loop-place-test.true, c.len-place-end.ensures) in
    record {
      added = kept_more (listed c.args.catalogue.now) c.loop-place.self c.add_at.new.self c.args.line (alternatives_in c.args.need.now) c.loop-place.place within c.in_ok-add_at.ensures.kept c.loop-place.invariant.added c.in_ok-add_at.ensures.added;
      kept = λ p i k. c.in_ok-add_at.ensures.kept p i (c.loop-place.invariant.kept p i k);
    }

pub returns-clause-added : goal.returns-clause-added
returns-clause-added c = subst (λ specs. IsKeptForAll (listed c.args.catalogue.now) c.loop-place.self c.args.line specs) (take_all c.loop-place.place (alternatives_in c.args.need.now) (omega (arith, c.loop-place-test.false, c.len-place-end.ensures))) c.loop-place.invariant.added
