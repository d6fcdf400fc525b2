use Rattle.std.proofs.Common.{true}
use Rattle.std.specs.BTreeMap.Range.{range_contains}
use Rattle.std.specs.Ordering.{nat_cmp}
use Rattle.std.specs.declared.ops.Bound.TheVariants.{Included, Excluded, Unbounded}
use Rattle.std.proofs.lemmas.Result.{on_ok_weaker}
use Rattle.resolvo_catalogue_core.specs.Numbered.{numbers_of, versions_of}
use Rattle.resolvo_catalogue_core.specs.Picked.{is_picked}
use Rattle.resolvo_catalogue_core.proofs.PickedLemmas.{by_two, outside_one, outside_range}
use Rattle.resolvo_catalogue_core.proofs.package.Package.add_outside.Goals as goal

pub returns-in_ok-add_between-in-One : goal.returns-in_ok-add_between-in-One
returns-in_ok-add_between-in-One c =
    on_ok_weaker c.add_between-in-One.result
    (λ more.
    by_two (numbers_of c.args.self.now) (versions_of c.args.self.now) (is_picked c.args.span true) (range_contains nat_cmp Unbounded (Excluded c.in-One.number)) (range_contains nat_cmp (Excluded c.in-One.number) Unbounded)
    c.args.out.now c.add_between.new.out c.add_between-in-One.new.out (λ k. rw c.in-One.is (outside_one c.in-One.number k)) c.in_ok-add_between-in-One.ensures more)
    c.add_between-in-One.ensures

pub returns-in_ok-add_between-in-Range : goal.returns-in_ok-add_between-in-Range
returns-in_ok-add_between-in-Range c =
    on_ok_weaker c.add_between-in-Range-2.result
    (λ more.
    by_two (numbers_of c.args.self.now) (versions_of c.args.self.now) (is_picked c.args.span true) (range_contains nat_cmp Unbounded (Excluded c.in-Range.low)) (range_contains nat_cmp (Included c.in-Range.high) Unbounded)
    c.args.out.now c.add_between-in-Range.new.out c.add_between-in-Range-2.new.out (λ k. rw c.in-Range.is (outside_range c.in-Range.low c.in-Range.high k)) c.in_ok-add_between-in-Range.ensures more)
    c.add_between-in-Range-2.ensures
