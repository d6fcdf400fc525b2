use Rattle.std.proofs.Common.{not, rules}
use Rattle.std.specs.BTreeMap.Range.{is_from_start}
use Rattle.std.specs.Ordering.{nat_cmp}
use Rattle.std.proofs.lemmas.List.Sorted.{IsPartitionPoint-from_clause}
use Rattle.resolvo_catalogue_core.proofs.PickedLemmas.{from_parted, by_point}
use Rattle.resolvo_catalogue_core.proofs.pick.first_from.Goals as goal

pub returns-clause-first : goal.returns-clause-first
returns-clause-first c =
    let parted = from_parted c.args.numbers.now c.requires c.args.start in
    let point = IsPartitionPoint-from_clause (λ n. not (is_from_start nat_cmp c.args.start n)) _ _ c.partition_point.ensures.partitioned parted (λ a r q k. search rules) in
    λ i lt. by_point (is_from_start nat_cmp c.args.start) c.args.numbers.now _ point i lt
