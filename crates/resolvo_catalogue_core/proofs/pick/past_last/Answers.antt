use Rattle.std.proofs.Common.{not, rules}
use Rattle.std.specs.BTreeMap.Range.{is_past_end}
use Rattle.std.specs.Ordering.{nat_cmp}
use Rattle.std.proofs.lemmas.List.Sorted.{IsPartitionPoint-from_clause}
use Rattle.resolvo_catalogue_core.proofs.PickedLemmas.{past_parted, by_point}
use Rattle.resolvo_catalogue_core.proofs.pick.past_last.Goals as goal

pub returns-clause-last : goal.returns-clause-last
returns-clause-last c =
    let parted = past_parted c.args.numbers.now c.requires c.args.end in
    let point = IsPartitionPoint-from_clause (λ n. not (is_past_end nat_cmp c.args.end n)) _ _ c.partition_point.ensures.partitioned parted (λ a r q k. search rules) in
    λ i lt. by_point (is_past_end nat_cmp c.args.end) c.args.numbers.now _ point i lt
