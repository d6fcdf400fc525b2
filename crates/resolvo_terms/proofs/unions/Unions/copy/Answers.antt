use Rattle.std.proofs.Common.{length}
use Rattle.resolvo_terms.specs.Lists.{list_eq, list_hash, map_number, set_numbers}
use Rattle.resolvo_terms.proofs.IndexLemmas.{indexed_alike}
use Rattle.resolvo_terms.proofs.unions.Unions.copy.Goals as goal

pub invariant_of-result : goal.invariant_of-result
invariant_of-result c =
    let t = c.self.inside in
    let index = c.in_ok-copy-2 in
    rw (c.in_ok-copy.ensures, index.ensures.slots)
    (indexed_alike list_eq list_hash t.lists t.index.slots.numbers.items (map_number t.index.others.entries) (map_number index.field-0.others.entries) (length t.lists) (λ v. index.ensures.others (set_numbers v)) c.self.invariant)
