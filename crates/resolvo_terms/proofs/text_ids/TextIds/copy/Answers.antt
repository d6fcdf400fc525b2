use Rattle.std.proofs.Common.{length}
use Rattle.std.specs.Str.{bytes_eq}
use Rattle.resolvo_terms.specs.Found.{list_number_in, text_hash}
use Rattle.resolvo_terms.proofs.IndexLemmas.{indexed_alike}
use Rattle.resolvo_terms.proofs.text_ids.TextIds.copy.Goals as goal

pub invariant_of-result : goal.invariant_of-result
invariant_of-result c =
    let t = c.self.inside in
    let index = c.in_ok-copy-2 in
    rw (c.in_ok-copy.ensures, index.ensures.slots)
    (indexed_alike bytes_eq text_hash t.texts t.index.slots.numbers.items (list_number_in t.index.others.entries) (list_number_in index.field-0.others.entries) (length t.texts) index.ensures.others c.self.invariant)
