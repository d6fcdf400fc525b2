use Rattle.std.proofs.Common.{◌∙◌, sym, ap}
use Rattle.resolvo_terms.specs.declared.slots.Slots.{Slots}
use Rattle.resolvo_terms.specs.Found.{key_eq, key_hash, number_in}
use Rattle.resolvo_terms.proofs.IndexLemmas.{put_placed, put_mapped}
use Rattle.resolvo_terms.proofs.key_index.KeyIndex.put.Goals as goal

pub returns-then-placed-clause-put : goal.returns-then-placed-clause-put
returns-then-placed-clause-put c =
    put_placed key_eq c.args.key (key_hash c.args.key) c.hash_of_key.result c.args.at c.hash_of_key.ensures c.args.self.now.slots.numbers.items c.put-placed.new.self.numbers.items (number_in c.args.self.now.others.entries) c.put-placed.ensures.slots (sym c.if-placed.true ∙ c.put-placed.ensures.put)

pub returns-clause-put : goal.returns-clause-put
returns-clause-put c =
    let after = ap (λ (s : Slots). s.numbers.items) c.put_other.ensures.slots ∙ c.put-placed.ensures.slots in
    put_mapped key_eq c.args.key (key_hash c.args.key) c.hash_of_key.result c.args.at c.hash_of_key.ensures c.args.self.now.slots.numbers.items c.put_other.new.self.slots.numbers.items (number_in c.args.self.now.others.entries) after
    (number_in c.put_other.new.self.others.entries) (sym c.if-placed.false ∙ c.put-placed.ensures.put) c.in_ok-put_other.ensures.put
