use Rattle.std.proofs.Common.{◌∙◌, sym, ap}
use Rattle.std.specs.Str.{bytes_eq}
use Rattle.resolvo_terms.specs.declared.slots.Slots.{Slots}
use Rattle.resolvo_terms.specs.Found.{list_number_in, text_hash}
use Rattle.resolvo_terms.proofs.IndexLemmas.{put_placed, put_mapped}
use Rattle.resolvo_terms.proofs.text_ids.TextIndex.put.Goals as goal

pub returns-then-placed-clause-put : goal.returns-then-placed-clause-put
returns-then-placed-clause-put c =
    put_placed bytes_eq c.args.text.now (text_hash c.args.text.now) c.args.hash c.args.number c.requires.hash c.args.self.now.slots.numbers.items c.put-placed.new.self.numbers.items (list_number_in c.args.self.now.others.entries) c.put-placed.ensures.slots (sym c.if-placed.true ∙ c.put-placed.ensures.put)

pub returns-clause-put : goal.returns-clause-put
returns-clause-put c =
    let after = ap (λ (s : Slots). s.numbers.items) c.put_other.ensures.slots ∙ c.put-placed.ensures.slots in
    put_mapped bytes_eq c.args.text.now (text_hash c.args.text.now) c.args.hash c.args.number c.requires.hash c.args.self.now.slots.numbers.items c.put_other.new.self.slots.numbers.items (list_number_in c.args.self.now.others.entries) after
    (list_number_in c.put_other.new.self.others.entries) (sym c.if-placed.false ∙ c.put-placed.ensures.put) c.in_ok-put_other.ensures.put
