use Rattle.std.proofs.Common.{◌≡◌, ◌-◌, ◌+◌}
use Rattle.std.specs.Str.{bytes_eq}
use Rattle.resolvo_terms.specs.Found.{tries, number_from, place_from, list_number_in, text_hash}
use Rattle.resolvo_terms.proofs.text_ids.TextIndex.number.Given as goal

abbrev pub invariant-loop-tried : goal.invariant-loop-tried
invariant-loop-tried l =
    number_from bytes_eq l.texts l.self.slots.numbers.items (list_number_in l.self.others.entries l.text) (tries - l.tried) (l.first + l.tried) l.text
    ≡ number_from bytes_eq l.texts l.self.slots.numbers.items (list_number_in l.self.others.entries l.text) tries (place_from (text_hash l.text)) l.text
