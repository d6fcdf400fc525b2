use Rattle.std.proofs.Common.{◌≡◌, ◌-◌, ◌+◌, map}
use Rattle.resolvo_terms.specs.Found.{tries, key_eq, keyed_number, number_from, number_in}
use Rattle.resolvo_terms.proofs.key_index.KeyIndex.find.Given as goal

abbrev pub invariant-loop-tried : goal.invariant-loop-tried
invariant-loop-tried g l =
    number_from key_eq (map g.T.HasKey.key_of l.values) l.self.slots.numbers.items (number_in l.self.others.entries l.key) (tries - l.tried) (l.first + l.tried) l.key
    ≡ keyed_number (map g.T.HasKey.key_of l.values) l.self l.key
