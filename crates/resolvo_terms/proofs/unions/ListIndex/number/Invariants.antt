use Rattle.std.proofs.Common.{◌≡◌, ◌-◌, ◌+◌}
use Rattle.resolvo_terms.specs.Found.{tries, number_from, place_from}
use Rattle.resolvo_terms.specs.Lists.{list_eq, list_hash, map_number}
use Rattle.resolvo_terms.proofs.unions.ListIndex.number.Given as goal

abbrev pub invariant-loop-tried : goal.invariant-loop-tried
invariant-loop-tried l =
    number_from list_eq l.lists l.self.slots.numbers.items (map_number l.self.others.entries l.list) (tries - l.tried) (l.first + l.tried) l.list
    ≡ number_from list_eq l.lists l.self.slots.numbers.items (map_number l.self.others.entries l.list) tries (place_from (list_hash l.list)) l.list
