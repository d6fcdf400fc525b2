use Rattle.std.proofs.Common.{◌≡◌, ◌≤◌, true, length, drop, map}
use Rattle.std.specs.BTreeSet.{contains}
use Rattle.resolvo_literal_order.specs.Order.{are_once}
use Rattle.resolvo_literal_order.specs.Order.{texts_of}
use Rattle.resolvo_literal_order.specs.Order.{atom_part}
use Rattle.resolvo_literal_order.proofs.OrderLemmas.{HasSeen, by_bytes}
use Rattle.resolvo_literal_order.proofs.are_atoms_once.Given as goal

abbrev pub invariant-loop-at : goal.invariant-loop-at
invariant-loop-at l = (l.at ≤ length l.texts) × (are_once (map atom_part (texts_of (drop l.at l.texts))) ≡ true)
    × HasSeen (contains by_bytes l.seen) (map atom_part (texts_of (drop l.at l.texts)))

abbrev pub decreases-loop-at : goal.decreases-loop-at
decreases-loop-at l = l.at
