use Rattle.std.proofs.Common.{◌≡◌, ◌≤◌, true, length, drop, map}
use Rattle.resolvo_literal_order.specs.Order.{are_once, atom_part, texts_of}
use Rattle.resolvo_literal_order.proofs.are_few_once.Given as goal

abbrev pub invariant-loop-at : goal.invariant-loop-at
invariant-loop-at l = (l.at ≤ length l.texts) × (are_once (map atom_part (texts_of (drop l.at l.texts))) ≡ true)

abbrev pub decreases-loop-at : goal.decreases-loop-at
decreases-loop-at l = l.at
