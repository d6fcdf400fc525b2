use Rattle.std.proofs.Common.{◌≡◌, ◌∷◌, drop}
use Rattle.resolvo_literal_order.specs.Order.{are_rising}
use Rattle.resolvo_literal_order.specs.Order.{texts_of}
use Rattle.resolvo_literal_order.proofs.are_rising.Given as goal

abbrev pub invariant-loop-text : goal.invariant-loop-text
invariant-loop-text l = are_rising (l.before ∷ texts_of (drop l.text-index l.others)) ≡ are_rising (texts_of l.texts)
