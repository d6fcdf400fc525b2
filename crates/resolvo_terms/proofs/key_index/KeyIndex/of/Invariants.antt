use Rattle.std.proofs.Common.{map}
use Rattle.resolvo_terms.proofs.KeyedLemmas.{AreKeyedTo}
use Rattle.resolvo_terms.proofs.key_index.KeyIndex.of.Given as goal

abbrev pub invariant-loop-at : goal.invariant-loop-at
invariant-loop-at g l = AreKeyedTo (map g.T.HasKey.key_of l.values) l.index l.at
