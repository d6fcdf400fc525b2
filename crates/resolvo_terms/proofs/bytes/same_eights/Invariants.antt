use Rattle.std.proofs.Common.{◌*◌}
use Rattle.resolvo_terms.proofs.BytesLemmas.{AreSameTo}
use Rattle.resolvo_terms.proofs.bytes.same_eights.Given as goal

abbrev pub invariant-loop-eight : goal.invariant-loop-eight
invariant-loop-eight l = AreSameTo l.first l.other (l.eight * 8)
