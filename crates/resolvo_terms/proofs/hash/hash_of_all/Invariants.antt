use Rattle.std.proofs.Common.{◌≡◌, ◌-◌, ◌*◌}
use Rattle.resolvo_terms.specs.Hash.{eights_hash}
use Rattle.resolvo_terms.proofs.hash.hash_of_all.Given as goal

abbrev pub invariant-loop-eight : goal.invariant-loop-eight
invariant-loop-eight l = eights_hash l.bytes (l.eights - l.eight) (l.eight * 8) l.hash ≡ eights_hash l.bytes l.eights 0 0
