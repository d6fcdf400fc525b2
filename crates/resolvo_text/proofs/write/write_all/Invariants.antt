use Rattle.std.proofs.Common.{◌≡◌, ◌++◌, List, ℕ, length}
use Rattle.std.specs.Io.KnownBytes.{Appends}
use Rattle.resolvo_text.proofs.write.write_all.Given as goal

abbrev pub invariant-loop-rest : goal.invariant-loop-rest
invariant-loop-rest g l = (prefix : List ℕ) × (l.fn.bytes ≡ prefix ++ l.rest)
    × Appends (g.S.Sink.contents l.fn.sink) (g.S.Sink.contents l.sink) prefix
    × (g.S.Sink.failures l.sink ≡ g.S.Sink.failures l.fn.sink)
    × (g.S.Sink.empty_writes l.sink ≡ g.S.Sink.empty_writes l.fn.sink)

abbrev pub decreases-loop-rest : goal.decreases-loop-rest
decreases-loop-rest g l = length l.rest
