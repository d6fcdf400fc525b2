use Rattle.std.proofs.Common.{◌≡◌, ◌≤◌}
use Rattle.std.specs.Io.KnownBytes.{Keeps}
use Rattle.resolvo_text.proofs.write.write_some.Given as goal

abbrev pub invariant-loop-try : goal.invariant-loop-try
invariant-loop-try g l = Keeps (g.S.Sink.contents l.initial.sink) (g.S.Sink.contents l.sink)
    × (g.S.Sink.failures l.sink ≡ g.S.Sink.failures l.initial.sink)
    × (g.S.Sink.empty_writes l.sink ≡ g.S.Sink.empty_writes l.initial.sink)
    × (l._try ≤ g.S.Sink.interruptions l.sink)
