use Rattle.std.proofs.Common.{◌≡◌, ◌≤◌}
use Rattle.std.specs.Io.KnownBytes.{Keeps}
use Rattle.resolve_check.proofs.input.read_some.Given as goal

abbrev pub invariant-loop-try : goal.invariant-loop-try
invariant-loop-try g l = Keeps (g.S.Source.left l.initial.source) (g.S.Source.left l.source)
    × (g.S.Source.failures l.source ≡ g.S.Source.failures l.initial.source)
    × (l._try ≤ g.S.Source.interruptions l.source)
