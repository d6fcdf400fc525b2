use Rattle.std.proofs.Common.{◌≡◌, ◌≤◌}
use Rattle.std.specs.Io.KnownBytes.{Keeps}
use Rattle.resolvo_text.proofs.lines.LineReader.fill.Given as goal

abbrev pub invariant-loop-try : goal.invariant-loop-try
invariant-loop-try g l =
    (l.self.at ≡ l.initial.self.at) × (l.self.end ≡ l.initial.self.end) × (l.self.line ≡ l.initial.self.line) × (l.self.room ≡ l.initial.self.room)
    × Keeps (g.S.Source.left l.initial.source) (g.S.Source.left l.source)
    × (g.S.Source.failures l.source ≡ g.S.Source.failures l.initial.source)
    × (l._try ≤ g.S.Source.interruptions l.source)
