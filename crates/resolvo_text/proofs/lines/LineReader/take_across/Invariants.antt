use Rattle.std.proofs.Common.{◌≡◌, ◌+◌, length}
use Rattle.std.specs.Io.KnownBytes.{Consumes}
use Rattle.resolvo_text.specs.Lines.{newlines}
use Rattle.resolvo_text.specs.Reader.{left}
use Rattle.resolvo_text.proofs.lines.LineReader.take_across.Given as goal

abbrev pub invariant-loop-self : goal.invariant-loop-self
invariant-loop-self g l = Consumes (left l.fn.self (g.S.Source.left l.fn.source)) (left l.self (g.S.Source.left l.source)) l.self.line.items
    × (l.self.room + length l.self.line.items ≡ l.fn.self.room)
    × (g.S.Source.failures l.source ≡ g.S.Source.failures l.fn.source)
    × (newlines l.self.line.items ≡ 0)

abbrev pub decreases-loop-self : goal.decreases-loop-self
decreases-loop-self g l = l.self.room
