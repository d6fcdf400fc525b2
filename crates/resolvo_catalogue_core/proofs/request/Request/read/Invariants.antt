use Rattle.std.proofs.Common.{◌≡◌, ◌+◌, ◌≤◌, length}
use Rattle.resolvo_text.specs.Reader.{left}
use Rattle.resolvo_text.proofs.ReadTo.{ReadTo}
use Rattle.resolvo_catalogue_core.specs.Grammar.{IsRequestLine, AreRequestLines}
use Rattle.resolvo_catalogue_core.specs.Listed.{listed}
use Rattle.resolvo_catalogue_core.specs.RequestLines.{AreAsks, asked_lines}
use Rattle.resolvo_catalogue_core.proofs.request.Request.read.Given as goal

abbrev pub invariant-loop-reader : goal.invariant-loop-reader
invariant-loop-reader g l = ReadTo (IsRequestLine l.catalogue) (g.S.Source.left l.fn.source) (left l.reader (g.S.Source.left l.source)) (asked_lines l.asks) l.number 16777216 l.reader.room
    × AreAsks (listed l.catalogue) l.asks
    × AreRequestLines l.catalogue (asked_lines l.asks)
    × (l.number ≡ length (asked_lines l.asks))
    × (l.number + l.reader.room ≤ 16777216)
    × (g.S.Source.failures l.source ≡ g.S.Source.failures l.fn.source)

abbrev pub decreases-loop-reader : goal.decreases-loop-reader
decreases-loop-reader g l = l.reader.room
