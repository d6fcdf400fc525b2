use Rattle.std.proofs.Common.{◌≡◌, ◌+◌, ◌≤◌, length}
use Rattle.resolvo_text.specs.Reader.{left}
use Rattle.resolvo_text.proofs.ReadTo.{ReadTo}
use Rattle.resolvo_catalogue_core.specs.Grammar.{IsCatalogueLine, AreCatalogueLines}
use Rattle.resolvo_catalogue_core.specs.Table.{IsTable, HasFew, lines_in}
use Rattle.resolvo_catalogue_core.proofs.catalogue.Catalogue.read.Given as goal

abbrev pub invariant-loop-reader : goal.invariant-loop-reader
invariant-loop-reader g l = ReadTo IsCatalogueLine (g.S.Source.left l.fn.source) (left l.reader (g.S.Source.left l.source)) (lines_in l.table) l.number 16777216 l.reader.room
    × IsTable l.table
    × AreCatalogueLines (lines_in l.table)
    × (l.number ≡ length (lines_in l.table))
    × (l.number + l.reader.room ≤ 16777216)
    × (g.S.Source.failures l.source ≡ g.S.Source.failures l.fn.source)
    × HasFew l.table

abbrev pub decreases-loop-reader : goal.decreases-loop-reader
decreases-loop-reader g l = l.reader.room
