use Rattle.std.proofs.Common.{◌≡◌, take, map}
use Rattle.resolvo_report.specs.Pieces.{texts_of}
use Rattle.resolvo_report.specs.Parse.{text_behind}
use Rattle.resolvo_report.proofs.parse.texts_behind.Given as goal

abbrev pub invariant-loop-piece : goal.invariant-loop-piece
invariant-loop-piece l = texts_of l.texts.items ≡ map text_behind (texts_of (take l.piece-index l.pieces))
