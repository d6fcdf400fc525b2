use Rattle.std.proofs.Common.{◌≡◌, drop}
use Rattle.resolvo_report.specs.View.{literals_of}
use Rattle.resolvo_report.specs.Pieces.{texts_of}
use Rattle.resolvo_report.specs.Parse.{literals_behind}
use Rattle.resolvo_report.proofs.ClauseLemmas.{with_literals}
use Rattle.resolvo_report.proofs.parse.literals_behind.Given as goal

abbrev pub invariant-loop-piece : goal.invariant-loop-piece
invariant-loop-piece l = with_literals (literals_of l.literals.items) (literals_behind l.sign (texts_of (drop l.piece-index l.pieces))) ≡ literals_behind 91 (texts_of l.pieces)
