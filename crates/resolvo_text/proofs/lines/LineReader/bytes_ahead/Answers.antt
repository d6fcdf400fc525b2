use Rattle.std.proofs.Common.{ℕ, List, ap, ◌∙◌, arith}
use Rattle.std.specs.List.{slice_range, position}
use Rattle.resolvo_text.specs.Lines.{is_newline}
use Rattle.resolvo_text.proofs.PlaceLemmas.{ahead}
use Rattle.resolvo_text.proofs.lines.LineReader.bytes_ahead.Goals as goal

pub returns : goal.returns
returns c =
    let r = c.args.self.now in
    let stop = c.min-end.result in
    ahead r stop c.newline_in.result (omega (arith, r.in_piece, r.piece.ok.0)) (omega (arith, c.min-end.ensures)) (omega (arith, c.min-end.ensures)) (c.newline_in.ensures ∙ ap (λ (xs : List ℕ). position is_newline (slice_range xs r.at stop)) c.deref.ensures.value)
