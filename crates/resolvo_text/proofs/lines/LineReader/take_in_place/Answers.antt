use Rattle.std.proofs.Common.{arith}
use Rattle.resolvo_text.proofs.PlaceLemmas.{length_ahead}
use Rattle.resolvo_text.proofs.lines.LineReader.take_in_place.Goals as goal

pub returns : goal.returns
returns c =
    let r = c.args.self.now in
    record {
      parts = c.requires.parts;
      plain = c.requires.plain;
      room = omega (arith, c.requires.room, length_ahead r c.args.count (omega (arith, r.in_piece, r.piece.ok.0)) c.requires);
    }
