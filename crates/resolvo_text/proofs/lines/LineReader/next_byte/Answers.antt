use Rattle.std.proofs.Common.{arith}
use Rattle.resolvo_text.proofs.KnownBytes.{one_taken, too_long}
use Rattle.resolvo_text.proofs.lines.LineReader.next_byte.Goals as goal

pub returns-clause-taken : goal.returns-clause-taken
returns-clause-taken g c =
    let r = c.refill.new.self in
    one_taken _ (g.S.Source.left c.refill.new.source) r.piece.items r.at r.end c.index-byte.result.now c.in_ok-refill.ensures.kept (omega (arith, c.if-self.false)) (omega (arith, r.piece.ok.0)) c.index-byte.ensures

pub returns-then-self-eq0-clause-fault : goal.returns-then-self-eq0-clause-fault
returns-then-self-eq0-clause-fault g c =
    let r = c.refill.new.self in
    too_long _ (g.S.Source.left c.refill.new.source) r.piece.items r.at r.end c.args.self.now.room c.in_ok-refill.ensures.kept (omega (arith, c.if-self.false)) (omega (arith, r.piece.ok.0)) (omega arith)
