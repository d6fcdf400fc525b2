use Rattle.std.proofs.Common.{inr, arith}
use Rattle.std.proofs.KnownBytes.{Keeps-trans}
use Rattle.resolvo_text.proofs.KnownBytes.{nothing_received, none_unread}
use Rattle.resolvo_text.proofs.LineLemmas.{failed_call}
use Rattle.resolvo_text.proofs.lines.LineReader.fill.Goals as goal

pub returns-in-Err-Failed-clause-fault : goal.returns-in-Err-Failed-clause-fault
returns-in-Err-Failed-clause-fault g c =
    let self = c.args.self.now in
    let failed = failed_call _ (g.S.Source.failures c.loop-try.source) (g.S.Source.failures c.read.new.self) _ c.loop-try.invariant.5 (rw c.in-Err-Failed.field-0-is at c.in-Err-Failed.ensures.failures) in
    (failed, nothing_received _ _ _ (none_unread self.piece.items self.at self.end c.requires) (Keeps-trans _ _ _ c.loop-try.invariant.4 c.in-Err-Failed.ensures.bytes))

pub returns-clause-fault : goal.returns-clause-fault
returns-clause-fault g c =
    let self = c.args.self.now in
    (inr (inr (omega (arith, c.loop-try.invariant.6))), nothing_received _ _ _ (none_unread self.piece.items self.at self.end c.requires) c.loop-try.invariant.4)
