use Rattle.std.proofs.Common.{sym}
use Rattle.resolvo_encoder.proofs.PlaceLemmas.{lone_waits}
use Rattle.resolvo_encoder.proofs.encoder.Encoder.lone_queued.Goals as goal

pub queued-members-requires : goal.queued-members-requires
queued-members-requires g c = c.requires.tied.within

pub returns : goal.returns
returns g c =
    lone_waits c.args.self.now c.queued-members.result.now c.index-members-0.result c.in_ok-solvable.solvable c.requires.tied c.queued-members.ensures.waiting c.queued-members.ensures.registered c.if-members-ne1.false c.index-members-0.is (sym c.in_ok-solvable.ensures)
