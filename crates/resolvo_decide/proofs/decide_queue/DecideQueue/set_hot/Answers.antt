use Rattle.resolvo_decide.specs.Queue.{needs_of}
use Rattle.resolvo_decide.proofs.decide_queue.DecideQueue.set_hot.Goals as goal

pub returns-clause-sound : goal.returns-clause-sound
returns-clause-sound g c = λ lists h. record { fits = h.fits; cold = c.set_hot.ensures.kept lists (needs_of c.args.self.now) h.cold }

pub returns-in_err-set_hot-clause-sound : goal.returns-in_err-set_hot-clause-sound
returns-in_err-set_hot-clause-sound g c = λ lists h. record { fits = h.fits; cold = c.set_hot.ensures.kept lists (needs_of c.args.self.now) h.cold }
