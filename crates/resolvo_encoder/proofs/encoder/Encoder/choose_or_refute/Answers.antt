use Rattle.resolvo_encoder.proofs.StayLemmas.{goes_none}
use Rattle.resolvo_encoder.proofs.SoftLemmas.{open_soft}
use Rattle.resolvo_encoder.proofs.Bases.{open_unchosen}
use Rattle.resolvo_encoder.proofs.encoder.Encoder.choose_or_refute.Goals as goal

pub returns-in-Some-clause-goes_on : goal.returns-in-Some-clause-goes_on
returns-in-Some-clause-goes_on g c = goes_none c.args.self.now c.requires.built.coding

pub choose_soft-requires-clause-undecided : goal.choose_soft-requires-clause-undecided
choose_soft-requires-clause-undecided g c = open_soft c.args.self.now.coding.search c.args.variable c.in_ok-refusal.field-0 c.in_ok-refusal.ensures.refuted c.in_default.is (open_unchosen c.args.self.now c.args.variable c.requires.turn c.requires.above)
