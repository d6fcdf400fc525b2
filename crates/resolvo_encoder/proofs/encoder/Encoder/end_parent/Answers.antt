use Rattle.resolvo_encoder.proofs.Parents.{next_keeps}
use Rattle.resolvo_encoder.proofs.BuildLemmas.{built_next}
use Rattle.resolvo_encoder.proofs.encoder.Encoder.end_parent.Goals as goal

pub returns-then-self-len-clause-encoding : goal.returns-then-self-len-clause-encoding
returns-then-self-len-clause-encoding g c = λ p root e next. next_keeps g.S.PartialEq.eq p root c.args.self.now e c.requires next

pub returns-then-self-len-clause-built : goal.returns-then-self-len-clause-built
returns-then-self-len-clause-built g c = λ b. built_next c.args.self.now b c.requires
