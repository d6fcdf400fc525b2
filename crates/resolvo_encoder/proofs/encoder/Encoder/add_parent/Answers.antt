use Rattle.std.proofs.Common.{refl}
use Rattle.resolvo_encoder.proofs.BuildLemmas.{built_parents}
use Rattle.resolvo_encoder.proofs.Parents.{parent_keeps}
use Rattle.resolvo_encoder.proofs.encoder.Encoder.add_parent.Goals as goal

pub returns-clause-added : goal.returns-clause-added
returns-clause-added g c = record { prefix = c.in_ok-add_value.ensures.prefix; rest = refl }

pub returns-clause-encoding : goal.returns-clause-encoding
returns-clause-encoding g c = λ p root e. parent_keeps g.S.PartialEq.eq p root c.args.self.now _ e (record { prefix = c.in_ok-add_value.ensures.prefix; rest = refl })

pub returns-clause-built : goal.returns-clause-built
returns-clause-built g c = λ b. built_parents c.args.self.now _ b (record { prefix = c.in_ok-add_value.ensures.prefix; rest = refl })

pub returns-clause-present : goal.returns-clause-present
returns-clause-present g c = c.in_ok-add_value.ensures.present
