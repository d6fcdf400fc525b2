use Rattle.std.proofs.Common.{None}
use Rattle.resolvo_sat.specs.State.{count_of}
use Rattle.resolvo_encoder.proofs.BuildLemmas.{built_in_range, none_in_range}
use Rattle.resolvo_encoder.proofs.encoder.Encoder.need_directly.Goals as goal

pub encode_need-requires-clause-in_range : goal.encode_need-requires-clause-in_range
encode_need-requires-clause-in_range g c = built_in_range c.args.self.now c.args.variable None c.args.requirement c.requires.built c.requires.in_range (none_in_range (count_of c.args.self.now.coding.search))
