use Rattle.std.proofs.Common.{refl}
use Rattle.resolvo_state.proofs.MemberLemmas.{marks_is}
use Rattle.resolvo_state.proofs.registry.Registry.mark_many.Goals as goal

pub returns-clause-marked : goal.returns-clause-marked
returns-clause-marked g c = marks_is c.args.name c.args.self.now _ c.in_ok-include.ensures.included refl
