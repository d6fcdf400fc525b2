use Rattle.std.proofs.Common.{refl}
use Rattle.resolvo_state.proofs.MemberLemmas.{registers_is}
use Rattle.resolvo_state.proofs.registry.Registry.register_new.Goals as goal

pub returns-clause-registered : goal.returns-clause-registered
returns-clause-registered g c = registers_is c.args.name c.args.solvable c.in_ok-variable.variable c.args.self.now _ c.args.coding.now c.variable.new.self c.requires.tied c.in_ok-variable.ensures.given c.in_ok-insert.ensures.included refl refl refl refl
