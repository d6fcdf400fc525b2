use Rattle.std.proofs.Common.{take}
use Rattle.resolvo_encoder.specs.Steps.{RegistersAll}
use Rattle.resolvo_encoder.proofs.register.register_all.Given as goal

-- those so far are registered
abbrev pub invariant-loop-one : goal.invariant-loop-one
invariant-loop-one g l = RegistersAll (take l.one-index l.offered) l.candidates.items l.initial.registry l.initial.coding l.registry l.coding
