use Rattle.std.proofs.Common.{take}
use Rattle.resolvo_encoder.proofs.CaseLiterals.{AreOf}
use Rattle.resolvo_encoder.proofs.encoder.Encoder.registered.Given as goal

-- these are the solvables of the variables so far
abbrev pub invariant-loop-variable : goal.invariant-loop-variable
invariant-loop-variable g l = AreOf l.self.coding.atoms.keys (take l.variable-index l.variables) l.fn.name l.registered.items
