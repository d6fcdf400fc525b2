use Rattle.std.proofs.Common.{◌≡◌, take, map}
use Rattle.resolvo_sat.specs.Numbered.{meanings}
use Rattle.resolvo_state.specs.Atoms.{origin}
use Rattle.resolvo_proof.specs.Steps.{literal_in}
use Rattle.resolvo_proof.proofs.write.write_literals.Given as goal

-- the meanings of the literals so far
abbrev pub invariant-loop-literal : goal.invariant-loop-literal
invariant-loop-literal g l = map literal_in l.written.items ≡ meanings (origin l.coding.atoms.keys) (take l.literal-index l.literals)
