use Rattle.std.proofs.Common.{◌≡◌, ◌∷◌, take}
use Rattle.std.specs.List.{flat_map}
use Rattle.resolvo_text.specs.View.{specs_of}
use Rattle.resolvo_checker.specs.Keys.{spec_key}
use Rattle.resolvo_checker.proofs.clause_atoms.shared_key.Given as goal

abbrev pub invariant-loop-spec : goal.invariant-loop-spec
invariant-loop-spec l = l.key.items ≡ 2 ∷ flat_map spec_key (specs_of (take l.spec-index l.alternatives))
