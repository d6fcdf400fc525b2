-- What turns do to an encoding of the root whose requirements and constraints they are given.
use Rattle.std.specs.Prelude.{Bool}
use Rattle.resolvo_pool_core.specs.RuleKeeping.{Rules}
use Rattle.resolvo_packages.specs.declared.package_source.PackageSource as source
use Rattle.resolvo_encoder.specs.declared.encoder.Encoder.{Encoder}
use Rattle.resolvo_turn.specs.Encoder.{IsRoot, IsInOrderBy}
use Rattle.resolvo_turn.specs.LacksIds.{LacksIds}
use Rattle.resolvo_turn.specs.declared.turn_input.TurnInput.{TurnInput}

-- the root has the requirements and constraints that turns are given
abbrev pub IsRootOf : TurnInput → Rules → Type 0
IsRootOf input root = IsRoot input.requirements.now input.constraints.now root

module _ {A N S C : Type 0} (same : S → S → Bool) (g : source.Ghosts A N S C) (a : A) where
  -- an encoding in order of such a root stays one
  abbrev pub StaysInOrderOf : TurnInput → Encoder N S → Encoder N S → Type 0
  StaysInOrderOf input old new = (root : Rules) → IsRootOf input root
      → IsInOrderBy same g a root old → IsInOrderBy same g a root new

  -- ids lack, where the encoding was in order
  abbrev pub StopsInOrderOf : TurnInput → Encoder N S → Encoder N S → Type 0
  StopsInOrderOf input old new = (root : Rules) → IsRootOf input root
      → IsInOrderBy same g a root old → LacksIds same g a root new
