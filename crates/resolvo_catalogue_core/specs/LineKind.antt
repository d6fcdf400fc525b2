-- The parsed lines of a catalogue.
use Rattle.std.specs.Global.{Global}
use Rattle.std.specs.declared.string.String.{String}
use Rattle.resolvo_catalogue_core.specs.declared.kept_rule.KeptRule.{KeptRule}
use Rattle.resolvo_catalogue_core.specs.declared.rule.VersionNo.{VersionNo}

-- Many marks the package of this name, which may have several versions side by side.
pub data LineKind : Type 0 where
  Nothing : LineKind
  Listed : VersionNo → LineKind
  Favour : VersionNo → LineKind
  Many : String Global → LineKind
  Rule : KeptRule → LineKind
