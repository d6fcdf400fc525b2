use Rattle.std.specs.Prelude.{◌++◌, take}
use Rattle.resolvo_text.specs.Matches.{Set}
use Rattle.resolvo_catalogue_core.specs.Listed.{listed, members}
use Rattle.resolve_order.specs.Kept.{Holds}
use Rattle.resolve_order.proofs.chosen.Chosen.add_all.Given as goal

abbrev pub invariant-loop-version : goal.invariant-loop-version
invariant-loop-version l = (chosen entries : Set) → Holds l.catalogue l.initial.self chosen entries
    → Holds l.catalogue l.self (chosen ++ members (listed l.catalogue) (take l.version-index l.versions)) entries
