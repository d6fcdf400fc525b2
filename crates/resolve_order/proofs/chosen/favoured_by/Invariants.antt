use Rattle.std.proofs.Common.{ℕ, List, take}
use Rattle.resolvo_catalogue_core.specs.Listed.{listed}
use Rattle.resolve_order.specs.Kept.{favoured_in}
use Rattle.resolve_order.proofs.FavourLemmas.{IsFavouredSoFar}
use Rattle.resolve_order.proofs.chosen.favoured_by.Given as goal

abbrev pub invariant-loop-version : goal.invariant-loop-version
invariant-loop-version l = (name : List ℕ) → IsFavouredSoFar l.catalogue (take l.version-index l.version-items) name (favoured_in (listed l.catalogue) l.map name)
