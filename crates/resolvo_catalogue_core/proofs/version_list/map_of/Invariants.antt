use Rattle.std.proofs.Common.{◌≡◌, ℕ, take}
use Rattle.std.specs.BTreeMap.{get}
use Rattle.std.specs.Ordering.{nat_cmp}
use Rattle.resolvo_catalogue_core.specs.Numbered.{beside}
use Rattle.resolvo_catalogue_core.proofs.version_list.map_of.Given as goal

abbrev pub invariant-loop-place : goal.invariant-loop-place
invariant-loop-place l = (k : ℕ) → get nat_cmp l.map k ≡ beside (take l.place l.numbers) (take l.place l.versions) k
