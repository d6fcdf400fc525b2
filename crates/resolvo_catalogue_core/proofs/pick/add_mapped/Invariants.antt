use Rattle.std.proofs.Common.{◌≡◌, ℕ, ◌||◌, ◌==◌}
use Rattle.std.specs.List.{list_any}
use Rattle.std.specs.BTreeMap.Range.{entries_between}
use Rattle.std.specs.BTreeSet.{contains}
use Rattle.std.specs.Ordering.{nat_cmp}
use Rattle.resolvo_catalogue_core.proofs.pick.add_mapped.Given as goal

abbrev pub invariant-loop-version : goal.invariant-loop-version
invariant-loop-version l = (n : ℕ) → (contains nat_cmp l.out n || list_any (λ e. e.1.0 == n) l.version-iterator)
    ≡ (contains nat_cmp l.fn.out n || list_any (λ e. e.1.0 == n) (entries_between nat_cmp l.fn.start l.fn.end l.map.entries))
