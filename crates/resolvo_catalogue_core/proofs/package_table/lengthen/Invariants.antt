use Rattle.std.proofs.Common.{◌≡◌, ◌≤◌, ℕ, length}
use Rattle.resolvo_catalogue_core.specs.Packages.{package_at}
use Rattle.resolvo_catalogue_core.proofs.package_table.lengthen.Given as goal

abbrev pub invariant-loop : goal.invariant-loop
invariant-loop l = ((n : ℕ) → package_at l.places.items n ≡ package_at l.initial.places.items n) × (length l.places.items ≡ l.counter)
    × ((bound : ℕ) → length l.initial.places.items ≤ bound → l.count ≤ bound → length l.places.items ≤ bound)
