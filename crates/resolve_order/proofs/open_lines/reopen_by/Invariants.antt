use Rattle.std.proofs.Common.{◌≡◌, ◌⊎◌, ◌<◌, ℕ, true, length, Some}
use Rattle.std.specs.BTreeSet.{contains}
use Rattle.std.specs.Ordering.{nat_cmp}
use Rattle.resolve_order.specs.Kept.{has_line}
use Rattle.resolve_order.proofs.open_lines.reopen_by.Given as goal

abbrev pub invariant-loop-line : goal.invariant-loop-line
invariant-loop-line l = record {
  opened : (i : ℕ) → has_line (Some l.initial.lines) i ≡ true → i < l.below → (contains nat_cmp l.again i ≡ true) ⊎ (has_line (Some l.lines) i ≡ true);
  stays : (i : ℕ) → contains nat_cmp l.fn.again i ≡ true → contains nat_cmp l.again i ≡ true;
  within : (i : ℕ) → contains nat_cmp l.again i ≡ true → (contains nat_cmp l.fn.again i ≡ true) ⊎ (i < l.below);
}

abbrev pub decreases-loop-line : goal.decreases-loop-line
decreases-loop-line l = length l.lines.items
