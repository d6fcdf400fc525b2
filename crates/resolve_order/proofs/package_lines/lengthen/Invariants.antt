use Rattle.std.proofs.Common.{◌≡◌, ℕ, length}
use Rattle.std.specs.Prelude.{slice_get}
use Rattle.resolve_order.specs.Kept.{has_line}
use Rattle.resolve_order.proofs.package_lines.lengthen.Given as goal

abbrev pub invariant-loop : goal.invariant-loop
invariant-loop l = ((k i : ℕ) → has_line (slice_get l.lines.items k) i ≡ has_line (slice_get l.initial.lines.items k) i) × (length l.lines.items ≡ l.counter)
