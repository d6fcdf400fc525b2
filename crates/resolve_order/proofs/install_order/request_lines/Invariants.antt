use Rattle.std.proofs.Common.{◌≡◌}
use Rattle.resolve_order.specs.Kept.{lines_to}
use Rattle.resolve_order.proofs.install_order.request_lines.Given as goal

abbrev pub invariant-loop-index : goal.invariant-loop-index
invariant-loop-index l = l.lines.items ≡ lines_to l.index
