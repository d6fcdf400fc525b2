use Rattle.std.proofs.Common.{◌≡◌, ◌++◌, take}
use Rattle.resolve_order.specs.Kept.{lines_for}
use Rattle.resolve_order.proofs.install_order.push_lines.Given as goal

abbrev pub invariant-loop-line : goal.invariant-loop-line
invariant-loop-line l = l.lines.items ≡ l.initial.lines.items ++ lines_for l.version (take l.line-index l.numbers)
