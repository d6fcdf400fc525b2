use Rattle.std.specs.Prelude.{take}
use Rattle.resolvo_catalogue_core.specs.Listed.{listed}
use Rattle.resolve_order.specs.Kept.{IsKeptForAll, KeepsAll}
use Rattle.resolve_order.specs.Need.{alternatives_in}
use Rattle.resolve_order.proofs.package_lines.PackageLines.add_alternatives.Given as goal

abbrev pub invariant-loop-place : goal.invariant-loop-place
invariant-loop-place l = record {
  added : IsKeptForAll (listed l.catalogue) l.self l.line (take l.place (alternatives_in l.need));
  kept : KeepsAll l.fn.self l.self;
}
