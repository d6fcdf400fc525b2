use Rattle.std.specs.BTreeMap.{get}
use Rattle.std.specs.Ordering.{nat_cmp}
use Rattle.resolve_refusal.specs.FirstLines.{AreListed}
use Rattle.resolve_refusal.proofs.line_index.version_lines.Given as goal

-- those that are kept so far are first lines
abbrev pub invariant-loop-step : goal.invariant-loop-step
invariant-loop-step l = AreListed l.texts.catalogue.now l.texts.request.now.lines (get nat_cmp l.versions)
