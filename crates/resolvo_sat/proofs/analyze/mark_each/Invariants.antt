use Rattle.std.proofs.Common.{◌≤◌, take}
use Rattle.resolvo_sat.specs.Analysis.{Seen, Collects, MarksAtMost}
use Rattle.resolvo_sat.proofs.analyze.mark_each.Given as goal

abbrev pub invariant-loop-literal : goal.invariant-loop-literal
invariant-loop-literal l = record {
  marked : Seen (take l.literal-index l.literals) l.initial.seen l.seen;
  collected : Collects (take l.literal-index l.literals) l.initial.seen l.initial.met.items l.seen l.met.items;
  few : MarksAtMost l.count.all l.initial.seen l.seen;
  low : l.count.all ≤ l.literal-index;
}
