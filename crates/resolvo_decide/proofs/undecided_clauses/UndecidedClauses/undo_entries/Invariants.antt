use Rattle.std.proofs.Common.{◌≡◌, length, take}
use Rattle.resolvo_decide.specs.Needs.{KeepsCounts}
use Rattle.resolvo_decide.proofs.undecided_clauses.UndecidedClauses.undo_entries.Given as goal

-- the entries to keep are there, and the counts are right for the rest
abbrev pub invariant-loop-self : goal.invariant-loop-self
invariant-loop-self l = record {
  seen : take l.kept l.self.seen.items ≡ take l.kept l.fn.self.seen.items;
  counts : KeepsCounts l.fn.self.seen.items l.self.seen.items l.fn.self.counts l.self.counts;
  rest : l.self ≡ record l.fn.self { seen = l.self.seen; counts = l.self.counts };
}

abbrev pub decreases-loop-self : goal.decreases-loop-self
decreases-loop-self l = length l.self.seen.items
