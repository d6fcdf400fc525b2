use Rattle.std.proofs.Common.{◌≡◌, ◌++◌, ◌-◌, length, take, drop}
use Rattle.resolvo_decide.specs.Needs.{KeepsFits}
use Rattle.resolvo_decide.proofs.undecided_clauses.UndecidedClauses.sync.Given as goal

-- the seen entries are the old ones, with the new ones so far
abbrev pub invariant-loop-entry : goal.invariant-loop-entry
invariant-loop-entry l = record {
  seen : l.self.seen.items ≡ take l.seen l.trail ++ take l.entry-index (take (length l.trail - l.seen) (drop l.seen l.trail));
  fits : KeepsFits l.fn.self l.self;
}
