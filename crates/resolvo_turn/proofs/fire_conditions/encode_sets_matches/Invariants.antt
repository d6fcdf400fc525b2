use Rattle.std.proofs.Common.{take}
use Rattle.resolvo_turn.specs.Matches.{MatchesSets}
use Rattle.resolvo_turn.proofs.fire_conditions.encode_sets_matches.Given as goal

-- the matches of the version sets so far are clauses
abbrev pub invariant-loop-set : goal.invariant-loop-set
invariant-loop-set g l = MatchesSets g.S.PartialEq.eq (take l.set-index l.sets) l.initial.encoding l.encoding
