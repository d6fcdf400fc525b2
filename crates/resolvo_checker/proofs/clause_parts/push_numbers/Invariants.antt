use Rattle.std.proofs.Common.{◌≡◌, ◌++◌, List, map}
use Rattle.resolvo_text.specs.Line.{Version}
use Rattle.resolvo_checker.specs.Built.{literals_in, positive_at}
use Rattle.resolvo_checker.proofs.clause_parts.push_numbers.Given as goal

-- those so far and the others are all
abbrev pub invariant-loop-number : goal.invariant-loop-number
invariant-loop-number l = (vs : List Version) → literals_in vs l.out.items ++ map (positive_at vs) l.number-iterator ≡ literals_in vs l.fn.out.items ++ map (positive_at vs) l.numbers.keys
