use Rattle.std.proofs.Common.{◌≡◌, ◌+◌, ◌≤◌, ◌++◌, length, drop}
use Rattle.std.specs.Fmt.{decimal}
use Rattle.resolvo_report.proofs.answer_text.push_digits.Given as goal

-- the digits that were dropped stand behind the first place, where there is room for the rest
abbrev pub invariant-loop-rest : goal.invariant-loop-rest
invariant-loop-rest l = record {
  low : l.rest ≤ l.number;
  within : l.first ≤ 9;
  size : length l.digits ≡ 10;
  room : length (decimal l.rest) ≤ l.first + 1;
  text : decimal l.rest ++ drop (l.first + 1) l.digits ≡ decimal l.number;
}

abbrev pub decreases-loop-rest : goal.decreases-loop-rest
decreases-loop-rest l = l.rest
