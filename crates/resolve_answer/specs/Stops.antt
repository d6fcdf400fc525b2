-- Why there is no report.
use Rattle.std.specs.Prelude.{⊤}
use Rattle.resolve_answer.specs.declared.stop.Stop.{Stop}
use Rattle.resolve_answer.specs.declared.stop.Stop.TheVariants.{Lacks, GivenUp, TooLong}

-- A search gives up only where it has a budget, and a report is too long only where one is.
abbrev pub IsStopOf : Type 0 → Type 0 → Stop → Type 0
IsStopOf HasBudget IsLong (Lacks w) = ⊤
IsStopOf HasBudget IsLong GivenUp = HasBudget
IsStopOf HasBudget IsLong TooLong = IsLong
