-- A search that stops by a budget has one, and a report that is too long is one.
use Rattle.std.proofs.Common.{Result, Ok, Err}
use Rattle.std.specs.Prelude.{IfErr}
use Rattle.resolve_answer.specs.Stops.{IsStopOf}
use Rattle.resolve_answer.specs.declared.stop.Stop.{Stop}
use Rattle.resolve_answer.specs.declared.stop.Stop.TheVariants.{Lacks, GivenUp, TooLong}

-- it stops so wherever the sign of the budget holds, or that of the report
stops_by : {P Q L M : Type 0} (s : Stop) → (P → Q) → (L → M) → IsStopOf P L s → IsStopOf Q M s
stops_by (Lacks w) f g h = tt
stops_by GivenUp f g h = f h
stops_by TooLong f g h = g h

pub if_stopped : {A P Q L M : Type 0} (r : Result A Stop) → (P → Q) → (L → M) → IfErr r (IsStopOf P L) → IfErr r (IsStopOf Q M)
if_stopped (Ok a) f g h = tt
if_stopped (Err s) f g h = stops_by s f g h
