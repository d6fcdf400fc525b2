-- The numbers that encode how a call ended.
use Rattle.std.specs.Prelude.{ℕ}
use Rattle.resolve_check.specs.declared.outcome.Outcome.{Outcome}
use Rattle.resolve_check.specs.declared.outcome.Outcome.TheVariants.{Installed, Refused, Faulty}
use Rattle.resolve_check.specs.declared.outcome.Checked.{Checked}
use Rattle.resolve_check.specs.declared.outcome.Checked.TheVariants as checked
use Rattle.resolve_check.specs.declared.outcome.RunFault.{RunFault}
use Rattle.resolve_check.specs.declared.outcome.RunFault.TheVariants.{Reader, TooLong, Memory, Ids, Writer}
use Rattle.resolve_run.specs.declared.stop.RunStop.{RunStop}
use Rattle.resolve_run.specs.declared.stop.RunStop.TheVariants.{Fault, GivenUp}

-- of a text that was written: the status of `resolve solve`
abbrev pub ending_of : Outcome → ℕ
ending_of Installed = 0
ending_of Refused = 1
ending_of Faulty = 2

-- of a text that was written: the status of `resolve judge`
abbrev pub check_ending_of : Checked → ℕ
check_ending_of checked.Yes = 0
check_ending_of checked.No = 1
check_ending_of checked.Faulty = 2

-- why a run or a check into a sink that grows has no text: where the sink refused, memory was lacking
abbrev pub growing : RunFault → RunFault
growing Writer = Memory
growing e = e

-- where there is no text
abbrev pub fault_ending_of : RunFault → ℕ
fault_ending_of Reader = 3
fault_ending_of TooLong = 4
fault_ending_of Memory = 5
fault_ending_of Ids = 6
fault_ending_of Writer = 7

-- the same of a run that may have a budget
abbrev pub growing_within : RunStop → RunStop
growing_within (Fault e) = Fault (growing e)
growing_within GivenUp = GivenUp

-- where there is no text, and there may be a budget
abbrev pub stop_ending_of : RunStop → ℕ
stop_ending_of (Fault e) = fault_ending_of e
stop_ending_of GivenUp = 8
