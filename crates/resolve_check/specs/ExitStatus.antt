-- How the program ends: its status, and the line that it prints last.
use Rattle.std.specs.Prelude.{ℕ, List, [], Result, Ok, Err, codes}
use Rattle.resolve_check.specs.declared.outcome.Outcome.{Outcome}
use Rattle.resolve_check.specs.declared.outcome.Outcome.TheVariants.{Installed, Refused, Faulty}
use Rattle.resolve_check.specs.declared.outcome.Checked.{Checked}
use Rattle.resolve_check.specs.declared.outcome.Checked.TheVariants as checked
use Rattle.resolve_check.specs.declared.outcome.RunFault.{RunFault}
use Rattle.resolve_check.specs.declared.outcome.RunFault.TheVariants.{Reader, TooLong, Memory, Ids, Writer}

-- 0 where something is installed, 1 where the request is refused, 2 at any fault
abbrev pub status_of : Result Outcome RunFault → ℕ
status_of (Ok Installed) = 0
status_of (Ok Refused) = 1
status_of (Ok Faulty) = 2
status_of (Err e) = 2

-- A fault of a text has its line already, and after a failed write nothing more is printed.
abbrev pub fault_line_of : RunFault → List ℕ
fault_line_of Reader = codes "cannot read"
fault_line_of TooLong = codes "too long"
fault_line_of Memory = codes "no memory"
fault_line_of Ids = codes "no ids"
fault_line_of Writer = []

abbrev pub last_line_of : Result Outcome RunFault → List ℕ
last_line_of (Ok o) = []
last_line_of (Err e) = fault_line_of e

-- 0 where the report holds, 1 where it doesn't, 2 at any fault
abbrev pub check_status_of : Result Checked RunFault → ℕ
check_status_of (Ok checked.Yes) = 0
check_status_of (Ok checked.No) = 1
check_status_of (Ok checked.Faulty) = 2
check_status_of (Err e) = 2

abbrev pub check_last_line_of : Result Checked RunFault → List ℕ
check_last_line_of (Ok c) = []
check_last_line_of (Err e) = fault_line_of e
