-- How a run ends that may have a budget: as one without, or it gives up.
use Rattle.std.specs.Prelude.{◌≡◌, ℕ, List, Option, Result, Ok, Err, IsSome}
use Rattle.resolvo_text.specs.Line.{Line}
use Rattle.resolvo_text.specs.Texts.{IsGrammatical}
use Rattle.resolvo_catalogue_core.specs.Grammar.{IsCatalogueLine, IsRequestLine}
use Rattle.resolve_answer.specs.declared.stop.Stop.{Stop}
use Rattle.resolve_answer.specs.declared.stop.Stop.TheVariants as stop
use Rattle.resolve_check.specs.Devices.{Device}
use Rattle.resolve_check.specs.Faults.{fault_of}
use Rattle.resolve_check.specs.declared.outcome.RunFault.{RunFault}
use Rattle.resolve_check.specs.declared.outcome.RunFault.TheVariants.{TooLong}
use Rattle.resolve_run.specs.Run.{AreRead, IsLack, StopsBefore, StopsRun}
use Rattle.resolve_run.specs.declared.stop.RunStop.{RunStop}
use Rattle.resolve_run.specs.declared.stop.RunStop.TheVariants.{Fault, GivenUp}
use Rattle.resolve_run.specs.declared.text.RunText.{RunText}

-- the same end, of a run that may have a budget
abbrev pub within : Result RunText RunFault → Result RunText RunStop
within (Ok t) = Ok t
within (Err e) = Err (Fault e)

-- the end of a run whose search has no report
abbrev pub stop_of : Stop → RunStop
stop_of (stop.Lacks w) = Fault (fault_of w)
stop_of stop.GivenUp = GivenUp
stop_of stop.TooLong = Fault TooLong

-- Why texts that were read have no answer. The search gives up only where there is a budget.
abbrev pub IsLackWithin : Option ℕ → RunStop → List Line → List Line → Type 0
IsLackWithin budget (Fault e) catalogue request = IsLack e catalogue request
IsLackWithin budget GivenUp catalogue request = IsSome budget

-- Why nothing is written. A run gives up only where there is a budget, and both texts were read and have no faulty line.
abbrev pub StopsBeforeWithin : Option ℕ → RunStop → Device → Device → Type 0
StopsBeforeWithin budget (Fault e) catalogue request = StopsBefore e catalogue request
StopsBeforeWithin budget GivenUp catalogue request = IsSome budget × AreRead catalogue request

-- Why a run ends without its whole text: as one without a budget, or it gives up, and then nothing was written.
abbrev pub StopsWithin : Option ℕ → RunStop → Device → Device → Device → Type 0
StopsWithin budget (Fault e) catalogue request writer = StopsRun e catalogue request writer
StopsWithin budget GivenUp catalogue request writer = IsSome budget × AreRead catalogue request × (writer.after ≡ writer.before)

-- Neither text has a faulty line.
abbrev pub AreGrammatical : List ℕ → List ℕ → Type 0
AreGrammatical c r = (catalogue : List Line) × (request : List Line) × IsGrammatical IsCatalogueLine c catalogue × IsGrammatical (IsRequestLine catalogue) r request
