-- The result of a call from C: the prefix of a text in the caller's room, the ending, and the whole
-- text's length.
use Rattle.std.specs.Prelude.{◌≡◌, ℕ, List, [], ◌++◌, length, take, drop, Option, Some, IsSome}
use Rattle.resolvo_text.specs.Device.{DeviceFailed}
use Rattle.resolve_check.specs.declared.outcome.Outcome.{Outcome}
use Rattle.resolve_check.specs.declared.outcome.Checked.{Checked}
use Rattle.resolve_check.specs.declared.outcome.RunFault.{RunFault}
use Rattle.resolve_check.specs.declared.outcome.RunFault.TheVariants.{TooLong, Ids}
use Rattle.resolve_check.specs.Devices.{Device, reader_of}
use Rattle.resolve_check.specs.Check.{IsCheck, StopsBeforeCheck}
use Rattle.resolve_run.specs.Answer.{IsAnswer}
use Rattle.resolve_run.specs.Run.{StopsBefore}
use Rattle.resolve_run.specs.Within.{AreGrammatical}
use Rattle.resolve_run.specs.declared.stop.RunStop.{RunStop}
use Rattle.resolve_run.specs.declared.stop.RunStop.TheVariants.{Fault, GivenUp}
use Rattle.resolve_c.specs.CallStatus.{ending_of, check_ending_of}
use Rattle.resolve_c.specs.declared.call_result.CallResult.{CallResult}

-- The call returns this ending and the text's length, and the room has the prefix of the text that
-- fits. The rest of the room is unchanged.
pub record Leaves (ending : ℕ) (text before after : List ℕ) (call_result : CallResult) : Type 0 where
  pub ended : call_result.ending ≡ ending
  pub length_is : call_result.length ≡ length text
  pub room : after ≡ take (length before) text ++ drop (length text) before

-- bytes that the caller lends, and those of them that are left: a device that neither failed nor was interrupted
abbrev pub lent : List ℕ → Option (List ℕ) → Device
lent bytes left = reader_of (Some bytes) left (DeviceFailed 0 0 0)

-- Why there is no report.
abbrev pub StopsSolving : RunFault → List ℕ → List ℕ → Type 0
StopsSolving fault c r = (c_left : Option (List ℕ)) × (r_left : Option (List ℕ)) × StopsBefore fault (lent c c_left) (lent r r_left)

-- Why there is no report, where there may be a budget.
abbrev pub StopsSolvingWithin : Option ℕ → RunStop → List ℕ → List ℕ → Type 0
StopsSolvingWithin budget (Fault e) c r = StopsSolving e c r
StopsSolvingWithin budget GivenUp c r = IsSome budget × AreGrammatical c r

-- Why there is no verdict.
abbrev pub StopsJudging : RunFault → List ℕ → List ℕ → List ℕ → Type 0
StopsJudging fault c r p = (c_left : Option (List ℕ)) × (r_left : Option (List ℕ)) × (p_left : Option (List ℕ))
    × StopsBeforeCheck fault (lent c c_left) (lent r r_left) (lent p p_left)

-- The result of solving a catalogue and a request. It is their answer, with the ending 0 for
-- `install`, 1 for `refused` and 2 for a faulty line. Or no text, where one is too long, or memory
-- or numbers are lacking.
pub data Solves (c r before after : List ℕ) (call_result : CallResult) : Type 0 where
  answered : (outcome : Outcome) (text : List ℕ) → IsAnswer c r outcome text → Leaves (ending_of outcome) text before after call_result → Solves c r before after call_result
  too_long : StopsSolving TooLong c r → Leaves 4 [] before after call_result → Solves c r before after call_result
  no_memory : Leaves 5 [] before after call_result → Solves c r before after call_result
  no_ids : StopsSolving Ids c r → Leaves 6 [] before after call_result → Solves c r before after call_result

-- The result of solving them with a budget: the same, or no text, where the search gave up.
pub data SolvesWithin (c r before after : List ℕ) (call_result : CallResult) : Type 0 where
  solved : Solves c r before after call_result → SolvesWithin c r before after call_result
  given_up : AreGrammatical c r → Leaves 8 [] before after call_result → SolvesWithin c r before after call_result

-- The result of judging a catalogue, a request and a report. It is their check, with the ending 0
-- for `yes`, 1 for `no` and 2 for a faulty line. Or no text, where one is too long or memory is
-- lacking.
pub data Judges (c r p before after : List ℕ) (call_result : CallResult) : Type 0 where
  checked : (ended : Checked) (text : List ℕ) → IsCheck c r p ended text → Leaves (check_ending_of ended) text before after call_result → Judges c r p before after call_result
  too_long : StopsJudging TooLong c r p → Leaves 4 [] before after call_result → Judges c r p before after call_result
  no_memory : Leaves 5 [] before after call_result → Judges c r p before after call_result
