-- From the effects of `run` and `check` on devices to the result of a call for bytes.
use Rattle.std.proofs.Common.{◌≡◌, ℕ, ◌<◌, List, [], Option, Some, None, refl, sym, subst, ⊎_elim, arith}
use Rattle.std.proofs.lemmas.Bool.{false≢true}
use Rattle.std.specs.Io.KnownBytes.{Appends}
use Rattle.resolvo_text.specs.Device.{DeviceFailed}
use Rattle.resolvo_text.specs.declared.lines.ReadFault.TheVariants as read
use Rattle.resolvo_judge.specs.declared.judgement.JudgeFault.TheVariants as judging
use Rattle.resolve_check.specs.declared.outcome.Outcome.{Outcome}
use Rattle.resolve_check.specs.declared.outcome.Checked.{Checked}
use Rattle.resolve_check.specs.declared.outcome.RunFault.{RunFault}
use Rattle.resolve_check.specs.declared.outcome.RunFault.TheVariants.{Reader, TooLong, Memory, Ids, Writer}
use Rattle.resolve_check.specs.Devices.{Device, StopsReading, in_catalogue, in_request}
use Rattle.resolve_check.specs.Check.{IsCheck, ChecksTexts, StopsTexts, StopsBeforeCheck, StopsCheck}
use Rattle.resolve_run.specs.Answer.{IsAnswer}
use Rattle.resolve_run.specs.Run.{AnswersTexts, AreRead, StopsBefore, StopsRun}
use Rattle.resolve_run.specs.Within.{AreGrammatical, StopsWithin}
use Rattle.resolve_run.specs.declared.stop.RunStop.{RunStop}
use Rattle.resolve_run.specs.declared.stop.RunStop.TheVariants.{Fault, GivenUp}
use Rattle.resolve_c.specs.CallStatus.{growing, growing_within, fault_ending_of, stop_ending_of}
use Rattle.resolve_c.specs.CallResult.{Leaves, lent, StopsSolving, StopsSolvingWithin, StopsJudging, Solves, SolvesWithin, Judges}
use Rattle.resolve_c.specs.CallResult as how
use Rattle.resolve_c.specs.declared.call_result.CallResult.{CallResult}

pub leaves_as : (ending other : ℕ) (text same before after : List ℕ) (call_result : CallResult) → ending ≡ other → text ≡ same → Leaves ending text before after call_result → Leaves other same before after call_result
leaves_as ending other text same before after call_result e t h =
    subst (λ (n : ℕ). Leaves n same before after call_result) e (subst (λ (xs : List ℕ). Leaves ending xs before after call_result) t h)

-- ---- a text that was written into a sink that was empty, where the bytes that were lent are the caller's

pub answer_taken : (c r c_lent r_lent held text : List ℕ) (outcome : Outcome) → c_lent ≡ c → r_lent ≡ r → held ≡ []
    → (output : List ℕ) × AnswersTexts (Some c_lent) (Some r_lent) outcome output × Appends (Some held) (Some text) output → IsAnswer c r outcome text
answer_taken c r c_lent r_lent held text outcome is_c is_r none (output, answers, appended) =
    let whole : text ≡ output = rw none at appended in
    let answer : IsAnswer c_lent r_lent outcome text = subst (λ (xs : List ℕ). IsAnswer c_lent r_lent outcome xs) (sym whole) (answers c_lent refl r_lent refl) in
    subst (λ (xs : List ℕ). IsAnswer c xs outcome text) is_r (subst (λ (xs : List ℕ). IsAnswer xs r_lent outcome text) is_c answer)

pub check_taken : (c r p c_lent r_lent p_lent held text : List ℕ) (ended : Checked) → c_lent ≡ c → r_lent ≡ r → p_lent ≡ p → held ≡ []
    → (output : List ℕ) × ChecksTexts (Some c_lent) (Some r_lent) (Some p_lent) ended output × Appends (Some held) (Some text) output → IsCheck c r p ended text
check_taken c r p c_lent r_lent p_lent held text ended is_c is_r is_p none (output, checks, appended) =
    let whole : text ≡ output = rw none at appended in
    let check : IsCheck c_lent r_lent p_lent ended text = subst (λ (xs : List ℕ). IsCheck c_lent r_lent p_lent ended xs) (sym whole) (checks c_lent refl r_lent refl p_lent refl) in
    subst (λ (xs : List ℕ). IsCheck c r xs ended text) is_p (subst (λ (xs : List ℕ). IsCheck c xs p_lent ended text) is_r (subst (λ (xs : List ℕ). IsCheck xs r_lent p_lent ended text) is_c check))

-- ---- no text

pub run_stopped : (fault call_result : RunFault) (c r c_lent r_lent : List ℕ) (c_left r_left : Option (List ℕ)) (writer : Device) → c_lent ≡ c → r_lent ≡ r → call_result ≡ growing fault
    → StopsRun fault (lent c_lent c_left) (lent r_lent r_left) writer → StopsSolving call_result c r
run_stopped fault call_result c r c_lent r_lent c_left r_left writer is_c is_r is stopped = (
  c_left,
  r_left,
  subst (λ (e : RunFault). StopsBefore e (lent c c_left) (lent r r_left)) (sym is)
      (subst (λ (xs : List ℕ). StopsBefore (growing fault) (lent c c_left) (lent xs r_left)) is_r
      (subst (λ (xs : List ℕ). StopsBefore (growing fault) (lent xs c_left) (lent r_lent r_left)) is_c
      (before fault (lent c_lent c_left) (lent r_lent r_left) writer stopped))),
)
  where
    before : (fault : RunFault) (catalogue request writer : Device) → StopsRun fault catalogue request writer → StopsBefore (growing fault) catalogue request
    before Reader catalogue request writer h = h.0
    before TooLong catalogue request writer h = h.0
    before Memory catalogue request writer h = tt
    before Ids catalogue request writer h = h.0
    before Writer catalogue request writer h = tt

-- both texts were read to their ends
grammatical_read : (c r : List ℕ) (c_left r_left : Option (List ℕ)) → AreRead (lent c c_left) (lent r r_left) → AreGrammatical c r
grammatical_read c r c_left r_left are = (are.catalogue_lines, are.request_lines, are.catalogue_read c refl, are.request_read r refl)

pub run_stopped_within : (budget : Option ℕ) (stop call_result : RunStop) (c r c_lent r_lent : List ℕ) (c_left r_left : Option (List ℕ)) (writer : Device) → c_lent ≡ c → r_lent ≡ r → call_result ≡ growing_within stop
    → StopsWithin budget stop (lent c_lent c_left) (lent r_lent r_left) writer → StopsSolvingWithin budget call_result c r
run_stopped_within budget (Fault e) call_result c r c_lent r_lent c_left r_left writer is_c is_r is stopped = subst (λ (s : RunStop). StopsSolvingWithin budget s c r) (sym is)
    (run_stopped e (growing e) c r c_lent r_lent c_left r_left writer is_c is_r refl stopped)
run_stopped_within budget GivenUp call_result c r c_lent r_lent c_left r_left writer is_c is_r is (some, are, same) = subst (λ (s : RunStop). StopsSolvingWithin budget s c r) (sym is)
    (some, subst (λ (xs : List ℕ). AreGrammatical c xs) is_r (subst (λ (xs : List ℕ). AreGrammatical xs r_lent) is_c (grammatical_read c_lent r_lent c_left r_left are)))

pub check_stopped : (fault call_result : RunFault) (c r p c_lent r_lent p_lent : List ℕ) (c_left r_left p_left : Option (List ℕ)) (writer : Device) → c_lent ≡ c → r_lent ≡ r → p_lent ≡ p → call_result ≡ growing fault
    → StopsCheck fault (lent c_lent c_left) (lent r_lent r_left) (lent p_lent p_left) writer → StopsJudging call_result c r p
check_stopped fault call_result c r p c_lent r_lent p_lent c_left r_left p_left writer is_c is_r is_p is stopped = (
  c_left,
  r_left,
  p_left,
  subst (λ (e : RunFault). StopsBeforeCheck e (lent c c_left) (lent r r_left) (lent p p_left)) (sym is)
      (subst (λ (xs : List ℕ). StopsBeforeCheck (growing fault) (lent c c_left) (lent r r_left) (lent xs p_left)) is_p
      (subst (λ (xs : List ℕ). StopsBeforeCheck (growing fault) (lent c c_left) (lent xs r_left) (lent p_lent p_left)) is_r
      (subst (λ (xs : List ℕ). StopsBeforeCheck (growing fault) (lent xs c_left) (lent r_lent r_left) (lent p_lent p_left)) is_c
      (before fault (lent c_lent c_left) (lent r_lent r_left) (lent p_lent p_left) writer stopped)))),
)
  where
    before : (fault : RunFault) (catalogue request report writer : Device) → StopsCheck fault catalogue request report writer → StopsBeforeCheck (growing fault) catalogue request report
    before Reader catalogue request report writer h = h.0
    before TooLong catalogue request report writer h = h.0
    before Memory catalogue request report writer h = tt
    before Ids catalogue request report writer h = h.0
    before Writer catalogue request report writer h = tt

-- ---- lent bytes never fail

no_failure : DeviceFailed 0 0 0 → ⊥
no_failure h = ⊎_elim (λ (more : 0 < 0). absurd (omega (arith, more))) (λ rest. ⊎_elim (λ full. absurd (omega (arith, full))) (λ many. absurd (omega (arith, many))) rest) h

never_unread : (c r : List ℕ) (c_left r_left : Option (List ℕ)) → StopsReading read.Reader (lent c c_left) (lent r r_left) → ⊥
never_unread c r c_left r_left (in_catalogue h unread) = no_failure h.0
never_unread c r c_left r_left (in_request lines parses h) = no_failure h.0

never_unjudged : (c r p : List ℕ) (c_left r_left p_left : Option (List ℕ)) → StopsTexts read.Reader judging.Reader (lent c c_left) (lent r r_left) (lent p p_left) → ⊥
never_unjudged c r p c_left r_left p_left h = ⊎_elim (λ texts. never_unread c r c_left r_left texts.0) (λ report. no_failure report.stops.0) h

pub unanswered : (fault : RunFault) (c r before after : List ℕ) (call_result : CallResult) → StopsSolving fault c r → Leaves (fault_ending_of fault) [] before after call_result → Solves c r before after call_result
unanswered Reader c r before after call_result (c_left, r_left, h) leaves = absurd (never_unread c r c_left r_left h)
unanswered TooLong c r before after call_result h leaves = how.too_long h leaves
unanswered Memory c r before after call_result h leaves = how.no_memory leaves
unanswered Ids c r before after call_result h leaves = how.no_ids h leaves
unanswered Writer c r before after call_result (c_left, r_left, h) leaves = absurd h

-- without a budget no call gives up
pub unanswered_without : (stop : RunStop) (c r before after : List ℕ) (call_result : CallResult) → StopsSolvingWithin None stop c r → Leaves (stop_ending_of stop) [] before after call_result → Solves c r before after call_result
unanswered_without (Fault e) c r before after call_result h leaves = unanswered e c r before after call_result h leaves
unanswered_without GivenUp c r before after call_result (none, texts) leaves = absurd (false≢true none)

pub unanswered_within : (budget : Option ℕ) (stop : RunStop) (c r before after : List ℕ) (call_result : CallResult) → StopsSolvingWithin budget stop c r → Leaves (stop_ending_of stop) [] before after call_result → SolvesWithin c r before after call_result
unanswered_within budget (Fault e) c r before after call_result h leaves = how.solved (unanswered e c r before after call_result h leaves)
unanswered_within budget GivenUp c r before after call_result (some, texts) leaves = how.given_up texts leaves

pub unchecked : (fault : RunFault) (c r p before after : List ℕ) (call_result : CallResult) → StopsJudging fault c r p → Leaves (fault_ending_of fault) [] before after call_result → Judges c r p before after call_result
unchecked Reader c r p before after call_result (c_left, r_left, p_left, h) leaves = absurd (never_unjudged c r p c_left r_left p_left h)
unchecked TooLong c r p before after call_result h leaves = how.too_long h leaves
unchecked Memory c r p before after call_result h leaves = how.no_memory leaves
unchecked Ids c r p before after call_result (c_left, r_left, p_left, h) leaves = absurd h
unchecked Writer c r p before after call_result (c_left, r_left, p_left, h) leaves = absurd h
