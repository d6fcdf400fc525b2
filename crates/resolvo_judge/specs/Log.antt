-- The state of the named lines and the steps of a report.
use Rattle.std.specs.Prelude.{◌≡◌, ℕ, ◌+◌, ◌≤◌, Bool, true, false, IsTrue, List, [], ◌∷◌, ◌++◌, length, Option, Result, IfOk}
use Rattle.std.specs.Global.{Vec}
use Rattle.resolvo_text.specs.Line.{Line}
use Rattle.resolvo_catalogue_core.specs.Listed.{listed}
use Rattle.resolvo_report.specs.Value.{ReportLine, InstallHead, RefusedHead, Numbered, Step}
use Rattle.resolvo_checker.specs.declared.clauses.Readings.{Readings}
use Rattle.resolvo_checker.specs.Kept.{Kept}
use Rattle.resolvo_checker.specs.declared.check_step.Premises.{Premises}
use Rattle.resolvo_checker.specs.Proof.{ends_empty}
use Rattle.resolvo_checker.specs.CheckStep.{names_catalogue, names_request, causes_in, CheckerInvariant}
use Rattle.resolvo_judge.specs.Refusal.{steps_in, catalogue_lines_in, request_lines_in, may_rest, passes}
use Rattle.resolvo_judge.specs.declared.log.ProofState.{ProofState}

-- The state is that after these lines: their steps, the lines that steps may name, and whether the
-- last step derives the empty clause.
pub record LogInvariant (catalogue request : List Line) (entries : List (Vec ℕ × ℕ)) (clauses : List Kept) (places : List (Option ℕ)) (rules : List (Vec ℕ × ℕ)) (scope : Premises) (empty : Bool) (above : List ReportLine) : Type 0 where
  pub steps : CheckerInvariant catalogue request entries clauses places rules (steps_in above)
  pub catalogue_lines : (n : ℕ) → names_catalogue scope n ≡ may_rest above (catalogue_lines_in above) n
  pub request_lines : (n : ℕ) → names_request scope n ≡ may_rest above (request_lines_in above) n
  pub ends : empty ≡ ends_empty (steps_in above)

-- The log is that after these lines, with these clauses of their steps.
abbrev pub KeepsLog : List Line → List Line → ProofState → List Kept → List ReportLine → Type 0
KeepsLog catalogue request log clauses above = LogInvariant catalogue request log.checker.numbers clauses log.checker.places.items log.checker.rules log.scope log.ends_empty above

-- The last pass of the checker has the number of a step, or none was made.
abbrev pub PassIsWithin : ProofState → List Kept → Type 0
PassIsWithin log clauses = log.checker.truth.pass ≤ length clauses

-- It has a place for each listed version.
abbrev pub HasAllPlaces : ProofState → List Line → Type 0
HasAllPlaces log catalogue = length log.checker.places.items ≡ length (listed catalogue)

-- ---- one more line

-- A property where the line passes.
abbrev pub IfPassed : {E : Type 0} → Result Bool E → Type 0 → Type 0
IfPassed result P = IfOk result (λ fine. IsTrue fine → P)

-- The answer is whether the step passes, under any number.
abbrev pub DecidesStep : List Line → List Line → ProofState → List Kept → Step → Bool → Type 0
DecidesStep catalogue request log clauses step fine =
    (above : List ReportLine) (n : ℕ) → KeepsLog catalogue request log clauses above → fine ≡ passes catalogue request above (Numbered n step)

-- The step is added, under any number: the log and the clauses before and after.
abbrev pub AddsStep : List Line → List Line → ProofState → List Kept → Step → ProofState → List Kept → Type 0
AddsStep catalogue request log clauses step added more =
    (above : List ReportLine) (n : ℕ) → KeepsLog catalogue request log clauses above → KeepsLog catalogue request added more (above ++ Numbered n step ∷ [])

-- A line without a step is added.
abbrev pub AddsNamed : List Line → List Line → ProofState → ReportLine → ProofState → Type 0
AddsNamed catalogue request log line added =
    (clauses : List Kept) (above : List ReportLine) → KeepsLog catalogue request log clauses above → KeepsLog catalogue request added clauses (above ++ line ∷ [])

-- So many clauses more were read.
abbrev pub ReadsMore : Readings → ℕ → Readings → Type 0
ReadsMore before n after = after ≡ record before { read = before.read + n }

-- ---- lines

-- the first line of a report
abbrev pub is_head : ReportLine → Bool
is_head InstallHead = true
is_head RefusedHead = true
is_head l = false

-- how many clauses the line names
abbrev pub causes_of_line : ReportLine → ℕ
causes_of_line (Numbered n s) = causes_in s
causes_of_line l = 0
