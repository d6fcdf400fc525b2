-- The judge's state after lines of a report, and whether the report may end after them.
use Rattle.std.specs.Prelude.{◌≡◌, Bool, true, false, List, [], ◌∷◌, ◌++◌}
use Rattle.resolvo_text.specs.Line.{Line}
use Rattle.resolvo_report.specs.Value.{ReportLine}
use Rattle.resolvo_checker.specs.Kept.{Kept}
use Rattle.resolvo_judge.specs.declared.judge_state.JudgeState.{JudgeState}
use Rattle.resolvo_judge.specs.Refusal.{answers_in, is_refusal, Ends}
use Rattle.resolvo_judge.specs.Log.{KeepsLog}
use Rattle.resolvo_judge.specs.Forbids.{FlagsForbidden}
use Rattle.resolvo_judge.specs.KeptAnswers.{KeepsAnswers, KeepsLines}

-- The state is that after these lines.
pub record JudgeInvariant (catalogue request : List Line) (j : JudgeState) (clauses : List Kept) (above : List ReportLine) : Type 0 where
  pub refused : j.refused ≡ is_refusal above
  pub log : KeepsLog catalogue request j.log clauses above
  pub entries : KeepsAnswers j.entries (answers_in above)
  pub lines : KeepsLines request j.entries (answers_in above)
  pub forbidden : FlagsForbidden catalogue request j.forbidden above

-- Below these lines, with one more, the flag is still whether the steps forbid the left-out wishes.
abbrev pub FlagsNext : List Line → List Line → JudgeState → List Kept → List ReportLine → ReportLine → Bool → Type 0
FlagsNext catalogue request j clauses above line forbidden =
    KeepsLog catalogue request j.log clauses above → KeepsAnswers j.entries (answers_in above) → FlagsForbidden catalogue request j.forbidden above
    → FlagsForbidden catalogue request forbidden (above ++ line ∷ [])

-- The answer is whether the report may end after these lines.
abbrev pub DecidesEnd : List Line → List Line → List ReportLine → Bool → Type 0
DecidesEnd catalogue request lines true = Ends catalogue request lines
DecidesEnd catalogue request lines false = Ends catalogue request lines → ⊥
