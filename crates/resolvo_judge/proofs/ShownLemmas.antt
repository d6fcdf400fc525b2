-- Lines of a message that the reader gives without their bytes: the judge's state is that after
-- the written lines.
use Rattle.std.proofs.Common.{◌≡◌, ℕ, false, List, [], ◌∷◌, ◌++◌, Some, refl, sym, ap, subst, ◌∙◌, ⊎_elim, append_assoc}
use Rattle.std.specs.List.{list_all}
use Rattle.resolvo_text.specs.Line.{Line}
use Rattle.resolvo_report.specs.declared.grammar.Part.{Part}
use Rattle.resolvo_report.specs.declared.grammar.Part.TheVariants as part
use Rattle.resolvo_report.specs.Value.{AnswerLine, Step, ReportLine, Message}
use Rattle.resolvo_report.specs.Value as line
use Rattle.resolvo_report.specs.Grammar.{next_part}
use Rattle.resolvo_report.specs.Shown.{IsShown}
use Rattle.resolvo_checker.specs.Kept.{Kept}
use Rattle.resolvo_checker.specs.Proof.{ends_empty}
use Rattle.resolvo_checker.specs.CheckStep.{CheckerInvariant}
use Rattle.resolvo_judge.specs.declared.judge_state.JudgeState.{JudgeState}
use Rattle.resolvo_judge.specs.Entries.{entries_of}
use Rattle.resolvo_judge.specs.Refusal.{answer_in, answers_in, step_in, steps_in, catalogue_line_in, request_line_in, passes}
use Rattle.resolvo_judge.specs.Log.{is_head, causes_of_line}
use Rattle.resolvo_judge.specs.KeptAnswers.{KeepsAnswers, KeepsLines, forbidden_from}
use Rattle.resolvo_judge.specs.Forbids.{is_forbidden_so_far, AreFirst}
use Rattle.resolvo_judge.specs.JudgeState.{JudgeInvariant}
use Rattle.resolvo_judge.proofs.MessageLines.{same_lists, same_refusal, same_rest}

no_message : (q : Part) (bytes : List ℕ) → next_part part.Start (Message bytes) ≡ Some q → ⊥
no_message q bytes e = cc

-- no report begins with a message
pub first_shown : (p q : Part) (written l : ReportLine) → p ≡ part.Start → IsShown false written l → next_part p written ≡ Some q → written ≡ l
first_shown p q written l start shown placed = ⊎_elim
    (λ e. e)
    (λ m. absurd (no_message q m.0 (ap (next_part part.Start) (sym m.1) ∙ (ap (λ (z : Part). next_part z written) (sym start) ∙ placed))))
    shown

module _ (written l : ReportLine) (shown : IsShown false written l) where
  pub passes_shown : (catalogue request : List Line) (above : List ReportLine) → passes catalogue request above l ≡ passes catalogue request above written
  passes_shown catalogue request above = ⊎_elim
      (λ e. ap (passes catalogue request above) (sym e))
      (λ m. ap (passes catalogue request above) m.2 ∙ ap (passes catalogue request above) (sym m.1))
      shown

  pub causes_shown : causes_of_line l ≡ causes_of_line written
  causes_shown = ⊎_elim (λ e. ap causes_of_line (sym e)) (λ m. ap causes_of_line m.2 ∙ ap causes_of_line (sym m.1)) shown

  pub head_shown : is_head written ≡ false → is_head l ≡ false
  head_shown none = ⊎_elim (λ e. ap is_head (sym e) ∙ none) (λ m. ap is_head m.2) shown

-- ---- the state after a line of a message, whatever its bytes

-- an answer is above the last line, which is none
above_last : (above : List ReportLine) (l : ReportLine) (xs ys : List ReportLine) (a : AnswerLine) → answer_in l ≡ [] → above ++ l ∷ [] ≡ xs ++ line.Answer a ∷ ys → (zs : List ReportLine) × (above ≡ xs ++ line.Answer a ∷ zs)
above_last [] l [] ys a none e = absurd (other (let h : l ≡ line.Answer a = cc in sym (ap answer_in h) ∙ none)) where
  other : ◌≡◌ {A = List AnswerLine} (a ∷ []) [] → ⊥
  other h = cc
above_last [] l (x ∷ []) ys a none e = absurd cc
above_last [] l (x ∷ z ∷ xs) ys a none e = absurd cc
above_last (y ∷ above) l [] ys a none e = let h : y ≡ line.Answer a = cc in (above, ap (λ (z : ReportLine). z ∷ above) h)
above_last (y ∷ above) l (x ∷ xs) ys a none e =
    let h : y ≡ x = cc in
    let t : above ++ l ∷ [] ≡ xs ++ line.Answer a ∷ ys = cc in
    let s = above_last above l xs ys a none t in
    (s.0, ap (λ (z : ReportLine). z ∷ above) h ∙ ap (λ (zs : List ReportLine). x ∷ zs) s.1)

module _ (bytes other : List ℕ) (above : List ReportLine) where
  abbrev one : List ReportLine
  one = above ++ Message bytes ∷ []

  abbrev two : List ReportLine
  two = above ++ Message other ∷ []

  first_kept : AreFirst two → AreFirst one
  first_kept first xs ys a e =
      let s = above_last above (Message bytes) xs ys a refl e in
      first xs (s.0 ++ Message other ∷ []) a (ap (λ (zs : List ReportLine). zs ++ Message other ∷ []) s.1 ∙ append_assoc xs (line.Answer a ∷ s.0) (Message other ∷ []))

  same_steps : steps_in one ≡ steps_in two
  same_steps = same_lists bytes other step_in refl above []

  same_answers : answers_in one ≡ answers_in two
  same_answers = same_lists bytes other answer_in refl above []

  invariant_message : (catalogue request : List Line) (j : JudgeState) (clauses : List Kept) → JudgeInvariant catalogue request j clauses one → JudgeInvariant catalogue request j clauses two
  invariant_message catalogue request j clauses s = record {
    refused = s.refused ∙ same_refusal bytes other above [];
    log = record {
      steps = subst (λ (xs : List Step). CheckerInvariant catalogue request j.log.checker.numbers clauses j.log.checker.places.items j.log.checker.rules xs) same_steps s.log.steps;
      catalogue_lines = λ n. s.log.catalogue_lines n ∙ same_rest bytes other catalogue request catalogue_line_in refl above [] n;
      request_lines = λ n. s.log.request_lines n ∙ same_rest bytes other catalogue request request_line_in refl above [] n;
      ends = s.log.ends ∙ ap ends_empty same_steps;
    };
    entries = subst (λ (xs : List AnswerLine). KeepsAnswers j.entries xs) same_answers s.entries;
    lines = subst (λ (xs : List AnswerLine). KeepsLines request j.entries xs) same_answers s.lines;
    forbidden = λ first.
        s.forbidden (first_kept first)
        ∙ (ap (λ (xs : List Step). list_all (is_forbidden_so_far catalogue request xs (entries_of (answers_in one))) (forbidden_from 0 (answers_in one))) same_steps
        ∙ ap (λ (xs : List AnswerLine). list_all (is_forbidden_so_far catalogue request (steps_in two) (entries_of xs)) (forbidden_from 0 xs)) same_answers);
  }

pub invariant_shown : (written l : ReportLine) → IsShown false written l → (catalogue request : List Line) (above : List ReportLine) (j : JudgeState) (clauses : List Kept) → JudgeInvariant catalogue request j clauses (above ++ l ∷ []) → JudgeInvariant catalogue request j clauses (above ++ written ∷ [])
invariant_shown written l shown catalogue request above j clauses s = ⊎_elim
    (λ e. subst (λ (x : ReportLine). JudgeInvariant catalogue request j clauses (above ++ x ∷ [])) (sym e) s)
    (λ m. subst (λ (x : ReportLine). JudgeInvariant catalogue request j clauses (above ++ x ∷ [])) (sym m.1) (invariant_message [] m.0 above catalogue request j clauses (subst (λ (x : ReportLine). JudgeInvariant catalogue request j clauses (above ++ x ∷ [])) m.2 s)))
    shown
