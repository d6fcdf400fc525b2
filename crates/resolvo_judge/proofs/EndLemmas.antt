-- Whether a report may end after its lines, by the judge's state.
use Rattle.std.proofs.Common.{◌≡◌, ℕ, Bool, true, false, List, [], ◌∷◌, ◌++◌, length, map, refl, sym, ap, subst, ◌∙◌}
use Rattle.std.specs.Prelude.{◌&&◌}
use Rattle.std.specs.List.{list_all}
use Rattle.std.proofs.lemmas.Bool.{false≢true}
use Rattle.resolvo_text.specs.Line.{Line}
use Rattle.resolvo_report.specs.Value.{Report, Install, Refused, Answer, Step, AnswerLine, ReportLine, InstallHead, RefusedHead, CatalogueLine, RequestLine, Numbered, Message}
use Rattle.resolvo_report.specs.Text.{report_lines, numbered}
use Rattle.resolvo_judge.specs.declared.judge_state.JudgeState.{JudgeState}
use Rattle.resolvo_judge.specs.declared.log.ProofState.{ProofState}
use Rattle.resolvo_judge.specs.declared.entries.Entries.{Entries}
use Rattle.resolvo_judge.specs.declared.alternatives.Alternatives.{Alternatives}
use Rattle.resolvo_judge.specs.Log.{LogInvariant, is_head}
use Rattle.resolvo_checker.specs.Proof.{ends_empty}
use Rattle.resolvo_judge.specs.Entries.{entries_of}
use Rattle.resolvo_judge.specs.Refusal.{answers_in, steps_in, is_refusal, step_forbids}
use Rattle.resolvo_judge.specs.EndRules.{KeepsAll}
use Rattle.resolvo_judge.specs.KeptAnswers.{forbidden_from, AreWishesAnswered, KeepsAnswers, KeepsLines}
use Rattle.resolvo_judge.specs.Forbids.{is_forbidden, is_forbidden_so_far}
use Rattle.resolvo_judge.specs.JudgeState.{JudgeInvariant, DecidesEnd}
use Rattle.resolvo_checker.specs.Kept.{Kept}
use Rattle.resolvo_checker.specs.Rup.{is_earlier}
use Rattle.resolvo_checker.proofs.CheckLemmas.{same_length}
use Rattle.resolvo_judge.proofs.ForbidLemmas.{all_forbidden, answers_first}
use Rattle.resolvo_judge.proofs.ForbiddenLemmas.{forbidden_each, forbidden_all}

-- the end of an install report, by the answer for its left-out wishes
by_answer : (catalogue request : List Line) (rest : List ReportLine) (fine : Bool) → KeepsAll catalogue request (entries_of (answers_in rest)) true → AreWishesAnswered request (answers_in rest) true
    → fine ≡ list_all (is_forbidden catalogue request (steps_in rest) (entries_of (answers_in rest))) (forbidden_from 0 (answers_in rest)) → DecidesEnd catalogue request (InstallHead ∷ rest) fine
by_answer catalogue request rest true keeps answered all = record {
  catalogue_lines = keeps.catalogue_lines;
  request_lines = keeps.request_lines;
  wishes = answered;
  forbidden = forbidden_each (step_forbids catalogue request (steps_in rest)) (answers_in rest) (sym all);
}
by_answer catalogue request rest false keeps answered all = λ ends. false≢true (all ∙ forbidden_all (step_forbids catalogue request (steps_in rest)) (answers_in rest) ends.forbidden)

-- an install report: the entries keep all rules, each wish is answered, and left-out ones are
-- forbidden
pub install_ends : (catalogue request : List Line) (j : JudgeState) (clauses : List Kept) (r : Report) (fine : Bool) → is_refusal (report_lines r) ≡ false → JudgeInvariant catalogue request j clauses (report_lines r)
    → KeepsAll catalogue request (entries_of (answers_in (report_lines r))) true → AreWishesAnswered request (answers_in (report_lines r)) true
    → fine ≡ (j.forbidden && list_all (is_earlier (length clauses)) j.entries.forbidden.steps.items) → DecidesEnd catalogue request (report_lines r) fine
install_ends catalogue request j clauses (Refused cs rs ss ms) fine install represents keeps answered forbidden = absurd (false≢true (sym install))
install_ends catalogue request j clauses (Install ls ss) fine install represents keeps answered forbidden =
    let rest : List ReportLine = map (λ a. Answer a) ls ++ numbered 1 ss in
    let answers : List AnswerLine = answers_in rest in
    let steps : List Step = steps_in rest in
    let many : length clauses ≡ length steps = same_length catalogue request j.log.checker.numbers steps clauses represents.log.steps.kept in
    let all : fine ≡ list_all (is_forbidden catalogue request steps (entries_of answers)) (forbidden_from 0 answers) =
    forbidden
    ∙ ap (λ (b : Bool). b && list_all (is_earlier (length clauses)) j.entries.forbidden.steps.items) (represents.forbidden (answers_first ls ss))
    ∙ ap (λ (ns : List ℕ). list_all (is_forbidden_so_far catalogue request steps (entries_of answers)) (forbidden_from 0 answers) && list_all (is_earlier (length clauses)) ns) represents.entries.forbidden.steps
    ∙ ap (λ (n : ℕ). list_all (is_forbidden_so_far catalogue request steps (entries_of answers)) (forbidden_from 0 answers) && list_all (is_earlier n) (map (λ b. b.step) (forbidden_from 0 answers))) many
    ∙ all_forbidden catalogue request steps (entries_of answers) (forbidden_from 0 answers) in
    by_answer catalogue request rest fine keeps answered all

-- ---- the first line

pub is_refused_head : (l : ReportLine) → is_refusal (l ∷ []) ≡ true → l ≡ RefusedHead
is_refused_head RefusedHead h = refl
is_refused_head InstallHead h = absurd cc
is_refused_head (Answer a) h = absurd cc
is_refused_head (CatalogueLine n) h = absurd cc
is_refused_head (RequestLine n) h = absurd cc
is_refused_head (Numbered n s) h = absurd cc
is_refused_head (Message b) h = absurd cc

pub is_install_head : (l : ReportLine) → is_head l ≡ true → is_refusal (l ∷ []) ≡ false → l ≡ InstallHead
is_install_head InstallHead head h = refl
is_install_head RefusedHead head h = absurd cc
is_install_head (Answer a) head h = absurd cc
is_install_head (CatalogueLine n) head h = absurd cc
is_install_head (RequestLine n) head h = absurd cc
is_install_head (Numbered n s) head h = absurd cc
is_install_head (Message b) head h = absurd cc

pub invariant_head : (catalogue request : List Line) (l head : ReportLine) (refused : Bool) (given log : ProofState) (entries : Entries) (alternatives : Alternatives) → l ≡ head → answers_in (head ∷ []) ≡ [] → given ≡ log → refused ≡ is_refusal (l ∷ [])
    → LogInvariant catalogue request log.checker.numbers [] log.checker.places.items log.checker.rules log.scope log.ends_empty (head ∷ []) → KeepsAnswers entries [] → KeepsLines request entries [] → JudgeInvariant catalogue request (record { refused = refused; log = given; entries = entries; alternatives = alternatives; forbidden = true }) [] (l ∷ [])
invariant_head catalogue request l head refused given log entries alternatives is none same refusal represents kept lines =
    subst (λ (x : ReportLine). JudgeInvariant catalogue request (record { refused = refused; log = given; entries = entries; alternatives = alternatives; forbidden = true }) [] (x ∷ [])) (sym is)
    (subst (λ (g : ProofState). JudgeInvariant catalogue request (record { refused = refused; log = g; entries = entries; alternatives = alternatives; forbidden = true }) [] (head ∷ [])) (sym same) (record {
      refused = refusal ∙ ap (λ (x : ReportLine). is_refusal (x ∷ [])) is;
      log = represents;
      entries = subst (λ (xs : List AnswerLine). KeepsAnswers entries xs) (sym none) kept;
      lines = subst (λ (xs : List AnswerLine). KeepsLines request entries xs) (sym none) lines;
      forbidden = λ first. sym (ap (λ (xs : List AnswerLine). list_all (is_forbidden_so_far catalogue request (steps_in (head ∷ [])) (entries_of xs)) (forbidden_from 0 xs)) none);
    }))
