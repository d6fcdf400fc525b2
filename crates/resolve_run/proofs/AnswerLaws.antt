-- A run installs exactly if some set keeps the rules, and the judge accepts each report that it wrote.
use Rattle.std.proofs.Common.{◌≡◌, ◌≤◌, ◌+◌, ℕ, List, Option, Some, length, refl, sym, ap, subst, ◌∙◌, arith}
use Rattle.std.specs.Prelude.{◌↔◌}
use Rattle.resolvo_text.specs.Line.{Line}
use Rattle.resolvo_text.specs.Matches.{Set}
use Rattle.resolvo_catalogue_core.specs.Sets.{IsRuleKeeping}
use Rattle.resolvo_catalogue_core.specs.Grammar.{IsRequestLine}
use Rattle.resolvo_catalogue_core.proofs.GrammarLaws.{catalogue_fault, one_catalogue, one_request, request_fault}
use Rattle.resolvo_text.specs.Texts.{IsFaultyAt, IsGrammatical}
use Rattle.std.proofs.lemmas.List.{length-append}
use Rattle.resolvo_report.specs.Value.{Report, Install, Refused}
use Rattle.resolvo_report.specs.Text.{report_text}
use Rattle.resolvo_report.specs.Grammar.{most_bytes}
use Rattle.resolvo_judge.specs.declared.judgement.JudgeFault.TheVariants.{TooLong}
use Rattle.resolvo_judge.specs.declared.judgement.Verdict.{Verdict}
use Rattle.resolvo_judge.specs.declared.judgement.Verdict.TheVariants as verdict
use Rattle.resolvo_judge.specs.Judgement.{IsClaimTrue, IsJudgeFault, IsRefusedAt, IsVerdict}
use Rattle.resolvo_judge.proofs.PlaceLaws.{upheld_nowhere}
use Rattle.resolve_check.specs.declared.outcome.Checked.{Checked}
use Rattle.resolve_check.specs.declared.outcome.Checked.TheVariants.{Yes as Accepted}
use Rattle.resolve_check.specs.Check as check
use Rattle.resolve_check.specs.Check.{IsCheck, IsVerdictText, yes_text}
use Rattle.resolve_check.specs.declared.outcome.Outcome.{Outcome}
use Rattle.resolve_check.specs.declared.outcome.Outcome.TheVariants as outcome
use Rattle.resolve_run.specs.Headline as answer
use Rattle.resolve_run.specs.Headline.{IsHeadline, IsRightText, outcome_of}

pub installs_if_any : (catalogue request : List Line) (ended : Outcome) (output : List ℕ) → IsRightText catalogue request ended output → (ended ≡ outcome.Installed) ↔ ((set : Set) × IsRuleKeeping catalogue request set)
installs_if_any catalogue request ended output a = go a.report a.ends a.right.claim
  where
    go : (r : Report) → ended ≡ outcome_of r → IsClaimTrue catalogue request r → (ended ≡ outcome.Installed) ↔ ((set : Set) × IsRuleKeeping catalogue request set)
    go (Install lines steps) ends claim = (λ e. (_, claim.keeps_rules), λ any. ends)
    go (Refused catalogue_lines request_lines steps message) ends claim = (
      λ e. absurd (let no : outcome.Refused ≡ outcome.Installed = sym ends ∙ e in cc),
      λ any. absurd (claim any.0 any.1.single (λ n h. any.1.catalogue_lines n) (λ n h. any.1.request_lines n)),
    )

-- ---- the judge

-- no line of the report is refused
pub refused_nowhere : (catalogue request : List Line) (ended : Outcome) (output : List ℕ) (n : ℕ) → IsRightText catalogue request ended output → IsRefusedAt catalogue request output n → ⊥
refused_nowhere catalogue request ended output n a refused = upheld_nowhere catalogue request (report_text a.report) a.report n a.right.upheld (subst (λ (text : List ℕ). IsRefusedAt catalogue request text n) a.is_text refused)

pub judged_yes : (catalogue request : List Line) (ended : Outcome) (output : List ℕ) (v : Verdict) → IsRightText catalogue request ended output → IsVerdict catalogue request output v → v ≡ verdict.Yes
judged_yes catalogue request ended output verdict.Yes a is = refl
judged_yes catalogue request ended output (verdict.No n) a refused = absurd (refused_nowhere catalogue request ended output n a refused)

pub not_too_long : (catalogue request : List Line) (ended : Outcome) (output : List ℕ) (after : Option (List ℕ)) → IsRightText catalogue request ended output → IsJudgeFault catalogue request TooLong (Some output) after (Unit {0}) → ⊥
not_too_long catalogue request ended output after a fault =
    let (taken, rest, most, more, right) = fault output refl in
    let parts : length output ≡ length taken + length rest = ap length right.parts ∙ length-append taken rest in
    let few : length output ≤ most_bytes = a.bound in
    omega (arith, most, more, parts, few)

-- the text of a check for the report of a run over the same texts
pub accepted : (c r : List ℕ) (ended : Outcome) (output : List ℕ) (checked : Checked) (verdict_text : List ℕ) → IsHeadline c r ended output → (ended ≡ outcome.Faulty → ⊥) → IsCheck c r output checked verdict_text → (checked ≡ Accepted) × (verdict_text ≡ yes_text)
accepted c r ended output checked verdict_text (answer.catalogue_fault n faulty ends is) sound found = absurd (sound ends)
accepted c r ended output checked verdict_text (answer.request_fault catalogue n grammatical faulty ends is) sound found = absurd (sound ends)
accepted c r ended output checked verdict_text (answer.grammatical catalogue request is_c is_r a) sound (check.catalogue_fault n faulty how text_is) = absurd (catalogue_fault c catalogue n is_c faulty)
accepted c r ended output checked verdict_text (answer.grammatical catalogue request is_c is_r a) sound (check.request_fault other n grammatical faulty how text_is) =
    let same : other ≡ catalogue = one_catalogue c other catalogue grammatical is_c in
    absurd (request_fault catalogue r request n is_r (subst (λ (ls : List Line). IsFaultyAt (IsRequestLine ls) r n) same faulty))
accepted c r ended output checked verdict_text (answer.grammatical catalogue request is_c is_r a) sound (check.judged other asked v grammatical asks judged claims is_answer) =
    let same : other ≡ catalogue = one_catalogue c other catalogue grammatical is_c in
    let same_request : asked ≡ request = one_request catalogue r asked request (subst (λ (ls : List Line). IsGrammatical (IsRequestLine ls) r asked) same asks) is_r in
    let yes : v ≡ verdict.Yes = judged_yes catalogue request ended output v a (subst (λ (ls : List Line). IsVerdict catalogue ls output v) same_request (subst (λ (ls : List Line). IsVerdict ls asked output v) same judged)) in
    subst (λ (w : Verdict). IsVerdictText w checked verdict_text) yes is_answer
