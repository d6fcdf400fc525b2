-- The text of a check is a check of its texts.
use Rattle.std.proofs.Common.{◌≡◌, ℕ, List, Option, Result, IfOk, IfErr, refl, sym, subst, inl}
use Rattle.std.specs.Prelude.{codes}
use Rattle.resolvo_text.specs.Line.{Line}
use Rattle.resolvo_text.specs.Device.{IfKnown}
use Rattle.resolvo_text.specs.Texts.{IsGrammatical, IsFaultyAt, IsTextFault}
use Rattle.resolvo_text.specs.declared.lines.ReadFault.{ReadFault}
use Rattle.resolvo_text.specs.declared.lines.ReadFault.TheVariants as read
use Rattle.resolvo_catalogue_core.specs.Grammar.{IsCatalogueLine, IsRequestLine}
use Rattle.resolvo_catalogue_core.proofs.GrammarLaws.{catalogue_fault as catalogue_fault_none, request_fault as request_fault_none, one_catalogue}
use Rattle.resolvo_judge.specs.declared.judgement.Verdict.{Verdict}
use Rattle.resolvo_judge.specs.Judgement.{IsVerdict, ClaimsTruth}
use Rattle.resolve_check.specs.declared.outcome.Checked.{Checked}
use Rattle.resolve_check.specs.declared.outcome.Checked.TheVariants.{Faulty}
use Rattle.resolve_check.specs.declared.outcome.RunFault.{RunFault}
use Rattle.resolve_check.specs.declared.outcome.RunFault.TheVariants.{Reader, TooLong, Memory, Ids, Writer}
use Rattle.resolve_check.specs.declared.check.Response.{Response}
use Rattle.resolve_check.specs.Devices.{Device, IfCatalogueFaulty, IfRequestFaulty, StopsReading}
use Rattle.resolve_check.specs.Texts.{fault_text}
use Rattle.resolve_check.specs.Check.{IsVerdictText, catalogue_fault, request_fault, judged, ChecksTexts, StopsBeforeCheck, StopsCheck, AnswersFault}
use Rattle.resolve_check.proofs.Results.{if_ok, if_err, never_ids}

answered_ok : (P : Checked → List ℕ → Type 0) (fault : ReadFault) (which : List ℕ) (answered : Result Response RunFault) → AnswersFault fault which answered → ((n : ℕ) → fault ≡ read.Fault n → P Faulty (fault_text which n)) → IfOk answered (λ a. P a.checked a.text.items)
answered_ok P (read.Fault n) which answered h f = if_ok answered (λ a is. subst (λ (o : Checked). P o a.text.items) (sym is.0) (subst (λ (t : List ℕ). P Faulty t) (sym is.1) (f n refl))) h.0
answered_ok P read.Reader which answered h f = rw h tt
answered_ok P read.TooLong which answered h f = rw h tt
answered_ok P read.Memory which answered h f = rw h tt
answered_ok P read.Ids which answered h f = rw h tt

pub catalogue_answer : (before after request report : Option (List ℕ)) (Failed : Type 0) (fault : ReadFault) (answered : Result Response RunFault) → IsTextFault IsCatalogueLine fault before after 16777216 Failed → AnswersFault fault (codes "catalogue") answered
    → IfOk answered (λ a. ChecksTexts before request report a.checked a.text.items)
catalogue_answer before after request report Failed fault answered stopped is_answer = answered_ok (ChecksTexts before request report) fault (codes "catalogue") answered is_answer
    (λ n is t known u known_u p known_p. catalogue_fault n (subst (λ (f : ReadFault). IsTextFault IsCatalogueLine f before after 16777216 Failed) is stopped t known) refl refl)

pub request_answer : (catalogue before after report : Option (List ℕ)) (lines : List Line) (Failed : Type 0) (fault : ReadFault) (answered : Result Response RunFault) → IfKnown catalogue (λ t. IsGrammatical IsCatalogueLine t lines)
    → IsTextFault (IsRequestLine lines) fault before after 16777216 Failed → AnswersFault fault (codes "request") answered → IfOk answered (λ a. ChecksTexts catalogue before report a.checked a.text.items)
request_answer catalogue before after report lines Failed fault answered parses stopped is_answer = answered_ok (ChecksTexts catalogue before report) fault (codes "request") answered is_answer
    (λ n is t known u known_u p known_p. request_fault lines n (parses t known) (subst (λ (f : ReadFault). IsTextFault (IsRequestLine lines) f before after 16777216 Failed) is stopped u known_u) refl refl)

pub answered_err : (catalogue request report : Device) (fault : ReadFault) (which : List ℕ) (answered : Result Response RunFault) → AnswersFault fault which answered → StopsReading fault catalogue request → report.after ≡ report.before → IfErr answered (λ e. StopsBeforeCheck e catalogue request report)
answered_err catalogue request report (read.Fault n) which answered h stops same = if_err answered (λ e is. subst (λ (x : RunFault). StopsBeforeCheck x catalogue request report) (sym is) tt) h.1
answered_err catalogue request report read.Reader which answered h stops same = rw h (inl (stops, same))
answered_err catalogue request report read.TooLong which answered h stops same = rw h (inl (stops, same))
answered_err catalogue request report read.Memory which answered h stops same = rw h tt
answered_err catalogue request report read.Ids which answered h stops same = absurd (never_ids catalogue request stops)

pub verdict_checks : (c r p : Option (List ℕ)) (catalogue request : List Line) (v : Verdict) (answered : Result Response RunFault) → IfKnown c (λ t. IsGrammatical IsCatalogueLine t catalogue) → IfKnown r (λ t. IsGrammatical (IsRequestLine catalogue) t request)
    → IfKnown p (λ t. IsVerdict catalogue request t v) → IfKnown p (λ t. ClaimsTruth catalogue request t v) → IfOk answered (λ a. IsVerdictText v a.checked a.text.items) → IfOk answered (λ a. ChecksTexts c r p a.checked a.text.items)
verdict_checks c r p catalogue request v answered parses_c parses_r verdict claims is_answer = if_ok answered (λ a h x known_x y known_y z known_z. judged catalogue request v (parses_c x known_x) (parses_r y known_y) (verdict z known_z) (claims z known_z) h) is_answer

pub nothing_written : (e : RunFault) (catalogue request report writer : Device) → StopsBeforeCheck e catalogue request report → writer.after ≡ writer.before → StopsCheck e catalogue request report writer
nothing_written Reader catalogue request report writer h same = (h, same)
nothing_written TooLong catalogue request report writer h same = (h, same)
nothing_written Memory catalogue request report writer h same = (h, same)
nothing_written Ids catalogue request report writer h same = absurd h
nothing_written Writer catalogue request report writer h same = absurd h

-- ---- texts after a faulty one

-- a catalogue that was read has no faulty line
pub catalogue_good : (known : Option (List ℕ)) (lines : List Line) (P : Type 0) → IfKnown known (λ t. IsGrammatical IsCatalogueLine t lines) → IfCatalogueFaulty known P
catalogue_good known lines P parses c is n faulty = absurd (catalogue_fault_none c lines n (parses c is) faulty)

-- neither has a request that was read over it
pub request_good : (catalogue request : Option (List ℕ)) (lines asked : List Line) (P : Type 0) → IfKnown catalogue (λ t. IsGrammatical IsCatalogueLine t lines) → IfKnown request (λ t. IsGrammatical (IsRequestLine lines) t asked) → IfRequestFaulty catalogue request P
request_good catalogue request lines asked P parses asks c is_c r is_r others n grammatical faulty =
    let same_lines : others ≡ lines = one_catalogue c others lines grammatical (parses c is_c) in
    absurd (request_fault_none lines r asked n (asks r is_r) (subst (λ (ls : List Line). IsFaultyAt (IsRequestLine ls) r n) same_lines faulty))
