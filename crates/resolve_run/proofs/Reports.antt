-- A report is an answer of the lines, and so of the texts.
use Rattle.std.proofs.Common.{◌≡◌, ℕ, List, Option, Result, Ok, Err, refl, sym, subst, inl, inr}
use Rattle.std.specs.Prelude.{IfOk, IfErr, IsSome, codes}
use Rattle.resolvo_text.specs.Line.{Line}
use Rattle.resolvo_text.specs.Device.{IfKnown}
use Rattle.resolvo_text.specs.Texts.{IsGrammatical}
use Rattle.resolvo_catalogue_core.specs.Grammar.{AreRequestLines, IsCatalogueLine, IsRequestLine}
use Rattle.resolve_check.specs.declared.outcome.Outcome.{Outcome}
use Rattle.resolve_check.specs.declared.outcome.Outcome.TheVariants.{Faulty}
use Rattle.resolve_check.specs.Texts.{fault_text}
use Rattle.resolve_run.specs.Headline.{catalogue_fault, request_fault, grammatical}
use Rattle.resolve_run.specs.Answer.{IsAnswerOfLines}
use Rattle.resolvo_text.specs.Texts.{IsTextFault}
use Rattle.resolvo_text.specs.declared.lines.ReadFault.{ReadFault}
use Rattle.resolvo_text.specs.declared.lines.ReadFault.TheVariants as read
use Rattle.resolve_check.specs.declared.read_fault.Written.{Written}
use Rattle.resolve_check.specs.declared.outcome.RunFault.{RunFault}
use Rattle.resolve_check.specs.declared.outcome.RunFault.TheVariants.{Reader, TooLong, Memory, Ids, Writer}
use Rattle.resolve_check.specs.Devices.{Device, StopsReading}
use Rattle.resolve_check.specs.Faults.{WritesFault}
use Rattle.resolve_check.proofs.Results.{if_ok, if_err, never_ids}
use Rattle.resolve_run.specs.Run.{AnswersTexts, AreRead, IsLack, StopsBefore, StopsRun}
use Rattle.resolve_run.specs.Whole.{whole, IsAlone}
use Rattle.resolve_run.specs.declared.text.RunText.{RunText}
use Rattle.resolve_answer.specs.Reported.{HaveLongReport}
use Rattle.resolve_answer.specs.Stops.{IsStopOf}
use Rattle.resolve_answer.specs.Wishes.{AreWishesAt}
use Rattle.resolve_answer.specs.declared.stop.Stop.{Stop}
use Rattle.resolve_answer.specs.declared.stop.Stop.TheVariants as stop
use Rattle.resolvo_pool_core.specs.declared.want.Want.TheVariants as want
use Rattle.resolvo_catalogue_core.specs.Questions.{ReadRequest}
use Rattle.resolve_run.specs.Within.{within, stop_of, IsLackWithin, StopsBeforeWithin, StopsWithin}
use Rattle.resolve_run.specs.declared.stop.RunStop.{RunStop}
use Rattle.resolve_run.specs.declared.stop.RunStop.TheVariants.{Fault, GivenUp}

pub of_texts : (c r : Option (List ℕ)) (catalogue request : List Line) (outcome : Outcome) (output : List ℕ) → IfKnown c (λ t. IsGrammatical IsCatalogueLine t catalogue) → IfKnown r (λ t. IsGrammatical (IsRequestLine catalogue) t request)
    → IsAnswerOfLines catalogue request outcome output → AnswersTexts c r outcome output
of_texts c r catalogue request outcome output parses_c parses_r answer = λ t is_c u is_r. grammatical catalogue request (parses_c t is_c) (parses_r u is_r) answer

-- ---- a text that was not read

answered_ok : (P : Outcome → List ℕ → Type 0) (fault : ReadFault) (which : List ℕ) (answered : Result Written RunFault) → WritesFault fault which answered → ((n : ℕ) → fault ≡ read.Fault n → P Faulty (fault_text which n))
    → IfOk answered (λ a. P a.outcome a.text.items)
answered_ok P (read.Fault n) which answered h f = if_ok answered (λ a is. subst (λ (o : Outcome). P o a.text.items) (sym is.0) (subst (λ (t : List ℕ). P Faulty t) (sym is.1) (f n refl))) h.0
answered_ok P read.Reader which answered h f = rw h tt
answered_ok P read.TooLong which answered h f = rw h tt
answered_ok P read.Memory which answered h f = rw h tt
answered_ok P read.Ids which answered h f = rw h tt

pub catalogue_answer : (before after request : Option (List ℕ)) (Failed : Type 0) (fault : ReadFault) (answered : Result Written RunFault) → IsTextFault IsCatalogueLine fault before after 16777216 Failed → WritesFault fault (codes "catalogue") answered
    → IfOk answered (λ a. AnswersTexts before request a.outcome a.text.items)
catalogue_answer before after request Failed fault answered stopped is_answer = answered_ok (AnswersTexts before request) fault (codes "catalogue") answered is_answer
    (λ n is t known u known_u. catalogue_fault n (subst (λ (f : ReadFault). IsTextFault IsCatalogueLine f before after 16777216 Failed) is stopped t known) refl refl)

pub request_answer : (catalogue before after : Option (List ℕ)) (lines : List Line) (Failed : Type 0) (fault : ReadFault) (answered : Result Written RunFault) → IfKnown catalogue (λ t. IsGrammatical IsCatalogueLine t lines)
    → IsTextFault (IsRequestLine lines) fault before after 16777216 Failed → WritesFault fault (codes "request") answered → IfOk answered (λ a. AnswersTexts catalogue before a.outcome a.text.items)
request_answer catalogue before after lines Failed fault answered parses stopped is_answer = answered_ok (AnswersTexts catalogue before) fault (codes "request") answered is_answer
    (λ n is t known u known_u. request_fault lines n (parses t known) (subst (λ (f : ReadFault). IsTextFault (IsRequestLine lines) f before after 16777216 Failed) is stopped u known_u) refl refl)

pub answered_err : (catalogue request : Device) (fault : ReadFault) (which : List ℕ) (answered : Result Written RunFault) → WritesFault fault which answered → StopsReading fault catalogue request → IfErr answered (λ e. StopsBefore e catalogue request)
answered_err catalogue request (read.Fault n) which answered h stops = if_err answered (λ e is. subst (λ (x : RunFault). StopsBefore x catalogue request) (sym is) tt) h.1
answered_err catalogue request read.Reader which answered h stops = rw h stops
answered_err catalogue request read.TooLong which answered h stops = rw h (inl stops)
answered_err catalogue request read.Memory which answered h stops = rw h tt
answered_err catalogue request read.Ids which answered h stops = absurd (never_ids catalogue request stops)

-- ---- the run

pub nothing_written : (e : RunFault) (catalogue request writer : Device) → StopsBefore e catalogue request → writer.after ≡ writer.before → StopsRun e catalogue request writer
nothing_written Reader catalogue request writer h same = (h, same)
nothing_written TooLong catalogue request writer h same = (h, same)
nothing_written Memory catalogue request writer h same = (h, same)
nothing_written Ids catalogue request writer h same = (h, same)
nothing_written Writer catalogue request writer h same = absurd h

-- ---- texts that were read

-- texts without an answer stopped the run so
pub lacked : (e : RunFault) (catalogue request : Device) (are : AreRead catalogue request) → IsLack e are.catalogue_lines are.request_lines → StopsBefore e catalogue request
lacked Reader catalogue request are lack = absurd lack
lacked TooLong catalogue request are lack = inr (are, lack)
lacked Memory catalogue request are lack = tt
lacked Ids catalogue request are lack = are
lacked Writer catalogue request are lack = absurd lack

-- ---- where there may be a budget

pub stopped_within : (budget : Option ℕ) (s : Stop) (catalogue : List Line) (source : ReadRequest) → IsStopOf (IsSome budget) (AreRequestLines catalogue source.lines → AreWishesAt catalogue source → HaveLongReport catalogue source.lines) s
    → AreRequestLines catalogue source.lines → AreWishesAt catalogue source → IsLackWithin budget (stop_of s) catalogue source.lines
stopped_within budget (stop.Lacks want.Memory) catalogue source h asks wishes = tt
stopped_within budget (stop.Lacks want.Ids) catalogue source h asks wishes = tt
stopped_within budget stop.GivenUp catalogue source h asks wishes = h
stopped_within budget stop.TooLong catalogue source h asks wishes = h asks wishes

pub lacked_within : (budget : Option ℕ) (s : RunStop) (catalogue request : Device) (are : AreRead catalogue request) → IsLackWithin budget s are.catalogue_lines are.request_lines → StopsBeforeWithin budget s catalogue request
lacked_within budget (Fault e) catalogue request are lack = lacked e catalogue request are lack
lacked_within budget GivenUp catalogue request are some = (some, are)

pub nothing_written_within : (budget : Option ℕ) (s : RunStop) (catalogue request writer : Device) → StopsBeforeWithin budget s catalogue request → writer.after ≡ writer.before → StopsWithin budget s catalogue request writer
nothing_written_within budget (Fault e) catalogue request writer h same = nothing_written e catalogue request writer h same
nothing_written_within budget GivenUp catalogue request writer (some, are) same = (some, are, same)

pub within_ok : (P : RunText → Type 0) (r : Result RunText RunFault) (s : Result RunText RunStop) → s ≡ within r → IfOk r P → IfOk s P
within_ok P (Ok t) s is h = subst (λ (x : Result RunText RunStop). IfOk x P) (sym is) h
within_ok P (Err e) s is h = subst (λ (x : Result RunText RunStop). IfOk x P) (sym is) tt

pub within_err : (P : RunFault → Type 0) (Q : RunStop → Type 0) (r : Result RunText RunFault) (s : Result RunText RunStop) → s ≡ within r → ((e : RunFault) → P e → Q (Fault e)) → IfErr r P → IfErr s Q
within_err P Q (Ok t) s is f h = subst (λ (x : Result RunText RunStop). IfErr x Q) (sym is) tt
within_err P Q (Err e) s is f h = subst (λ (x : Result RunText RunStop). IfErr x Q) (sym is) (f e h)

-- ---- the text where a text was not read

pub alone_ok : (P : Outcome → List ℕ → Type 0) (r : Result Written RunFault) (s : Result RunText RunStop) → IsAlone r s → IfOk r (λ w. P w.outcome w.text.items) → IfOk s (λ t. P t.outcome (whole t))
alone_ok P (Ok w) (Ok t) is h = subst (λ (o : Outcome). P o (whole t)) (sym is.0) (subst (λ (text : List ℕ). P w.outcome text) (sym is.1) h)
alone_ok P (Ok w) (Err s) is h = absurd is
alone_ok P (Err e) (Ok t) is h = absurd is
alone_ok P (Err e) (Err s) is h = tt

pub alone_err : (P : RunFault → Type 0) (Q : RunStop → Type 0) (r : Result Written RunFault) (s : Result RunText RunStop) → IsAlone r s → ((e : RunFault) → P e → Q (Fault e)) → IfErr r P → IfErr s Q
alone_err P Q (Ok w) (Ok t) is f h = tt
alone_err P Q (Ok w) (Err s) is f h = absurd is
alone_err P Q (Err e) (Ok t) is f h = absurd is
alone_err P Q (Err e) (Err s) is f h = subst (λ (x : RunStop). Q x) (sym is) (f e h)
