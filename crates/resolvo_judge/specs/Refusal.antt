-- Where a report is refused: at the first line that doesn't pass after the lines above it, or past the last line.
use Rattle.std.specs.Prelude.{◌≡◌, ℕ, zero, suc, Bool, true, false, ◌&&◌, ◌||◌, ◌==◌, if◌then◌else◌, IsTrue, List, [], ◌∷◌, ◌++◌, map, take, Option, Some, None, slice_get}
use Rattle.std.specs.List.{list_any, flat_map}
use Rattle.std.specs.Option.{option_map_or, option_and_then}
use Rattle.resolvo_text.specs.Line.{Version, Line, Wish}
use Rattle.resolvo_text.specs.Matches.{Set, same_version, is_member}
use Rattle.resolvo_catalogue_core.specs.Grammar.{line_at}
use Rattle.resolvo_catalogue_core.specs.Rules.{keeps, keeps_in_request}
use Rattle.resolvo_catalogue_core.specs.Questions.{is_rule}
use Rattle.resolvo_catalogue_core.specs.Answers as answer
use Rattle.resolvo_catalogue_core.specs.Answers.{Answer}
use Rattle.resolvo_report.specs.Value.{AnswerLine, Entry, Wished, LeftOut, OfRequest, OfVersion, ReportLine, InstallHead, RefusedHead, CatalogueLine, RequestLine, Numbered, Message, Step}
use Rattle.resolvo_report.specs.Value as line
use Rattle.resolvo_checker.specs.StepClauses.{clause_of}
use Rattle.resolvo_judge.specs.Entries.{entries_of, answer_fits}
use Rattle.resolvo_checker.specs.Proof.{is_valid_step, is_named, ends_empty, forbids}

-- ---- the contents of lines

-- the claim of an entry or a `left out` line
abbrev pub answer_of : AnswerLine → Answer
answer_of (Entry v OfRequest n) = answer.Entry v (answer.ForRequest n)
answer_of (Entry v (OfVersion w) n) = answer.Entry v (answer.ForVersion w n)
answer_of (Wished v n) = answer.Entry v (answer.Wished n)
answer_of (LeftOut v n step) = answer.LeftOut v n step

abbrev pub answer_in : ReportLine → List AnswerLine
answer_in (line.Answer a) = a ∷ []
answer_in l = []

abbrev pub step_in : ReportLine → List Step
step_in (Numbered n s) = s ∷ []
step_in l = []

abbrev pub catalogue_line_in : ReportLine → List ℕ
catalogue_line_in (CatalogueLine n) = n ∷ []
catalogue_line_in l = []

abbrev pub request_line_in : ReportLine → List ℕ
request_line_in (RequestLine n) = n ∷ []
request_line_in l = []

-- the entries and left-out wishes, the steps, and the named lines
abbrev pub answers_in : List ReportLine → List AnswerLine
answers_in lines = flat_map answer_in lines

abbrev pub steps_in : List ReportLine → List Step
steps_in lines = flat_map step_in lines

abbrev pub catalogue_lines_in : List ReportLine → List ℕ
catalogue_lines_in lines = flat_map catalogue_line_in lines

abbrev pub request_lines_in : List ReportLine → List ℕ
request_lines_in lines = flat_map request_line_in lines

-- the claims of the entries and `left out` lines
abbrev pub answers_claimed : List ReportLine → List Answer
answers_claimed lines = map answer_of (answers_in lines)

-- The report is a refusal.
abbrev pub is_refusal : List ReportLine → Bool
is_refusal (RefusedHead ∷ lines) = true
is_refusal lines = false

-- Steps of a refusal may name the lines that it names, those of an install report all lines.
abbrev pub may_rest : List ReportLine → List ℕ → ℕ → Bool
may_rest above lines n = if is_refusal above then is_named lines n else true

-- ---- lines

abbrev pub has_rule : Option Line → Bool
has_rule None = false
has_rule (Some l) = is_rule l

-- The line passes after the lines above it.
abbrev pub passes : List Line → List Line → List ReportLine → ReportLine → Bool
passes catalogue request above InstallHead = true
passes catalogue request above RefusedHead = true
passes catalogue request above (line.Answer a) = answer_fits catalogue request (answers_in above) a
passes catalogue request above (CatalogueLine n) = has_rule (line_at catalogue n)
passes catalogue request above (RequestLine n) = has_rule (line_at request n)
passes catalogue request above (Numbered n s) = is_valid_step catalogue request (may_rest above (catalogue_lines_in above)) (may_rest above (request_lines_in above)) (steps_in above) s
passes catalogue request above (Message bytes) = true

-- ---- the end

-- Step k, from 1, is there, and its clause has no literal but `not` of the wish or of an entry.
abbrev pub step_forbids : List Line → List Line → List Step → Set → Version → ℕ → Bool
step_forbids catalogue request steps entries wish zero = false
step_forbids catalogue request steps entries wish (suc k) = option_map_or (forbids entries wish) (option_and_then (clause_of catalogue request) (slice_get steps k)) false

-- The wish in this line of the request is left out.
abbrev pub leaves_out : Version → ℕ → AnswerLine → Bool
leaves_out v n (LeftOut w m step) = same_version w v && m == n
leaves_out v n l = false

-- The entries obey each line, each wish is an entry or left out, and the step of each left-out wish
-- forbids it with the entries above its line.
pub record InstallEnds (catalogue request : List Line) (answers : List AnswerLine) (steps : List Step) : Type 0 where
  pub catalogue_lines : (n : ℕ) → IsTrue (keeps catalogue n (entries_of answers))
  pub request_lines : (n : ℕ) → IsTrue (keeps_in_request request n (entries_of answers))
  pub wishes : (n : ℕ) (v : Version) → line_at request n ≡ Some (Wish v) → IsTrue (is_member v (entries_of answers) || list_any (leaves_out v n) answers)
  pub forbidden : (above below : List AnswerLine) (v : Version) (n k : ℕ) → answers ≡ above ++ LeftOut v n k ∷ below → IsTrue (step_forbids catalogue request steps (entries_of above) v k)

-- What the report's end asks of its lines.
abbrev pub Ends : List Line → List Line → List ReportLine → Type 0
Ends catalogue request (RefusedHead ∷ lines) = IsTrue (ends_empty (steps_in lines))
Ends catalogue request lines = InstallEnds catalogue request (answers_in lines) (steps_in lines)

-- Each line passes after those above it.
abbrev pub ArePassed : List Line → List Line → List ReportLine → Type 0
ArePassed catalogue request lines = (n : ℕ) (l : ReportLine) → slice_get lines n ≡ Some l → passes catalogue request (take n lines) l ≡ true

-- All lines pass, and the end does.
pub record IsAccepted (catalogue request : List Line) (lines : List ReportLine) : Type 0 where
  pub passed : ArePassed catalogue request lines
  pub ends : Ends catalogue request lines
