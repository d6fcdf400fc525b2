-- The report of the solver's answer.
use Rattle.std.specs.Prelude.{◌≡◌, ◌↔◌, ◌⊎◌, ℕ, suc, ◌<◌, List, [], ◌∷◌, map, length, take, slice_get, Option, None, Some, Contains}
use Rattle.resolvo_text.specs.Line.{Version, Line, Wish}
use Rattle.resolvo_text.specs.Matches.{Set}
use Rattle.resolvo_catalogue_core.specs.Answers.{Answer, LeftOut, entries_of}
use Rattle.resolvo_catalogue_core.specs.Grammar.{line_at}
use Rattle.resolvo_catalogue_core.specs.Questions.{AreAll, Forbids, LineIs, IsWish}
use Rattle.resolvo_catalogue_core.specs.Sets.{IsRuleKeeping}
use Rattle.resolve_order.specs.Order.{Turn, Chose, LeavesOut, AreTurns, AreReached, chosen_in, wishes_in}
use Rattle.resolvo_report.specs.Value.{Literal, Step, Derive, Report, Install, Refused}
use Rattle.resolvo_report.specs.Text.{report_text}
use Rattle.resolvo_report.specs.Grammar.{most_bytes}
use Rattle.resolvo_judge.specs.Judgement.{IsUpheld, IsClaimTrue}
use Rattle.resolvo_judge.specs.Refusal.{answer_of}
use Rattle.resolve_refusal.specs.Named.{AreUsedLines}
use Rattle.resolve_refusal.specs.Refusal.{NamesFirstLine}
use Rattle.resolve_refusal.specs.InstallSteps.{IsForbiddenBefore}
use Rattle.resolve_answer.specs.Message.{IsMessageOf}
use Rattle.resolve_answer.specs.First.{AreFirstChosen}

-- the wish of a turn: the accepted one, or the one that it leaves out
abbrev pub wish_of : Turn → Option (ℕ × Version)
wish_of (Chose wish chosen) = wish
wish_of (LeavesOut wish step) = Some wish

-- The turns are those of the request's wishes, one each, in the order of their lines.
pub record AreWishTurns (request : List Line) (turns : List Turn) : Type 0 where
  pub wishes : List (ℕ × Version)
  pub each : map wish_of turns ≡ map Some wishes
  pub lines : AreAll (map (λ w. w.0) wishes) (λ n. LineIs request n IsWish)
  pub versions : (w : ℕ × Version) → Contains wishes w → line_at request w.0 ≡ Some (Wish w.1)

-- By the end of each turn the chosen versions keep the rules, and are reached from the lines and
-- the wishes accepted by then.
pub record AreKept (catalogue request : List Line) (turns : List Turn) : Type 0 where
  pub keeping : (k : ℕ) → k < length turns → IsRuleKeeping catalogue request (chosen_in (take (suc k) turns))
  pub reached : (k : ℕ) → k < length turns → AreReached catalogue request (chosen_in (take (suc k) turns)) (wishes_in (take (suc k) turns))

-- The report lists the turns of a search, in their order: one of the needs, then those of the
-- wishes. The versions chosen by the end of each are a rule-keeping set. Those of the first turn
-- are first choices; those of all turns are the entries.
pub record AreListed (catalogue request : List Line) (answers : List Answer) : Type 0 where
  pub chosen : Set
  pub later : List Turn
  pub wished : AreWishTurns request later
  pub kept : AreKept catalogue request (Chose None chosen ∷ later)
  pub order : AreTurns catalogue request [] [] (Chose None chosen ∷ later) answers
  pub all : (v : Version) → Contains (chosen_in (Chose None chosen ∷ later)) v ↔ Contains (entries_of answers) v
  pub first : AreFirstChosen catalogue request chosen

-- A later step names the one at this place.
abbrev pub IsNamedLater : List Step → ℕ → Type 0
IsNamedLater steps k = (later : ℕ) × (literals : List Literal) × (causes : List ℕ) × (k < later) × (slice_get steps later ≡ Some (Derive literals causes)) × Contains causes (suc k)

-- A later step names each but the last.
abbrev pub AreNamed : List Step → Type 0
AreNamed steps = (k : ℕ) → suc k < length steps → IsNamedLater steps k

-- A wish is left out by the step of this number.
abbrev pub LeavesOutBy : List Answer → ℕ → Type 0
LeavesOutBy answers number = (v : Version) × (line : ℕ) × Contains answers (LeftOut v line number)

-- Each step is one by which a wish is left out, or a later step names it.
abbrev pub AreUsed : List Answer → List Step → Type 0
AreUsed answers steps = (k : ℕ) → k < length steps → LeavesOutBy answers (suc k) ⊎ IsNamedLater steps k

-- Each step names the first line of its rule, a need the first of its cases too.
abbrev pub NameFirstLines : List Line → List Line → List Step → Type 0
NameFirstLines catalogue request steps = (k : ℕ) (s : Step) → slice_get steps k ≡ Some s → NamesFirstLine catalogue request s

-- A wish that a lock or an exclusion forbids is left out by the step of this number. It is that of
-- the lock, else that of the exclusion.
abbrev pub LeavesOutForbidden : List Line → List Answer → ℕ → Step → Type 0
LeavesOutForbidden catalogue answers number s = (v : Version) × (line : ℕ) × Contains answers (LeftOut v line number) × IsForbiddenBefore catalogue v s

-- Which lines the steps of an install report name, and which steps leave forbidden wishes out.
pub record NameRules (catalogue request : List Line) (answers : List Answer) (steps : List Step) : Type 0 where
  -- each step names the first line of its rule, or a forbidden wish is left out by it
  pub first : (k : ℕ) (s : Step) → slice_get steps k ≡ Some s → NamesFirstLine catalogue request s ⊎ LeavesOutForbidden catalogue answers (suc k) s
  -- a wish that a lock or an exclusion forbids is left out by such a step
  pub forbidden : (v : Version) (line number : ℕ) → Contains answers (LeftOut v line number) → (m : ℕ) → Forbids catalogue v m → (k : ℕ) × (s : Step) × (number ≡ suc k) × (slice_get steps k ≡ Some s) × IsForbiddenBefore catalogue v s

-- An install report lists the turns of a search. Each of its steps is used, and names the first
-- line of its rule. A refused report names exactly the lines on which its steps rest. Each step
-- leads to the last and names the first line of its rule, and the message is that of their
-- conflict.
abbrev pub IsAnswer : List Line → List Line → Report → Type 0
IsAnswer catalogue request (Install lines steps) = AreListed catalogue request (map answer_of lines) × AreUsed (map answer_of lines) steps
    × NameRules catalogue request (map answer_of lines) steps
IsAnswer catalogue request (Refused catalogue_lines request_lines steps message) = AreUsedLines catalogue request catalogue_lines request_lines steps
    × AreNamed steps × NameFirstLines catalogue request steps × IsMessageOf catalogue request steps message

-- The judge accepts the report by its text, and its claim is true. So it installs exactly if some
-- set keeps the rules of both texts.
pub record IsReportOf (catalogue request : List Line) (r : Report) : Type 0 where
  pub upheld : IsUpheld catalogue request (report_text r) r
  pub claim : IsClaimTrue catalogue request r
  pub answer : IsAnswer catalogue request r

-- The report of these lines has more bytes than a report may have.
abbrev pub HaveLongReport : List Line → List Line → Type 0
HaveLongReport catalogue request = (report : Report) × IsReportOf catalogue request report × (most_bytes < length (report_text report))
