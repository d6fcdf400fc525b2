-- The install report of the turns of a search, and its text.
use Rattle.std.specs.Prelude.{◌≡◌, ◌↔◌, ◌<◌, ℕ, suc, IsTrue, List, [], ◌∷◌, Option, None, Some, Contains, map, length, take, slice_get}
use Rattle.std.specs.List.{AllByRecursion}
use Rattle.resolvo_text.specs.Line.{Version, Line}
use Rattle.resolvo_text.specs.Matches.{Set}
use Rattle.resolvo_text.specs.Spelling.{IsNumber}
use Rattle.resolvo_catalogue_core.specs.Answers.{entries_of}
use Rattle.resolvo_catalogue_core.specs.Listed.{listed}
use Rattle.resolvo_catalogue_core.specs.Questions.{AreAll, LineIs, IsWish, WishesAt}
use Rattle.resolvo_catalogue_core.specs.Sets.{IsRuleKeeping}
use Rattle.resolvo_catalogue_core.specs.Kept.{nth}
use Rattle.resolvo_catalogue_core.specs.declared.rule.VersionNo.{VersionNo}
use Rattle.resolve_order.specs.Order.{AreTurns, AreReached, chosen_in, wishes_in}
use Rattle.resolve_order.specs.View.{turns_of}
use Rattle.resolve_order.specs.declared.entry.Turn.{Turn}
use Rattle.resolve_order.specs.declared.entry.Turn.TheVariants.{Chose, LeftOut}
use Rattle.resolvo_report.specs.Value.{AnswerLine, Step, Report, Install}
use Rattle.resolvo_report.specs.Value as value
use Rattle.resolvo_report.specs.Text.{report_lines, report_text, IsStep}
use Rattle.resolvo_report.specs.Grammar.{IsReport}
use Rattle.resolvo_checker.specs.Proof.{every_line, IsProof}
use Rattle.resolvo_judge.specs.Judgement.{IsClaimTrue}
use Rattle.resolvo_judge.specs.Refusal.{answer_of, step_forbids, IsAccepted}

-- ---- wishes

-- the wish of a turn, accepted or left out
abbrev pub wish_of : Turn → Option (ℕ × VersionNo)
wish_of (Chose wish chosen) = wish
wish_of (LeftOut wish step) = Some wish

-- its accepted wish
abbrev pub accepted_of : Turn → Option (ℕ × VersionNo)
accepted_of (Chose wish chosen) = wish
accepted_of (LeftOut wish step) = None

-- The wishes are those of the request, by their lines, each once.
pub record AreWishes (catalogue request : List Line) (wishes : List (ℕ × VersionNo)) : Type 0 where
  pub lines : AreAll (map (λ f. f.0) wishes) (λ n. LineIs request n IsWish)
  pub versions : (i : ℕ) (f : ℕ × VersionNo) → slice_get wishes i ≡ Some f → WishesAt (listed catalogue) request f

-- ---- the chosen versions

-- the choices of the first k turns
abbrev pub chosen_before : List Line → List Turn → ℕ → Set
chosen_before catalogue turns k = chosen_in (turns_of (listed catalogue) (take k turns))

-- the choices of all turns
abbrev pub all_chosen : List Line → List Turn → Set
all_chosen catalogue turns = chosen_in (turns_of (listed catalogue) turns)

-- The turns serve the request, and the steps forbid the wishes that they leave out.
pub record Serve (catalogue request : List Line) (turns : List Turn) (steps : List Step) : Type 0 where
  -- all chosen versions together keep the rules of both texts
  pub keeping : IsRuleKeeping catalogue request (all_chosen catalogue turns)
  -- the first turn serves the needs, and the others the wishes, one each in their order
  pub wishes : List (ℕ × VersionNo)
  pub are_wishes : AreWishes catalogue request wishes
  pub in_turn : map wish_of turns ≡ None ∷ map Some wishes
  -- an accepted wish is among the choices by the end of its turn
  pub accepted : (k : ℕ) (t : Turn) (wish : ℕ × VersionNo) → slice_get turns k ≡ Some t → accepted_of t ≡ Some wish → Contains (chosen_before catalogue turns (suc k)) (nth (listed catalogue) wish.1)
  -- the choices of the first turns are reached from the request and their accepted wishes
  pub reached : (k : ℕ) → k < length turns → AreReached catalogue request (chosen_before catalogue turns (suc k)) (wishes_in (turns_of (listed catalogue) (take (suc k) turns)))
  -- the step of a wish that is left out forbids it, with the choices of the turns before it; so it
  -- isn't chosen
  pub forbidden : (k : ℕ) (wish : ℕ × VersionNo) (step : ℕ) → slice_get turns k ≡ Some (LeftOut wish step) → IsTrue (step_forbids catalogue request steps (chosen_before catalogue turns k) (nth (listed catalogue) wish.1) step)
  -- each step is allowed after those before it, in a report that may rest on each line
  pub proof : IsProof catalogue request every_line every_line steps
  -- each step has a text, and so has its number
  pub texts : AllByRecursion IsStep steps
  pub numbers : IsNumber (length steps)

-- ---- reports

-- the line that an entry or a `left out` line names
abbrev pub line_of : AnswerLine → ℕ
line_of (value.Entry v place n) = n
line_of (value.Wished v n) = n
line_of (value.LeftOut v n step) = n

-- The report lists the choices of the turns, each version with the line that asked for it, and the
-- wishes that they leave out. The judge accepts it.
pub record IsInstallOf (catalogue request : List Line) (turns : List Turn) (steps : List Step) (r : Report) : Type 0 where
  -- it is an install report with these steps
  pub lines : List AnswerLine
  pub installs : r ≡ Install lines steps
  pub report : IsReport r
  -- the judge accepts it, so its claim is true
  pub accepted : IsAccepted catalogue request (report_lines r)
  pub claim : IsClaimTrue catalogue request r
  -- its lines are in listing order, and its entries are the chosen versions
  pub order : AreTurns catalogue request [] [] (turns_of (listed catalogue) turns) (map answer_of lines)
  pub entries : (v : Version) → Contains (all_chosen catalogue turns) v ↔ Contains (entries_of (map answer_of lines)) v

-- The text is that of an install report with these steps. Where the turns serve the request, the
-- report is one of them.
abbrev pub IsInstallText : List Line → List Line → List Turn → List Step → List ℕ → Type 0
IsInstallText catalogue request turns steps text = (lines : List AnswerLine) × (text ≡ report_text (Install lines steps))
    × (Serve catalogue request turns steps → IsInstallOf catalogue request turns steps (Install lines steps))
