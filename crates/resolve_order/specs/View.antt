-- Answers and turns, without the numbers of versions.
use Rattle.std.specs.Prelude.{◌≡◌, ◌<◌, ℕ, List, [], ◌∷◌, ◌++◌, map, length, ⊤, Option, Some, None, Contains, slice_get}
use Rattle.std.specs.Option.{option_map}
use Rattle.resolvo_text.specs.Line.{Version, Line}
use Rattle.resolvo_text.specs.Matches.{Set}
use Rattle.resolvo_catalogue_core.specs.Answers as answers
use Rattle.resolvo_catalogue_core.specs.Listed.{listed, members}
use Rattle.resolvo_catalogue_core.specs.Sets.{IsSingle}
use Rattle.resolvo_catalogue_core.specs.Questions.{WishesAt}
use Rattle.resolvo_catalogue_core.specs.Kept.{nth}
use Rattle.resolvo_catalogue_core.specs.declared.rule.VersionNo.{VersionNo}
use Rattle.resolve_order.specs.Order as order
use Rattle.resolve_order.specs.declared.entry.Reason.{Reason}
use Rattle.resolve_order.specs.declared.entry.Reason.TheVariants as reason
use Rattle.resolve_order.specs.declared.entry.Answer.{Answer}
use Rattle.resolve_order.specs.declared.entry.Answer.TheVariants as answer
use Rattle.resolve_order.specs.declared.entry.Turn.{Turn}
use Rattle.resolve_order.specs.declared.entry.Turn.TheVariants as turn

abbrev pub reason_of : List Version → Reason → answers.Reason
reason_of versions (reason.ForRequest line) = answers.ForRequest line
reason_of versions (reason.ForVersion version line) = answers.ForVersion (nth versions version) line
reason_of versions (reason.Wished line) = answers.Wished line

abbrev pub answer_of : List Version → Answer → answers.Answer
answer_of versions (answer.Entry e) = answers.Entry (nth versions e.version) (reason_of versions e.reason)
answer_of versions (answer.LeftOut version line step) = answers.LeftOut (nth versions version) line step

abbrev pub answers_of : List Version → List Answer → List answers.Answer
answers_of versions list = map (answer_of versions) list

-- a wish with its version instead of the number
abbrev pub wish_at : List Version → ℕ × VersionNo → ℕ × Version
wish_at versions w = (w.0, nth versions w.1)

abbrev pub turn_of : List Version → Turn → order.Turn
turn_of versions (turn.Chose wish chosen) = order.Chose (option_map (wish_at versions) wish) (members versions chosen.now)
turn_of versions (turn.LeftOut wish step) = order.LeavesOut (wish_at versions wish) step

abbrev pub turns_of : List Version → List Turn → List order.Turn
turns_of versions turns = map (turn_of versions) turns

-- The line of the request wishes the version, and it is chosen.
abbrev pub IsAccepted : List Version → List Line → Set → Option (ℕ × VersionNo) → Type 0
IsAccepted versions request chosen None = ⊤
IsAccepted versions request chosen (Some w) = WishesAt versions request w × Contains chosen (nth versions w.1)

-- An accepted wish is among the choices by the turn's end, and one that is left out is a wish.
abbrev pub IsWishOf : List Version → List Line → Set → Turn → Type 0
IsWishOf versions request chosen (turn.Chose wish more) = IsAccepted versions request chosen wish
IsWishOf versions request chosen (turn.LeftOut wish step) = WishesAt versions request wish

abbrev pub AreWishesOf : List Version → List Line → Set → List Turn → Type 0
AreWishesOf versions request chosen [] = ⊤
AreWishesOf versions request chosen (t ∷ turns) = IsWishOf versions request (chosen ++ order.chosen_by (turn_of versions t)) t
    × AreWishesOf versions request (chosen ++ order.chosen_by (turn_of versions t)) turns

-- the number of the version that an answer is about
abbrev pub number_of : Answer → ℕ
number_of (answer.Entry e) = e.version.0
number_of (answer.LeftOut version line step) = version.0

-- The answers' numbers are those of listed versions.
abbrev pub AreNumbered : List Version → List Answer → Type 0
AreNumbered versions list = (i : ℕ) (a : Answer) → slice_get list i ≡ Some a → number_of a < length versions

-- At most one version of a package that isn't marked `many` is chosen, and the wishes are those of the request.
pub record AreTurnsOf (catalogue request : List Line) (turns : List Turn) : Type 0 where
  pub single : IsSingle catalogue (order.chosen_in (turns_of (listed catalogue) turns))
  pub wishes : AreWishesOf (listed catalogue) request [] turns
