-- The judge's state of the entries and left-out wishes so far.
use Rattle.std.specs.Prelude.{◌≡◌, ℕ, ◌+◌, ◌||◌, Bool, true, false, IsTrue, nat_lt, List, [], ◌∷◌, ◌++◌, Option, Some, None, is_some}
use Rattle.std.specs.BTreeMap.{get}
use Rattle.std.specs.Ordering.{nat_cmp}
use Rattle.std.specs.List.{list_any, list_all}
use Rattle.resolvo_text.specs.Line.{Version, Line, Wish}
use Rattle.resolvo_text.specs.Matches.{is_member}
use Rattle.resolvo_catalogue_core.specs.Grammar.{line_at}
use Rattle.resolvo_report.specs.Value.{AnswerLine, Entry, Wished, LeftOut}
use Rattle.resolvo_judge.specs.Entries.{entries_of, left_out, wish_lines, wishes, answer_fits}
use Rattle.resolvo_judge.specs.Refusal.{leaves_out}
use Rattle.resolvo_judge.specs.Chosen.{Holds}
use Rattle.resolvo_judge.specs.Versions.{HoldsAll}
use Rattle.resolvo_judge.specs.ForbiddenWishes.{ForbiddenWish, HoldsWishes}
use Rattle.resolvo_judge.specs.declared.entries.Entries.{Entries}

-- the left-out wishes of these lines, with i entries before them
abbrev pub forbidden_from : ℕ → List AnswerLine → List ForbiddenWish
forbidden_from i [] = []
forbidden_from i (Entry v place n ∷ lines) = forbidden_from (i + 1) lines
forbidden_from i (Wished v n ∷ lines) = forbidden_from (i + 1) lines
forbidden_from i (LeftOut v n step ∷ lines) = record { wish = v; step = step; above = i } ∷ forbidden_from i lines

-- The line's number is greater than the last one, where there was one.
abbrev pub is_after : Option ℕ → ℕ → Bool
is_after None n = true
is_after (Some m) n = nat_lt m n

-- The state is that after these lines.
pub record KeepsAnswers (e : Entries) (before : List AnswerLine) : Type 0 where
  pub chosen : Holds e.chosen (entries_of before)
  pub out : HoldsAll e.out (left_out before)
  pub rising : (n : ℕ) → list_all (λ m. nat_lt m n) (wish_lines before) ≡ is_after e.last_wish n
  pub forbidden : HoldsWishes e.forbidden (forbidden_from 0 before)

-- The lines of the request whose wishes are left out are kept.
abbrev pub KeepsLines : List Line → Entries → List AnswerLine → Type 0
KeepsLines request e before = (n : ℕ) (v : Version) → wishes (line_at request n) v ≡ true → is_some (get nat_cmp e.lines n) ≡ list_any (leaves_out v n) before

-- ---- one more line

-- The answer is whether the line fits after those before it.
abbrev pub DecidesFit : List Line → List Line → Entries → AnswerLine → Bool → Type 0
DecidesFit catalogue request e line fits = (before : List AnswerLine) → KeepsAnswers e before → fits ≡ answer_fits catalogue request before line

-- A line that fits is added.
abbrev pub AddsAnswer : Entries → AnswerLine → Bool → Entries → Type 0
AddsAnswer e line fits added = (before : List AnswerLine) → KeepsAnswers e before → IsTrue fits → KeepsAnswers added (before ++ line ∷ [])

-- So is its request line, where its wish is left out.
abbrev pub AddsLine : List Line → Entries → AnswerLine → Bool → Entries → Type 0
AddsLine request e line fits added =
    (before : List AnswerLine) → KeepsAnswers e before → KeepsLines request e before → IsTrue fits → KeepsLines request added (before ++ line ∷ [])

-- ---- the wishes

-- The wish in this line, if it is one, is an entry or is left out.
abbrev pub IsAnswered : List Line → List AnswerLine → ℕ → Type 0
IsAnswered request answers n = (v : Version) → line_at request n ≡ Some (Wish v) → IsTrue (is_member v (entries_of answers) || list_any (leaves_out v n) answers)

-- The answer is whether it is.
abbrev pub IsWishAnswered : List Line → List AnswerLine → ℕ → Bool → Type 0
IsWishAnswered request answers n true = IsAnswered request answers n
IsWishAnswered request answers n false = IsAnswered request answers n → ⊥

-- The answer is whether each wish is.
abbrev pub AreWishesAnswered : List Line → List AnswerLine → Bool → Type 0
AreWishesAnswered request answers true = (n : ℕ) → IsAnswered request answers n
AreWishesAnswered request answers false = ((n : ℕ) → IsAnswered request answers n) → ⊥
