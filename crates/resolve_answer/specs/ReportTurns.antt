-- How the turns of a search become those of a report.
use Rattle.std.specs.Prelude.{◌≡◌, ℕ, suc, ◌-◌, ◌<◌, ◌≤◌, true, false, take, drop, List, [], ◌∷◌, ◌++◌, length, MatchOption, Option, Some, None, Contains, slice_get}
use Rattle.resolvo_catalogue_core.specs.declared.rule.VersionNo.{VersionNo}
use Rattle.resolve_order.specs.declared.entry.Turn.{Turn}
use Rattle.resolve_order.specs.declared.entry.Turn.TheVariants.{Chose, LeftOut}
use Rattle.resolvo_catalogue.specs.Ids.{SolvableId}
use Rattle.resolvo_report.specs.Value.{Step}
use Rattle.resolvo_report.specs.View.{step_of}
use Rattle.resolvo.specs.declared.turns.Turn as solver
use Rattle.resolve_answer.specs.Wishes.{asked_by}
use Rattle.resolve_answer.specs.declared.turns.Outcome.{Outcome}
use Rattle.resolve_answer.specs.declared.wishes.Wish.{Wish}

-- a turn of the solver
abbrev pub Solved : Type 0
Solved = solver.Turn SolvableId

-- these are the steps of the turns, for those that have one
pub record AreWanted (turns : List Solved) (wanted : List ℕ) : Type 0 where
  pub each : (t : Solved) (k : ℕ) → Contains turns t → t.step ≡ Some k → Contains wanted k
  pub only : (k : ℕ) → Contains wanted k → (t : Solved) × Contains turns t × (t.step ≡ Some k)

-- a step more is wanted, if it is one
abbrev pub Wants : Option ℕ → List ℕ → List ℕ → Type 0
Wants None old new = new ≡ old
Wants (Some k) old new = new ≡ old ++ k ∷ []

-- the part of a list from one place to another, if there is one
abbrev pub IsBetween : {X : Type 0} → List X → ℕ → ℕ → List X → Type 0
IsBetween xs begin end_ part = begin ≤ end_ → end_ ≤ length xs → part ≡ take (end_ - begin) (drop begin xs)

-- how many versions were chosen in the turn of the needs, of so many
abbrev pub first_end : ℕ → List Solved → ℕ
first_end count [] = count
first_end count (t ∷ later) = t.begin

-- the turn of the needs
abbrev pub IsFirstTurn : List VersionNo → List Solved → Turn → Type 0
IsFirstTurn chosen turns t = (part : _) × (t ≡ Chose None part) × IsBetween chosen 0 (first_end (length chosen) turns) part.now

-- one past the place, if there is one; 0 is none
abbrev pub past : Option ℕ → ℕ
past None = 0
past (Some place) = suc place

-- the number of a step, by the places that steps have
abbrev pub number_at : List ℕ → Option ℕ → ℕ
number_at places None = 0
number_at places (Some k) = past (slice_get places k)

-- The turn of a wish: the versions chosen in it, where the solver accepted it; else it is left out
-- by the turn's step. Without a turn it is left out by none.
abbrev pub IsWishedTurn : List VersionNo → List ℕ → ℕ × VersionNo → Option Solved → Turn → Type 0
IsWishedTurn chosen places wish None t = t ≡ LeftOut wish 0
IsWishedTurn chosen places wish (Some s) t = (s.accepted ≡ true → (part : _) × (t ≡ Chose (Some wish) part) × IsBetween chosen s.begin s.end part.now)
    × (s.accepted ≡ false → t ≡ LeftOut wish (number_at places s.step))

-- The report's turns of these wishes, from this turn of the solver and these steps on. A forbidden
-- wish is left out by its step, which is appended. Any other has its turn of the solver.
abbrev pub AreTurnsFor : List VersionNo → List Solved → List ℕ → List Wish → ℕ → List Step → List Turn → List Step → Type 0
AreTurnsFor chosen turns places [] n steps matched after = (matched ≡ []) × (after ≡ steps)
AreTurnsFor chosen turns places (w ∷ ws) n steps matched after = (t : Turn) × (rest : List Turn) × (matched ≡ t ∷ rest)
    × MatchOption w.forbidden_by (IsWishedTurn chosen places (asked_by w) (slice_get turns n) t × AreTurnsFor chosen turns places ws (suc n) steps rest after)
    (λ step. (suc (length steps) < 4294967296) × (t ≡ LeftOut (asked_by w) (suc (length steps))) × AreTurnsFor chosen turns places ws n (steps ++ step_of step ∷ []) rest after)

-- all turns of a report
abbrev pub AreReportTurns : Outcome → List Wish → List Step → List Turn → List Step → Type 0
AreReportTurns o wishes steps matched after = (t : Turn) × (rest : List Turn) × (matched ≡ t ∷ rest) × IsFirstTurn o.chosen.now o.turns.now t
    × AreTurnsFor o.chosen.now o.turns.now o.places.now wishes 0 steps rest after

-- Some step has a place among the written steps that no number is for: the numbers are 1 to 4294967295.
abbrev pub HasPlaceTooGreat : List ℕ → Type 0
HasPlaceTooGreat places = (step place : ℕ) × (slice_get places step ≡ Some place) × (4294967295 ≤ place)

-- So many steps have used all numbers, or some step has such a place.
pub data LacksStepNumber (places : List ℕ) (count : ℕ) : Type 0 where
  steps : 4294967295 ≤ count → LacksStepNumber places count
  places : HasPlaceTooGreat places → LacksStepNumber places count
