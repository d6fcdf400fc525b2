-- Which steps are valid after which, and what a proof implies.
use Rattle.std.specs.Prelude.{◌≡◌, ℕ, zero, suc, Bool, true, false, not, ◌&&◌, ◌||◌, ◌==◌, List, [], ◌∷◌, map, length, take, Some, is_some, slice_get, unwrap_or, IsTrue, Contains}
use Rattle.std.specs.List.{list_all, list_any}
use Rattle.std.specs.Option.{option_and_then}
use Rattle.resolvo_text.specs.Line.{Version, Line}
use Rattle.resolvo_text.specs.Matches.{Set, same_version, is_member}
use Rattle.resolvo_catalogue_core.specs.Rules.{keeps, keeps_in_request}
use Rattle.resolvo_catalogue_core.specs.Sets.{IsRuleKeeping}
use Rattle.resolvo_pool_core.specs.OnePass.{one_pass, clause_true}
use Rattle.resolvo_report.specs.Value.{Place, OfRequest, OfVersion, Atom, Chosen, AnyOf, SharedBy, OutsideOf, MatchesOf, BitOf, Step}
use Rattle.resolvo_report.specs.Value as step
use Rattle.resolvo_checker.specs.Rup.{is_earlier}
use Rattle.resolvo_checker.specs.AtomValues.{same_atom, value_of}
use Rattle.resolvo_checker.specs.StepClauses.{Clause, clause_of, literal_of}

-- The line of the step's rule is named, by tests for the lines of the two texts.
abbrev pub rests_on : (ℕ → Bool) → (ℕ → Bool) → Place → ℕ → Bool
rests_on catalogue_line request_line OfRequest n = request_line n
rests_on catalogue_line request_line (OfVersion v) n = catalogue_line n

abbrev pub rests_on_named : (ℕ → Bool) → (ℕ → Bool) → Step → Bool
rests_on_named catalogue_line request_line (step.Need place line case) = rests_on catalogue_line request_line place line
rests_on_named catalogue_line request_line (step.Gate v line) = catalogue_line line
rests_on_named catalogue_line request_line (step.LimitBars place line v) = rests_on catalogue_line request_line place line
rests_on_named catalogue_line request_line (step.Limit place line) = rests_on catalogue_line request_line place line
rests_on_named catalogue_line request_line (step.Lock line v) = catalogue_line line
rests_on_named catalogue_line request_line (step.Exclude line) = catalogue_line line
rests_on_named catalogue_line request_line (step.Unknown line) = catalogue_line line
rests_on_named catalogue_line request_line (step.Shared alternatives) = true
rests_on_named catalogue_line request_line (step.Outside s v) = true
rests_on_named catalogue_line request_line (step.Matches s v) = true
rests_on_named catalogue_line request_line (step.Digit v place bit) = true
rests_on_named catalogue_line request_line (step.Any v) = true
rests_on_named catalogue_line request_line (step.Derive literals causes) = true

-- The step gives the version no other place.
abbrev pub allows_place : Version → ℕ → Step → Bool
allows_place v place (step.Digit w other bit) = not (same_version w v) || (other == place)
allows_place v place s = true

-- the clause of the n-th of the earlier steps, n from 1
abbrev pub cause_of : List Line → List Line → List Step → ℕ → Clause
cause_of catalogue request earlier zero = []
cause_of catalogue request earlier (suc k) = unwrap_or (option_and_then (clause_of catalogue request) (slice_get earlier k)) []

-- The step fits the earlier ones: a version has one place, and a derived clause is RUP by one pass
-- over earlier steps.
abbrev pub follows : List Line → List Line → List Step → Step → Bool
follows catalogue request earlier (step.Digit v place bit) = list_all (allows_place v place) earlier
follows catalogue request earlier (step.Derive literals causes) =
    list_all (is_earlier (length earlier)) causes && one_pass same_atom (map literal_of literals) (map (cause_of catalogue request earlier) causes)
follows catalogue request earlier s = true

-- The step is valid after the earlier ones.
abbrev pub is_valid_step : List Line → List Line → (ℕ → Bool) → (ℕ → Bool) → List Step → Step → Bool
is_valid_step catalogue request catalogue_line request_line earlier s =
    is_some (clause_of catalogue request s) && (rests_on_named catalogue_line request_line s && follows catalogue request earlier s)

-- which lines are named: those of a list, or all
abbrev pub is_named : List ℕ → ℕ → Bool
is_named lines n = list_any (λ m. m == n) lines

abbrev pub every_line : ℕ → Bool
every_line n = true

-- The steps are a proof from the lines that the tests name: each is valid after those before it.
abbrev pub IsProof : List Line → List Line → (ℕ → Bool) → (ℕ → Bool) → List Step → Type 0
IsProof catalogue request catalogue_line request_line steps =
    (n : ℕ) (s : Step) → slice_get steps n ≡ Some s → is_valid_step catalogue request catalogue_line request_line (take n steps) s ≡ true

-- Step n, from 0, is the first that is invalid after those before it.
pub record IsWrongAt (catalogue request : List Line) (catalogue_line request_line : ℕ → Bool) (steps : List Step) (n : ℕ) : Type 0 where
  pub before : IsProof catalogue request catalogue_line request_line (take n steps)
  pub wrong : Step
  pub there : slice_get steps n ≡ Some wrong
  pub refused : is_valid_step catalogue request catalogue_line request_line (take n steps) wrong ≡ false

-- ---- what a proof implies

-- The last step derives the clause without literals.
abbrev pub derives_empty : Step → Bool
derives_empty (step.Derive literals causes) = length literals == 0
derives_empty s = false

abbrev pub ends_empty : List Step → Bool
ends_empty [] = false
ends_empty (s ∷ []) = derives_empty s
ends_empty (s ∷ t ∷ steps) = ends_empty (t ∷ steps)

-- the wish or an entry
abbrev pub is_among : Set → Version → Atom → Bool
is_among entries wish (Chosen v) = same_version v wish || is_member v entries
is_among entries wish a = false

-- Each literal is `not` of the wish or of an entry.
abbrev pub forbids : Set → Version → Clause → Bool
forbids entries wish clause = list_all (λ l. not l.positive && is_among entries wish l.atom) clause

-- No rule-keeping set holds the wish together with the entries.
abbrev pub AreApart : List Line → List Line → Set → Version → Type 0
AreApart catalogue request entries wish = (set : Set) → IsRuleKeeping catalogue request set → Contains set wish → ((v : Version) → Contains entries v → Contains set v) → ⊥

-- The set obeys the named lines.
pub record ObeysLines (catalogue request : List Line) (catalogue_lines request_lines : List ℕ) (set : Set) : Type 0 where
  pub in_catalogue : (n : ℕ) → Contains catalogue_lines n → IsTrue (keeps catalogue n set)
  pub in_request : (n : ℕ) → Contains request_lines n → IsTrue (keeps_in_request request n set)

-- For some map of places, the clause of each step is true over the set.
pub record IsTrueIn (catalogue request : List Line) (set : Set) (steps : List Step) : Type 0 where
  pub place : Version → ℕ
  pub each : (n : ℕ) (s : Step) (clause : Clause) → slice_get steps n ≡ Some s → clause_of catalogue request s ≡ Some clause → clause_true (value_of set place) clause ≡ true

-- The set obeys each line that the tests name.
pub record ObeysTested (catalogue request : List Line) (catalogue_line request_line : ℕ → Bool) (set : Set) : Type 0 where
  pub in_catalogue : (n : ℕ) → catalogue_line n ≡ true → IsTrue (keeps catalogue n set)
  pub in_request : (n : ℕ) → request_line n ≡ true → IsTrue (keeps_in_request request n set)
