-- The state of the checker of a proof.
use Rattle.std.specs.Prelude.{◌≡◌, ⊤, ℕ, ◌+◌, Bool, true, false, ◌==◌, List, [], ◌∷◌, ◌++◌, length, Option, Some, None, slice_get, is_some, unwrap_or}
use Rattle.std.specs.Global.{Vec}
use Rattle.std.specs.List.{list_all}
use Rattle.resolvo_text.specs.Line.{Version, Line}
use Rattle.resolvo_catalogue_core.specs.Listed.{listed}
use Rattle.resolvo_report.specs.Value.{Step}
use Rattle.resolvo_report.specs.Value as step
use Rattle.resolvo_checker.specs.declared.literal.Literal.{Literal}
use Rattle.resolvo_checker.specs.declared.check_step.Premises.{Premises}
use Rattle.resolvo_checker.specs.declared.check_step.Checker.{Checker}
use Rattle.resolvo_checker.specs.declared.clauses.Readings.{Readings}
use Rattle.resolvo_checker.specs.declared.check_step.Premises.TheVariants.{All, Named}
use Rattle.resolvo_checker.specs.Kept.{Kept, Ready, Deferred, is_ready}
use Rattle.resolvo_checker.specs.StepClauses.{Clause, clause_of}
use Rattle.resolvo_checker.specs.Proof.{allows_place, is_valid_step}
use Rattle.resolvo_checker.specs.Keys.{Numbered, Extends}
use Rattle.resolvo_checker.specs.StepKeys.{Recorded}

abbrev pub flag_at : List Bool → ℕ → Bool
flag_at flags line = unwrap_or (slice_get flags line) false

-- which lines steps may name
abbrev pub names_catalogue : Premises → ℕ → Bool
names_catalogue All line = true
names_catalogue (Named catalogue request) line = flag_at catalogue.items line

abbrev pub names_request : Premises → ℕ → Bool
names_request All line = true
names_request (Named catalogue request) line = flag_at request.items line

-- a given place allows another
abbrev pub allows : Option (Option ℕ) → ℕ → Bool
allows (Some (Some given)) place = given == place
allows (Some None) place = true
allows None place = true

abbrev pub clause_or_none : List Line → List Line → Step → Clause
clause_or_none catalogue request s = unwrap_or (clause_of catalogue request s) []

-- the numbers of the steps whose clauses a step names
abbrev pub causes_of : Step → List ℕ
causes_of (step.Derive literals causes) = causes
causes_of s = []

-- how many clauses a step names
abbrev pub causes_in : Step → ℕ
causes_in (step.Derive literals causes) = length causes
causes_in s = 0

-- how many clauses the steps name
abbrev pub count_causes : List Step → ℕ
count_causes [] = 0
count_causes (s ∷ steps) = causes_in s + count_causes steps

-- the numbered clause of a step: whether there is one, and its numbers
abbrev pub AtomIds : Option Clause → Bool → List Version → List (Vec ℕ × ℕ) → List (Vec ℕ × ℕ) → List Literal → Type 0
AtomIds None there versions old new ids = there ≡ false
AtomIds (Some clause) there versions old new ids = (there ≡ true) × Extends versions old [] new ids clause

-- the places that digit steps gave to versions, by their numbers
abbrev pub Given : List Line → List (Option ℕ) → List Step → Type 0
Given catalogue places earlier = (v : Version) (n place : ℕ) → slice_get (listed catalogue) n ≡ Some v → list_all (allows_place v place) earlier ≡ allows (slice_get places n) place

-- the literals are those of the step's clause, or the step itself is kept, and has a clause
abbrev pub IsKept : List Line → List Line → List (Vec ℕ × ℕ) → Step → Kept → Type 0
IsKept catalogue request entries s (Ready ls) = Numbered (listed catalogue) entries (clause_or_none catalogue request s) ls
IsKept catalogue request entries s (Deferred t) = (t ≡ s) × (is_some (clause_of catalogue request s) ≡ true)

abbrev pub AreKept : List Line → List Line → List (Vec ℕ × ℕ) → List Step → List Kept → Type 0
AreKept catalogue request entries [] [] = ⊤
AreKept catalogue request entries [] (k ∷ kept) = ⊥
AreKept catalogue request entries (s ∷ earlier) [] = ⊥
AreKept catalogue request entries (s ∷ earlier) (k ∷ kept) = IsKept catalogue request entries s k × AreKept catalogue request entries earlier kept

-- no clause that the step names is deferred
abbrev pub NamesReady : List Kept → Step → Type 0
NamesReady kept s = list_all (is_ready kept) (causes_of s) ≡ true

-- the checker's state is that after the earlier steps
pub record CheckerInvariant (catalogue request : List Line) (entries : List (Vec ℕ × ℕ)) (clauses : List Kept) (places : List (Option ℕ)) (rules : List (Vec ℕ × ℕ)) (earlier : List Step) : Type 0 where
  pub kept : AreKept catalogue request entries earlier clauses
  pub placed : Given catalogue places earlier
  pub recorded : Recorded catalogue request rules earlier

-- whether the step is valid after the earlier ones that the checker's state is of
abbrev pub TellsValid : List Line → List Line → Premises → Step → Checker → List Kept → Bool → Type 0
TellsValid catalogue request scope s checker kept fine = (earlier : List Step)
    → CheckerInvariant catalogue request checker.numbers kept checker.places.items checker.rules earlier
    → fine ≡ is_valid_step catalogue request (names_catalogue scope) (names_request scope) earlier s

-- the second state is that after one step more
abbrev pub AddsStep : List Line → List Line → Step → Checker → List Kept → Checker → List Kept → Type 0
AddsStep catalogue request s old kept new more = (earlier : List Step)
    → CheckerInvariant catalogue request old.numbers kept old.places.items old.rules earlier
    → CheckerInvariant catalogue request new.numbers more new.places.items new.rules (earlier ++ s ∷ [])

-- the clauses that the step names were read, each once for each time that it is named
abbrev pub ReadsCauses : Step → Readings → Readings → Type 0
ReadsCauses s old new = new ≡ record old { read = old.read + causes_in s }
