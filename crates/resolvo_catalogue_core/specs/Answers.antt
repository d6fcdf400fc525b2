-- The claims of a report.
use Rattle.std.specs.Prelude.{◌≡◌, ℕ, IsTrue, ⊤, List, [], ◌∷◌, ◌++◌, Option, Some, Contains, ◌⊎◌}
use Rattle.std.specs.List.{flat_map}
use Rattle.std.specs.List.Sorted.{IsStrictlyIncreasing}
use Rattle.resolvo_text.specs.Line.{Version, Spec, Cond, Line, Needs, Wish}
use Rattle.resolvo_catalogue_core.specs.Grammar.{line_at, owner_of}
use Rattle.resolvo_catalogue_core.specs.Sets.{IsRuleKeeping, AreRefuted}
use Rattle.resolvo_text.specs.Matches.{Set, condition_holds, matches}
use Rattle.std.specs.List.{list_any}

-- why a version is chosen: line n of the request, line n of the catalogue, which belongs to a version
-- chosen earlier, or a wish in line n of the request
pub data Reason : Type 0 where
  ForRequest : ℕ → Reason
  ForVersion : Version → ℕ → Reason
  Wished : ℕ → Reason

-- a line of an `install` report: an entry, or a wish in a line of the request that is left out by a step
pub data Answer : Type 0 where
  Entry : Version → Reason → Answer
  LeftOut : Version → ℕ → ℕ → Answer

-- the versions of the entries
abbrev pub entry_of : Answer → List Version
entry_of (Entry v reason) = v ∷ []
entry_of (LeftOut v n step) = []

abbrev pub entries_of : List Answer → Set
entries_of answers = flat_map entry_of answers

-- ---- a reasoned list

-- The line, if it is a `needs` line, has an alternative that the version matches, and its condition holds in
-- the set of the earlier entries.
abbrev pub IsNeededBy : Set → Option Line → Version → Type 0
IsNeededBy earlier line v = (alternatives : List Spec) × (condition : Option Cond) × (line ≡ Some (Needs alternatives condition))
    × IsTrue (list_any (λ s. matches s v) alternatives) × IsTrue (condition_holds condition earlier)

abbrev pub IsReason : List Line → List Line → Set → Version → Reason → Type 0
IsReason catalogue request earlier v (ForRequest n) = IsNeededBy earlier (line_at request n) v
IsReason catalogue request earlier v (ForVersion w n) = Contains earlier w × (owner_of catalogue n ≡ Some w) × IsNeededBy earlier (line_at catalogue n) v
IsReason catalogue request earlier v (Wished n) = line_at request n ≡ Some (Wish v)

-- No version is listed twice, and each entry has the reason that it names.
abbrev pub IsReasoned : List Line → List Line → Set → List Answer → Type 0
IsReasoned catalogue request earlier [] = ⊤
IsReasoned catalogue request earlier (LeftOut v n step ∷ answers) = IsReasoned catalogue request earlier answers
IsReasoned catalogue request earlier (Entry v reason ∷ answers) = (Contains earlier v → ⊥) × IsReason catalogue request earlier v reason
    × IsReasoned catalogue request (earlier ++ v ∷ []) answers

-- ---- the account of the wishes

-- the request lines that `wished` and `left out` lines name
abbrev pub wish_line_of : Answer → List ℕ
wish_line_of (Entry v (Wished n)) = n ∷ []
wish_line_of (Entry v (ForRequest n)) = []
wish_line_of (Entry v (ForVersion w n)) = []
wish_line_of (LeftOut v n step) = n ∷ []

-- A wish of line n is left out in one of the lines.
abbrev pub IsLeftOut : List Answer → Version → ℕ → Type 0
IsLeftOut answers v n = (step : ℕ) × Contains answers (LeftOut v n step)

pub record AccountsForWishes (catalogue request : List Line) (answers : List Answer) : Type 0 where
  -- each wish is an entry or is left out
  pub each : (n : ℕ) (v : Version) → line_at request n ≡ Some (Wish v) → Contains (entries_of answers) v ⊎ IsLeftOut answers v n
  -- and never both
  pub never_both : (n : ℕ) (v : Version) → IsLeftOut answers v n → Contains (entries_of answers) v → ⊥
  -- in the order of the request
  pub rising : IsStrictlyIncreasing (flat_map wish_line_of answers)
  -- each one left out is a wish
  pub wished : (n : ℕ) (v : Version) → IsLeftOut answers v n → line_at request n ≡ Some (Wish v)
  -- and no rule-keeping set holds it together with all entries above its line
  pub forbidden : (above below : List Answer) (v : Version) (n step : ℕ) → answers ≡ above ++ LeftOut v n step ∷ below
      → (set : Set) → IsRuleKeeping catalogue request set → Contains set v
      → ((w : Version) → Contains (entries_of above) w → Contains set w) → ⊥

-- ---- the claim

-- The entries are a rule-keeping set, each for the reason that it names, and the wishes are accounted for.
pub record ClaimsInstall (catalogue request : List Line) (answers : List Answer) : Type 0 where
  pub keeps_rules : IsRuleKeeping catalogue request (entries_of answers)
  pub reasoned : IsReasoned catalogue request [] answers
  pub wishes : AccountsForWishes catalogue request answers

-- The lines that are named are refuted.
abbrev pub ClaimsRefusal : List Line → List Line → List ℕ → List ℕ → Type 0
ClaimsRefusal catalogue request catalogue_lines request_lines = AreRefuted catalogue request catalogue_lines request_lines
