-- Which versions are chosen: for each need the first match; and of flat texts the newest versions that fit.
use Rattle.std.specs.Prelude.{◌≡◌, ◌↔◌, ◌⊎◌, ℕ, ◌≤◌, IsTrue, Bool, true, false, not, ◌&&◌, ◌||◌, is_some, List, [], ◌∷◌, Option, Some, None, Contains}
use Rattle.resolvo_text.specs.Line.{Version, Spec, Cond, Line, Listed, Needs, Favour, Many}
use Rattle.resolvo_text.specs.Matches.{Set, matches, condition_holds}
use Rattle.resolvo_catalogue_core.specs.Answers.{Answer, entries_of}
use Rattle.resolvo_catalogue_core.specs.Grammar.{line_at, owner_of}
use Rattle.resolvo_catalogue_core.specs.Questions.{is_rule}
use Rattle.resolvo_catalogue_core.specs.Rules.{binds}
use Rattle.resolvo_catalogue_core.specs.Sets.{IsRuleKeeping, is_many}
use Rattle.resolve_answer.specs.Flat.{AllLines, wishes_nothing}

-- ---- the first match of a SPEC

-- A line favours the version.
abbrev pub IsFavoured : List Line → Version → Type 0
IsFavoured catalogue v = Contains catalogue (Favour v)

-- a listed version that the SPEC matches
abbrev pub IsMatch : List Line → Spec → Version → Type 0
IsMatch catalogue s v = Contains catalogue (Listed v) × IsTrue (matches s v)

-- No match is favoured, and none is newer.
pub record IsNewestMatch (catalogue : List Line) (s : Spec) (v : Version) : Type 0 where
  pub unfavoured : (w : Version) → IsMatch catalogue s w → IsFavoured catalogue w → ⊥
  pub newest : (w : Version) → IsMatch catalogue s w → w.number ≤ v.number

-- The match that is tried before every other: it is favoured, or no match is and it is the newest.
abbrev pub IsFirstMatch : List Line → Spec → Version → Type 0
IsFirstMatch catalogue s v = IsMatch catalogue s v × (IsFavoured catalogue v ⊎ IsNewestMatch catalogue s v)

-- The first match of alternatives: that of the first one that has a match.
abbrev pub IsFirstMatchOf : List Line → List Spec → Version → Type 0
IsFirstMatchOf catalogue [] v = ⊥
IsFirstMatchOf catalogue (s ∷ ss) v = IsFirstMatch catalogue s v ⊎ (((w : Version) → IsMatch catalogue s w → ⊥) × IsFirstMatchOf catalogue ss v)

-- ---- the first choices

-- A line of the request, or one that belongs to the version.
abbrev pub IsLineOf : List Line → List Line → Option Version → Line → Type 0
IsLineOf catalogue request None line = Contains request line
IsLineOf catalogue request (Some v) line = (n : ℕ) × (line_at catalogue n ≡ Some line) × (owner_of catalogue n ≡ Some v)

-- A line of the request, or of a member of the set, needs one of these; its condition holds in the set.
pub record IsNeeded (catalogue request : List Line) (set : Set) (alternatives : List Spec) : Type 0 where
  pub owner : Option Version
  pub condition : Option Cond
  pub line : IsLineOf catalogue request owner (Needs alternatives condition)
  pub member : IsTrue (binds owner set)
  pub holds : IsTrue (condition_holds condition set)

-- The set holds the first match of each such line.
abbrev pub HoldsFirst : List Line → List Line → Set → Type 0
HoldsFirst catalogue request set = (alternatives : List Spec) (v : Version) → IsNeeded catalogue request set alternatives → IsFirstMatchOf catalogue alternatives v → Contains set v

-- The first choices: the least such set, where no package is marked `many`. It keeps the rules, and none of its
-- lines has alternatives.
pub record IsFirstChoices (catalogue request : List Line) (first : Set) : Type 0 where
  pub unmarked : (name : List ℕ) → is_many catalogue name ≡ false
  pub holds : HoldsFirst catalogue request first
  pub least : (set : Set) → HoldsFirst catalogue request set → (v : Version) → Contains first v → Contains set v
  pub keeping : IsRuleKeeping catalogue request first
  pub alone : (alternatives : List Spec) → IsNeeded catalogue request first alternatives → (s : Spec) × (alternatives ≡ s ∷ [])

-- ---- flat texts

-- the SPEC of a line that needs one SPEC, under no condition
abbrev pub flat_need : Line → Option Spec
flat_need (Needs (s ∷ []) None) = Some s
flat_need _ = None

abbrev pub favours_nothing : Line → Bool
favours_nothing (Favour v) = false
favours_nothing _ = true

abbrev pub marks_nothing : Line → Bool
marks_nothing (Many name) = false
marks_nothing _ = true

-- The line is no rule, favours no version and marks no package.
abbrev pub is_flat_listing : Line → Bool
is_flat_listing line = not (is_rule line) && (favours_nothing line && marks_nothing line)

-- The line is no rule but a need of one SPEC under no condition, and wishes no version.
abbrev pub is_flat_need : Line → Bool
is_flat_need line = (not (is_rule line) || is_some (flat_need line)) && wishes_nothing line

-- Line m of the request needs the SPEC.
abbrev pub NeedsAt : List Line → ℕ → Spec → Type 0
NeedsAt request m s = line_at request m ≡ Some (Needs (s ∷ []) None)

-- Each line of the request that needs a version of its package matches it.
abbrev pub FitsRequest : List Line → Version → Type 0
FitsRequest request v = (m : ℕ) (s : Spec) → NeedsAt request m s → s.name ≡ v.name → IsTrue (matches s v)

-- Each entry is the newest listed version of its package that fits the request.
abbrev pub AreNewest : List Line → List Line → Set → Type 0
AreNewest catalogue request entries = (v : Version) → Contains entries v → (w : Version) → Contains catalogue (Listed w) → w.name ≡ v.name → FitsRequest request w → w.number ≤ v.number

-- ---- the entries of a report

pub record AreFirstChosen (catalogue request : List Line) (entries : Set) : Type 0 where
  -- where there are first choices, they are the entries
  pub first : (set : Set) → IsFirstChoices catalogue request set → (v : Version) → Contains entries v ↔ Contains set v
  -- of flat texts the entries are the newest versions that fit
  pub newest : AllLines is_flat_listing catalogue → AllLines is_flat_need request → AreNewest catalogue request entries

-- The first choices of a search are entries. Where the request has no wish, all entries are first
-- choices.
pub record HasFirstChosen (catalogue request : List Line) (answers : List Answer) : Type 0 where
  pub chosen : Set
  pub first : AreFirstChosen catalogue request chosen
  pub entries : (v : Version) → Contains chosen v → Contains (entries_of answers) v
  pub all : AllLines wishes_nothing request → (v : Version) → Contains (entries_of answers) v → Contains chosen v
