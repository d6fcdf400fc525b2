-- The order in which chosen versions are listed, each with the line that asked for it.
use Rattle.std.specs.Prelude.{◌≡◌, ℕ, ◌<◌, ◌⊎◌, IsTrue, ⊤, List, [], ◌∷◌, ◌++◌, Option, Some, None, Contains, if◌then◌else◌}
use Rattle.std.specs.List.{flat_map}
use Rattle.resolvo_text.specs.Line.{Version, Spec, Cond, Line, Needs, Favour}
use Rattle.resolvo_text.specs.Matches.{Set, matches, is_member}
use Rattle.resolvo_catalogue_core.specs.Grammar.{line_at, owner_of}
use Rattle.resolvo_catalogue_core.specs.Answers.{Reason, ForRequest, ForVersion, Wished, Answer, Entry, LeftOut, entries_of, IsNeededBy}

-- ---- lines that ask for versions

-- the line that a reason names; a wish asks for nothing more
abbrev pub line_named : List Line → List Line → Reason → Option Line
line_named catalogue request (ForRequest n) = line_at request n
line_named catalogue request (ForVersion w n) = line_at catalogue n
line_named catalogue request (Wished n) = None

-- The line is one of the request, or it belongs to an entry.
abbrev pub IsAsked : List Line → Set → Reason → Type 0
IsAsked catalogue entries (ForRequest n) = ⊤
IsAsked catalogue entries (ForVersion w n) = Contains entries w × (owner_of catalogue n ≡ Some w)
IsAsked catalogue entries (Wished n) = ⊥

-- The line has this unlisted match among the chosen versions, and its condition holds among the entries.
pub record MayGive (catalogue request : List Line) (chosen entries : Set) (reason : Reason) (v : Version) : Type 0 where
  pub asked : IsAsked catalogue entries reason
  pub needed : IsNeededBy entries (line_named catalogue request reason) v
  pub is_chosen : Contains chosen v
  pub unlisted : Contains entries v → ⊥

-- ---- their order

-- The first is listed before the second.
abbrev pub IsEarlier : Set → Version → Version → Type 0
IsEarlier entries u w = (above : Set) × (below : Set) × (entries ≡ above ++ below) × Contains above u × Contains below w

-- The first line is before the second. Lines of the request are ordered by their numbers; those of
-- the entries follow in listing order, those of one entry by their numbers.
abbrev pub Precedes : Set → Reason → Reason → Type 0
Precedes entries (ForRequest m) (ForRequest n) = m < n
Precedes entries (ForRequest m) (ForVersion w n) = ⊤
Precedes entries (ForVersion u m) (ForVersion w n) = IsEarlier entries u w ⊎ ((u ≡ w) × (m < n))
Precedes entries (ForVersion u m) (ForRequest n) = ⊥
Precedes entries (Wished m) other = ⊥
Precedes entries other (Wished n) = ⊥

-- ---- one entry

-- Of two versions of a package the first is before the second: it is favoured, or it is newer and the other isn't.
abbrev pub IsSorted : List Line → Version → Version → Type 0
IsSorted catalogue v w = Contains catalogue (Favour v) ⊎ ((Contains catalogue (Favour w) → ⊥) × (w.number < v.number))

-- The version matches an alternative of the line, and is the first of its unlisted matches among the chosen. No
-- alternative before it has one.
abbrev pub IsOfFirst : List Line → Set → Set → Option Line → Version → Type 0
IsOfFirst catalogue chosen entries line v = (above : List Spec) × (s : Spec) × (below : List Spec) × (condition : Option Cond)
    × (line ≡ Some (Needs (above ++ s ∷ below) condition)) × IsTrue (matches s v)
    × ((w : Version) → IsTrue (matches s w) → Contains chosen w → (Contains entries w → ⊥) → (w ≡ v) ⊎ IsSorted catalogue v w)
    × ((t : Spec) (w : Version) → Contains above t → IsTrue (matches t w) → Contains chosen w → Contains entries w)

-- The next entry: the line is the first that may give a version, and gives the first match of the first alternative
-- that has one.
pub record IsNext (catalogue request : List Line) (chosen entries : Set) (reason : Reason) (v : Version) : Type 0 where
  pub gives : MayGive catalogue request chosen entries reason v
  pub first_line : (other : Reason) (w : Version) → MayGive catalogue request chosen entries other w → (reason ≡ other) ⊎ Precedes entries reason other
  pub first_alternative : IsOfFirst catalogue chosen entries (line_named catalogue request reason) v

-- Each is the next after those before it.
abbrev pub AreInOrder : List Line → List Line → Set → Set → List Answer → Type 0
AreInOrder catalogue request chosen entries [] = ⊤
AreInOrder catalogue request chosen entries (Entry v reason ∷ answers) = IsNext catalogue request chosen entries reason v
    × AreInOrder catalogue request chosen (entries ++ v ∷ []) answers
AreInOrder catalogue request chosen entries (LeftOut v n step ∷ answers) = ⊥

-- No line gives anything more.
abbrev pub IsComplete : List Line → List Line → Set → Set → Type 0
IsComplete catalogue request chosen entries = (reason : Reason) (v : Version) → MayGive catalogue request chosen entries reason v → ⊥

-- ---- turns

-- A turn of a search. Chose has its accepted wish, by its line of the request, and the versions
-- that it chose besides those of the turns before it. LeavesOut has a wish that is left out, and
-- the step of the report that forbids it.
pub data Turn : Type 0 where
  Chose : Option (ℕ × Version) → Set → Turn
  LeavesOut : ℕ × Version → ℕ → Turn

-- the choices of a turn
abbrev pub chosen_by : Turn → Set
chosen_by (Chose wish chosen) = chosen
chosen_by (LeavesOut wish step) = []

-- the choices of all turns
abbrev pub chosen_in : List Turn → Set
chosen_in turns = flat_map chosen_by turns

-- the wish, unless it is an entry
abbrev pub wish_entry : Option (ℕ × Version) → Set → List Answer
wish_entry None entries = []
wish_entry (Some w) entries = if is_member w.1 entries then [] else Entry w.1 (Wished w.0) ∷ []

-- The answers of a turn, where these versions are chosen by its end: its wish, then one after the
-- other, until no line gives more.
pub record IsTurn (catalogue request : List Line) (chosen entries : Set) (wish : Option (ℕ × Version)) (answers : List Answer) : Type 0 where
  pub others : List Answer
  pub wish_first : answers ≡ wish_entry wish entries ++ others
  pub in_order : AreInOrder catalogue request chosen (entries ++ entries_of (wish_entry wish entries)) others
  pub complete : IsComplete catalogue request chosen (entries ++ entries_of answers)

-- the same of each turn: one that leaves a wish out lists that alone
abbrev pub IsOneTurn : List Line → List Line → Set → Set → Turn → List Answer → Type 0
IsOneTurn catalogue request chosen entries (Chose wish more) answers = IsTurn catalogue request chosen entries wish answers
IsOneTurn catalogue request chosen entries (LeavesOut wish step) answers = answers ≡ LeftOut wish.1 wish.0 step ∷ []

-- the answers of the turns, one after the other
abbrev pub AreTurns : List Line → List Line → Set → Set → List Turn → List Answer → Type 0
AreTurns catalogue request chosen entries [] answers = answers ≡ []
AreTurns catalogue request chosen entries (t ∷ turns) answers = (first : List Answer) × (rest : List Answer) × (answers ≡ first ++ rest)
    × IsOneTurn catalogue request (chosen ++ chosen_by t) entries t first
    × AreTurns catalogue request (chosen ++ chosen_by t) (entries ++ entries_of first) turns rest

-- ---- reached versions

-- the accepted wish of a turn
abbrev pub accepted_by : Turn → Option (ℕ × Version)
accepted_by (Chose wish chosen) = wish
accepted_by (LeavesOut wish step) = None

abbrev pub wished_by : Option (ℕ × Version) → List Version
wished_by None = []
wished_by (Some w) = w.1 ∷ []

-- the accepted wishes of the turns
abbrev pub wishes_in : List Turn → Set
wishes_in turns = flat_map (λ t. wished_by (accepted_by t)) turns

-- The part of the chosen versions holds the wishes. It holds each chosen match of a line of the
-- request or of a member whose condition holds in the part.
pub record IsClosed (catalogue request : List Line) (chosen wishes part : Set) : Type 0 where
  pub within : (v : Version) → Contains part v → Contains chosen v
  pub wished : (v : Version) → Contains wishes v → Contains part v
  pub needed : (reason : Reason) (v : Version) → IsAsked catalogue part reason → IsNeededBy part (line_named catalogue request reason) v → Contains chosen v → Contains part v

-- Each closed part of the chosen versions holds all of them.
abbrev pub AreReached : List Line → List Line → Set → Set → Type 0
AreReached catalogue request chosen wishes = (part : Set) → IsClosed catalogue request chosen wishes part → (v : Version) → Contains chosen v → Contains part v
