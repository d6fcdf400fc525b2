-- The line of a need or a limit of a place, and the line that forbids a version.
use Rattle.std.specs.Prelude.{◌≡◌, ◌⊎◌, ◌<◌, ◌≤◌, ◌+◌, ℕ, Bool, true, false, List, length, slice_index_or, slice_get, Option, None, Some, Contains}
use Rattle.resolvo_text.specs.Line.{Version, Spec, Cond, Line, Skipped, Listed, Needs, Limits, Unknown, Lock, Favour, Exclude, Many, Wish}
use Rattle.resolvo_text.specs.Cases.{condition_cases}
use Rattle.resolvo_catalogue_core.specs.Grammar.{line_at, owner_of}
use Rattle.resolvo_catalogue_core.specs.Listed.{listed}
use Rattle.resolvo_catalogue_core.specs.Questions.{IsVersionLine, BelongsTo, LineIs, LocksAnother, Excludes, Forbids}
use Rattle.resolvo_catalogue_core.specs.declared.rule.VersionNo.{VersionNo}
use Rattle.resolvo_checker.specs.StepClauses.{case_at}
use Rattle.resolve_refusal.specs.declared.lines.PlaceLines.{PlaceLines}
use Rattle.resolve_refusal.specs.declared.lines.PlaceLines.TheVariants as of_place
use Rattle.resolve_refusal.specs.declared.lines.NeedLine.{NeedLine}
use Rattle.resolve_refusal.specs.declared.lines.ForbidLine.{ForbidLine}
use Rattle.resolve_refusal.specs.declared.lines.ForbidLine.TheVariants as forbid_by
use Rattle.resolve_refusal.specs.declared.lines.WordLine.{WordLine}
use Rattle.resolve_refusal.specs.declared.lines.WordLine.TheVariants as with_word

-- how many lines the place has
abbrev pub count_of : PlaceLines → ℕ
count_of (of_place.UpTo last) = last
count_of (of_place.These lines) = length lines.now

-- the number of its line at this place, from 0
abbrev pub number_at : PlaceLines → ℕ → ℕ
number_at (of_place.UpTo last) place = place + 1
number_at (of_place.These lines) place = slice_index_or lines.now place 0

-- The lines are those of which P is true, rising.
pub record AreLines (lines : PlaceLines) (P : ℕ → Type 0) : Type 0 where
  pub rising : (i j : ℕ) → i < j → j < count_of lines → number_at lines i < number_at lines j
  pub only : (i : ℕ) → i < count_of lines → P (number_at lines i)
  pub all : (n : ℕ) → P n → (i : ℕ) × (i < count_of lines) × (number_at lines i ≡ n)

-- The number is the least of which P is true, or there is none.
abbrev pub IsLeast : Option ℕ → (ℕ → Type 0) → Type 0
IsLeast None P = (n : ℕ) → P n → ⊥
IsLeast (Some n) P = P n × ((m : ℕ) → m < n → P m → ⊥)

-- the text of a place: a version is in the catalogue, and no version is the request
abbrev pub text_of : List Line → List Line → Option VersionNo → List Line
text_of catalogue request None = request
text_of catalogue request (Some v) = catalogue

-- Line n is one of the request, or one that belongs to the version.
abbrev pub IsLineOf : List Line → List Line → Option VersionNo → ℕ → Type 0
IsLineOf catalogue request None n = (1 ≤ n) × (n ≤ length request)
IsLineOf catalogue request (Some v) n = IsVersionLine (listed catalogue) catalogue v.0 BelongsTo n

-- Line n of a text has this content.
abbrev pub IsLineAt : List Line → Line → ℕ → Type 0
IsLineAt lines line n = line_at lines n ≡ Some line

-- It is the first line of the place with this content, or there is none.
abbrev pub IsFirstWith : List Line → List Line → Option VersionNo → Line → Option ℕ → Type 0
IsFirstWith catalogue request place content found = IsLeast found (λ n. IsLineOf catalogue request place n × IsLineAt (text_of catalogue request place) content n)

-- Line n of a text has the property.
abbrev pub IsAt : List Line → (Line → Type 0) → ℕ → Type 0
IsAt lines P n = (l : Line) × IsLineAt lines l n × P l

-- The line needs these alternatives, and this is one of its cases. A line without condition has one case, which is empty;
-- no case of a condition is.
abbrev pub NeedsIn : List Spec → List Spec → Line → Type 0
NeedsIn alternatives case line = (condition : Option Cond) × (line ≡ Needs alternatives condition) × Contains (condition_cases condition) case

-- The line needs these alternatives, and k is the number of the first of its cases, from 1, that is this one.
abbrev pub NeedsAs : List Spec → List Spec → ℕ → Line → Type 0
NeedsAs alternatives case k line = (condition : Option Cond) × (line ≡ Needs alternatives condition) × IsLeast (Some k) (λ j. case_at condition j ≡ Some case)

-- It is the number of the first case of the line that is this one. Or there is no such case, or the
-- line doesn't need these alternatives.
abbrev pub IsCaseOf : List Spec → List Spec → Line → Option ℕ → Type 0
IsCaseOf alternatives case line None = NeedsIn alternatives case line → ⊥
IsCaseOf alternatives case line (Some k) = NeedsAs alternatives case k line

-- The same of line n of a text.
abbrev pub IsCaseAt : List Line → List Spec → List Spec → ℕ → Option ℕ → Type 0
IsCaseAt lines alternatives case n None = IsAt lines (NeedsIn alternatives case) n → ⊥
IsCaseAt lines alternatives case n (Some k) = IsAt lines (NeedsAs alternatives case k) n

-- It is the first of these lines of the text that needs the alternatives in this case, with the
-- number of its first such case. Or none does.
abbrev pub IsNeedLine : (ℕ → Type 0) → List Line → List Spec → List Spec → Option NeedLine → Type 0
IsNeedLine Among lines alternatives case None = (n : ℕ) → Among n → IsAt lines (NeedsIn alternatives case) n → ⊥
IsNeedLine Among lines alternatives case (Some found) = Among found.line × IsAt lines (NeedsAs alternatives case found.case) found.line × ((m : ℕ) → m < found.line → Among m → IsAt lines (NeedsIn alternatives case) m → ⊥)

-- It is the first line of the place that needs the alternatives in this case, with the number of its first such case. Or
-- none does.
abbrev pub IsFirstNeed : List Line → List Line → Option VersionNo → List Spec → List Spec → Option NeedLine → Type 0
IsFirstNeed catalogue request place alternatives case found = IsNeedLine (IsLineOf catalogue request place) (text_of catalogue request place) alternatives case found

-- the line locks a version
abbrev pub locks : Line → Bool
locks (Lock v) = true
locks Skipped = false
locks (Listed v) = false
locks (Needs alternatives condition) = false
locks (Limits s) = false
locks (Unknown reason) = false
locks (Favour v) = false
locks (Many name) = false
locks (Exclude v reason) = false
locks (Wish v) = false

-- Line n excludes the version with this word.
abbrev pub ExcludesAt : List Line → Version → List ℕ → ℕ → Type 0
ExcludesAt catalogue v word n = line_at catalogue n ≡ Some (Exclude v word)

-- Line n marks the version's needs as unknown, with this word.
abbrev pub MarksUnknownAt : List Line → Version → List ℕ → ℕ → Type 0
MarksUnknownAt catalogue v word n = (line_at catalogue n ≡ Some (Unknown word)) × (owner_of catalogue n ≡ Some v)

-- Line n forbids the version with this word.
abbrev pub ForbidsAs : List Line → Version → List ℕ → ℕ → Type 0
ForbidsAs catalogue v word n = ExcludesAt catalogue v word n ⊎ MarksUnknownAt catalogue v word n

-- It is the first line that forbids the version with this word, by its content; or none does.
abbrev pub IsWordLine : List Line → Version → List ℕ → Option WordLine → Type 0
IsWordLine catalogue v word None = (m : ℕ) → ForbidsAs catalogue v word m → ⊥
IsWordLine catalogue v word (Some (with_word.Exclude n)) = ExcludesAt catalogue v word n × ((m : ℕ) → m < n → ForbidsAs catalogue v word m → ⊥)
IsWordLine catalogue v word (Some (with_word.Unknown n)) = MarksUnknownAt catalogue v word n × ((m : ℕ) → m < n → ForbidsAs catalogue v word m → ⊥)

-- The line locks another version of the package; or none does.
abbrev pub IsLockLine : List Line → Version → Option ℕ → Type 0
IsLockLine catalogue v None = (m : ℕ) → LineIs catalogue m (LocksAnother v) → ⊥
IsLockLine catalogue v (Some n) = LineIs catalogue n (LocksAnother v)

-- Nothing locks another version of the package, or excludes the version.
abbrev pub IsFree : List Line → Version → Type 0
IsFree catalogue v = (m : ℕ) → Forbids catalogue v m → ⊥

-- The line forbids the version before a search: one that locks another version of its package, else
-- the one that excludes it; or none does.
abbrev pub IsForbidLine : List Line → Version → Option ForbidLine → Type 0
IsForbidLine catalogue v (Some (forbid_by.Lock n)) = LineIs catalogue n (LocksAnother v)
IsForbidLine catalogue v (Some (forbid_by.Exclude n)) = ((m : ℕ) → LineIs catalogue m (LocksAnother v) → ⊥) × LineIs catalogue n (Excludes v) × ((m : ℕ) → LineIs catalogue m (Excludes v) → m ≡ n)
IsForbidLine catalogue v None = IsFree catalogue v

-- The version of this number is listed, and the line forbids it so; or it isn't listed, or no line
-- forbids it so.
abbrev pub IsForbidLineOf : List Line → ℕ → Option ForbidLine → Type 0
IsForbidLineOf catalogue number None = (v : Version) → slice_get (listed catalogue) number ≡ Some v → IsForbidLine catalogue v None
IsForbidLineOf catalogue number (Some line) = (v : Version) × (slice_get (listed catalogue) number ≡ Some v) × IsForbidLine catalogue v (Some line)
