-- How a line is spelled, and which lines have a spelling.
use Rattle.std.specs.Prelude.{◌≡◌, ℕ, ◌+◌, ◌^◌, ◌<◌, ◌≤◌, ◌⊎◌, max, Bool, false, not, ◌&&◌, ◌||◌, ◌==◌, IsTrue, ⊤, List, [], ◌∷◌, ◌++◌, length, Some, None, codes, slice_get}
use Rattle.std.specs.Fmt.{decimal}
use Rattle.std.specs.Char.{is_ascii_alphanumeric}
use Rattle.std.specs.List.{join_with_byte, list_all, AllByRecursion}
use Rattle.std.specs.Str.{bytes_eq}
use Rattle.resolvo_text.specs.declared.spec.Span.{Span}
use Rattle.resolvo_text.specs.declared.spec.Span.TheVariants.{Any, One, Range}
use Rattle.resolvo_text.specs.Line.{Version, Spec, Cond, Is, And, Or, Line, Skipped, Listed, Needs, Limits, Unknown, Lock, Favour, Exclude, Many, Wish}

-- ---- names

-- a letter, a digit or `_`
abbrev pub starts_name : ℕ → Bool
starts_name b = is_ascii_alphanumeric b || b == 95

-- one of these, or `-` or `.`
abbrev pub continues_name : ℕ → Bool
continues_name b = starts_name b || b == 45 || b == 46

abbrev pub is_reserved : List ℕ → Bool
is_reserved word = bytes_eq word (codes "if") || bytes_eq word (codes "and") || bytes_eq word (codes "or")

abbrev pub is_word : List ℕ → Bool
is_word [] = false
is_word (b ∷ bs) = starts_name b && list_all continues_name bs

-- a package's name, or a word of reason
abbrev pub is_name : List ℕ → Bool
is_name word = is_word word && not (is_reserved word)

-- ---- the words of a line

abbrev pub Words : Type 0
Words = List (List ℕ)

abbrev pub version_words : Version → Words
version_words v = v.name ∷ decimal v.number ∷ []

abbrev pub span_words : Span → Words
span_words Any = []
span_words (One n) = decimal n ∷ []
span_words (Range low high) = (decimal low ++ (codes ".." ++ decimal high)) ∷ []

abbrev pub spec_words : Spec → Words
spec_words s = s.name ∷ span_words s.span

abbrev pub alternatives_words : List Spec → Words
alternatives_words [] = []
alternatives_words (s ∷ []) = spec_words s
alternatives_words (s ∷ t ∷ ts) = spec_words s ++ codes "|" ∷ alternatives_words (t ∷ ts)

-- A condition as it is written: a SPEC, a pair of parentheses, or two that are joined by `and` or by `or`.
pub data Written : Type 0 where
  Lone : Spec → Written
  Group : Written → Written
  Both : Written → Written → Written
  Either : Written → Written → Written

-- its value: parentheses only group
abbrev pub meant : Written → Cond
meant (Lone s) = Is s
meant (Group w) = meant w
meant (Both v w) = And (meant v) (meant w)
meant (Either v w) = Or (meant v) (meant w)

abbrev pub written_words : Written → Words
written_words (Lone s) = spec_words s
written_words (Group w) = codes "(" ∷ (written_words w ++ codes ")" ∷ [])
written_words (Both v w) = written_words v ++ codes "and" ∷ written_words w
written_words (Either v w) = written_words v ++ codes "or" ∷ written_words w

-- empty, or a comment, which begins with `#` and may hold any bytes
abbrev pub IsSkipped : List ℕ → Type 0
IsSkipped text = (text ≡ []) ⊎ (slice_get text 0 ≡ Some 35)

-- ---- which parts have a spelling

abbrev pub IsNumber : ℕ → Type 0
IsNumber n = n < 2 ^ 32

pub record IsVersion (v : Version) : Type 0 where
  pub name : IsTrue (is_name v.name)
  pub number : IsNumber v.number

abbrev pub IsSpan : Span → Type 0
IsSpan Any = ⊤
IsSpan (One n) = IsNumber n
IsSpan (Range low high) = (low < high) × IsNumber high

pub record IsSpec (s : Spec) : Type 0 where
  pub name : IsTrue (is_name s.name)
  pub span : IsSpan s.span

-- ---- which conditions have a spelling

-- how loosely a condition binds: parentheses and a SPEC, `and`, `or`
abbrev pub looseness : Written → ℕ
looseness (Lone s) = 0
looseness (Group w) = 0
looseness (Both v w) = 1
looseness (Either v w) = 2

-- Both operators join from the left, and `and` binds tighter.
abbrev pub IsWritten : Written → Type 0
IsWritten (Lone s) = IsSpec s
IsWritten (Group w) = IsWritten w
IsWritten (Both v w) = IsWritten v × IsWritten w × (looseness v ≤ 1) × (looseness w ≤ 0)
IsWritten (Either v w) = IsWritten v × IsWritten w × (looseness w ≤ 1)

-- how deep parentheses are nested
abbrev pub depth_of : Written → ℕ
depth_of (Lone s) = 0
depth_of (Group w) = depth_of w + 1
depth_of (Both v w) = max (depth_of v) (depth_of w)
depth_of (Either v w) = max (depth_of v) (depth_of w)

abbrev pub spec_count : Written → ℕ
spec_count (Lone s) = 1
spec_count (Group w) = spec_count w
spec_count (Both v w) = spec_count v + spec_count w
spec_count (Either v w) = spec_count v + spec_count w

pub record IsCondition (w : Written) : Type 0 where
  pub form : IsWritten w
  pub specs : spec_count w ≤ 16
  pub depth : depth_of w ≤ 16

-- ---- the text of a line

-- The words of a condition, where parentheses may only group.
pub record AreWordsOfCondition (words : Words) (c : Cond) : Type 0 where
  pub written : Written
  pub form : IsCondition written
  pub means : meant written ≡ c
  pub spelled : words ≡ written_words written

abbrev pub needs_words : List Spec → Words
needs_words alternatives = codes "needs" ∷ alternatives_words alternatives

-- The words spell the line.
abbrev pub AreWordsOf : Words → Line → Type 0
AreWordsOf words Skipped = ⊥
AreWordsOf words (Listed v) = words ≡ codes "version" ∷ version_words v
AreWordsOf words (Needs alternatives None) = words ≡ needs_words alternatives
AreWordsOf words (Needs alternatives (Some c)) = (others : Words) × (words ≡ needs_words alternatives ++ codes "if" ∷ others) × AreWordsOfCondition others c
AreWordsOf words (Limits s) = words ≡ codes "limits" ∷ spec_words s
AreWordsOf words (Unknown reason) = words ≡ codes "unknown" ∷ reason ∷ []
AreWordsOf words (Lock v) = words ≡ codes "lock" ∷ version_words v
AreWordsOf words (Favour v) = words ≡ codes "favour" ∷ version_words v
AreWordsOf words (Exclude v reason) = words ≡ codes "exclude" ∷ (version_words v ++ reason ∷ [])
AreWordsOf words (Many name) = words ≡ codes "many" ∷ name ∷ []
AreWordsOf words (Wish v) = words ≡ codes "wish" ∷ version_words v

-- The text is skipped, or the words of the line, separated by one space each.
abbrev pub Spells : List ℕ → Line → Type 0
Spells text Skipped = IsSkipped text
Spells text line = (words : Words) × (text ≡ join_with_byte 32 words) × AreWordsOf words line

-- ---- which lines have a spelling

abbrev pub HasForm : Line → Type 0
HasForm Skipped = ⊤
HasForm (Listed v) = IsVersion v
HasForm (Needs alternatives condition) = (0 < length alternatives) × AllByRecursion IsSpec alternatives
HasForm (Limits s) = IsSpec s
HasForm (Unknown reason) = IsTrue (is_name reason)
HasForm (Lock v) = IsVersion v
HasForm (Favour v) = IsVersion v
HasForm (Exclude v reason) = IsVersion v × IsTrue (is_name reason)
HasForm (Many name) = IsTrue (is_name name)
HasForm (Wish v) = IsVersion v

-- The text spells the line.
pub record SpellsLine (text : List ℕ) (line : Line) : Type 0 where
  pub spelled : Spells text line
  pub form : HasForm line
