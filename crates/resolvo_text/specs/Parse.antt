-- Reading a line from left to right.
use Rattle.std.specs.Prelude.{◌≡◌, ℕ, ◌+◌, ◌^◌, ◌<◌, slice_index_or, take, drop, zero, suc, length, Bool, true, false, ◌&&◌, ◌==◌, nat_lt, if◌then◌else◌, ⊤, List, [], ◌∷◌, Option, Some, None, option_and_then, Result, Ok, Err, codes}
use Rattle.std.specs.Fmt.{decimal}
use Rattle.std.specs.Str.{bytes_eq}
use Rattle.std.specs.Str.Parse.{digits_value}
use Rattle.std.specs.List.{position, slice_split}
use Rattle.resolvo_text.specs.declared.spec.Span.{Span}
use Rattle.resolvo_text.specs.declared.spec.Span.TheVariants.{Any, One, Range}
use Rattle.resolvo_text.specs.declared.line.LineFault.{LineFault}
use Rattle.resolvo_text.specs.declared.line.LineFault.TheVariants.{Fault, Memory}
use Rattle.resolvo_text.specs.Line.{Version, Spec, Cond, Is, And, Or, Line, Skipped, Listed, Needs, Limits, Unknown, Lock, Favour, Exclude, Many, Wish}
use Rattle.resolvo_text.specs.declared.condition.Joint.{Joint}
use Rattle.resolvo_text.specs.declared.condition.Joint.TheVariants as joint
use Rattle.resolvo_text.specs.Spelling.{Words, is_name}

infixl 10 ◌>>=◌
abbrev pub ◌>>=◌ : {A B : Type 0} → Option A → (A → Option B) → Option B
o >>= f = option_and_then f o

-- The view of a function's result is the parsed value, unless memory ran out.
abbrev pub Fails : {Y : Type 0} → LineFault → Option Y → Type 0
Fails Fault read = read ≡ None
Fails Memory read = ⊤

abbrev pub Gives : {X Y : Type 0} → (X → Y) → Result X LineFault → Option Y → Type 0
Gives view (Ok x) read = read ≡ Some (view x)
Gives view (Err e) read = Fails e read

-- the number of which the word is the spelling
unfoldable pub number_in : List ℕ → Option ℕ
number_in word = if bytes_eq word (decimal (digits_value 10 word)) && nat_lt (digits_value 10 word) (2 ^ 32) then Some (digits_value 10 word) else None

abbrev pub is_dot : ℕ → Bool
is_dot b = b == 46

unfoldable pub number_after_dot : List ℕ → Option ℕ
number_after_dot [] = None
number_after_dot (b ∷ bs) = if is_dot b then number_in bs else None

unfoldable pub range_in : List ℕ → Option Span
range_in word = do
  dot ← position is_dot word
  low ← number_in (take dot word)
  high ← number_after_dot (drop (dot + 1) word)
  if nat_lt low high then Some (Range low high) else None

abbrev pub span_or_range : Option ℕ → List ℕ → Option Span
span_or_range (Some n) word = Some (One n)
span_or_range None word = range_in word

unfoldable pub span_in : List ℕ → Option Span
span_in word = span_or_range (number_in word) word

unfoldable pub name_in : List ℕ → Option (List ℕ)
name_in word = if is_name word then Some word else None

-- ---- one part of a line after the other, each with the words after it

abbrev pub is_space : ℕ → Bool
is_space b = b == 32

-- No space is before a place.
abbrev pub NoSpaceBefore : List ℕ → ℕ → Type 0
NoSpaceBefore text n = (k : ℕ) → k < n → is_space (slice_index_or text k 0) ≡ false

-- the words of the rest of a line, each of which follows a space
abbrev pub words_in : List ℕ → Words
words_in [] = []
words_in (b ∷ bs) = slice_split is_space bs

abbrev pub word_at : Words → Option (List ℕ × Words)
word_at [] = None
word_at (word ∷ words) = Some (word, words)

abbrev pub end_at : Words → Option (Unit {0})
end_at [] = Some tt
end_at (word ∷ words) = None

-- the part, if no words are left
abbrev pub whole_of : {X : Type 0} → X × Words → Option X
whole_of x = end_at x.1 >>= λ _. Some x.0

-- the number that is the only word
unfoldable pub last_number : Words → Option ℕ
last_number words = do
  first ← word_at words
  n ← number_in first.0
  end ← end_at first.1
  Some n

unfoldable pub version_at : Words → Option (Version × Words)
version_at words = do
  first ← word_at words
  name ← name_in first.0
  second ← word_at first.1
  n ← number_in second.0
  Some (record { name = name; number = n }, second.1)

unfoldable pub reason_at : Words → Option (List ℕ × Words)
reason_at words = do
  first ← word_at words
  reason ← name_in first.0
  Some (reason, first.1)

abbrev pub with_span : Option Span → Words → Words → Span × Words
with_span None words after = (Any, words)
with_span (Some span) words after = (span, after)

-- a span, where the next word is one
unfoldable pub span_at : Words → Span × Words
span_at [] = (Any, [])
span_at (word ∷ words) = with_span (span_in word) (word ∷ words) words

unfoldable pub spec_at : Words → Option (Spec × Words)
spec_at words = do
  first ← word_at words
  name ← name_in first.0
  Some (record { name = name; span = (span_at first.1).0 }, (span_at first.1).1)

-- whether this is the next word, and the words after it
unfoldable pub skip : List ℕ → Words → Bool × Words
skip k [] = (false, [])
skip k (word ∷ words) = if bytes_eq word k then (true, words) else (false, word ∷ words)

abbrev pub with_first : Spec → Option (List Spec × Words) → Option (List Spec × Words)
with_first s others = others >>= λ x. Some (s ∷ x.0, x.1)

-- at most so many alternatives
unfoldable pub alternatives_at : ℕ → Words → Option (List Spec × Words)
alternatives_at zero words = None
alternatives_at (suc n) words = spec_at words >>= λ first.
    if (skip (codes "|") first.1).0 then with_first first.0 (alternatives_at n (skip (codes "|") first.1).1) else Some (first.0 ∷ [], (skip (codes "|") first.1).1)

-- ---- conditions

-- a part of a condition, how many SPECs may still follow, and the words after it
abbrev pub Part : Type 0
Part = Cond × ℕ × Words

-- It reads a part that has at most so many SPECs.
abbrev pub PartReader : Type 0
PartReader = ℕ → Words → Option Part

abbrev pub word_of : Joint → List ℕ
word_of joint.And = codes "and"
word_of joint.Or = codes "or"

abbrev pub join : Joint → Cond → Cond → Cond
join joint.And left right = And left right
join joint.Or left right = Or left right

-- joined to the parts before it
abbrev pub joined : Joint → Option Cond → Cond → Cond
joined j None right = right
joined j (Some left) right = join j left right

unfoldable pub lone_at : PartReader
lone_at zero words = None
lone_at (suc room) words = spec_at words >>= λ x. Some (Is x.0, room, x.1)

-- the part, if a parenthesis closes it
abbrev pub closed : Part → Option Part
closed x = if (skip (codes ")") x.2).0 then Some (x.0, x.1, (skip (codes ")") x.2).1) else None

-- a SPEC, or parentheses round a part of `group`
unfoldable pub atom_with : PartReader → PartReader
atom_with group room words = if (skip (codes "(") words).0 then (group room (skip (codes "(") words).1 >>= λ x. closed x) else lone_at room words

-- at most so many parts, joined from the left
unfoldable pub parts_at : Joint → PartReader → ℕ → Option Cond → PartReader
parts_at j part zero before room words = None
parts_at j part (suc n) before room words = part room words >>= λ x.
    if (skip (word_of j) x.2).0 then parts_at j part n (Some (joined j before x.0)) x.1 (skip (word_of j) x.2).1 else Some (joined j before x.0, x.1, (skip (word_of j) x.2).1)

-- each part has a SPEC, so there are no more parts than SPECs
unfoldable pub parts_with : Joint → PartReader → PartReader
parts_with j part room words = parts_at j part room None room words

-- the inside of parentheses that are at most so deep
unfoldable pub group_at : ℕ → PartReader
group_at zero room words = None
group_at (suc depth) room words = parts_with joint.Or (parts_with joint.And (atom_with (group_at depth))) room words

unfoldable pub atom_at : ℕ → PartReader
atom_at depth room words = atom_with (group_at depth) room words

-- the parts that are joined so
unfoldable pub part_at : Joint → ℕ → PartReader
part_at joint.And depth room words = atom_at depth room words
part_at joint.Or depth room words = parts_with joint.And (atom_at depth) room words

unfoldable pub joined_at : Joint → ℕ → PartReader
joined_at j depth room words = parts_with j (part_at j depth) room words

abbrev pub most_specs : ℕ
most_specs = 16

abbrev pub deepest : ℕ
deepest = 16

-- the condition behind `if`
unfoldable pub behind_if : Words → Option Cond
behind_if words = joined_at joint.Or deepest most_specs words >>= λ x. end_at x.2 >>= λ _. Some x.0

-- the words after the alternatives: none, or a condition
unfoldable pub condition_in : Words → Option (Option Cond)
condition_in words = if (skip (codes "if") words).0 then (behind_if (skip (codes "if") words).1 >>= λ c. Some (Some c)) else (end_at words >>= λ _. Some None)

-- ---- lines

unfoldable pub version_in : Words → Option Version
version_in words = version_at words >>= λ x. whole_of x

unfoldable pub reason_in : Words → Option (List ℕ)
reason_in words = reason_at words >>= λ x. whole_of x

unfoldable pub spec_in : Words → Option Spec
spec_in words = spec_at words >>= λ x. whole_of x

unfoldable pub needs_in : Words → Option Line
needs_in words = alternatives_at (length words) words >>= λ x. condition_in x.1 >>= λ c. Some (Needs x.0 c)

-- the line of this keyword and the words after it
unfoldable pub line_by : List ℕ → Words → Option Line
line_by keyword words =
    if bytes_eq keyword (codes "version") then (version_in words >>= λ v. Some (Listed v))
    else if bytes_eq keyword (codes "needs") then needs_in words
    else if bytes_eq keyword (codes "limits") then (spec_in words >>= λ s. Some (Limits s))
    else if bytes_eq keyword (codes "unknown") then (reason_in words >>= λ reason. Some (Unknown reason))
    else if bytes_eq keyword (codes "lock") then (version_in words >>= λ v. Some (Lock v))
    else if bytes_eq keyword (codes "favour") then (version_in words >>= λ v. Some (Favour v))
    else if bytes_eq keyword (codes "exclude") then (version_at words >>= λ v. reason_in v.1 >>= λ reason. Some (Exclude v.0 reason))
    else if bytes_eq keyword (codes "many") then (reason_in words >>= λ name. Some (Many name))
    else if bytes_eq keyword (codes "wish") then (version_in words >>= λ v. Some (Wish v))
    else None

abbrev pub is_skipped : List ℕ → Bool
is_skipped [] = true
is_skipped (b ∷ bs) = b == 35

unfoldable pub line_in : List ℕ → Option Line
line_in text = if is_skipped text then Some Skipped else (word_at (slice_split is_space text) >>= λ x. line_by x.0 x.1)
