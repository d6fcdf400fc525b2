-- Reading a line of a report from left to right.
use Rattle.std.specs.Prelude.{ℕ, ◌+◌, take, drop, length, Bool, true, false, ◌==◌, nat_lt, if◌then◌else◌, List, [], ◌∷◌, Option, Some, None, map, codes}
use Rattle.std.specs.List.{position, slice_split, join_with_byte}
use Rattle.std.specs.Str.{bytes_eq}
use Rattle.resolvo_text.specs.Line.{Version, Spec}
use Rattle.resolvo_text.specs.Spelling.{Words}
use Rattle.resolvo_text.specs.Parse.{◌>>=◌, words_in, word_at, end_at, name_in, number_in, reason_at, spec_at, skip, alternatives_at, is_space}
use Rattle.resolvo_report.specs.Value.{Place, OfRequest, OfVersion, Atom, Chosen, AnyOf, SharedBy, OutsideOf, MatchesOf, BitOf, Literal, Step, Need, Gate, Shared, LimitBars, Limit, Outside, Matches, Lock, Exclude, Unknown, Digit, Any, Derive, Entry, Wished, LeftOut, ReportLine, InstallHead, RefusedHead, Answer, CatalogueLine, RequestLine, Numbered, Message}
pub use Rattle.resolvo_literal_order.specs.Order.{atom_part, are_in_order}

-- a part of a line, and the words after it
abbrev pub Reader : Type 0 → Type 0
Reader X = Words → Option (X × Words)

-- one part and the next
abbrev pub pair_at : {A B : Type 0} → Reader A → Reader B → Reader (A × B)
pair_at a b words = a words >>= λ x. b x.1 >>= λ y. Some ((x.0, y.0), y.1)

-- the words behind this one
unfoldable pub behind : List ℕ → Words → Option Words
behind k words = if (skip k words).0 then Some (skip k words).1 else None

-- the part behind this word
abbrev pub behind_at : {A : Type 0} → List ℕ → Reader A → Reader A
behind_at k read words = behind k words >>= λ ws. read ws

-- the value of the words, if they are this part and no more
abbrev pub whole : {A B : Type 0} → Reader A → (A → B) → Words → Option B
whole read f words = read words >>= λ x. end_at x.1 >>= λ _. Some (f x.0)

-- ---- parts

abbrev pub is_equals : ℕ → Bool
is_equals b = b == 61

unfoldable pub version_in : List ℕ → Option Version
version_in word = do
  at ← position is_equals word
  name ← name_in (take at word)
  n ← number_in (drop (at + 1) word)
  Some (record { name = name; number = n })

unfoldable pub version_at : Reader Version
version_at words = word_at words >>= λ x. version_in x.0 >>= λ v. Some (v, x.1)

unfoldable pub place_at : Reader Place
place_at words = if (skip (codes "request") words).0 then Some (OfRequest, (skip (codes "request") words).1) else (version_at words >>= λ x. Some (OfVersion x.0, x.1))

unfoldable pub number_at : Reader ℕ
number_at words = word_at words >>= λ x. number_in x.0 >>= λ n. Some (n, x.1)

unfoldable pub line_number_at : Reader ℕ
line_number_at words = number_at words >>= λ x. if x.0 == 0 then None else Some x

unfoldable pub bit_at : Reader ℕ
bit_at words = number_at words >>= λ x. if nat_lt x.0 32 then Some x else None

-- `line` and a line's number
unfoldable pub line_at : Reader ℕ
line_at words = behind_at (codes "line") line_number_at words

unfoldable pub specs_at : Reader (List Spec)
specs_at words = alternatives_at (length words) words

-- ---- literals

unfoldable pub any_atom_in : Words → Option Atom
any_atom_in words = whole reason_at (λ name. AnyOf name) words

unfoldable pub shared_atom_in : Words → Option Atom
shared_atom_in words = whole specs_at (λ ss. SharedBy ss) words

unfoldable pub outside_atom_in : Words → Option Atom
outside_atom_in words = whole spec_at (λ s. OutsideOf s) words

unfoldable pub matches_atom_in : Words → Option Atom
matches_atom_in words = whole spec_at (λ s. MatchesOf s) words

unfoldable pub bit_atom_in : Words → Option Atom
bit_atom_in words = whole (pair_at bit_at (behind_at (codes "of") reason_at)) (λ x. BitOf x.0 x.1) words

-- the atom of this first word and the words after it
unfoldable pub atom_by : List ℕ → Words → Option Atom
atom_by k words =
    if bytes_eq k (codes "any") then any_atom_in words
    else if bytes_eq k (codes "shared") then shared_atom_in words
    else if bytes_eq k (codes "outside") then outside_atom_in words
    else if bytes_eq k (codes "matches") then matches_atom_in words
    else if bytes_eq k (codes "bit") then bit_atom_in words
    else (version_in k >>= λ v. end_at words >>= λ _. Some (Chosen v))

unfoldable pub atom_in : Words → Option Atom
atom_in words = word_at words >>= λ x. atom_by x.0 x.1

abbrev pub signed_atom : Bool → Option Atom → Option Literal
signed_atom positive read = read >>= λ a. Some (record { atom = a; positive = positive })

unfoldable pub literal_in : Words → Option Literal
literal_in words = if (skip (codes "not") words).0 then signed_atom false (atom_in (skip (codes "not") words).1) else signed_atom true (atom_in words)

-- the literal behind this sign
unfoldable pub literal_behind : ℕ → List ℕ → Option Literal
literal_behind sign [] = None
literal_behind sign (b ∷ bs) = if b == sign then literal_in (words_in (b ∷ bs)) else None

-- the literals of these pieces, the first behind this sign and the others behind a space
abbrev pub literals_behind : ℕ → List (List ℕ) → Option (List Literal)
literals_behind sign [] = Some []
literals_behind sign (p ∷ ps) = literal_behind sign p >>= λ l. literals_behind 32 ps >>= λ ls. Some (l ∷ ls)

-- the text behind the sign
abbrev pub text_behind : List ℕ → List ℕ
text_behind piece = drop 1 piece

abbrev pub is_semicolon : ℕ → Bool
is_semicolon b = b == 59

unfoldable pub pieces_in : List (List ℕ) → Option (List Literal)
pieces_in pieces = literals_behind 91 pieces >>= λ ls. if are_in_order (map text_behind pieces) then Some ls else None

-- the literals of a clause, without its closing bracket
unfoldable pub literals_in : List ℕ → Option (List Literal)
literals_in text = if bytes_eq text (codes "[") then Some [] else pieces_in (slice_split is_semicolon text)

-- ---- steps

abbrev pub numbers_in : Words → Option (List ℕ)
numbers_in [] = Some []
numbers_in (w ∷ ws) = number_in w >>= λ n. numbers_in ws >>= λ ns. Some (n ∷ ns)

abbrev pub some_of : List ℕ → Option (List ℕ)
some_of [] = None
some_of (n ∷ ns) = Some (n ∷ ns)

unfoldable pub causes_in : Words → Option (List ℕ)
causes_in words = behind (codes "by") words >>= λ ws. numbers_in ws >>= λ ns. some_of ns

-- the same, of a text behind a space
unfoldable pub causes_behind : List ℕ → Option (List ℕ)
causes_behind [] = None
causes_behind (b ∷ bs) = if is_space b then causes_in (words_in (b ∷ bs)) else None

abbrev pub is_close : ℕ → Bool
is_close b = b == 93

unfoldable pub derived_in : List ℕ → Option Step
derived_in text = do
  at ← position is_close text
  literals ← literals_in (take at text)
  causes ← causes_behind (drop (at + 1) text)
  Some (Derive literals causes)

unfoldable pub limit_in : Words → Option Step
limit_in words = place_at words >>= λ p. line_at p.1 >>= λ n.
    if (skip (codes "bars") n.1).0 then whole version_at (λ v. LimitBars p.0 n.0 v) (skip (codes "bars") n.1).1 else (end_at n.1 >>= λ _. Some (Limit p.0 n.0))

unfoldable pub need_in : Words → Option Step
need_in words = whole (pair_at place_at (pair_at line_at (behind_at (codes "case") number_at))) (λ x. Need x.0 x.1.0 x.1.1) words

unfoldable pub gate_in : Words → Option Step
gate_in words = whole (pair_at version_at line_at) (λ x. Gate x.0 x.1) words

unfoldable pub shared_in : Words → Option Step
shared_in words = whole specs_at (λ ss. Shared ss) words

unfoldable pub outside_in : Words → Option Step
outside_in words = whole (pair_at spec_at (behind_at (codes "holds") version_at)) (λ x. Outside x.0 x.1) words

unfoldable pub matches_in : Words → Option Step
matches_in words = whole (pair_at spec_at (behind_at (codes "holds") version_at)) (λ x. Matches x.0 x.1) words

unfoldable pub lock_in : Words → Option Step
lock_in words = whole (pair_at line_at (behind_at (codes "bars") version_at)) (λ x. Lock x.0 x.1) words

unfoldable pub line_in : Words → Option ℕ
line_in words = whole line_at (λ n. n) words

unfoldable pub digit_in : Words → Option Step
digit_in words = whole (pair_at version_at (pair_at (behind_at (codes "place") number_at) (behind_at (codes "bit") bit_at))) (λ x. Digit x.0 x.1.0 x.1.1) words

unfoldable pub any_in : Words → Option Step
any_in words = whole version_at (λ v. Any v) words

-- the step of this keyword and the words after it, if it defines an atom
unfoldable pub definition_by : List ℕ → Words → Option Step
definition_by k words =
    if bytes_eq k (codes "shared") then shared_in words
    else if bytes_eq k (codes "outside") then outside_in words
    else if bytes_eq k (codes "matches") then matches_in words
    else if bytes_eq k (codes "digit") then digit_in words
    else if bytes_eq k (codes "any") then any_in words
    else None

-- the step of this keyword and the words after it: a line's rule, a derived clause, or a definition
unfoldable pub step_by : List ℕ → Words → Option Step
step_by k words =
    if bytes_eq k (codes "need") then need_in words
    else if bytes_eq k (codes "gate") then gate_in words
    else if bytes_eq k (codes "limit") then limit_in words
    else if bytes_eq k (codes "lock") then lock_in words
    else if bytes_eq k (codes "exclude") then (line_in words >>= λ n. Some (Exclude n))
    else if bytes_eq k (codes "unknown") then (line_in words >>= λ n. Some (Unknown n))
    else if bytes_eq k (codes "derive") then derived_in (join_with_byte 32 words)
    else definition_by k words

-- ---- lines

unfoldable pub left_out_in : Words → Option ReportLine
left_out_in words = whole (pair_at (behind_at (codes "out") version_at) (pair_at line_at (behind_at (codes "by") line_number_at))) (λ x. Answer (LeftOut x.0 x.1.0 x.1.1)) words

unfoldable pub numbered_in : Words → Option ReportLine
numbered_in words = number_at words >>= λ n. word_at n.1 >>= λ k. step_by k.0 k.1 >>= λ s. Some (Numbered n.0 s)

unfoldable pub entry_in : Version → Words → Option ReportLine
entry_in v words =
    if (skip (codes "for") words).0 then whole (pair_at place_at line_at) (λ x. Answer (Entry v x.0 x.1)) (skip (codes "for") words).1
    else (behind (codes "wished") words >>= λ ws. line_in ws >>= λ n. Some (Answer (Wished v n)))

unfoldable pub line_by : List ℕ → Words → Option ReportLine
line_by k words =
    if bytes_eq k (codes "step") then numbered_in words
    else if bytes_eq k (codes "install") then (end_at words >>= λ _. Some InstallHead)
    else if bytes_eq k (codes "refused") then (end_at words >>= λ _. Some RefusedHead)
    else if bytes_eq k (codes "left") then left_out_in words
    else if bytes_eq k (codes "catalogue") then (line_in words >>= λ n. Some (CatalogueLine n))
    else if bytes_eq k (codes "request") then (line_in words >>= λ n. Some (RequestLine n))
    else (version_in k >>= λ v. entry_in v words)

abbrev pub is_message : List ℕ → Bool
is_message text = bytes_eq (take 2 text) (codes "| ")

unfoldable pub line_read : List ℕ → Option ReportLine
line_read text = if is_message text then Some (Message (drop 2 text)) else (word_at (slice_split is_space text) >>= λ x. line_by x.0 x.1)
