-- The one text of a report and of each of its lines, and which values have one.
use Rattle.std.specs.Prelude.{ℕ, ◌+◌, ◌<◌, ◌≤◌, Bool, true, false, not, IsTrue, ⊤, List, [], ◌∷◌, ◌++◌, length, map, codes}
use Rattle.std.specs.List.{AllByRecursion, join_with_byte, flat_map, list_all}
use Rattle.std.specs.Fmt.{decimal}
use Rattle.resolvo_text.specs.Line.{Version, Spec}
use Rattle.resolvo_text.specs.Lines.{is_newline}
use Rattle.resolvo_text.specs.Spelling.{Words, is_name, spec_words, alternatives_words, IsNumber, IsVersion, IsSpec}
pub use Rattle.resolvo_literal_order.specs.Order.{is_before, are_rising, are_once}
use Rattle.resolvo_report.specs.Value.{Place, OfRequest, OfVersion, Atom, Chosen, AnyOf, SharedBy, OutsideOf, MatchesOf, BitOf, Literal, Step, Need, Gate, Shared, LimitBars, Limit, Outside, Matches, Lock, Exclude, Unknown, Digit, Any, Derive, AnswerLine, Entry, Wished, LeftOut, Report, Install, Refused, ReportLine, InstallHead, RefusedHead, Answer, CatalogueLine, RequestLine, Numbered, Message}

-- ---- places, atoms, literals

-- a version is one word in a report
abbrev pub version_text : Version → List ℕ
version_text v = v.name ++ codes "=" ++ decimal v.number

abbrev pub place_text : Place → List ℕ
place_text OfRequest = codes "request"
place_text (OfVersion v) = version_text v

abbrev pub atom_words : Atom → Words
atom_words (Chosen v) = version_text v ∷ []
atom_words (AnyOf name) = codes "any" ∷ name ∷ []
atom_words (SharedBy alternatives) = codes "shared" ∷ alternatives_words alternatives
atom_words (OutsideOf s) = codes "outside" ∷ spec_words s
atom_words (MatchesOf s) = codes "matches" ∷ spec_words s
atom_words (BitOf bit name) = codes "bit" ∷ decimal bit ∷ codes "of" ∷ name ∷ []

abbrev pub signed : Bool → Words → Words
signed true words = words
signed false words = codes "not" ∷ words

abbrev pub literal_words : Literal → Words
literal_words l = signed l.positive (atom_words l.atom)

-- words are parted by one space each
abbrev pub atom_text : Atom → List ℕ
atom_text a = join_with_byte 32 (atom_words a)

abbrev pub literal_text : Literal → List ℕ
literal_text l = join_with_byte 32 (literal_words l)

-- the literals in brackets, parted by a semicolon and a space
abbrev pub clause_text : List Literal → List ℕ
clause_text [] = codes "[]"
clause_text (l ∷ ls) = codes "[" ++ literal_text l ++ flat_map (λ m. codes "; " ++ literal_text m) ls ++ codes "]"

-- ---- lines

-- A clause is one of the words of its line, whatever spaces it has.
abbrev pub step_words : Step → Words
step_words (Need place line case) = codes "need" ∷ place_text place ∷ codes "line" ∷ decimal line ∷ codes "case" ∷ decimal case ∷ []
step_words (Gate v line) = codes "gate" ∷ version_text v ∷ codes "line" ∷ decimal line ∷ []
step_words (Shared alternatives) = codes "shared" ∷ alternatives_words alternatives
step_words (LimitBars place line v) = codes "limit" ∷ place_text place ∷ codes "line" ∷ decimal line ∷ codes "bars" ∷ version_text v ∷ []
step_words (Limit place line) = codes "limit" ∷ place_text place ∷ codes "line" ∷ decimal line ∷ []
step_words (Outside s v) = codes "outside" ∷ (spec_words s ++ codes "holds" ∷ version_text v ∷ [])
step_words (Matches s v) = codes "matches" ∷ (spec_words s ++ codes "holds" ∷ version_text v ∷ [])
step_words (Lock line v) = codes "lock" ∷ codes "line" ∷ decimal line ∷ codes "bars" ∷ version_text v ∷ []
step_words (Exclude line) = codes "exclude" ∷ codes "line" ∷ decimal line ∷ []
step_words (Unknown line) = codes "unknown" ∷ codes "line" ∷ decimal line ∷ []
step_words (Digit v place bit) = codes "digit" ∷ version_text v ∷ codes "place" ∷ decimal place ∷ codes "bit" ∷ decimal bit ∷ []
step_words (Any v) = codes "any" ∷ version_text v ∷ []
step_words (Derive literals causes) = codes "derive" ∷ clause_text literals ∷ codes "by" ∷ map decimal causes

abbrev pub step_text : Step → List ℕ
step_text s = join_with_byte 32 (step_words s)

abbrev pub answer_words : AnswerLine → Words
answer_words (Entry v place line) = version_text v ∷ codes "for" ∷ place_text place ∷ codes "line" ∷ decimal line ∷ []
answer_words (Wished v line) = version_text v ∷ codes "wished" ∷ codes "line" ∷ decimal line ∷ []
answer_words (LeftOut v line step) = codes "left" ∷ codes "out" ∷ version_text v ∷ codes "line" ∷ decimal line ∷ codes "by" ∷ decimal step ∷ []

-- a line's text, without its newline
abbrev pub line_text : ReportLine → List ℕ
line_text InstallHead = codes "install"
line_text RefusedHead = codes "refused"
line_text (Answer a) = join_with_byte 32 (answer_words a)
line_text (CatalogueLine n) = codes "catalogue line " ++ decimal n
line_text (RequestLine n) = codes "request line " ++ decimal n
line_text (Numbered n s) = codes "step " ++ decimal n ++ codes " " ++ step_text s
line_text (Message bytes) = codes "| " ++ bytes

-- each line with its newline
abbrev pub lines_text : List ReportLine → List ℕ
lines_text lines = flat_map (λ l. line_text l ++ codes "\n") lines

-- ---- which values have a text

-- a line's number is at least 1
abbrev pub IsLineNumber : ℕ → Type 0
IsLineNumber n = (1 ≤ n) × IsNumber n

abbrev pub IsBit : ℕ → Type 0
IsBit n = n < 32

abbrev pub IsPlace : Place → Type 0
IsPlace OfRequest = ⊤
IsPlace (OfVersion v) = IsVersion v

abbrev pub AreAlternatives : List Spec → Type 0
AreAlternatives ss = (0 < length ss) × AllByRecursion IsSpec ss

abbrev pub IsAtom : Atom → Type 0
IsAtom (Chosen v) = IsVersion v
IsAtom (AnyOf name) = IsTrue (is_name name)
IsAtom (SharedBy alternatives) = AreAlternatives alternatives
IsAtom (OutsideOf s) = IsSpec s
IsAtom (MatchesOf s) = IsSpec s
IsAtom (BitOf bit name) = IsBit bit × IsTrue (is_name name)

-- The literals are in byte order of their texts, each atom once.
pub record AreLiterals (ls : List Literal) : Type 0 where
  pub each : AllByRecursion (λ l. IsAtom l.atom) ls
  pub rising : IsTrue (are_rising (map literal_text ls))
  pub once : IsTrue (are_once (map (λ l. atom_text l.atom) ls))

abbrev pub AreNumbers : List ℕ → Type 0
AreNumbers ns = (0 < length ns) × AllByRecursion IsNumber ns

abbrev pub IsStep : Step → Type 0
IsStep (Need place line case) = IsPlace place × IsLineNumber line × IsNumber case
IsStep (Gate v line) = IsVersion v × IsLineNumber line
IsStep (Shared alternatives) = AreAlternatives alternatives
IsStep (LimitBars place line v) = IsPlace place × IsLineNumber line × IsVersion v
IsStep (Limit place line) = IsPlace place × IsLineNumber line
IsStep (Outside s v) = IsSpec s × IsVersion v
IsStep (Matches s v) = IsSpec s × IsVersion v
IsStep (Lock line v) = IsLineNumber line × IsVersion v
IsStep (Exclude line) = IsLineNumber line
IsStep (Unknown line) = IsLineNumber line
IsStep (Digit v place bit) = IsVersion v × IsNumber place × IsBit bit
IsStep (Any v) = IsVersion v
IsStep (Derive literals causes) = AreLiterals literals × AreNumbers causes

abbrev pub IsAnswer : AnswerLine → Type 0
IsAnswer (Entry v place line) = IsVersion v × IsPlace place × IsLineNumber line
IsAnswer (Wished v line) = IsVersion v × IsLineNumber line
IsAnswer (LeftOut v line step) = IsVersion v × IsLineNumber line × IsLineNumber step

-- The line has a text. A message's line holds any bytes but a newline.
abbrev pub HasText : ReportLine → Type 0
HasText InstallHead = ⊤
HasText RefusedHead = ⊤
HasText (Answer a) = IsAnswer a
HasText (CatalogueLine n) = IsLineNumber n
HasText (RequestLine n) = IsLineNumber n
HasText (Numbered n s) = IsNumber n × IsStep s
HasText (Message bytes) = IsTrue (list_all (λ b. not (is_newline b)) bytes)

-- ---- the lines of a report

-- the steps, numbered from n
abbrev pub numbered : ℕ → List Step → List ReportLine
numbered n [] = []
numbered n (s ∷ ss) = Numbered n s ∷ numbered (n + 1) ss

abbrev pub report_lines : Report → List ReportLine
report_lines (Install lines steps) = InstallHead ∷ (map Answer lines ++ numbered 1 steps)
report_lines (Refused catalogue request steps message) = RefusedHead ∷ (map CatalogueLine catalogue ++ map RequestLine request ++ numbered 1 steps ++ map Message message)

abbrev pub report_text : Report → List ℕ
report_text r = lines_text (report_lines r)
