-- Which entries and left-out wishes of an `install` report fit after those before them.
use Rattle.std.specs.Prelude.{ℕ, Bool, true, false, not, ◌&&◌, nat_lt, if◌then◌else◌, List, [], ◌∷◌, Option, Some}
use Rattle.std.specs.List.{list_any, list_all, flat_map}
use Rattle.resolvo_text.specs.Line.{Version, Line, Needs, Wish}
use Rattle.resolvo_text.specs.Matches.{Set, same_package, same_version, is_member, matches, condition_holds}
use Rattle.resolvo_catalogue_core.specs.Grammar.{line_at}
use Rattle.resolvo_catalogue_core.specs.Sets.{is_many}
use Rattle.resolvo_report.specs.Value.{Place, OfRequest, OfVersion, AnswerLine, Entry, Wished, LeftOut}
use Rattle.resolvo_checker.specs.StepClauses.{is_listed, line_of}

-- ---- the contents of the lines so far

abbrev pub entry_of : AnswerLine → List Version
entry_of (Entry v place n) = v ∷ []
entry_of (Wished v n) = v ∷ []
entry_of (LeftOut v n step) = []

-- the entries, in order
abbrev pub entries_of : List AnswerLine → Set
entries_of lines = flat_map entry_of lines

abbrev pub left_out_of : AnswerLine → List Version
left_out_of (Entry v place n) = []
left_out_of (Wished v n) = []
left_out_of (LeftOut v n step) = v ∷ []

-- the wishes that are left out, in order
abbrev pub left_out : List AnswerLine → Set
left_out lines = flat_map left_out_of lines

abbrev pub wish_line_of : AnswerLine → List ℕ
wish_line_of (Entry v place n) = []
wish_line_of (Wished v n) = n ∷ []
wish_line_of (LeftOut v n step) = n ∷ []

-- the request lines that `wished` and `left out` lines name, in order
abbrev pub wish_lines : List AnswerLine → List ℕ
wish_lines lines = flat_map wish_line_of lines

-- ---- one more line

-- The version is no entry. Nor is another version of its package, unless that is marked `many`.
abbrev pub is_free : List Line → Set → Version → Bool
is_free catalogue entries v = if is_many catalogue v.name then not (is_member v entries) else not (list_any (same_package v) entries)

-- The version is listed and free, and it isn't left out.
abbrev pub may_enter : List Line → List AnswerLine → Version → Bool
may_enter catalogue before v = is_listed catalogue v && (is_free catalogue (entries_of before) v && not (is_member v (left_out before)))

-- the request, or an entry
abbrev pub is_place_taken : Place → Set → Bool
is_place_taken OfRequest entries = true
is_place_taken (OfVersion w) entries = is_member w entries

-- The line, if it is a `needs` line, has an alternative that the version matches, and its condition holds among the entries.
abbrev pub gives : Option Line → Set → Version → Bool
gives (Some (Needs alternatives condition)) entries v = list_any (λ s. matches s v) alternatives && condition_holds condition entries
gives line entries v = false

abbrev pub is_reason : List Line → List Line → Set → Place → ℕ → Version → Bool
is_reason catalogue request entries place n v = is_place_taken place entries && gives (line_of catalogue request place n) entries v

abbrev pub wishes : Option Line → Version → Bool
wishes (Some (Wish w)) v = same_version v w
wishes line v = false

-- Line n of the request wishes the version, and no earlier line named a wish of this line or of one below it.
abbrev pub is_wish : List Line → List AnswerLine → ℕ → Version → Bool
is_wish request before n v = wishes (line_at request n) v && list_all (λ m. nat_lt m n) (wish_lines before)

-- The line fits after those before it.
abbrev pub answer_fits : List Line → List Line → List AnswerLine → AnswerLine → Bool
answer_fits catalogue request before (Entry v place n) = may_enter catalogue before v && is_reason catalogue request (entries_of before) place n v
answer_fits catalogue request before (Wished v n) = may_enter catalogue before v && is_wish request before n v
answer_fits catalogue request before (LeftOut v n step) = is_wish request before n v && not (is_member v (entries_of before))
