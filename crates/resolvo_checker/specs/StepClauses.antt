-- The clause of each step of a proof, over the lines of a catalogue and a request.
use Rattle.std.specs.Prelude.{ℕ, zero, suc, Bool, true, false, not, ◌&&◌, ◌==◌, nat_lt, if◌then◌else◌, List, [], ◌∷◌, ◌++◌, map, filter, Option, Some, None, slice_get}
use Rattle.std.specs.List.{list_all, flat_map}
use Rattle.std.specs.Option.{option_map, option_map_or}
use Rattle.std.specs.Int.{bit_at}
use Rattle.std.specs.Str.{bytes_eq}
use Rattle.resolvo_text.specs.Line.{Version, Spec, Cond, Line, Needs, Limits, Unknown, Lock, Exclude}
use Rattle.resolvo_text.specs.Matches.{same_package, same_version, is_member, matches}
use Rattle.resolvo_text.specs.Cases.{condition_cases}
use Rattle.resolvo_catalogue_core.specs.Grammar.{line_at, owner_of}
use Rattle.resolvo_catalogue_core.specs.Listed.{listed}
use Rattle.resolvo_catalogue_core.specs.Sets.{is_many}
use Rattle.resolvo_pool_core.specs.OnePass as pass
use Rattle.resolvo_report.specs.Value.{Place, OfRequest, OfVersion, Atom, Chosen, AnyOf, SharedBy, OutsideOf, MatchesOf, BitOf, Literal, Step}
use Rattle.resolvo_report.specs.Value as step

-- a clause: one of its literals is true
abbrev pub Clause : Type 0
Clause = List (pass.Literal Atom)

-- ---- literals

-- v is in the set, or isn't
abbrev pub membership : Version → Bool → pass.Literal Atom
membership v positive = record { atom = Chosen v; positive = positive }

abbrev pub is_in : Version → pass.Literal Atom
is_in v = membership v true

abbrev pub not_in : Version → pass.Literal Atom
not_in v = membership v false

abbrev pub literal : Atom → Bool → pass.Literal Atom
literal a positive = record { atom = a; positive = positive }

-- ---- versions

abbrev pub is_listed : List Line → Version → Bool
is_listed catalogue v = is_member v (listed catalogue)

abbrev pub is_of : List ℕ → Version → Bool
is_of name v = bytes_eq v.name name

-- v is of the SPEC's package and doesn't match
abbrev pub is_outside : Spec → Version → Bool
is_outside s v = is_of s.name v && not (matches s v)

-- another version of its package is locked
abbrev pub is_locked_out : Version → Version → Bool
is_locked_out locked v = same_package v locked && not (v.number == locked.number)

-- each listed version that passes the test, in line order
abbrev pub each_listed : List Line → (Version → Bool) → Clause
each_listed catalogue test = map is_in (filter test (listed catalogue))

-- ---- parts of clauses

-- The request always holds. A version holds where it is in the set.
abbrev pub place_fails : Place → Clause
place_fails OfRequest = []
place_fails (OfVersion v) = not_in v ∷ []

-- A SPEC of a case isn't met: no member matches, where its package is marked `many`. Else none of its package is
-- there, or one that doesn't match.
abbrev pub spec_fails : List Line → Spec → Clause
spec_fails catalogue s = if is_many catalogue s.name then literal (MatchesOf s) false ∷ [] else literal (AnyOf s.name) false ∷ each_listed catalogue (is_outside s)

-- for each SPEC of the case, that it isn't met
abbrev pub case_fails : List Line → List Spec → Clause
case_fails catalogue specs = flat_map (spec_fails catalogue) specs

-- each listed match of each alternative
abbrev pub some_match : List Line → List Spec → Clause
some_match catalogue alternatives = flat_map (λ s. each_listed catalogue (matches s)) alternatives

-- case k of a condition, k from 1
abbrev pub case_at : Option Cond → ℕ → Option (List Spec)
case_at condition zero = None
case_at condition (suc k) = slice_get (condition_cases condition) k

-- ---- the line that a step rests on

abbrev pub is_owner : Version → Option Version → Bool
is_owner v owner = option_map_or (same_version v) owner false

-- line n of the request, or line n of the catalogue where it belongs to the version
abbrev pub line_of : List Line → List Line → Place → ℕ → Option Line
line_of catalogue request OfRequest n = line_at request n
line_of catalogue request (OfVersion v) n = if is_owner v (owner_of catalogue n) then line_at catalogue n else None

-- ---- the clause of each step that takes a rule from a line, or none where the line isn't such a one

abbrev pub need_clause : List Line → Place → ℕ → Option Line → Option Clause
need_clause catalogue place case (Some (Needs alternatives condition)) =
    option_map (λ specs. place_fails place ++ (case_fails catalogue specs ++ some_match catalogue alternatives)) (case_at condition case)
need_clause catalogue place case line = None

abbrev pub gate_clause : Version → Option Line → Option Clause
gate_clause v (Some (Needs alternatives None)) = Some (not_in v ∷ literal (SharedBy alternatives) true ∷ [])
gate_clause v line = None

abbrev pub limit_bars_clause : List Line → Place → Version → Option Line → Option Clause
limit_bars_clause catalogue place v (Some (Limits s)) = if is_listed catalogue v && is_outside s v then Some (place_fails place ++ not_in v ∷ []) else None
limit_bars_clause catalogue place v line = None

abbrev pub limit_clause : Place → Option Line → Option Clause
limit_clause place (Some (Limits s)) = Some (place_fails place ++ literal (OutsideOf s) false ∷ [])
limit_clause place line = None

abbrev pub lock_clause : List Line → Version → Option Line → Option Clause
lock_clause catalogue v (Some (Lock locked)) = if is_listed catalogue v && is_locked_out locked v then Some (not_in v ∷ []) else None
lock_clause catalogue v line = None

abbrev pub exclude_clause : Option Line → Option Clause
exclude_clause (Some (Exclude v reason)) = Some (not_in v ∷ [])
exclude_clause line = None

-- the clause that the owner isn't in the set
abbrev pub unknown_clause : Option Version → Option Line → Option Clause
unknown_clause owner (Some (Unknown reason)) = option_map (λ v. not_in v ∷ []) owner
unknown_clause owner line = None

-- ---- the clauses that define auxiliary atoms

abbrev pub shared_clause : List Line → List Spec → Clause
shared_clause catalogue alternatives = literal (SharedBy alternatives) false ∷ some_match catalogue alternatives

abbrev pub outside_clause : List Line → Spec → Version → Option Clause
outside_clause catalogue s v = if is_listed catalogue v && is_outside s v then Some (not_in v ∷ literal (OutsideOf s) true ∷ []) else None

-- of a version whose package is marked `many`
abbrev pub matches_clause : List Line → Spec → Version → Option Clause
matches_clause catalogue s v = if is_listed catalogue v && (matches s v && is_many catalogue s.name) then Some (not_in v ∷ literal (MatchesOf s) true ∷ []) else None

-- Versions of a package that is marked `many` have no places.
abbrev pub digit_clause : List Line → Version → ℕ → ℕ → Option Clause
digit_clause catalogue v place bit = if is_listed catalogue v && (not (is_many catalogue v.name) && nat_lt bit 32) then Some (not_in v ∷ literal (BitOf bit v.name) (bit_at place bit == 1) ∷ []) else None

abbrev pub any_clause : List Line → Version → Option Clause
any_clause catalogue v = if is_listed catalogue v then Some (not_in v ∷ literal (AnyOf v.name) true ∷ []) else None

-- ---- derived clauses

-- A package that is marked `many` has no bits; `matches` is for such a package.
abbrev pub fits_mark : List Line → Atom → Bool
fits_mark catalogue (MatchesOf s) = is_many catalogue s.name
fits_mark catalogue (BitOf bit name) = not (is_many catalogue name)
fits_mark catalogue a = true

-- A version that is named must be listed, and an atom fits its package's mark.
abbrev pub is_atom : List Line → Atom → Bool
is_atom catalogue (Chosen v) = is_listed catalogue v
is_atom catalogue (AnyOf name) = true
is_atom catalogue (SharedBy alternatives) = true
is_atom catalogue (OutsideOf s) = true
is_atom catalogue (MatchesOf s) = is_many catalogue s.name
is_atom catalogue (BitOf bit name) = not (is_many catalogue name)

abbrev pub literal_of : Literal → pass.Literal Atom
literal_of l = record { atom = l.atom; positive = l.positive }

abbrev pub derived_clause : List Line → List Literal → Option Clause
derived_clause catalogue literals = if list_all (λ l. is_atom catalogue l.atom) literals then Some (map literal_of literals) else None

-- ---- the clause of a step, or none where the step doesn't fit the line that it names

abbrev pub clause_of : List Line → List Line → Step → Option Clause
clause_of catalogue request (step.Need place line case) = need_clause catalogue place case (line_of catalogue request place line)
clause_of catalogue request (step.Gate v line) = gate_clause v (line_of catalogue request (OfVersion v) line)
clause_of catalogue request (step.Shared alternatives) = Some (shared_clause catalogue alternatives)
clause_of catalogue request (step.LimitBars place line v) = limit_bars_clause catalogue place v (line_of catalogue request place line)
clause_of catalogue request (step.Limit place line) = limit_clause place (line_of catalogue request place line)
clause_of catalogue request (step.Outside s v) = outside_clause catalogue s v
clause_of catalogue request (step.Matches s v) = matches_clause catalogue s v
clause_of catalogue request (step.Lock line v) = lock_clause catalogue v (line_at catalogue line)
clause_of catalogue request (step.Exclude line) = exclude_clause (line_at catalogue line)
clause_of catalogue request (step.Unknown line) = unknown_clause (owner_of catalogue line) (line_at catalogue line)
clause_of catalogue request (step.Digit v place bit) = digit_clause catalogue v place bit
clause_of catalogue request (step.Any v) = any_clause catalogue v
clause_of catalogue request (step.Derive literals causes) = derived_clause catalogue literals
