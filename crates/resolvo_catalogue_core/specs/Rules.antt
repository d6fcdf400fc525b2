-- Which sets of versions obey the lines of a catalogue and a request.
use Rattle.std.specs.Prelude.{ℕ, Bool, true, not, ◌||◌, ◌==◌, List, Option, Some, None}
use Rattle.std.specs.List.{list_all}
use Rattle.std.specs.Option.{option_map_or}
use Rattle.std.specs.Str.{bytes_eq}
use Rattle.resolvo_text.specs.Line.{Version, Line, Skipped, Listed, Needs, Limits, Unknown, Lock, Favour, Exclude, Many, Wish}
use Rattle.resolvo_text.specs.Matches.{Set, same_package, is_member, matches, is_met_by_one, condition_holds}
use Rattle.resolvo_catalogue_core.specs.Grammar.{line_at, owner_of}

-- A line of a request has no owner, and always binds. A line of a catalogue binds where its owner is a member.
abbrev pub binds : Option Version → Set → Bool
binds None set = true
binds (Some v) set = is_member v set

-- The set obeys the line, whose owner is given.
abbrev pub obeys : Option Version → Line → Set → Bool
obeys owner (Needs alternatives condition) set = not (binds owner set) || not (condition_holds condition set) || is_met_by_one alternatives set
obeys owner (Limits s) set = not (binds owner set) || list_all (λ v. not (bytes_eq v.name s.name) || matches s v) set
obeys owner (Lock v) set = list_all (λ w. not (same_package w v) || w.number == v.number) set
obeys owner (Exclude v reason) set = not (is_member v set)
obeys owner (Unknown reason) set = not (binds owner set)
obeys owner Skipped set = true
obeys owner (Listed v) set = true
obeys owner (Favour v) set = true
obeys owner (Many name) set = true
obeys owner (Wish v) set = true

-- The set obeys line n of a catalogue, of a request. A line that isn't there asks nothing.
abbrev pub keeps : List Line → ℕ → Set → Bool
keeps catalogue n set = option_map_or (λ line. obeys (owner_of catalogue n) line set) (line_at catalogue n) true

abbrev pub keeps_in_request : List Line → ℕ → Set → Bool
keeps_in_request request n set = option_map_or (λ line. obeys None line set) (line_at request n) true
