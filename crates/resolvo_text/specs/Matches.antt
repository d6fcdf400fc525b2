-- Which versions a SPEC matches, and which conditions hold in a set of versions.
use Rattle.std.specs.Prelude.{ℕ, Bool, true, ◌&&◌, ◌||◌, ◌==◌, nat_le, nat_lt, List, Option, Some, None}
use Rattle.std.specs.List.{list_any}
use Rattle.std.specs.Str.{bytes_eq}
use Rattle.resolvo_text.specs.declared.spec.Span.{Span}
use Rattle.resolvo_text.specs.declared.spec.Span.TheVariants.{Any, One, Range}
use Rattle.resolvo_text.specs.Line.{Version, Spec, Cond, Is, And, Or}

-- a finite set of versions; order and repetition don't count
abbrev pub Set : Type 0
Set = List Version

abbrev pub same_package : Version → Version → Bool
same_package v w = bytes_eq v.name w.name

abbrev pub same_version : Version → Version → Bool
same_version v w = bytes_eq v.name w.name && v.number == w.number

abbrev pub is_member : Version → Set → Bool
is_member v set = list_any (same_version v) set

-- ---- matching

abbrev pub is_in_span : Span → ℕ → Bool
is_in_span Any n = true
is_in_span (One m) n = n == m
is_in_span (Range low high) n = nat_le low n && nat_lt n high

-- The version is of the package, and its number lies in the span.
abbrev pub matches : Spec → Version → Bool
matches s v = bytes_eq v.name s.name && is_in_span s.span v.number

-- some member matches
abbrev pub is_met : Spec → Set → Bool
is_met s set = list_any (matches s) set

-- some member matches one of the alternatives
abbrev pub is_met_by_one : List Spec → Set → Bool
is_met_by_one alternatives set = list_any (λ s. is_met s set) alternatives

-- ---- conditions

abbrev pub holds : Cond → Set → Bool
holds (Is s) set = is_met s set
holds (And a b) set = holds a set && holds b set
holds (Or a b) set = holds a set || holds b set

abbrev pub condition_holds : Option Cond → Set → Bool
condition_holds None set = true
condition_holds (Some c) set = holds c set
