-- The values of a proof's atoms over a set of versions, and when two atoms are equal.
use Rattle.std.specs.Prelude.{ℕ, Bool, true, false, ◌&&◌, ◌==◌, List, [], ◌∷◌}
use Rattle.std.specs.List.{list_any}
use Rattle.std.specs.Int.{bit_at}
use Rattle.std.specs.Str.{bytes_eq}
use Rattle.resolvo_text.specs.declared.spec.Span.{Span}
use Rattle.resolvo_text.specs.declared.spec.Span.TheVariants as span
use Rattle.resolvo_text.specs.Line.{Version, Spec}
use Rattle.resolvo_text.specs.Matches.{Set, is_member, is_met, is_met_by_one, same_version}
use Rattle.resolvo_report.specs.Value.{Atom, Chosen, AnyOf, SharedBy, OutsideOf, MatchesOf, BitOf}
use Rattle.resolvo_checker.specs.StepClauses.{is_of, is_outside}

-- The value of an atom over a set and a map that gives each version one place. A bit of a package is that of the
-- place of its member, and false where it has none.
abbrev pub value_of : Set → (Version → ℕ) → Atom → Bool
value_of set place (Chosen v) = is_member v set
value_of set place (AnyOf name) = list_any (is_of name) set
value_of set place (SharedBy alternatives) = is_met_by_one alternatives set
value_of set place (OutsideOf s) = list_any (is_outside s) set
value_of set place (MatchesOf s) = is_met s set
value_of set place (BitOf bit name) = list_any (λ v. is_of name v && (bit_at (place v) bit == 1)) set

abbrev pub same_span : Span → Span → Bool
same_span span.Any span.Any = true
same_span (span.One m) (span.One n) = m == n
same_span (span.Range a b) (span.Range c d) = (a == c) && (b == d)
same_span s t = false

abbrev pub same_spec : Spec → Spec → Bool
same_spec s t = bytes_eq s.name t.name && same_span s.span t.span

abbrev pub same_specs : List Spec → List Spec → Bool
same_specs [] [] = true
same_specs (s ∷ ss) (t ∷ ts) = same_spec s t && same_specs ss ts
same_specs ss ts = false

abbrev pub same_atom : Atom → Atom → Bool
same_atom (Chosen v) (Chosen w) = same_version v w
same_atom (AnyOf m) (AnyOf n) = bytes_eq m n
same_atom (SharedBy ss) (SharedBy ts) = same_specs ss ts
same_atom (OutsideOf s) (OutsideOf t) = same_spec s t
same_atom (MatchesOf s) (MatchesOf t) = same_spec s t
same_atom (BitOf i m) (BitOf j n) = (i == j) && bytes_eq m n
same_atom a b = false
