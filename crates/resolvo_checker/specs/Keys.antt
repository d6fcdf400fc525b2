-- The keys of atoms, and clauses whose atoms are numbered by their keys.
use Rattle.std.specs.Prelude.{◌≡◌, ℕ, List, [], ◌∷◌, ◌++◌, length, Some, slice_get}
use Rattle.std.specs.Global.{Vec}
use Rattle.std.specs.List.{flat_map}
use Rattle.resolvo_text.specs.declared.spec.Span.{Span}
use Rattle.resolvo_text.specs.declared.spec.Span.TheVariants as span
use Rattle.resolvo_text.specs.Line.{Version, Spec}
use Rattle.resolvo_pool_core.specs.OnePass.{AreNamed}
use Rattle.resolvo_report.specs.Value.{Atom, Chosen, AnyOf, SharedBy, OutsideOf, MatchesOf, BitOf}
use Rattle.resolvo_checker.specs.declared.literal.Literal.{Literal}
use Rattle.resolvo_checker.specs.Literals.{literals_of}
use Rattle.resolvo_checker.specs.Numbers.{number_in, Keeps}
use Rattle.resolvo_checker.specs.StepClauses.{Clause}

abbrev pub span_key : Span → List ℕ
span_key span.Any = 0 ∷ []
span_key (span.One n) = 1 ∷ n ∷ []
span_key (span.Range low high) = 2 ∷ low ∷ high ∷ []

abbrev pub spec_key : Spec → List ℕ
spec_key s = length s.name ∷ (s.name ++ span_key s.span)

-- The key of an atom. A version's has its number in the catalogue.
abbrev pub IsKey : List Version → Atom → List ℕ → Type 0
IsKey versions (Chosen v) key = (n : ℕ) × (slice_get versions n ≡ Some v) × (key ≡ 0 ∷ n ∷ [])
IsKey versions (AnyOf name) key = key ≡ 1 ∷ name
IsKey versions (SharedBy alternatives) key = key ≡ 2 ∷ flat_map spec_key alternatives
IsKey versions (OutsideOf s) key = key ≡ 3 ∷ spec_key s
IsKey versions (MatchesOf s) key = key ≡ 5 ∷ spec_key s
IsKey versions (BitOf bit name) key = key ≡ 4 ∷ bit ∷ name

-- The number is that of the atom's key.
abbrev pub Names : List Version → List (Vec ℕ × ℕ) → Atom → ℕ → Type 0
Names versions entries a i = (key : List ℕ) × IsKey versions a key × (number_in entries key ≡ Some i)

-- the literals, with a number for each atom
abbrev pub Numbered : List Version → List (Vec ℕ × ℕ) → Clause → List Literal → Type 0
Numbered versions entries clause ls = AreNamed (Names versions entries) clause (literals_of ls)

-- The keys' numbers and the numbered literals grow by those of the clause.
pub record Extends (versions : List Version) (old : List (Vec ℕ × ℕ)) (before : List Literal) (new : List (Vec ℕ × ℕ)) (after : List Literal) (clause : Clause) : Type 0 where
  pub keeps : Keeps old new
  pub adds : (c : Clause) → Numbered versions old c before → Numbered versions new (c ++ clause) after
