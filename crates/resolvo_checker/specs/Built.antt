-- The literals that built ones encode, over the listed versions.
use Rattle.std.specs.Prelude.{ℕ, Bool, true, false, List, map, Option, Some, None, slice_get}
use Rattle.std.specs.String.{string_bytes}
use Rattle.std.specs.Option.{option_map}
use Rattle.resolvo_text.specs.Line.{Version, Spec, Line}
use Rattle.resolvo_text.specs.Matches.{matches}
use Rattle.resolvo_text.specs.View.{spec_of, specs_of}
use Rattle.resolvo_pool_core.specs.OnePass as pass
use Rattle.resolvo_report.specs.Value as model
use Rattle.resolvo_checker.specs.declared.atom.Atom.{Atom}
use Rattle.resolvo_checker.specs.declared.atom.Atom.TheVariants as atom
use Rattle.resolvo_checker.specs.declared.atom.Built.{Built}
use Rattle.std.specs.Global.{Vec}
use Rattle.resolvo_checker.specs.StepClauses.{Clause, clause_of, is_outside, membership, literal, is_in}

-- that the version of this number is in the set, or isn't
abbrev pub member_of : List Version → Bool → ℕ → Option (pass.Literal model.Atom)
member_of versions positive n = option_map (λ v. membership v positive) (slice_get versions n)

abbrev pub positive_at : List Version → ℕ → Option (pass.Literal model.Atom)
positive_at versions n = option_map is_in (slice_get versions n)

-- the literal, unless it names a version by a number that none has
abbrev pub literal_of : List Version → Atom → Bool → Option (pass.Literal model.Atom)
literal_of versions (atom.Version n) positive = member_of versions positive n.0
literal_of versions (atom.Any name) positive = Some (literal (model.AnyOf (string_bytes name)) positive)
literal_of versions (atom.Shared alternatives) positive = Some (literal (model.SharedBy (specs_of alternatives.items)) positive)
literal_of versions (atom.Outside spec) positive = Some (literal (model.OutsideOf (spec_of spec)) positive)
literal_of versions (atom.Matches spec) positive = Some (literal (model.MatchesOf (spec_of spec)) positive)
literal_of versions (atom.Bit bit name) positive = Some (literal (model.BitOf bit (string_bytes name)) positive)

abbrev pub literals_in : List Version → List Built → List (Option (pass.Literal model.Atom))
literals_in versions bs = map (λ b. literal_of versions b.atom b.positive) bs

-- all are literals, and these
abbrev pub somes : Clause → List (Option (pass.Literal model.Atom))
somes clause = map Some clause

-- v is of the SPEC's package and doesn't match, or else matches
abbrev pub passes : Spec → Bool → Version → Bool
passes s true v = is_outside s v
passes s false v = matches s v

-- the clause of a step that isn't derived
abbrev pub rule_clause_of : List Line → List Line → model.Step → Option Clause
rule_clause_of catalogue request (model.Derive literals causes) = None
rule_clause_of catalogue request s = clause_of catalogue request s

-- a clause that was built, if there is one
abbrev pub seen : List Version → Option (Vec Built) → Option (List (Option (pass.Literal model.Atom)))
seen versions o = option_map (λ c. literals_in versions c.items) o
