-- Sets of versions that keep to a catalogue and a request, and lines that no such set obeys.
use Rattle.std.specs.Prelude.{◌≡◌, ℕ, Bool, false, IsTrue, List, Contains}
use Rattle.std.specs.List.{list_any}
use Rattle.std.specs.Str.{bytes_eq}
use Rattle.resolvo_text.specs.Line.{Version, Line, Listed, Many}
use Rattle.resolvo_text.specs.Matches.{Set}
use Rattle.resolvo_catalogue_core.specs.Rules.{keeps, keeps_in_request}

-- the line marks the package `many`
abbrev pub marks_many : List ℕ → Line → Bool
marks_many name (Many marked) = bytes_eq marked name
marks_many name _ = false

-- a line marks the package `many`
abbrev pub is_many : List Line → List ℕ → Bool
is_many lines name = list_any (marks_many name) lines

-- listed versions only, at most one of a package that isn't marked `many`
pub record IsSingle (catalogue : List Line) (set : Set) : Type 0 where
  pub listed : (v : Version) → Contains set v → Contains catalogue (Listed v)
  pub one_each : (v w : Version) → Contains set v → Contains set w → v.name ≡ w.name → is_many catalogue v.name ≡ false → v ≡ w

-- a single set that obeys each line
pub record IsRuleKeeping (catalogue request : List Line) (set : Set) : Type 0 where
  pub single : IsSingle catalogue set
  pub catalogue_lines : (n : ℕ) → IsTrue (keeps catalogue n set)
  pub request_lines : (n : ℕ) → IsTrue (keeps_in_request request n set)

-- no single set obeys all of these lines
abbrev pub AreRefuted : List Line → List Line → List ℕ → List ℕ → Type 0
AreRefuted catalogue request catalogue_lines request_lines = (set : Set) → IsSingle catalogue set
    → ((n : ℕ) → Contains catalogue_lines n → IsTrue (keeps catalogue n set))
    → ((n : ℕ) → Contains request_lines n → IsTrue (keeps_in_request request n set)) → ⊥
