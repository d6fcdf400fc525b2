-- The keys of the steps whose clauses may be longer than they are, and where such a step was first.
use Rattle.std.specs.Prelude.{◌≡◌, ℕ, true, List, [], ◌∷◌, Option, Some, None, slice_get, is_some}
use Rattle.std.specs.Global.{Vec}
use Rattle.std.specs.List.{flat_map}
use Rattle.resolvo_text.specs.Line.{Version, Line}
use Rattle.resolvo_report.specs.Value.{Place, OfRequest, OfVersion, Step}
use Rattle.resolvo_report.specs.Value as step
use Rattle.resolvo_checker.specs.Numbers.{number_in}
use Rattle.resolvo_checker.specs.Keys.{spec_key}
use Rattle.resolvo_checker.specs.StepClauses.{clause_of}

abbrev pub version_key : Version → List ℕ
version_key v = v.number ∷ v.name

abbrev pub place_key : Place → List ℕ
place_key OfRequest = []
place_key (OfVersion v) = version_key v

-- the key of a step, if its clause may be longer than the step
abbrev pub key_of : Step → Option (List ℕ)
key_of (step.Need place line case) = Some (0 ∷ line ∷ case ∷ place_key place)
key_of (step.Gate v line) = Some (1 ∷ line ∷ version_key v)
key_of (step.Shared alternatives) = Some (2 ∷ flat_map spec_key alternatives)
key_of (step.Limit place line) = Some (3 ∷ line ∷ place_key place)
key_of s = None

-- The step has a key, and the key has this place.
abbrev pub IsKnownAt : List (Vec ℕ × ℕ) → Step → ℕ → Type 0
IsKnownAt rules s k = (key : List ℕ) × (key_of s ≡ Some key) × (number_in rules key ≡ Some k)

-- Each known step is the earlier one at its place, from 0, and has a clause.
abbrev pub Recorded : List Line → List Line → List (Vec ℕ × ℕ) → List Step → Type 0
Recorded catalogue request rules earlier =
    (s : Step) (k : ℕ) → IsKnownAt rules s k → (slice_get earlier k ≡ Some s) × (is_some (clause_of catalogue request s) ≡ true)
