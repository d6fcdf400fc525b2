-- The noted numbers of the keys of versions.
use Rattle.std.specs.Prelude.{◌≡◌, ℕ, List, [], ◌∷◌, Option, Some, slice_get}
use Rattle.std.specs.Global.{Vec}
use Rattle.resolvo_checker.specs.Numbers.{number_in}

-- each noted number is that of the key of its version
abbrev pub AreNoted : List (Vec ℕ × ℕ) → List (Option ℕ) → Type 0
AreNoted entries versions = (version i : ℕ) → slice_get versions version ≡ Some (Some i) → number_in entries (0 ∷ version ∷ []) ≡ Some i
