-- How the tests' ids are written.
use Rattle.std.specs.Prelude.{ℕ, ◌==◌, ◌/◌, ◌%◌, ◌++◌, List, [], ◌∷◌, cond, codes, nat_lt}
use Rattle.std.specs.Fmt.{decimal}
use Rattle.std.specs.List.{flat_map}
use Rattle.resolvo_pool_core.specs.declared.id.DenseId.{DenseId}
use Rattle.resolvo_pool_core.specs.declared.id.SolvableTag.{SolvableTag}

-- the name of a package
unfoldable pub letter : ℕ → List ℕ
letter n = cond (n == 0) (codes "a") (cond (n == 1) (codes "b") (cond (n == 2) (codes "c") (cond (n == 3) (codes "s") (codes "w"))))

-- a reason
unfoldable pub word : ℕ → List ℕ
word n = cond (n == 0) (codes "old") (codes "broken")

-- a version set by its bounds
abbrev pub bounds_text : ℕ → ℕ → List ℕ
bounds_text low high = cond (nat_lt 0 high) (decimal low ++ codes ".." ++ decimal high) (cond (nat_lt 0 low) (decimal low) (codes "*"))

abbrev pub span_text : ℕ → List ℕ
span_text v = bounds_text ((v / 1000) % 1000) (v % 1000)

abbrev pub Place : Type 0
Place = DenseId SolvableTag ℕ

-- versions of one package
abbrev pub merged : List Place → List ℕ
merged [] = []
merged (s ∷ ss) = (letter (s.raw / 100) ++ codes " " ++ decimal (s.raw % 100)) ++ flat_map (λ t. codes " | " ++ decimal (t.raw % 100)) ss
