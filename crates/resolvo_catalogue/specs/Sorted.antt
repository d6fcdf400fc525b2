-- Lists sorted by a number. Those with one number keep their order.
use Rattle.std.specs.Prelude.{ℕ, nat_lt, cond, List, [], ◌∷◌}

-- an element among others that are sorted by a number, before those that have no smaller one
abbrev pub placed : {X : Type 0} → (X → ℕ) → X → List X → List X
placed age x [] = x ∷ []
placed age x (y ∷ ys) = cond (nat_lt (age y) (age x)) (y ∷ placed age x ys) (x ∷ y ∷ ys)

-- elements sorted by a number
abbrev pub sorted_by : {X : Type 0} → (X → ℕ) → List X → List X
sorted_by age [] = []
sorted_by age (x ∷ xs) = placed age x (sorted_by age xs)
