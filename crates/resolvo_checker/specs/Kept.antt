-- The clauses of the earlier steps. In place of a long one that no step has named yet, its step is kept.
use Rattle.std.specs.Prelude.{◌≡◌, ◌⊎◌, ⊤, ℕ, ◌-◌, Bool, true, false, not, List, [], ◌∷◌, Option, Some, None, slice_get, slice_index_or, is_some}
use Rattle.std.specs.Option.{option_and_then}
use Rattle.resolvo_report.specs.Value.{Step}
use Rattle.resolvo_report.specs.Value as step
use Rattle.resolvo_checker.specs.declared.literal.Literal.{Literal}

-- the literals of a clause, or the step whose clause isn't built yet
pub data Kept : Type 0 where
  Ready : List Literal → Kept
  Deferred : Step → Kept

-- The clause of the step may name each version of a package.
abbrev pub is_long : Step → Bool
is_long (step.Need place line case) = true
is_long (step.Shared alternatives) = true
is_long s = false

abbrev pub literals_kept : Kept → List Literal
literals_kept (Ready ls) = ls
literals_kept (Deferred s) = []

-- the literals of the n-th clause, n from 0
abbrev pub literals_at : List Kept → ℕ → List Literal
literals_at kept n = literals_kept (slice_index_or kept n (Ready []))

abbrev pub step_kept : Kept → Option Step
step_kept (Ready ls) = None
step_kept (Deferred s) = Some s

-- the n-th step, n from 0, if its clause isn't built yet
abbrev pub deferred_at : List Kept → ℕ → Option Step
deferred_at kept n = option_and_then step_kept (slice_get kept n)

-- The clause of the step of this number, from 1, is built, or there is no such step.
abbrev pub is_ready : List Kept → ℕ → Bool
is_ready kept n = not (is_some (deferred_at kept (n - 1)))

-- It is as before, or the clause of the step was built.
abbrev pub IsBuilt : Step → List Literal → Kept → Kept → Type 0
IsBuilt s ls old new = (new ≡ old) ⊎ ((old ≡ Deferred s) × (new ≡ Ready ls))

-- the clause of the step was built wherever the step was deferred with it
abbrev pub AreBuilt : Step → List Literal → List Kept → List Kept → Type 0
AreBuilt s ls [] [] = ⊤
AreBuilt s ls [] (y ∷ ys) = ⊥
AreBuilt s ls (x ∷ xs) [] = ⊥
AreBuilt s ls (x ∷ xs) (y ∷ ys) = IsBuilt s ls x y × AreBuilt s ls xs ys
