-- Clauses with the same literals, in whatever order and number.
use Rattle.std.specs.Prelude.{◌≡◌, List, Contains}
use Rattle.resolvo_pool_core.specs.OnePass.{Literal}

pub record SameMembers {X : Type 0} (xs ys : List X) : Type 0 where
  pub only : (x : X) → Contains xs x → Contains ys x
  pub each : (x : X) → Contains ys x → Contains xs x

-- an atom has one sign in the clause
abbrev pub HaveOneSign : {A : Type 0} → List (Literal A) → Type 0
HaveOneSign {A} c = (l m : Literal A) → Contains c l → Contains c m → l.atom ≡ m.atom → l.positive ≡ m.positive
