-- Total maps and sets, as functions of an id.
use Rattle.std.specs.Prelude.{◌≡◌, Bool, cond}

module _ {K : Type 0} (eq : K → K → Bool) where
  -- g is f with v at k
  abbrev pub Puts : {V : Type 0} → (K → V) → (K → V) → K → V → Type 0
  Puts f g k v = (q : K) → g q ≡ cond (eq k q) v (f q)

-- f and g agree everywhere
abbrev pub Same : {K V : Type 0} → (K → V) → (K → V) → Type 0
Same {K} f g = (q : K) → g q ≡ f q
