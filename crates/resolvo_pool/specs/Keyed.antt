-- Pairs of keys and values.
use Rattle.std.specs.Prelude.{◌≡◌, ℕ, suc, Bool, List, [], ◌∷◌, Option, None, Some, cond}
use Rattle.std.specs.Map.{lookup}
use Rattle.std.specs.Option.{option_map}

-- fs has v at k, and agrees with es at each other key
abbrev pub PutsKey : {K V : Type 0} → (K → K → Bool) → List (K × V) → List (K × V) → K → V → Type 0
PutsKey {K} eq es fs k v = (q : K) → lookup (eq q) fs ≡ cond (eq k q) (Some v) (lookup (eq q) es)

-- the place of the first key that is the same, if there is one
abbrev pub place_in : {K : Type 0} → (K → K → Bool) → List K → K → Option ℕ
place_in eq [] k = None
place_in eq (l ∷ ks) k = cond (eq k l) (Some 0) (option_map (λ (i : ℕ). suc i) (place_in eq ks k))

-- the numbers are the places of the keys
abbrev pub ArePlaces : {K : Type 0} → (K → K → Bool) → (K → Option ℕ) → List K → Type 0
ArePlaces {K} eq number ks = (k : K) → number k ≡ place_in eq ks k
