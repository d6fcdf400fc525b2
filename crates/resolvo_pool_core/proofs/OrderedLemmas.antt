-- The places of values, as one more is appended.
use Rattle.std.proofs.Common.{◌≡◌, ℕ, ◌⊎◌, inl, inr, Bool, true, false, cond, List, Some, refl, sym, ◌∙◌, ap, subst}
use Rattle.std.specs.Map.{lookup}
use Rattle.std.proofs.lemmas.Bool.{both_ways}
use Rattle.resolvo_pool_core.specs.Ordered.{SetsPlace}

-- a hash map of places, once a value is put in
pub updates_each : {K : Type 0} (eq : K → K → Bool) (k : K) → ((y : K) → eq k y ≡ true → k ≡ y) → eq k k ≡ true → (place : ℕ) (old new : List (K × ℕ)) → ((q : K) → lookup (eq q) new ≡ cond (eq k q) (Some place) (lookup (eq q) old))
    → SetsPlace eq k place old new
updates_each {K} eq k exact own place old new updates y = go (eq k y) refl
  where
    go : (b : Bool) → eq k y ≡ b → ((y ≡ k) × (lookup (eq y) new ≡ Some place)) ⊎ ((y ≡ k → ⊥) × (lookup (eq y) new ≡ lookup (eq y) old))
    go true e = inl (sym (exact y e), updates y ∙ ap (λ b. cond b (Some place) (lookup (eq y) old)) e)
    go false e = inr (λ same. both_ways (eq k k) (subst (λ z. eq k z ≡ false) same e) own, updates y ∙ ap (λ b. cond b (Some place) (lookup (eq y) old)) e)
