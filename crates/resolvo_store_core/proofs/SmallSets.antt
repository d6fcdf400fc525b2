-- A hashed set beside a list: it finds the list's values, also after one more.
use Rattle.std.proofs.Common.{◌≡◌, ◌∷◌, ◌++◌, ◌||◌, [], Bool, true, false, cond, List, sym, ◌∙◌, ap, refl}
use Rattle.std.specs.Cmp.{IsEquivalence}
use Rattle.std.specs.List.{list_any}
use Rattle.std.proofs.lemmas.List.Folds.{list_any-append}
use Rattle.resolvo_store_core.specs.SmallSets.{Finds}

-- one more alternative, first or last
turned : (a b : Bool) → cond a true b ≡ (b || (a || false))
turned true true = refl
turned true false = refl
turned false true = refl
turned false false = refl

pub finds_more : {V : Type 0} (eq : V → V → Bool) → IsEquivalence eq → (old new : V → Bool) (xs : List V) (k : V) → ((q : V) → new q ≡ cond (eq k q) true (old q)) → Finds eq old xs → Finds eq new (xs ++ k ∷ [])
finds_more eq laws old new xs k put found q =
    put q ∙ ap (λ b. cond (eq k q) true b) (found q) ∙ ap (λ b. cond b true (list_any (eq q) xs)) (laws.symm k q) ∙ turned _ _ ∙ sym (list_any-append (eq q) xs (k ∷ []))
