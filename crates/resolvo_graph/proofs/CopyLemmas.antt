-- A key of a set differs from the keys before it.
use Rattle.std.proofs.Common.{◌≡◌, ℕ, zero, suc, ◌+◌, ◌<◌, Bool, false, cond, List, [], ◌∷◌, ◌++◌, length, take, get_or, refl, sym, ap, ◌∙◌, arith}
use Rattle.std.specs.Prelude.{◌||◌}
use Rattle.std.specs.List.{list_any, IsDistinct}
use Rattle.std.specs.Cmp.{IsEquivalence}
use Rattle.std.proofs.lemmas.List.{take_more}
use Rattle.std.proofs.lemmas.List.Elements.{All-from_recursion, All-get_or}
use Rattle.std.proofs.lemmas.Map.Keys.{IsDistinct-head, IsDistinct-tail}
use Rattle.indexmap.specs.IndexSet.{insert_key}

module _ {K : Type 0} (eq : K → K → Bool) (laws : IsEquivalence eq) where
  absent : (xs : List K) (i : ℕ) (x : K) → IsDistinct eq xs → i < length xs → x ≡ get_or xs i x → list_any (eq x) (take i xs) ≡ false
  absent [] i x d h at = absurd (omega arith)
  absent (y ∷ ys) zero x d h at = refl
  absent (y ∷ ys) (suc i) x d h at =
      let apart : eq y (get_or ys i x) ≡ false = All-get_or (λ z. eq y z ≡ false) ys i x (omega arith) (All-from_recursion (λ z. eq y z ≡ false) ys (IsDistinct-head eq y ys d)) in
      let here : eq x y ≡ false = laws.symm x y ∙ ap (eq y) at ∙ apart in
      ap (λ b. b || list_any (eq x) (take i ys)) here ∙ absent ys i x (IsDistinct-tail eq y ys d) (omega arith) at

  -- the keys so far, after the next one was inserted
  pub copied_more : (xs copy now : List K) (i : ℕ) (x : K) → IsDistinct eq xs → i < length xs → x ≡ get_or xs i x → copy ≡ take i xs → now ≡ insert_key eq copy x → now ≡ take (i + 1) xs
  copied_more xs copy now i x d h at so_far put =
      put ∙ ap (λ ks. insert_key eq ks x) so_far ∙ ap (λ b. cond b (take i xs) (take i xs ++ x ∷ [])) (absent xs i x d h at)
      ∙ sym (take_more xs i x h ∙ ap (λ y. take i xs ++ y ∷ []) (sym at))
