-- What stands at one place of lists of which the one is that of the other's values.
use Rattle.std.proofs.Common.{◌≡◌, ◌∙◌, ℕ, zero, suc, List, [], ◌∷◌, Some, map, sym, ap}
use Rattle.std.specs.Prelude.{slice_get}

pub values_at : {X Y Z : Type 0} (f : X → Z) (g : Y → Z) (xs : List X) (ys : List Y) (i : ℕ) (x : X) (y : Y) → slice_get xs i ≡ Some x → slice_get ys i ≡ Some y → map f xs ≡ map g ys → f x ≡ g y
values_at f g [] ys i x y at there same = absurd cc
values_at f g (a ∷ xs) [] i x y at there same = absurd cc
values_at f g (a ∷ xs) (b ∷ ys) zero x y at there same = (let e : a ≡ x = cc in let h : b ≡ y = cc in let k : f a ≡ g b = cc in ap f (sym e) ∙ k ∙ ap g h)
values_at f g (a ∷ xs) (b ∷ ys) (suc i) x y at there same = values_at f g xs ys i x y at there cc
