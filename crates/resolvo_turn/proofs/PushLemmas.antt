-- Lists that get one more value in a loop.
use Rattle.std.proofs.Common.{◌≡◌, ◌∷◌, ◌++◌, [], List, map, ◌∙◌, ap}
use Rattle.std.specs.List.{AllByRecursion}
use Rattle.std.proofs.lemmas.List.{map-append}

pub all_push : {X : Type 0} (P : X → Type 0) (xs : List X) (x : X) → AllByRecursion P xs → P x → AllByRecursion P (xs ++ x ∷ [])
all_push P [] x h k = (k, tt)
all_push P (y ∷ ys) x (a, h) k = (a, all_push P ys x h k)

-- what is told of each value, and of one more
pub told_push : {X Y : Type 0} (f : X → Y) (xs : List X) (x : X) (ys : List Y) (y : Y) → map f xs ≡ ys → f x ≡ y → map f (xs ++ x ∷ []) ≡ ys ++ y ∷ []
told_push f xs x ys y before one = map-append f xs (x ∷ []) ∙ (ap (λ zs. zs ++ f x ∷ []) before ∙ ap (λ z. ys ++ z ∷ []) one)
