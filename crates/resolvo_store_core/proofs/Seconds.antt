-- Lemmas on the literals that a new clause watches.
use Rattle.std.proofs.Common.{◌≡◌, ◌-◌, Bool, true, false, ◌||◌, List, [], ◌∷◌, ◌++◌, Option, Some, None, All, sym, ◌∙◌, subst}
use Rattle.std.proofs.lemmas.Bool.{or_left, or_right}
use Rattle.std.proofs.lemmas.List.Elements.{All-push, All-weaker, All-contains, Contains-push, Contains-append_left}
use Rattle.resolvo_store_core.specs.Signed.{Signed, same_literal, is_false}
use Rattle.resolvo_store_core.specs.SignLaws.{same_literal_true}
use Rattle.resolvo_store_core.specs.Watchable.{CanWatch, IsSecond, IsSecondSoFar}
use Rattle.resolvo_store_core.proofs.Watched.{differs_sym}

all_so_far : (value : Signed → Option Bool) (first : Signed) (xs : List Signed) (o : Option Signed) → IsSecondSoFar value first xs o → All (λ m. (same_literal m first || is_false (value m)) ≡ true) xs
all_so_far value first xs None h = All-weaker (λ m. same_literal m first ≡ true) (λ m. (same_literal m first || is_false (value m)) ≡ true) (λ m e. or_left (same_literal m first) (is_false (value m)) e) xs h
all_so_far value first xs (Some l) h = h.2

-- the first literal again
pub again : (value : Signed → Option Bool) (first : Signed) (xs : List Signed) (x : Signed) (o : Option Signed) → IsSecondSoFar value first xs o → same_literal x first ≡ true → IsSecondSoFar value first (xs ++ x ∷ []) o
again value first xs x None h e = All-push (λ m. same_literal m first ≡ true) xs x h e
again value first xs x (Some l) h e = (Contains-append_left xs (x ∷ []) l h.0, h.1, All-push (λ m. (same_literal m first || is_false (value m)) ≡ true) xs x h.2 (or_left (same_literal x first) (is_false (value x)) e))

-- another literal, which is false
pub other_false : (value : Signed → Option Bool) (first : Signed) (xs : List Signed) (x : Signed) (o : Option Signed) → IsSecondSoFar value first xs o → same_literal x first ≡ false → is_false (value x) ≡ true → IsSecondSoFar value first (xs ++ x ∷ []) (Some x)
other_false value first xs x o h n e = (Contains-push xs x, differs_sym x first n, All-push (λ m. (same_literal m first || is_false (value m)) ≡ true) xs x (all_so_far value first xs o h) (or_right (same_literal x first) (is_false (value x)) e))

-- at the end
pub second_found : (value : Signed → Option Bool) (first : Signed) (xs ys : List Signed) (o : Option Signed) → IsSecondSoFar value first xs o → xs ≡ ys → IsSecond value first ys o
second_found value first xs ys None h e = subst (λ (zs : List Signed). All (λ m. same_literal m first ≡ true) zs) e h
second_found value first xs ys (Some l) h e =
    let h' = subst (λ (zs : List Signed). IsSecondSoFar value first zs (Some l)) e h in
    (h'.0, h'.1, λ _. h'.2)

-- a clause whose literals are all one has nothing to watch
pub all_one : (first : Signed) (xs : List Signed) → All (λ m. same_literal m first ≡ true) xs → CanWatch xs None
all_one first xs h l m a b =
    same_literal_true l first (All-contains (λ x. same_literal x first ≡ true) xs l h a) ∙ sym (same_literal_true m first (All-contains (λ x. same_literal x first ≡ true) xs m h b))
