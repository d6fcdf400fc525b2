-- Lemmas on the places of values.
use Rattle.std.proofs.Common.{◌≡◌, ◌<◌, inl, inr, Bool, true, false, ltb, cond, List, [], ◌∷◌, ◌++◌, length, get_or, Some, None, refl, sym, ◌∙◌, ap, subst, arith}
use Rattle.std.specs.List.{position, position_or_len, list_any}
use Rattle.std.proofs.lemmas.List.Sums.{fails_before_first, passes_at_first}
use Rattle.std.proofs.lemmas.Option.{slice_get_within, slice_get-get_or, get_or_from_slice_get}
use Rattle.std.proofs.lemmas.Bool.{both_ways, cases_Bool, ltb-true, ltb-false}
use Rattle.indexmap.specs.IndexSet.{insert_key}
use Rattle.resolvo_sat.proofs.Lists.{any_contained}
use Rattle.resolvo_state.specs.Keys.{IsPlace}
use Rattle.resolvo_state.proofs.Positions.{contains_get}

-- the first place at which the test passes is the value's
pub place_is : {K : Type 0} (eq : K → K → Bool) (x : K) (xs : List K) → ((y : K) → eq x y ≡ true → x ≡ y) → eq x x ≡ true → IsPlace xs x (position (eq x) xs)
place_is eq x xs exact own = go (ltb (position_or_len (eq x) xs) (length xs)) refl
  where
    go : (b : Bool) → ltb (position_or_len (eq x) xs) (length xs) ≡ b → IsPlace xs x (cond b (Some (position_or_len (eq x) xs)) None)
    go true e =
        let below : position_or_len (eq x) xs < length xs = ltb-true _ _ e in
        let here : x ≡ get_or xs (position_or_len (eq x) xs) x = exact _ (passes_at_first (eq x) xs x below) in
        slice_get-get_or xs (position_or_len (eq x) xs) x below ∙ ap Some (sym here)
    go false e = λ k at.
        let within : k < length xs = slice_get_within xs k x at in
        let past = ltb-false _ _ e in
        let differs : eq x (get_or xs k x) ≡ false = fails_before_first (eq x) xs k x (omega (arith, past)) in
        let same : get_or xs k x ≡ x = get_or_from_slice_get xs k x x at in
        both_ways (eq x x) (subst (λ y. eq x y ≡ false) same differs) own

-- a value that is not in the list is appended
pub pushed_is : {K : Type 0} (eq : K → K → Bool) (x : K) (xs : List K) → ((y : K) → eq x y ≡ true → x ≡ y) → IsPlace xs x None → insert_key eq xs x ≡ xs ++ x ∷ []
pushed_is eq x xs exact fresh = elim (cases_Bool (list_any (eq x) xs)) [
  | inl e ↦
      let (y, c, h) = any_contained (eq x) xs e in
      let (k, at) = contains_get xs y c in
      absurd (fresh k (at ∙ ap Some (sym (exact y h))))
  | inr e ↦ ap (λ b. cond b xs (xs ++ x ∷ [])) e
]
