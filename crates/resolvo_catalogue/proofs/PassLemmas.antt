-- Tests over lists, by the elements that pass.
use Rattle.std.proofs.Common.{◌≡◌, inl, inr, Bool, true, false, List, [], ◌∷◌, refl, sym, ap, ◌∙◌}
use Rattle.std.specs.Prelude.{Contains}
use Rattle.std.specs.List.{list_any, list_all}
use Rattle.std.proofs.lemmas.Bool.{false≢true, or_cases, or_left, or_right, and_parts}
use Rattle.resolvo_terms.proofs.Places.{no_element, first_element, later_element, element_cases}

pub any_from : {X : Type 0} (q : X → Bool) (xs : List X) → list_any q xs ≡ true → (x : X) × Contains xs x × (q x ≡ true)
any_from q [] h = absurd (false≢true h)
any_from q (x ∷ xs) h = elim (or_cases (q x) (list_any q xs) h) [
  | inl e ↦ (x, first_element x xs, e)
  | inr e ↦ let f = any_from q xs e in (f.0, later_element x xs f.0 f.1, f.2)
]

pub any_to : {X : Type 0} (q : X → Bool) (xs : List X) (x : X) → Contains xs x → q x ≡ true → list_any q xs ≡ true
any_to q [] x h e = absurd (no_element x h)
any_to q (y ∷ xs) x h e = elim (element_cases y xs x h) [
  | inl same ↦ or_left (q y) (list_any q xs) (ap q same ∙ e)
  | inr more ↦ or_right (q y) (list_any q xs) (any_to q xs x more e)
]

pub all_from : {X : Type 0} (q : X → Bool) (xs : List X) (x : X) → list_all q xs ≡ true → Contains xs x → q x ≡ true
all_from q [] x h c = absurd (no_element x c)
all_from q (y ∷ xs) x h c =
    let parts = and_parts (q y) (list_all q xs) h in
    elim (element_cases y xs x c) [
      | inl same ↦ sym (ap q same) ∙ parts.0
      | inr more ↦ all_from q xs x parts.1 more
    ]

pub all_to : {X : Type 0} (q : X → Bool) (xs : List X) → ((x : X) → Contains xs x → q x ≡ true) → list_all q xs ≡ true
all_to q [] h = refl
all_to q (x ∷ xs) h = rw (h x (first_element x xs)) (all_to q xs (λ y c. h y (later_element x xs y c)))

pub same_bool : (a b : Bool) → (a ≡ true → b ≡ true) → (b ≡ true → a ≡ true) → a ≡ b
same_bool true b f g = sym (f refl)
same_bool false true f g = g refl
same_bool false false f g = refl
