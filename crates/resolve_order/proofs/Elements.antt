-- Elements of lists, and members of sets.
use Rattle.std.proofs.Common.{◌≡◌, ◌⊎◌, inl, inr, ◌<◌, Bool, true, false, List, [], ◌∷◌, map, refl, sym, subst, ◌∙◌, arith}
use Rattle.std.specs.Prelude.{Contains}
use Rattle.std.specs.List.{list_any}
use Rattle.std.proofs.lemmas.Bool.{false≢true, cases_Bool, or_cases, or_left, or_right}
use Rattle.std.proofs.lemmas.List.Elements.{Contains-append_left, Contains-append_right, Contains-append_cases, Contains-push, Contains-push_cases}
use Rattle.std.proofs.lemmas.Map.Views.{Contains-from_any}
use Rattle.resolvo_text.specs.Line.{Version}
use Rattle.resolvo_text.specs.Matches.{Set, same_version, is_member}
use Rattle.resolvo_catalogue_core.proofs.TableSteps.{same_version_is}

pub no_element : {X : Type 0} (x : X) → Contains [] x → ⊥
no_element x c = let less : c.0 < 0 = c.1 in absurd (omega (arith, less))

pub first_element : {X : Type 0} (x : X) (xs : List X) → Contains (x ∷ xs) x
first_element x xs = Contains-append_left (x ∷ []) xs x (Contains-push [] x)

pub later_element : {X : Type 0} (y : X) (xs : List X) (x : X) → Contains xs x → Contains (y ∷ xs) x
later_element y xs x c = Contains-append_right (y ∷ []) xs x c

pub element_cases : {X : Type 0} (y : X) (xs : List X) (x : X) → Contains (y ∷ xs) x → (y ≡ x) ⊎ Contains xs x
element_cases y xs x c = elim (Contains-append_cases (y ∷ []) xs x c) [
  | inl here ↦ elim (Contains-push_cases [] y x here) [ inl none ↦ absurd (no_element x none) | inr same ↦ inl same ]
  | inr there ↦ inr there
]

-- an element that passes
pub any_from : {X : Type 0} (p : X → Bool) (xs : List X) (x : X) → Contains xs x → p x ≡ true → list_any p xs ≡ true
any_from p [] x c e = absurd (no_element x c)
any_from p (y ∷ xs) x c e = elim (element_cases y xs x c) [
  | inl same ↦ or_left (p y) (list_any p xs) (subst (λ (z : _). p z ≡ true) (sym same) e)
  | inr there ↦ or_right (p y) (list_any p xs) (any_from p xs x there e)
]

pub any_element : {X : Type 0} (p : X → Bool) (xs : List X) → list_any p xs ≡ true → (x : X) × Contains xs x × (p x ≡ true)
any_element p [] h = absurd (false≢true h)
any_element p (y ∷ xs) h = elim (or_cases (p y) (list_any p xs) h) [
  | inl e ↦ (y, first_element y xs, e)
  | inr e ↦ let f = any_element p xs e in (f.0, later_element y xs f.0 f.1, f.2)
]

-- no element passes
pub any_none : {X : Type 0} (p : X → Bool) (xs : List X) → ((x : X) → Contains xs x → p x ≡ true → ⊥) → list_any p xs ≡ false
any_none p xs none = elim (cases_Bool (list_any p xs)) [
  | inl e ↦ let f = any_element p xs e in absurd (none f.0 f.1 f.2)
  | inr e ↦ e
]

-- an element of a list that was mapped
pub mapped_element : {X Y : Type 0} (f : X → Y) (xs : List X) (y : Y) → Contains (map f xs) y → (x : X) × Contains xs x × (f x ≡ y)
mapped_element f [] y c = absurd (no_element y c)
mapped_element f (x ∷ xs) y c = elim (element_cases (f x) (map f xs) y c) [
  | inl same ↦ (x, first_element x xs, same)
  | inr there ↦ let m = mapped_element f xs y there in (m.0, later_element x xs m.0 m.1, m.2)
]

pub map_element : {X Y : Type 0} (f : X → Y) (xs : List X) (x : X) → Contains xs x → Contains (map f xs) (f x)
map_element f [] x c = absurd (no_element x c)
map_element f (y ∷ xs) x c = elim (element_cases y xs x c) [
  | inl same ↦ subst (λ (z : _). Contains (f y ∷ map f xs) (f z)) same (first_element (f y) (map f xs))
  | inr there ↦ later_element (f y) (map f xs) (f x) (map_element f xs x there)
]

-- ---- members

pub member_from : (set : Set) (v : Version) → Contains set v → is_member v set ≡ true
member_from set v c = any_from (same_version v) set v c ((same_version_is v v).1 refl)

pub from_member : (set : Set) (v : Version) → is_member v set ≡ true → Contains set v
from_member set v h = Contains-from_any (λ a b. (same_version_is a b).0) v set h

pub member_none : (set : Set) (v : Version) → (Contains set v → ⊥) → is_member v set ≡ false
member_none set v none = elim (cases_Bool (is_member v set)) [
  | inl e ↦ absurd (none (from_member set v e))
  | inr e ↦ e
]

pub none_from_member : (set : Set) (v : Version) → is_member v set ≡ false → Contains set v → ⊥
none_from_member set v e c = false≢true (sym e ∙ member_from set v c)
