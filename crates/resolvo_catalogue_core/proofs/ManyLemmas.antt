-- Whether a line marks a package `many`: the test over the lines, and the map's entry.
use Rattle.std.proofs.Common.{◌≡◌, inl, inr, ℕ, zero, suc, Bool, true, false, not, ◌||◌, ◌==◌, List, [], ◌∷◌, length, Option, Some, None, is_some, refl, sym, ap, ◌∙◌, arith}
use Rattle.std.specs.Prelude.{Contains, slice_get}
use Rattle.std.specs.List.{list_any}
use Rattle.std.proofs.lemmas.Bool.{cases_Bool, false≢true, false_from_ne_true}
use Rattle.std.proofs.lemmas.Bool.Decides.{Decides-eqb}
use Rattle.std.proofs.lemmas.List.Folds.{list_any_at}
use Rattle.std.proofs.lemmas.Option.{get_or_from_slice_get, slice_get_within}
use Rattle.std.proofs.lemmas.Slice.Eq.{bytes_eq-Decides}
use Rattle.resolvo_text.specs.Line.{Version, Line, Skipped, Listed, Needs, Limits, Unknown, Lock, Favour, Exclude, Many, Wish}
use Rattle.resolvo_catalogue_core.specs.Grammar.{owner_of}
use Rattle.resolvo_catalogue_core.specs.Questions.{IsOnly, LineIs, MarksMany}
use Rattle.resolvo_catalogue_core.specs.Sets.{marks_many, is_many}

-- a list that passes a test has an element that does
from_any : {X : Type 0} (p : X → Bool) (xs : List X) → list_any p xs ≡ true → (n : ℕ) × (x : X) × (slice_get xs n ≡ Some x) × (p x ≡ true)
from_any p [] e = absurd cc
from_any p (x ∷ xs) e = elim (cases_Bool (p x)) [
  | inl h ↦ (zero, x, refl, h)
  | inr h ↦ let r = from_any p xs (sym (ap (λ b. b || list_any p xs) h) ∙ e) in (suc r.0, r.1, r.2, r.3)
]

mark_from : (name : List ℕ) (owner : Option Version) (x : Line) → marks_many name x ≡ true → MarksMany name owner x
mark_from name owner (Many marked) e = (bytes_eq-Decides marked name).0 e
mark_from name owner Skipped e = absurd cc
mark_from name owner (Listed v) e = absurd cc
mark_from name owner (Needs ss c) e = absurd cc
mark_from name owner (Limits s) e = absurd cc
mark_from name owner (Unknown r) e = absurd cc
mark_from name owner (Lock v) e = absurd cc
mark_from name owner (Favour v) e = absurd cc
mark_from name owner (Exclude v r) e = absurd cc
mark_from name owner (Wish v) e = absurd cc

mark_test : (name : List ℕ) (owner : Option Version) (x : Line) → MarksMany name owner x → marks_many name x ≡ true
mark_test name owner (Many marked) h = (bytes_eq-Decides marked name).1 h
mark_test name owner Skipped h = absurd h
mark_test name owner (Listed v) h = absurd h
mark_test name owner (Needs ss c) h = absurd h
mark_test name owner (Limits s) h = absurd h
mark_test name owner (Unknown r) h = absurd h
mark_test name owner (Lock v) h = absurd h
mark_test name owner (Favour v) h = absurd h
mark_test name owner (Exclude v r) h = absurd h
mark_test name owner (Wish v) h = absurd h

none_is_some : (n : ℕ) → ◌≡◌ {A = Option ℕ} None (Some n) → ⊥
none_is_some n e = cc

-- a package is marked where the map has its line
pub marked_as : (found : Option ℕ) (lines : List Line) (name : List ℕ) → IsOnly found (λ n. LineIs lines n (MarksMany name)) → is_some found ≡ is_many lines name
marked_as None lines name only =
    sym (false_from_ne_true (is_many lines name) (λ e.
    let h = from_any (marks_many name) lines e in
    none_is_some (suc h.0) ((only (suc h.0)).1 (h.1, h.2, mark_from name (owner_of lines (suc h.0)) h.1 h.3))))
marked_as (Some n) lines name only = sym (from_line n ((only n).0 refl))
  where
    from_line : (n : ℕ) → LineIs lines n (MarksMany name) → is_many lines name ≡ true
    from_line zero (x, at, is) = absurd cc
    from_line (suc n) (x, at, is) = list_any_at (marks_many name) lines n x (slice_get_within lines n x at) (rw (get_or_from_slice_get lines n x x at) (mark_test name (owner_of lines (suc n)) x is))

-- ---- whether a list of numbers is empty

pub first_number : (xs : List ℕ) → not (length xs == 0) ≡ true → (k : ℕ) × Contains xs k
first_number [] e = absurd cc
first_number (x ∷ xs) e = (x, (0, omega arith, refl))

pub no_numbers : (xs : List ℕ) → not (length xs == 0) ≡ false → xs ≡ []
no_numbers [] e = refl
no_numbers (x ∷ xs) e = absurd (elim (cases_Bool (length (x ∷ xs) == 0)) [
  | inl zero_long ↦ let none : suc (length xs) ≡ 0 = (Decides-eqb (length (x ∷ xs)) 0).0 zero_long in omega arith
  | inr longer ↦ false≢true (sym (sym (ap (λ b. not b) longer) ∙ e))
])
