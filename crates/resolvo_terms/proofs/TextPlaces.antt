-- The number of a text among texts that are each there once.
use Rattle.std.proofs.Common.{◌≡◌, ◌∙◌, inl, inr, ℕ, zero, suc, Bool, cond, List, [], ◌∷◌, Option, Some, None, refl, sym, ap, subst}
use Rattle.std.specs.Prelude.{slice_get, IfSome}
use Rattle.std.specs.Option.{option_map}
use Rattle.std.specs.Str.{bytes_eq}
use Rattle.std.proofs.lemmas.Bool.{cases_Bool}
use Rattle.std.proofs.lemmas.Option.{none-some, same_Some}
use Rattle.std.proofs.lemmas.Slice.Eq.{bytes_eq-Decides}
use Rattle.resolvo_terms.specs.Terms.{AreOnce}
use Rattle.resolvo_terms.specs.Known.{place_of}

abbrev by_first : Bool → Option ℕ → Option ℕ
by_first same later = cond same (Some 0) (option_map (λ n. suc n) later)

-- the text is at its place
pub place_is : (texts : List (List ℕ)) (text : List ℕ) (i : ℕ) → place_of texts text ≡ Some i → slice_get texts i ≡ Some text
place_is [] text i e = absurd (none-some i e)
place_is (first ∷ texts) text i e = elim (cases_Bool (bytes_eq first text)) [
  | inl same ↦
      let here : 0 ≡ i = same_Some 0 i (sym (ap (λ (b : Bool). by_first b (place_of texts text)) same) ∙ e) in
      subst (λ (k : ℕ). slice_get (first ∷ texts) k ≡ Some text) here (ap (λ (t : List ℕ). Some t) ((bytes_eq-Decides first text).0 same))
  | inr other ↦ later (λ j is. place_is texts text j is) (place_of texts text) refl (sym (ap (λ (b : Bool). by_first b (place_of texts text)) other) ∙ e)
]
  where
    later : ((j : ℕ) → place_of texts text ≡ Some j → slice_get texts j ≡ Some text) → (o : Option ℕ) → place_of texts text ≡ o → option_map (λ n. suc n) o ≡ Some i → slice_get (first ∷ texts) i ≡ Some text
    later below None is f = absurd (none-some i f)
    later below (Some j) is f = subst (λ (k : ℕ). slice_get (first ∷ texts) k ≡ Some text) (same_Some (suc j) i f) (below j is)

-- a text that is there has a place
pub has_place : (texts : List (List ℕ)) (text : List ℕ) (i : ℕ) → slice_get texts i ≡ Some text → place_of texts text ≡ None → ⊥
has_place [] text i at none = absurd cc
has_place (first ∷ texts) text i at none = elim (cases_Bool (bytes_eq first text)) [
  | inl same ↦ none-some 0 (sym none ∙ ap (λ (b : Bool). by_first b (place_of texts text)) same)
  | inr other ↦ later (λ j there is. has_place texts text j there is) i at (place_of texts text) refl (sym (ap (λ (b : Bool). by_first b (place_of texts text)) other) ∙ none)
]
  where
    later : ((j : ℕ) → slice_get texts j ≡ Some text → place_of texts text ≡ None → ⊥) → (i : ℕ) → slice_get (first ∷ texts) i ≡ Some text → (o : Option ℕ) → place_of texts text ≡ o → option_map (λ n. suc n) o ≡ None → ⊥
    later below i there (Some j) is f = none-some (suc j) (sym f)
    later below zero there None is f = none-some 0 (sym none ∙ ap (λ (b : Bool). by_first b (place_of texts text)) ((bytes_eq-Decides first text).1 (same_Some first text there)))
    later below (suc i) there None is f = below i there is

-- its place is the only one
pub is_place : (texts : List (List ℕ)) (text : List ℕ) (i : ℕ) → AreOnce texts → slice_get texts i ≡ Some text → place_of texts text ≡ Some i
is_place texts text i once at = by (place_of texts text) refl
  where
    by : (o : Option ℕ) → place_of texts text ≡ o → place_of texts text ≡ Some i
    by None is = absurd (has_place texts text i at is)
    by (Some j) is = is ∙ ap (λ (k : ℕ). Some k) (once j i text (place_is texts text j is) at)

pub no_place : (texts : List (List ℕ)) (text : List ℕ) → ((i : ℕ) → slice_get texts i ≡ Some text → ⊥) → place_of texts text ≡ None
no_place texts text absent = by (place_of texts text) refl
  where
    by : (o : Option ℕ) → place_of texts text ≡ o → place_of texts text ≡ None
    by None is = is
    by (Some i) is = absurd (absent i (place_is texts text i is))

-- what a search found is the place
pub place_by : (texts : List (List ℕ)) (text : List ℕ) (r : Option ℕ) → AreOnce texts → IfSome r (λ i. slice_get texts i ≡ Some text) → (r ≡ None → (i : ℕ) → slice_get texts i ≡ Some text → ⊥) → r ≡ place_of texts text
place_by texts text None once found absent = sym (no_place texts text (absent refl))
place_by texts text (Some i) once found absent = sym (is_place texts text i once found)
