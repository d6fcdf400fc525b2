-- The first of some texts are known to spell names.
use Rattle.std.proofs.Common.{◌≡◌, ◌∙◌, ◌+◌, ◌<◌, ◌≤◌, ◌⊎◌, inl, inr, ℕ, zero, suc, true, false, List, [], Option, Some, None, Ok, length, refl, sym, ap, subst, arith}
use Rattle.std.specs.Prelude.{slice_get}
use Rattle.std.proofs.lemmas.Option.{slice_get_within, slice_get-get_or, same_Some}
use Rattle.resolvo_text.specs.Spelling.{is_name}
use Rattle.resolvo_text.specs.Parse.{name_in}
use Rattle.resolvo_terms.specs.Terms.{Extends}
use Rattle.resolvo_terms.specs.Names.{AreChecked}
use Rattle.resolvo_terms.specs.Reads.{Reads}

pub few_more : (old new : List (List ℕ)) (n : ℕ) → Extends old new → n ≤ length old → n ≤ length new
few_more old new zero more l = omega arith
few_more old new (suc n) more l =
    let within = slice_get_within new n _ (more n _ (slice_get-get_or old n [] (omega (arith, l)))) in
    omega (arith, within)

-- They are known where more texts are added.
pub checked_stay : (old new : List (List ℕ)) (n : ℕ) → Extends old new → AreChecked old n → AreChecked new n
checked_stay old new n more are = record {
  few = few_more old new n more are.few;
  names = λ i text l at.
      let there = slice_get-get_or old i [] (omega (arith, l, are.few)) in
      subst (λ (t : List ℕ). is_name t ≡ true) (same_Some _ text (sym (more i _ there) ∙ at)) (are.names i _ l there);
}

below_or : (n k : ℕ) → k < suc n → (k < n) ⊎ (k ≡ n)
below_or zero zero l = inr refl
below_or zero (suc k) l = absurd (omega (arith, l))
below_or (suc n) zero l = inl (omega arith)
below_or (suc n) (suc k) l = elim (below_or n k (omega (arith, l))) [
  | inl y ↦ inl (omega (arith, y))
  | inr y ↦ inr (ap suc y)
]

-- The next one is known, if it spells a name.
pub checked_next : (texts : List (List ℕ)) (n : ℕ) (name : List ℕ) → AreChecked texts n → slice_get texts n ≡ Some name → is_name name ≡ true → AreChecked texts (suc n)
checked_next texts n name are at is = record {
  few = let within = slice_get_within texts n name at in omega (arith, within);
  names = λ i text l there. elim (below_or n i l) [
    | inl y ↦ are.names i text y there
    | inr y ↦ subst (λ (t : List ℕ). is_name t ≡ true) (same_Some name text (sym at ∙ subst (λ (k : ℕ). slice_get texts k ≡ Some text) y there)) is
  ];
}

pub checked_more : (texts : List (List ℕ)) (n i : ℕ) (name : List ℕ) → AreChecked texts n → slice_get texts i ≡ Some name → i ≡ n → is_name name ≡ true → AreChecked texts (n + 1)
checked_more texts n i name are at same is =
    let next : suc n ≡ n + 1 = omega arith in
    subst (λ (k : ℕ). AreChecked texts k) next (checked_next texts n name are (subst (λ (k : ℕ). slice_get texts k ≡ Some name) same at) is)

-- ---- what a word spells

spelled : (word : List ℕ) → is_name word ≡ true → name_in word ≡ Some word
unfolding name_in
spelled word is = rw is refl

-- A known name is what its word spells.
pub known_read : (texts : List (List ℕ)) (i : ℕ) (word : List ℕ) → slice_get texts i ≡ Some word → is_name word ≡ true → Reads (λ n name. slice_get texts n ≡ Some name) (Ok i) (name_in word)
known_read texts i word at is = subst (λ (o : Option (List ℕ)). Reads (λ n name. slice_get texts n ≡ Some name) (Ok i) o) (sym (spelled word is)) at

-- A word that is no name spells none.
pub no_name : (word : List ℕ) → is_name word ≡ false → name_in word ≡ None
unfolding name_in
no_name word is = rw is refl
