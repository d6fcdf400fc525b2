-- Lemmas on the numbers of keys.
use Rattle.std.proofs.Common.{Ordering, ◌≡◌, ℕ, zero, suc, ◌+◌, ◌<◌, Bool, true, false, List, [], ◌∷◌, ◌++◌, Option, Some, None, refl, sym, ap, subst, ◌∙◌, inl, inr, ◌⊎◌, cond, arith, slice_set}
use Rattle.std.specs.Prelude.{slice_get}
use Rattle.std.specs.Global.{Vec}
use Rattle.std.specs.Map.{lookup, KeepsOthers, IsKeyTest, AreApart}
use Rattle.std.specs.Str.{bytes_eq}
use Rattle.std.specs.BTreeMap.{BTreeMap, UpdatesBy}
use Rattle.std.specs.Ordering.{is_eq, nat_cmp, eq_by_cmp}
use Rattle.std.specs.Cmp.{eq_by_cmp_equiv}
use Rattle.std.specs.Cmp.Lexicographic.{slice_cmp, bytes_decides, nat_list_cmp_total, nat_list_eq_equiv}
use Rattle.std.proofs.lemmas.Map.Text.{is_eq-slice_cmp}
use Rattle.std.proofs.lemmas.Bool.{cases_Bool, cond-true, cond-false}
use Rattle.std.proofs.lemmas.Option.{none-some, same_Some}
use Rattle.resolvo_checker.specs.Numbers.{number_in, AreNumbers, Keeps}
use Rattle.resolvo_checker.specs.Noted.{AreNoted}

abbrev key_cmp : Vec ℕ → Vec ℕ → Ordering
key_cmp x y = slice_cmp nat_cmp x.items y.items

abbrev is_key : List ℕ → Vec ℕ → Bool
is_key key k = is_eq (slice_cmp nat_cmp key k.items)

others : (key : List ℕ) (old new : List (Vec ℕ × ℕ)) → KeepsOthers (eq_by_cmp key_cmp) (is_key key) old new → (other : Vec ℕ → Bool) → IsKeyTest (eq_by_cmp key_cmp) other → AreApart (is_key key) other → lookup other new ≡ lookup other old
unfolding KeepsOthers
others key old new h = h

apart_keys : (bs cs ks : List ℕ) → bytes_eq bs cs ≡ false → is_eq (slice_cmp nat_cmp bs ks) ≡ true → is_eq (slice_cmp nat_cmp cs ks) ≡ false
apart_keys bs cs ks n y = is_eq-slice_cmp cs ks ∙ nat_list_eq_equiv.symm cs ks ∙ sym (nat_list_eq_equiv.congr bs ks cs (sym (is_eq-slice_cmp bs ks) ∙ y)) ∙ n

-- a new number at one key keeps those at the other keys
pub number-updated : (m n : BTreeMap (Vec ℕ) ℕ) (key : List ℕ) (w : Option ℕ) → UpdatesBy key_cmp (λ k. slice_cmp nat_cmp key k.items) m n w
    → (other : List ℕ) → number_in n.entries other ≡ cond (bytes_eq key other) w (number_in m.entries other)
number-updated m n key w h other = elim (cases_Bool (bytes_eq key other)) [
  | inl y ↦ let same : key ≡ other = (bytes_decides key other).0 y in subst (λ (l : List ℕ). number_in n.entries l ≡ w) same h.1 ∙ sym (cond-true (bytes_eq key other) w (number_in m.entries other) y)
  | inr y ↦ others key m.entries n.entries h.3 (is_key other) (λ a b. (eq_by_cmp_equiv nat_list_cmp_total).congr other a.items b.items) (λ k. apart_keys key other k.items y) ∙ sym (cond-false (bytes_eq key other) w (number_in m.entries other) y)
]

module _ (old new : List (Vec ℕ × ℕ)) (key : List ℕ) (count : ℕ) (is : (other : List ℕ) → number_in new other ≡ cond (bytes_eq key other) (Some count) (number_in old other)) (absent : number_in old key ≡ None) where
  pub keeps : Keeps old new
  keeps a i h = elim (cases_Bool (bytes_eq key a)) [
    | inl y ↦ let same : key ≡ a = (bytes_decides key a).0 y in absurd (none-some i (sym absent ∙ (ap (number_in old) same ∙ h)))
    | inr y ↦ is a ∙ (cond-false (bytes_eq key a) (Some count) (number_in old a) y ∙ h)
  ]

  module _ (were : AreNumbers old count) where
    -- a number is the new key's, or an old one
    given : (a : List ℕ) (i : ℕ) → number_in new a ≡ Some i → ((key ≡ a) × (i ≡ count)) ⊎ ((number_in old a ≡ Some i) × (i < count))
    given a i h = elim (cases_Bool (bytes_eq key a)) [
      | inl y ↦ inl ((bytes_decides key a).0 y, same_Some i count (sym h ∙ (is a ∙ cond-true (bytes_eq key a) (Some count) (number_in old a) y)))
      | inr y ↦ let e : number_in old a ≡ Some i = sym (cond-false (bytes_eq key a) (Some count) (number_in old a) y) ∙ (sym (is a) ∙ h) in inr (e, were.below a i e)
    ]

    pub are_numbers : AreNumbers new (count + 1)
    are_numbers = record {
      apart = λ a b i h k. elim (given a i h) [
        | inl x ↦ elim (given b i k) [ inl y ↦ sym x.0 ∙ y.0 | inr y ↦ absurd (omega (arith, x.1, y.1)) ]
        | inr x ↦ elim (given b i k) [ inl y ↦ absurd (omega (arith, x.1, y.1)) | inr y ↦ were.apart a b i x.0 y.0 ]
      ];
      below = λ a i h. elim (given a i h) [ inl x ↦ omega (arith, x.1) | inr x ↦ omega (arith, x.1) ];
    }

-- ---- noted numbers

noted_before : (versions : List (Option ℕ)) (n i : ℕ) → slice_get (versions ++ None ∷ []) n ≡ Some (Some i) → slice_get versions n ≡ Some (Some i)
noted_before [] zero i h = absurd cc
noted_before [] (suc n) i h = h
noted_before (v ∷ versions) zero i h = h
noted_before (v ∷ versions) (suc n) i h = noted_before versions n i h

-- a slot without a number notes nothing
pub noted_push : (entries : List (Vec ℕ × ℕ)) (versions : List (Option ℕ)) → AreNoted entries versions → AreNoted entries (versions ++ None ∷ [])
noted_push entries versions noted = λ n i h. noted n i (noted_before versions n i h)

noted_at : (versions : List (Option ℕ)) (version number n i : ℕ) → slice_get (slice_set versions version (Some number)) n ≡ Some (Some i) → ((n ≡ version) × (i ≡ number)) ⊎ (slice_get versions n ≡ Some (Some i))
noted_at [] version number n i h = inr h
noted_at (v ∷ versions) zero number zero i h = inl (refl, cc)
noted_at (v ∷ versions) zero number (suc n) i h = inr h
noted_at (v ∷ versions) (suc version) number zero i h = inr h
noted_at (v ∷ versions) (suc version) number (suc n) i h = elim (noted_at versions version number n i h) [
  | inl x ↦ inl (ap suc x.0, x.1)
  | inr x ↦ inr x
]

-- the number of one version more is noted
pub noted_set : (entries : List (Vec ℕ × ℕ)) (versions : List (Option ℕ)) (version number : ℕ) → number_in entries (0 ∷ version ∷ []) ≡ Some number → AreNoted entries versions → AreNoted entries (slice_set versions version (Some number))
noted_set entries versions version number is noted = λ n i h. elim (noted_at versions version number n i h) [
  | inl x ↦ rw (x.0, x.1) is
  | inr x ↦ noted n i x
]

-- what is noted stays, as the numbers do
pub noted_keeps : (old new : List (Vec ℕ × ℕ)) (versions : List (Option ℕ)) → Keeps old new → AreNoted old versions → AreNoted new versions
noted_keeps old new versions stays noted = λ n i h. stays (0 ∷ n ∷ []) i (noted n i h)
