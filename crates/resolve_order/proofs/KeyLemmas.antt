-- The numbers of keys, and lists by them: a key more, a line more, a list taken.
use Rattle.std.proofs.Common.{◌≡◌, ◌∙◌, ◌+◌, ◌==◌, if◌then◌else◌, inl, inr, ℕ, true, false, List, [], ◌∷◌, length, Option, Some, None, add-one, refl, sym, ap, subst, arith}
use Rattle.std.specs.Prelude.{slice_get, slice_index_or}
use Rattle.std.specs.Global.{Vec}
use Rattle.std.proofs.lemmas.Bool.{cases_Bool}
use Rattle.std.proofs.lemmas.Bool.Decides.{Decides-eqb}
use Rattle.std.proofs.lemmas.Option.{same_Some}
use Rattle.resolve_order.specs.Keys.{before, number_of, AreKeys}
use Rattle.resolve_order.specs.Kept.{has_line, list_at}
use Rattle.resolve_order.specs.Numbers.{single_at, slot}
use Rattle.resolve_order.specs.declared.version_table.Numbered.{Numbered}

pub true_false : true ≡ false → ⊥
true_false e = cc

before_more : (n : ℕ) → before (n + 1) ≡ Some n
before_more n = ap before (add-one n)

-- ---- a key more

module _ (old new : List ℕ) (count key : ℕ) (puts : (k : ℕ) → slice_index_or new k 0 ≡ (if key == k then count + 1 else slice_index_or old k 0)) where
  pub key_here : number_of new key ≡ Some count
  key_here = ap before (puts key ∙ (let same : (key == key) ≡ true = (Decides-eqb key key).1 refl in rw same refl)) ∙ before_more count

  pub key_others : (k : ℕ) → (key ≡ k → ⊥) → number_of new k ≡ number_of old k
  key_others k apart = elim (cases_Bool (key == k)) [
    | inl e ↦ absurd (apart ((Decides-eqb key k).0 e))
    | inr e ↦ ap before (puts k ∙ rw e refl)
  ]

  pub keys_more : AreKeys old count → number_of old key ≡ None → AreKeys new (count + 1)
  keys_more are none = record {
    below = λ k n e. elim (cases_Bool (key == k)) [
      | inl same ↦ (let is : count ≡ n = same_Some count n (sym key_here ∙ ap (number_of new) ((Decides-eqb key k).0 same) ∙ e) in omega (arith, is))
      | inr other ↦ (let low = are.below k n (sym (key_others k (differs k other)) ∙ e) in omega (arith, low))
    ];
    once = λ j k n ej ek. elim (cases_Bool (key == j)) [
      | inl first ↦ elim (cases_Bool (key == k)) [
        | inl second ↦ sym ((Decides-eqb key j).0 first) ∙ (Decides-eqb key k).0 second
        | inr other ↦ absurd (new_number j k n first other ej ek)
      ]
      | inr other ↦ elim (cases_Bool (key == k)) [
        | inl second ↦ absurd (new_number k j n second other ek ej)
        | inr also ↦ are.once j k n (sym (key_others j (differs j other)) ∙ ej) (sym (key_others k (differs k also)) ∙ ek)
      ]
    ];
  }
    where
      differs : (k : ℕ) → (key == k) ≡ false → key ≡ k → ⊥
      differs k other is = true_false (sym ((Decides-eqb key k).1 is) ∙ other)

      new_number : (j k n : ℕ) → (key == j) ≡ true → (key == k) ≡ false → number_of new j ≡ Some n → number_of new k ≡ Some n → ⊥
      new_number j k n here other ej ek =
          let is : count ≡ n = same_Some count n (sym key_here ∙ ap (number_of new) ((Decides-eqb key j).0 here) ∙ ej) in
          let low = are.below k n (sym (key_others k (differs k other)) ∙ ek) in
          omega (arith, is, low)

-- ---- lists by the numbers

-- Where there is no list, no key keeps a line.
pub none_kept : (lists : List (Vec ℕ)) (number : Option ℕ) (i : ℕ) → length lists ≡ 0 → has_line (list_at lists number) i ≡ true → ⊥
none_kept [] None i none e = true_false (sym e)
none_kept [] (Some n) i none e = true_false (sym e)
none_kept (x ∷ lists) number i none e = omega (arith, none)

-- Where each list keeps its lines, and each key its number, each key keeps its lines.
pub keys_keep : (old new : List (Vec ℕ)) (before after : ℕ → Option ℕ) (key : ℕ) → ((n i : ℕ) → has_line (slice_get old n) i ≡ true → has_line (slice_get new n) i ≡ true)
    → ((n : ℕ) → before key ≡ Some n → after key ≡ Some n) → ((k : ℕ) → (key ≡ k → ⊥) → after k ≡ before k)
    → (p i : ℕ) → has_line (list_at old (before p)) i ≡ true → has_line (list_at new (after p)) i ≡ true
keys_keep old new before after key keeps known others p i h = go (before p) refl h
  where
    still : (n : ℕ) → before p ≡ Some n → after p ≡ Some n
    still n is = elim (cases_Bool (key == p)) [
      | inl e ↦ (let same : key ≡ p = (Decides-eqb key p).0 e in subst (λ (k : ℕ). after k ≡ Some n) same (known n (ap before same ∙ is)))
      | inr e ↦ others p (λ same. true_false (sym ((Decides-eqb key p).1 same) ∙ e)) ∙ is
    ]

    go : (o : Option ℕ) → before p ≡ o → has_line (list_at old o) i ≡ true → has_line (list_at new (after p)) i ≡ true
    go None is e = absurd (true_false (sym e))
    go (Some n) is e = subst (λ (o : Option ℕ). has_line (list_at new o) i ≡ true) (sym (still n is)) (keeps n i e)

-- The lists of the other keys stay, where one list is taken.
pub others_keep : (old new : List (Vec ℕ)) (places : List ℕ) (count key number : ℕ) → AreKeys places count → number_of places key ≡ Some number
    → ((n i : ℕ) → (n ≡ number → ⊥) → has_line (slice_get old n) i ≡ true → has_line (slice_get new n) i ≡ true)
    → (k i : ℕ) → (k ≡ key → ⊥) → has_line (list_at old (number_of places k)) i ≡ true → has_line (list_at new (number_of places k)) i ≡ true
others_keep old new places count key number are is keeps k i apart h = go (number_of places k) refl h
  where
    go : (o : Option ℕ) → number_of places k ≡ o → has_line (list_at old o) i ≡ true → has_line (list_at new o) i ≡ true
    go None here e = absurd (true_false (sym e))
    go (Some n) here e = keeps n i (λ same. apart (are.once k key number (here ∙ ap (λ (m : ℕ). let x : Option ℕ = Some m in x) same) is)) e

-- ---- versions by the numbers

-- one place changes, that of one key
pub slots_change : (old new : List (Option Numbered)) (before after : List ℕ) (count key number : ℕ) (x : Option Numbered) → AreKeys after count → number_of after key ≡ Some number
    → ((k : ℕ) → (key ≡ k → ⊥) → number_of after k ≡ number_of before k) → ((n : ℕ) → single_at new n ≡ (if number == n then x else single_at old n))
    → (k : ℕ) → slot new (number_of after k) ≡ (if key == k then x else slot old (number_of before k))
slots_change old new before after count key number x are is others change k = elim (cases_Bool (key == k)) [
  | inl e ↦
      let same : key ≡ k = (Decides-eqb key k).0 e in
      let here : (number == number) ≡ true = (Decides-eqb number number).1 refl in
      rw e (ap (slot new) (sym (ap (number_of after) same) ∙ is) ∙ change number ∙ rw here refl)
  | inr e ↦
      let apart : key ≡ k → ⊥ = λ same. true_false (sym ((Decides-eqb key k).1 same) ∙ e) in
      rw e (go (number_of before k) (others k apart) apart)
]
  where
    elsewhere : (n : ℕ) → (number ≡ n → ⊥) → single_at new n ≡ single_at old n
    elsewhere n apart = elim (cases_Bool (number == n)) [
      | inl e ↦ absurd (apart ((Decides-eqb number n).0 e))
      | inr e ↦ change n ∙ rw e refl
    ]

    go : (o : Option ℕ) → number_of after k ≡ o → (key ≡ k → ⊥) → slot new (number_of after k) ≡ slot old o
    go None here apart = ap (slot new) here
    go (Some n) here apart = ap (slot new) here ∙ elsewhere n (λ same. apart (are.once key k number is (here ∙ ap (λ (m : ℕ). let x : Option ℕ = Some m in x) (sym same))))
