-- Values that are found at places of their hashes, with one more.
use Rattle.std.proofs.Common.{◌≡◌, ◌∙◌, ◌<◌, ◌-◌, ◌+◌, ◌⊎◌, inl, inr, ℕ, zero, suc, Bool, true, false, cond, List, [], ◌∷◌, ◌++◌, length, Option, Some, None, refl, sym, ap, subst, arith}
use Rattle.std.specs.Prelude.{slice_get, slice_set, nat_eq, is_some, IfSome}
use Rattle.std.proofs.lemmas.Bool.{cases_Bool, cases_lt}
use Rattle.std.proofs.lemmas.Bool.Decides.{Decides-eqb}
use Rattle.std.specs.Str.{bytes_eq}
use Rattle.std.specs.Global.{Vec}
use Rattle.std.specs.Cmp.Lexicographic.{bytes_decides}
use Rattle.std.proofs.lemmas.List.{length-append}
use Rattle.std.proofs.lemmas.Option.{none-some, same_Some, slice_get_within}
use Rattle.resolvo_terms.proofs.Places.{get_new, get_push, get_kept}
use Rattle.resolvo_terms.specs.Terms.{AreOnce}
use Rattle.resolvo_terms.specs.Terms.{Extends}
use Rattle.resolvo_terms.specs.Found.{number_in_slot, or_later, place_among, place_from, slot_at, free_by, free_from, free_of, slots_after, tries, number_if, number_of_slot, number_from, AreIndexed, AreTextsFound, IsPut, list_number_in, text_hash}
use Rattle.resolvo_terms.proofs.Places.{set_at, set_others, set_length}

true_false : true ≡ false → ⊥
true_false e = cc

zero_some : (n : ℕ) → ◌≡◌ {A = Option ℕ} (Some (suc n)) (Some zero) → ⊥
zero_some n e = cc

-- ---- what lies at a place

pub slot_zero : (next : ℕ) (s : Option ℕ) → Some next ≡ s → next ≡ 0 → None ≡ number_in_slot s
slot_zero next s is zero_is = ap (λ (n : ℕ). number_in_slot (Some n)) (sym zero_is) ∙ ap number_in_slot is

pub slot_next : (next : ℕ) (s : Option ℕ) → Some next ≡ s → (next ≡ 0 → ⊥) → Some (next - 1) ≡ number_in_slot s
slot_next zero s is more = absurd (more refl)
slot_next (suc n) s is more = (let before : suc n - 1 ≡ n = omega arith in ap (λ (k : ℕ). Some k) before) ∙ ap number_in_slot is

-- ---- one place more

pub free_next : (slots : List ℕ) (tried place : ℕ) → tried < tries → free_from slots (tries - tried) (place + tried) ≡ free_by (place_among (length slots) (place + tried)) (slot_at slots (place + tried)) (free_from slots (tries - (tried + 1)) (place + (tried + 1)))
free_next slots tried place less =
    let left : tries - tried ≡ suc (tries - (tried + 1)) = omega (arith, less) in
    let next : suc (place + tried) ≡ place + (tried + 1) = omega arith in
    ap (λ (n : ℕ). free_from slots n (place + tried)) left
    ∙ ap (λ (n : ℕ). free_by (place_among (length slots) (place + tried)) (slot_at slots (place + tried)) (free_from slots (tries - (tried + 1)) n)) next

free_skip : (place : ℕ) (s later : Option ℕ) → (s ≡ Some 0 → ⊥) → free_by place s later ≡ later
free_skip place None later taken = refl
free_skip place (Some zero) later taken = absurd (taken refl)
free_skip place (Some (suc n)) later taken = refl

pub free_found : (slots : List ℕ) (tried first hash : ℕ) → tried < tries → free_from slots (tries - tried) (first + tried) ≡ free_of slots hash → slot_at slots (first + tried) ≡ Some 0 → Some (place_among (length slots) (first + tried)) ≡ free_of slots hash
free_found slots tried first hash less h is =
    sym (ap (λ (s : Option ℕ). free_by (place_among (length slots) (first + tried)) s (free_from slots (tries - (tried + 1)) (first + (tried + 1)))) is) ∙ (sym (free_next slots tried first less) ∙ h)

pub free_later : (slots : List ℕ) (tried first hash : ℕ) → tried < tries → free_from slots (tries - tried) (first + tried) ≡ free_of slots hash → (slot_at slots (first + tried) ≡ Some 0 → ⊥) → free_from slots (tries - (tried + 1)) (first + (tried + 1)) ≡ free_of slots hash
free_later slots tried first hash less h taken =
    sym (free_skip (place_among (length slots) (first + tried)) (slot_at slots (first + tried)) (free_from slots (tries - (tried + 1)) (first + (tried + 1))) taken) ∙ (sym (free_next slots tried first less) ∙ h)

pub free_first : (slots : List ℕ) (first hash : ℕ) → first ≡ place_from hash → free_from slots (tries - 0) (first + 0) ≡ free_of slots hash
free_first slots first hash is = let zero_more : first + 0 ≡ first = omega arith in ap (λ (n : ℕ). free_from slots tries n) (zero_more ∙ is)

pub free_none : (slots : List ℕ) (tried first hash : ℕ) → (tried < tries → ⊥) → free_from slots (tries - tried) (first + tried) ≡ free_of slots hash → None ≡ free_of slots hash
free_none slots tried first hash past h = let over : tries - tried ≡ 0 = omega (arith, past) in sym (ap (λ (n : ℕ). free_from slots n (first + tried)) over) ∙ h

module _ {V : Type 0} (eq : V → V → Bool) (values : List V) (slots : List ℕ) (other : Option ℕ) (v : V) where
  number_next : (tried place : ℕ) → tried < tries → number_from eq values slots other (tries - tried) (place + tried) v ≡ number_of_slot eq values (slot_at slots (place + tried)) (number_from eq values slots other (tries - (tried + 1)) (place + (tried + 1)) v) v
  number_next tried place less =
      let left : tries - tried ≡ suc (tries - (tried + 1)) = omega (arith, less) in
      let next : suc (place + tried) ≡ place + (tried + 1) = omega arith in
      ap (λ (n : ℕ). number_from eq values slots other n (place + tried) v) left
      ∙ ap (λ (n : ℕ). number_of_slot eq values (slot_at slots (place + tried)) (number_from eq values slots other (tries - (tried + 1)) n v) v) next

  pub number_first : (first hash : ℕ) → first ≡ place_from hash → number_from eq values slots other (tries - 0) (first + 0) v ≡ number_from eq values slots other tries (place_from hash) v
  number_first first hash is = let zero_more : first + 0 ≡ first = omega arith in ap (λ (n : ℕ). number_from eq values slots other tries n v) (zero_more ∙ is)

  -- at a place: the number there is the value's, or the later places decide
  pub number_here : (tried first : ℕ) (all : Option ℕ) → tried < tries → number_from eq values slots other (tries - tried) (first + tried) v ≡ all → (found : Option ℕ) → ((later : Option ℕ) → number_of_slot eq values (slot_at slots (first + tried)) later v ≡ or_later found later)
      → or_later found (number_from eq values slots other (tries - (tried + 1)) (first + (tried + 1)) v) ≡ all
  number_here tried first all less h found is = sym (is (number_from eq values slots other (tries - (tried + 1)) (first + (tried + 1)) v)) ∙ (sym (number_next tried first less) ∙ h)

  pub number_free : (tried first : ℕ) (all : Option ℕ) → tried < tries → number_from eq values slots other (tries - tried) (first + tried) v ≡ all → slot_at slots (first + tried) ≡ Some 0 → None ≡ all
  number_free tried first all less h is =
      sym (ap (λ (s : Option ℕ). number_of_slot eq values s (number_from eq values slots other (tries - (tried + 1)) (first + (tried + 1)) v) v) is) ∙ (sym (number_next tried first less) ∙ h)

  pub number_last : (tried first : ℕ) (all : Option ℕ) → (tried < tries → ⊥) → number_from eq values slots other (tries - tried) (first + tried) v ≡ all → other ≡ all
  number_last tried first all past h = let over : tries - tried ≡ 0 = omega (arith, past) in sym (ap (λ (n : ℕ). number_from eq values slots other n (first + tried) v) over) ∙ h

  -- what a slot that isn't free gives
  pub slot_none : (s later : Option ℕ) → (s ≡ Some 0 → ⊥) → None ≡ number_in_slot s → number_of_slot eq values s later v ≡ later
  slot_none None later taken is = refl
  slot_none (Some zero) later taken is = absurd (taken refl)
  slot_none (Some (suc n)) later taken is = absurd (none-some n is)

  pub slot_some : (s later : Option ℕ) (n : ℕ) → Some n ≡ number_in_slot s → number_of_slot eq values s later v ≡ number_if eq (slice_get values n) n later v
  slot_some None later n is = absurd (none-some n (sym is))
  slot_some (Some zero) later n is = absurd (none-some n (sym is))
  slot_some (Some (suc m)) later n is = let same : n ≡ m = same_Some n m is in ap (λ (k : ℕ). number_if eq (slice_get values k) k later v) (sym same)

-- ---- the free place

free_is : (slots : List ℕ) (left place p : ℕ) → free_from slots left place ≡ Some p → slice_get slots p ≡ Some 0
free_is slots zero place p e = absurd (none-some p e)
free_is slots (suc left) place p e = go (λ f. free_is slots left (suc place) p f) (slot_at slots place) refl e
  where
    go : (free_from slots left (suc place) ≡ Some p → slice_get slots p ≡ Some 0) → (s : Option ℕ) → slot_at slots place ≡ s → free_by (place_among (length slots) place) s (free_from slots left (suc place)) ≡ Some p → slice_get slots p ≡ Some 0
    go more None is f = more f
    go more (Some zero) is f = subst (λ (n : ℕ). slice_get slots n ≡ Some 0) (same_Some (place_among (length slots) place) p f) is
    go more (Some (suc m)) is f = more f

-- what lies at a place after a number is put at a free one
module _ (slots : List ℕ) (p n : ℕ) (free : slice_get slots p ≡ Some 0) where
  here : (place : ℕ) → p ≡ place_among (length slots) place → slot_at (slice_set slots p (suc n)) place ≡ Some (suc n)
  here place is =
      ap (λ (k : ℕ). slice_get (slice_set slots p (suc n)) (place_among k place)) (set_length slots p (suc n))
      ∙ ap (λ (k : ℕ). slice_get (slice_set slots p (suc n)) k) (sym is)
      ∙ set_at slots p 0 (suc n) free

  kept : (place : ℕ) → (slot_at slots place ≡ Some 0) ⊎ (slot_at (slice_set slots p (suc n)) place ≡ slot_at slots place)
  kept place = elim (cases_Bool (nat_eq p (place_among (length slots) place))) [
    | inl same ↦ inl (ap (λ (k : ℕ). slice_get slots k) (sym ((Decides-eqb p (place_among (length slots) place)).0 same)) ∙ free)
    | inr apart ↦ inr (ap (λ (k : ℕ). slice_get (slice_set slots p (suc n)) (place_among k place)) (set_length slots p (suc n))
        ∙ set_others slots p (suc n) (place_among (length slots) place) (λ one. true_false (sym ((Decides-eqb p (place_among (length slots) place)).1 one) ∙ apart)))
  ]

module _ {V : Type 0} (eq : V → V → Bool) (exact : (x y : V) → eq x y ≡ true → x ≡ y) (own : (x : V) → eq x x ≡ true) where
  -- ---- a number that is found is right

  from_right : (values : List V) (slots : List ℕ) (other : Option ℕ) (v : V) (n : ℕ) → (other ≡ Some n → slice_get values n ≡ Some v) → (left place : ℕ)
      → number_from eq values slots other left place v ≡ Some n → slice_get values n ≡ Some v
  from_right values slots other v n right zero place e = right e
  from_right values slots other v n right (suc left) place e = go (λ f. from_right values slots other v n right left (suc place) f) (slot_at slots place) e
    where
      value : (number_from eq values slots other left (suc place) v ≡ Some n → slice_get values n ≡ Some v) → (m : ℕ) (o : Option V) → slice_get values m ≡ o → number_if eq o m (number_from eq values slots other left (suc place) v) v ≡ Some n → slice_get values n ≡ Some v
      value more m None is f = more f
      value more m (Some first) is f = elim (cases_Bool (eq first v)) [
        | inl same ↦
            let one : m ≡ n = same_Some m n (sym (ap (λ (b : Bool). cond b (Some m) (number_from eq values slots other left (suc place) v)) same) ∙ f) in
            subst (λ (k : ℕ). slice_get values k ≡ Some v) one (is ∙ ap (λ (x : V). Some x) (exact first v same))
        | inr apart ↦ more (sym (ap (λ (b : Bool). cond b (Some m) (number_from eq values slots other left (suc place) v)) apart) ∙ f)
      ]

      go : (number_from eq values slots other left (suc place) v ≡ Some n → slice_get values n ≡ Some v) → (s : Option ℕ) → number_of_slot eq values s (number_from eq values slots other left (suc place) v) v ≡ Some n → slice_get values n ≡ Some v
      go more None f = more f
      go more (Some zero) f = absurd (none-some n f)
      go more (Some (suc m)) f = value more m (slice_get values m) refl f

  module _ (hash : V → ℕ) (values : List V) (slots : List ℕ) (others : V → Option ℕ) where
    abbrev number : V → Option ℕ
    number v = number_from eq values slots (others v) tries (place_from (hash v)) v

    pub indexed_found : (count : ℕ) → AreIndexed eq hash values slots others count → (v : V) (n : ℕ) → number v ≡ Some n → slice_get values n ≡ Some v
    indexed_found count h v n e = from_right values slots (others v) v n (h.right v n) tries (place_from (hash v)) e

    pub indexed_if : (count : ℕ) → AreIndexed eq hash values slots others count → (v : V) (r : Option ℕ) → r ≡ number v → IfSome r (λ i. slice_get values i ≡ Some v)
    indexed_if count h v None is = tt
    indexed_if count h v (Some i) is = indexed_found count h v i (sym is)

    pub indexed_absent : AreIndexed eq hash values slots others (length values) → (v : V) → number v ≡ None → (i : ℕ) → slice_get values i ≡ Some v → ⊥
    indexed_absent h v none i at = none-some i (sym none ∙ h.all v i (slice_get_within values i v at) at)

    pub indexed_once : AreIndexed eq hash values slots others (length values) → AreOnce values
    indexed_once h i j x a b = same_Some i j (sym (h.all x i (slice_get_within values i x a) a) ∙ h.all x j (slice_get_within values j x b) b)

    pub index_none : ((v : V) → others v ≡ None) → AreIndexed eq hash values slots others 0
    index_none none = record { right = λ v n e. absurd (none-some n (sym (none v) ∙ e)); all = λ v n less at. absurd (omega (arith, less)) }

  -- ---- a number that was found is found

  module _ (values news : List V) (grow : Extends values news) (v : V) (back : (m : ℕ) → slice_get news m ≡ Some v → slice_get values m ≡ Some v) where
    value_kept : (m n : ℕ) (later later' : Option ℕ) → (later ≡ Some n → later' ≡ Some n) → (a b : Option V) → slice_get values m ≡ a → slice_get news m ≡ b → number_if eq a m later v ≡ Some n → number_if eq b m later' v ≡ Some n
    value_kept m n later later' more None None was is e = more e
    value_kept m n later later' more None (Some g) was is e = elim (cases_Bool (eq g v)) [
      | inl same ↦ absurd (nothing (sym was ∙ back m (is ∙ ap (λ (x : V). Some x) (exact g v same))))
      | inr apart ↦ ap (λ (b : Bool). cond b (Some m) later') apart ∙ more e
    ]
      where
        nothing : ◌≡◌ {A = Option V} None (Some v) → ⊥
        nothing f = cc
    value_kept m n later later' more (Some f) None was is e = absurd (nothing (sym is ∙ grow m f was))
      where
        nothing : ◌≡◌ {A = Option V} None (Some f) → ⊥
        nothing f = cc
    value_kept m n later later' more (Some f) (Some g) was is e =
        let one : f ≡ g = same_Some f g (sym (grow m f was) ∙ is) in
        elim (cases_Bool (eq f v)) [
          | inl same ↦ ap (λ (b : Bool). cond b (Some m) later') (subst (λ (x : V). eq x v ≡ true) one same) ∙ (sym (ap (λ (b : Bool). cond b (Some m) later) same) ∙ e)
          | inr apart ↦ ap (λ (b : Bool). cond b (Some m) later') (subst (λ (x : V). eq x v ≡ false) one apart) ∙ more (sym (ap (λ (b : Bool). cond b (Some m) later) apart) ∙ e)
        ]

    slot_kept : (s : Option ℕ) (n : ℕ) (later later' : Option ℕ) → (later ≡ Some n → later' ≡ Some n) → number_of_slot eq values s later v ≡ Some n → number_of_slot eq news s later' v ≡ Some n
    slot_kept None n later later' more e = more e
    slot_kept (Some zero) n later later' more e = absurd (none-some n e)
    slot_kept (Some (suc m)) n later later' more e = value_kept m n later later' more (slice_get values m) (slice_get news m) refl refl e

    from_kept : (slots slots' : List ℕ) → ((place : ℕ) → (slot_at slots place ≡ Some 0) ⊎ (slot_at slots' place ≡ slot_at slots place)) → (other other' : Option ℕ) (n : ℕ) → (other ≡ Some n → other' ≡ Some n)
        → (left place : ℕ) → number_from eq values slots other left place v ≡ Some n → number_from eq news slots' other' left place v ≡ Some n
    from_kept slots slots' same other other' n more zero place e = more e
    from_kept slots slots' same other other' n more (suc left) place e = elim (same place) [
      | inl free ↦ absurd (none-some n (subst (λ (s : Option ℕ). number_of_slot eq values s (number_from eq values slots other left (suc place) v) v ≡ Some n) free e))
      | inr is ↦ subst (λ (s : Option ℕ). number_of_slot eq news s (number_from eq news slots' other' left (suc place) v) v ≡ Some n) (sym is)
          (slot_kept (slot_at slots place) n (number_from eq values slots other left (suc place) v) (number_from eq news slots' other' left (suc place) v) (from_kept slots slots' same other other' n more left (suc place)) e)
    ]

  -- ---- a number that is put is found

  module _ (news : List V) (v : V) (n : ℕ) (at : slice_get news n ≡ Some v) (once : (m : ℕ) → slice_get news m ≡ Some v → m ≡ n) where
    value_own : (m : ℕ) (later : Option ℕ) → later ≡ Some n → (o : Option V) → slice_get news m ≡ o → number_if eq o m later v ≡ Some n
    value_own m later is None e = is
    value_own m later is (Some f) e = elim (cases_Bool (eq f v)) [
      | inl same ↦ ap (λ (b : Bool). cond b (Some m) later) same ∙ ap (λ (k : ℕ). Some k) (once m (e ∙ ap (λ (x : V). Some x) (exact f v same)))
      | inr apart ↦ ap (λ (b : Bool). cond b (Some m) later) apart ∙ is
    ]

    at_own : (later : Option ℕ) → number_if eq (slice_get news n) n later v ≡ Some n
    at_own later = ap (λ (o : Option V). number_if eq o n later v) at ∙ ap (λ (b : Bool). cond b (Some n) later) (own v)

    own_placed : (slots : List ℕ) (p : ℕ) → slice_get slots p ≡ Some 0 → (other : Option ℕ) (left place : ℕ) → free_from slots left place ≡ Some p → number_from eq news (slice_set slots p (suc n)) other left place v ≡ Some n
    own_placed slots p free other zero place e = absurd (none-some p e)
    own_placed slots p free other (suc left) place e = go (λ f. own_placed slots p free other left (suc place) f) (slot_at slots place) refl e
      where
        through : (s : Option ℕ) → slot_at (slice_set slots p (suc n)) place ≡ s → number_of_slot eq news s (number_from eq news (slice_set slots p (suc n)) other left (suc place) v) v ≡ Some n → number_of_slot eq news (slot_at (slice_set slots p (suc n)) place) (number_from eq news (slice_set slots p (suc n)) other left (suc place) v) v ≡ Some n
        through s is f = subst (λ (o : Option ℕ). number_of_slot eq news o (number_from eq news (slice_set slots p (suc n)) other left (suc place) v) v ≡ Some n) (sym is) f

        none_zero : ◌≡◌ {A = Option ℕ} None (Some zero) → ⊥
        none_zero f = cc

        go : (free_from slots left (suc place) ≡ Some p → number_from eq news (slice_set slots p (suc n)) other left (suc place) v ≡ Some n) → (s : Option ℕ) → slot_at slots place ≡ s → free_by (place_among (length slots) place) s (free_from slots left (suc place)) ≡ Some p → number_of_slot eq news (slot_at (slice_set slots p (suc n)) place) (number_from eq news (slice_set slots p (suc n)) other left (suc place) v) v ≡ Some n
        go more None is f = elim (kept slots p n free place) [
          | inl there ↦ absurd (none_zero (sym is ∙ there))
          | inr same ↦ through None (same ∙ is) (more f)
        ]
        go more (Some zero) is f = through (Some (suc n)) (here slots p n free place (sym (same_Some (place_among (length slots) place) p f))) (at_own (number_from eq news (slice_set slots p (suc n)) other left (suc place) v))
        go more (Some (suc m)) is f = elim (kept slots p n free place) [
          | inl there ↦ absurd (zero_some m (sym is ∙ there))
          | inr same ↦ through (Some (suc m)) (same ∙ is) (value_own m (number_from eq news (slice_set slots p (suc n)) other left (suc place) v) (more f) (slice_get news m) refl)
        ]

    own_mapped : (slots : List ℕ) (other : Option ℕ) → other ≡ Some n → (left place : ℕ) → free_from slots left place ≡ None → number_from eq news slots other left place v ≡ Some n
    own_mapped slots other is zero place e = is
    own_mapped slots other is (suc left) place e = go (λ f. own_mapped slots other is left (suc place) f) (slot_at slots place) e
      where
        go : (free_from slots left (suc place) ≡ None → number_from eq news slots other left (suc place) v ≡ Some n) → (s : Option ℕ) → free_by (place_among (length slots) place) s (free_from slots left (suc place)) ≡ None → number_of_slot eq news s (number_from eq news slots other left (suc place) v) v ≡ Some n
        go more None f = more f
        go more (Some zero) f = absurd (none-some (place_among (length slots) place) (sym f))
        go more (Some (suc m)) f = value_own m (number_from eq news slots other left (suc place) v) (more f) (slice_get news m) refl

  -- ---- one more

  module _ (hash : V → ℕ) (values news : List V) (slots slots' : List ℕ) (others others' : V → Option ℕ) (count : ℕ) (h : AreIndexed eq hash values slots others count) (grow : Extends values news) (v : V)
      (back : (m : ℕ) (w : V) → slice_get news m ≡ Some w → (slice_get values m ≡ Some w) ⊎ ((m ≡ count) × (v ≡ w))) (at : slice_get news count ≡ Some v) (once : (m : ℕ) → slice_get news m ≡ Some v → m ≡ count)
      (put : IsPut eq v (hash v) count slots slots' others others') where
    apart_of : (w : V) → (v ≡ w → ⊥) → eq v w ≡ false
    apart_of w other = elim (cases_Bool (eq v w)) [ inl same ↦ absurd (other (exact v w same)) | inr apart ↦ apart ]

    -- what the map has then
    mapped_kept : (w : V) → (v ≡ w → ⊥) → others' w ≡ others w
    mapped_kept w other = put.in_map w ∙ go (is_some (free_of slots (hash v)))
      where
        go : (b : Bool) → cond b (others w) (cond (eq v w) (Some count) (others w)) ≡ others w
        go true = refl
        go false = ap (λ (c : Bool). cond c (Some count) (others w)) (apart_of w other)

    mapped_right : (w : V) (n : ℕ) → others' w ≡ Some n → slice_get news n ≡ Some w
    mapped_right w n e = go (is_some (free_of slots (hash v))) (sym (put.in_map w) ∙ e)
      where
        go : (b : Bool) → cond b (others w) (cond (eq v w) (Some count) (others w)) ≡ Some n → slice_get news n ≡ Some w
        go true f = grow n w (h.right w n f)
        go false f = elim (cases_Bool (eq v w)) [
          | inl same ↦
              let one : count ≡ n = same_Some count n (sym (ap (λ (c : Bool). cond c (Some count) (others w)) same) ∙ f) in
              subst (λ (k : ℕ). slice_get news k ≡ Some w) one (at ∙ ap (λ (x : V). Some x) (exact v w same))
          | inr apart ↦ grow n w (h.right w n (sym (ap (λ (c : Bool). cond c (Some count) (others w)) apart) ∙ f))
        ]

    slots_kept : (place : ℕ) → (slot_at slots place ≡ Some 0) ⊎ (slot_at slots' place ≡ slot_at slots place)
    slots_kept place = go (free_of slots (hash v)) refl
      where
        go : (o : Option ℕ) → free_of slots (hash v) ≡ o → (slot_at slots place ≡ Some 0) ⊎ (slot_at slots' place ≡ slot_at slots place)
        go None is = inr (ap (λ (xs : List ℕ). slot_at xs place) (put.at_place ∙ ap (λ (o : Option ℕ). slots_after o slots count) is))
        go (Some p) is = subst (λ (xs : List ℕ). (slot_at slots place ≡ Some 0) ⊎ (slot_at xs place ≡ slot_at slots place)) (sym (put.at_place ∙ ap (λ (o : Option ℕ). slots_after o slots count) is))
            (kept slots p count (free_is slots tries (place_from (hash v)) p is) place)

    own_found : number_from eq news slots' (others' v) tries (place_from (hash v)) v ≡ Some count
    own_found = go (free_of slots (hash v)) refl
      where
        go : (o : Option ℕ) → free_of slots (hash v) ≡ o → number_from eq news slots' (others' v) tries (place_from (hash v)) v ≡ Some count
        go None is = subst (λ (xs : List ℕ). number_from eq news xs (others' v) tries (place_from (hash v)) v ≡ Some count) (sym (put.at_place ∙ ap (λ (o : Option ℕ). slots_after o slots count) is))
            (own_mapped news v count at once slots (others' v) mapped tries (place_from (hash v)) is)
          where
            mapped : others' v ≡ Some count
            mapped = put.in_map v ∙ (ap (λ (o : Option ℕ). cond (is_some o) (others v) (cond (eq v v) (Some count) (others v))) is ∙ ap (λ (c : Bool). cond c (Some count) (others v)) (own v))
        go (Some p) is = subst (λ (xs : List ℕ). number_from eq news xs (others' v) tries (place_from (hash v)) v ≡ Some count) (sym (put.at_place ∙ ap (λ (o : Option ℕ). slots_after o slots count) is))
            (own_placed news v count at once slots p (free_is slots tries (place_from (hash v)) p is) (others' v) tries (place_from (hash v)) is)

    pub index_more : AreIndexed eq hash news slots' others' (suc count)
    index_more = record {
      right = mapped_right;
      all = λ w n less there. elim (cases_lt n count) [
        | inl before ↦
            let other : v ≡ w → ⊥ = λ same. let last : n ≡ count = once n (there ∙ ap (λ (x : V). Some x) (sym same)) in absurd (omega (arith, last, before)) in
            let was : (m : ℕ) → slice_get news m ≡ Some w → slice_get values m ≡ Some w = λ m e. elim (back m w e) [ inl old ↦ old | inr new ↦ absurd (other new.1) ] in
            from_kept values news grow w was slots slots' slots_kept (others w) (others' w) n (λ e. mapped_kept w other ∙ e) tries (place_from (hash w)) (h.all w n before (was n there))
        | inr past ↦
            let last : n ≡ count = omega (arith, less, past) in
            let same : v ≡ w = same_Some v w (sym at ∙ (ap (λ (k : ℕ). slice_get news k) (sym last) ∙ there)) in
            subst (λ (x : V). number_from eq news slots' (others' x) tries (place_from (hash x)) x ≡ Some n) same (own_found ∙ ap (λ (k : ℕ). Some k) (sym last))
      ];
    }

-- ---- one more behind the others

module _ {V : Type 0} (eq : V → V → Bool) (exact : (x y : V) → eq x y ≡ true → x ≡ y) (own : (x : V) → eq x x ≡ true) (hash : V → ℕ) (values : List V) (slots slots' : List ℕ) (others others' : V → Option ℕ) (v : V) (index : ℕ) where
  pub index_push : index ≡ length values → AreIndexed eq hash values slots others (length values) → ((i : ℕ) → slice_get values i ≡ Some v → ⊥) → IsPut eq v (hash v) index slots slots' others others'
      → AreIndexed eq hash (values ++ v ∷ []) slots' others' (length (values ++ v ∷ []))
  index_push is h absent put =
      let longer : suc (length values) ≡ length (values ++ v ∷ []) = (let all = length-append values (v ∷ []) in omega (arith, all)) in
      subst (λ (n : ℕ). AreIndexed eq hash (values ++ v ∷ []) slots' others' n) longer
      (index_more eq exact own hash values (values ++ v ∷ []) slots slots' others others' (length values) h (λ k x e. get_kept values v x k e) v
      (λ m w e. get_push values v w m e) (get_new values v) (λ m e. elim (get_push values v v m e) [ inl old ↦ absurd (absent m old) | inr last ↦ last.0 ])
      (subst (λ (n : ℕ). IsPut eq v (hash v) n slots slots' others others') is put))

-- ---- where a number is put

module _ {V : Type 0} (eq : V → V → Bool) (v : V) (hash h n : ℕ) (same : h ≡ hash) (slots news : List ℕ) (others : V → Option ℕ) (after : news ≡ slots_after (free_of slots h) slots n) where
  pub put_placed : true ≡ is_some (free_of slots h) → IsPut eq v hash n slots news others others
  put_placed is = subst (λ (k : ℕ). IsPut eq v k n slots news others others) same
      (record { at_place = after; in_map = λ w. ap (λ (b : Bool). cond b (others w) (cond (eq v w) (Some n) (others w))) is })

  pub put_mapped : (new_others : V → Option ℕ) → false ≡ is_some (free_of slots h) → ((w : V) → new_others w ≡ cond (eq v w) (Some n) (others w)) → IsPut eq v hash n slots news others new_others
  put_mapped new_others is put = subst (λ (k : ℕ). IsPut eq v k n slots news others new_others) same
      (record { at_place = after; in_map = λ w. put w ∙ ap (λ (b : Bool). cond b (others w) (cond (eq v w) (Some n) (others w))) is })

-- ---- texts

text_exact : (x y : List ℕ) → bytes_eq x y ≡ true → x ≡ y
text_exact x y e = (bytes_decides x y).0 e

text_own : (x : List ℕ) → bytes_eq x x ≡ true
text_own x = (bytes_decides x x).1 refl

module _ (texts : List (List ℕ)) (slots : List ℕ) (others : List (Vec ℕ × ℕ)) where
  pub text_if : AreTextsFound texts slots others (length texts) → (text : List ℕ) (r : Option ℕ) → r ≡ number_from bytes_eq texts slots (list_number_in others text) tries (place_from (text_hash text)) text → IfSome r (λ i. slice_get texts i ≡ Some text)
  text_if h text r is = indexed_if bytes_eq text_exact text_own text_hash texts slots (list_number_in others) (length texts) h text r is

  pub text_absent : AreTextsFound texts slots others (length texts) → (text : List ℕ) (r : Option ℕ) → r ≡ number_from bytes_eq texts slots (list_number_in others text) tries (place_from (text_hash text)) text → r ≡ None → (i : ℕ) → slice_get texts i ≡ Some text → ⊥
  text_absent h text r is none i at = indexed_absent bytes_eq text_exact text_own text_hash texts slots (list_number_in others) h text (sym is ∙ none) i at

  pub texts_once : AreTextsFound texts slots others (length texts) → AreOnce texts
  texts_once h = indexed_once bytes_eq text_exact text_own text_hash texts slots (list_number_in others) h

-- where more than all of them are found, all are
pub texts_all : (slots : List ℕ) (others : List (Vec ℕ × ℕ)) (texts : List (List ℕ)) (count : ℕ) → AreTextsFound texts slots others count → (count < length texts → ⊥) → AreTextsFound texts slots others (length texts)
texts_all slots others texts count h past = record { right = h.right; all = λ v n less at. h.all v n (omega (arith, less, past)) at }

module _ (slots slots' : List ℕ) (others others' : List (Vec ℕ × ℕ)) (text : List ℕ) where
  -- one text more
  pub texts_more : (texts : List (List ℕ)) (index : ℕ) → index ≡ length texts → AreTextsFound texts slots others (length texts) → ((i : ℕ) → slice_get texts i ≡ Some text → ⊥)
      → IsPut bytes_eq text (text_hash text) index slots slots' (list_number_in others) (list_number_in others') → AreTextsFound (texts ++ text ∷ []) slots' others' (length (texts ++ text ∷ []))
  texts_more texts index is h absent put = index_push bytes_eq text_exact text_own text_hash texts slots slots' (list_number_in others) (list_number_in others') text index is h absent put

  -- one of the texts more that are found
  pub texts_next : (texts : List (List ℕ)) (count : ℕ) → AreOnce texts → AreTextsFound texts slots others count → slice_get texts count ≡ Some text
      → IsPut bytes_eq text (text_hash text) count slots slots' (list_number_in others) (list_number_in others') → AreTextsFound texts slots' others' (suc count)
  texts_next texts count once h at put =
      index_more bytes_eq text_exact text_own text_hash texts texts slots slots' (list_number_in others) (list_number_in others') count h (λ k x e. e) text (λ m w e. inl e) at (λ m e. once m count text e at) put

-- where the map answers the same
pub indexed_alike : {V : Type 0} (eq : V → V → Bool) (hash : V → ℕ) (values : List V) (slots : List ℕ) (others news : V → Option ℕ) (count : ℕ) → ((v : V) → news v ≡ others v) → AreIndexed eq hash values slots others count → AreIndexed eq hash values slots news count
indexed_alike eq hash values slots others news count same h = record {
  right = λ v n at. h.right v n (sym (same v) ∙ at);
  all = λ v n less at. ap (λ (o : Option ℕ). number_from eq values slots o tries (place_from (hash v)) v) (same v) ∙ h.all v n less at;
}
