-- Values that are found by their keys, with one more.
use Rattle.std.proofs.Common.{◌≡◌, ◌∙◌, ◌∷◌, ◌++◌, [], ◌≤◌, ◌+◌, inl, inr, ℕ, suc, Bool, cond, List, length, map, Option, Some, None, refl, sym, ap, subst, arith}
use Rattle.std.specs.Prelude.{slice_get, IfSome}
use Rattle.std.specs.Option.{option_map}
use Rattle.std.proofs.lemmas.List.{length-map, length_push, map_push}
use Rattle.std.proofs.lemmas.Option.{same_Some, slice_get-map}
use Rattle.resolvo_terms.specs.declared.key_index.KeyIndex.{KeyIndex}
use Rattle.resolvo_terms.specs.declared.slots.Slots.{Slots}
use Rattle.resolvo_terms.specs.Terms.{AreOnce, Extends}
use Rattle.resolvo_terms.specs.Found.{Key, AreIndexed, AreKeyed, HasMore, IsPut, key_eq, key_hash, keyed_number, number_if, number_in}
use Rattle.resolvo_terms.proofs.FoundLemmas.{keys_exact, keys_own, extends_more}
use Rattle.resolvo_terms.proofs.IndexLemmas.{index_none, index_more, index_push, indexed_once, indexed_found, indexed_absent}

-- the first so many keys are found
abbrev pub AreKeyedTo : List Key → KeyIndex → ℕ → Type 0
AreKeyedTo keys index count = AreIndexed key_eq key_hash keys index.slots.numbers.items (number_in index.others.entries) count

abbrev pub IsKeyPut : Key → ℕ → KeyIndex → KeyIndex → Type 0
IsKeyPut k n old new = IsPut key_eq k (key_hash k) n old.slots.numbers.items new.slots.numbers.items (number_in old.others.entries) (number_in new.others.entries)

keyed_none : (keys : List Key) (index : KeyIndex) → index.others.entries ≡ [] → AreKeyedTo keys index 0
keyed_none keys index is = index_none key_eq keys_exact keys_own key_hash keys index.slots.numbers.items (number_in index.others.entries) (λ k. ap (λ (es : List (Key × ℕ)). number_in es k) is)

pub keys_once : (keys : List Key) (index : KeyIndex) → AreKeyed keys index → AreOnce keys
keys_once keys index h = indexed_once key_eq keys_exact keys_own key_hash keys index.slots.numbers.items (number_in index.others.entries) h

pub keyed_absent : (keys : List Key) (index : KeyIndex) → AreKeyed keys index → (k : Key) → None ≡ keyed_number keys index k → (i : ℕ) → slice_get keys i ≡ Some k → ⊥
keyed_absent keys index h k none i at = indexed_absent key_eq keys_exact keys_own key_hash keys index.slots.numbers.items (number_in index.others.entries) h k (sym none) i at

-- where another index has the same
pub keyed_alike : (keys : List Key) (old new : KeyIndex) → new.slots.numbers.items ≡ old.slots.numbers.items → new.others.entries ≡ old.others.entries → AreKeyed keys old → AreKeyed keys new
keyed_alike keys old new slots others h =
    subst (λ (xs : List ℕ). AreIndexed key_eq key_hash keys xs (number_in new.others.entries) (length keys)) (sym slots)
    (subst (λ (es : List (Key × ℕ)). AreIndexed key_eq key_hash keys old.slots.numbers.items (number_in es) (length keys)) (sym others) h)

pub keyed_new : {V : Type 0} (key : V → Key) (values : List V) (index : KeyIndex) → values ≡ [] → index.others.entries ≡ [] → AreKeyed (map key values) index
keyed_new key values index none is = subst (λ (xs : List _). AreKeyed (map key xs) index) (sym none) (keyed_none [] index is)

-- where no value was added
pub keyed_refused : {V : Type 0} (key : V → Key) (values news : List V) (old new : KeyIndex) → news ≡ values → new.slots ≡ old.slots → new.others.entries ≡ old.others.entries → AreKeyed (map key values) old → AreKeyed (map key news) new
keyed_refused key values news old new same slots others h = subst (λ (xs : List _). AreKeyed (map key xs) new) (sym same) (keyed_alike (map key values) old new (ap (λ (s : Slots). s.numbers.items) slots) others h)

module _ {V : Type 0} (key : V → Key) (values : List V) where
  key_there : (i : ℕ) (v : V) → slice_get values i ≡ Some v → slice_get (map key values) i ≡ Some (key v)
  key_there i v at = slice_get-map key values i ∙ ap (λ (o : Option V). option_map key o) at

  pub keyed_once : (index : KeyIndex) → AreKeyed (map key values) index → AreOnce values
  keyed_once index h i j x a b = keys_once (map key values) index h i j (key x) (key_there i x a) (key_there j x b)

  -- a value whose key is found is at its place
  pub keyed_value : (index : KeyIndex) → AreKeyed (map key values) index → ((x y : V) → key x ≡ key y → x ≡ y) → (v : V) (i : ℕ) → Some i ≡ keyed_number (map key values) index (key v) → slice_get values i ≡ Some v
  keyed_value index h exact v i is = go (slice_get values i) refl (sym (slice_get-map key values i) ∙ indexed_found key_eq keys_exact keys_own key_hash (map key values) index.slots.numbers.items (number_in index.others.entries) (length (map key values)) h (key v) i (sym is))
    where
      go : (o : Option V) → slice_get values i ≡ o → option_map key o ≡ Some (key v) → slice_get values i ≡ Some v
      go None at e = absurd cc
      go (Some w) at e = at ∙ ap (λ (x : V). Some x) (exact w v (same_Some (key w) (key v) e))

  pub keyed_if : (index : KeyIndex) → AreKeyed (map key values) index → ((x y : V) → key x ≡ key y → x ≡ y) → (v : V) (k : Key) → k ≡ key v → (r : Option ℕ) → r ≡ keyed_number (map key values) index k → IfSome r (λ i. slice_get values i ≡ Some v)
  keyed_if index h exact v k same None is = tt
  keyed_if index h exact v k same (Some i) is = keyed_value index h exact v i (is ∙ ap (λ (x : Key). keyed_number (map key values) index x) same)

  -- whether a value has the key
  pub value_if : (at : ℕ) (k : Key) (v : V) (own : Key) (found : Bool) → Some v ≡ slice_get values at → own ≡ key v → found ≡ key_eq own k → (later : Option ℕ) → number_if key_eq (slice_get (map key values) at) at later k ≡ cond found (Some at) later
  value_if at k v own found there same is later =
      ap (λ (o : Option Key). number_if key_eq o at later k) (key_there at v (sym there) ∙ ap (λ (x : Key). Some x) (sym same))
      ∙ ap (λ (b : Bool). cond b (Some at) later) (sym is)

  pub value_none : (at : ℕ) (k : Key) → None ≡ slice_get values at → (later : Option ℕ) → number_if key_eq (slice_get (map key values) at) at later k ≡ later
  value_none at k gone later =
      ap (λ (o : Option Key). number_if key_eq o at later k) (slice_get-map key values at ∙ sym (ap (λ (o : Option V). option_map key o) gone))

  module _ (old new : KeyIndex) where
    -- one of the keys more that are found
    pub keyed_next : (count : ℕ) (k : Key) → AreOnce (map key values) → AreKeyedTo (map key values) old count → slice_get (map key values) count ≡ Some k → IsKeyPut k count old new → AreKeyedTo (map key values) new (suc count)
    keyed_next count k once h at put =
        index_more key_eq keys_exact keys_own key_hash (map key values) (map key values) old.slots.numbers.items new.slots.numbers.items (number_in old.others.entries) (number_in new.others.entries) count h (λ i x a. a) k
        (λ m w a. inl a) at (λ m a. once m count k a at) put

    -- one value more
    pub keyed_push : (v : V) (k : Key) (n : ℕ) → k ≡ key v → n ≡ length values → AreKeyed (map key values) old → ((i : ℕ) → slice_get (map key values) i ≡ Some k → ⊥) → IsKeyPut k n old new → AreKeyed (map key (values ++ v ∷ [])) new
    keyed_push v k n same is h absent put =
        subst (λ (ks : List Key). AreKeyed ks new) (ap (λ (x : Key). map key values ++ x ∷ []) same ∙ sym (map_push key values v))
        (index_push key_eq keys_exact keys_own key_hash (map key values) old.slots.numbers.items new.slots.numbers.items (number_in old.others.entries) (number_in new.others.entries) k n (is ∙ sym (length-map values key)) h absent put)

-- ---- maybe one value more

pub more_same : {V : Type 0} (values : List V) (v : V) (news : List V) → news ≡ values → HasMore values v news
more_same values v news same = inl same

pub more_one : {V : Type 0} (values : List V) (v : V) (news : List V) → news ≡ values ++ v ∷ [] → HasMore values v news
more_one values v news one = inr one

module _ {V : Type 0} (values : List V) (v : V) (news : List V) (more : HasMore values v news) where
  pub more_extends : Extends values news
  more_extends k x e = elim more [ inl same ↦ subst (λ (xs : List V). slice_get xs k ≡ Some x) (sym same) e | inr one ↦ subst (λ (xs : List V). slice_get xs k ≡ Some x) (sym one) (extends_more values v k x e) ]

  pub more_length : length news ≤ length values + 1
  more_length = elim more [
    | inl same ↦ omega (arith, ap (λ (xs : List V). length xs) same)
    | inr one ↦ omega (arith, ap (λ (xs : List V). length xs) one, length_push values v)
  ]
