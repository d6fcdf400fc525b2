-- Values that are each found at their places, by keys that are four numbers or lists of numbers, or by themselves.
use Rattle.std.specs.Prelude.{◌≡◌, ◌∷◌, ◌++◌, ◌⊎◌, [], ◌%◌, ◌-◌, ◌<◌, if◌then◌else◌, ℕ, zero, suc, Bool, List, length, map, Option, Some, None, slice_get, slice_set, bit_and, is_some}
use Rattle.std.specs.Global.{Vec}
use Rattle.std.specs.Str.{bytes_eq}
use Rattle.std.specs.Map.{lookup}
use Rattle.std.specs.declared.cmp.Ordering.{Ordering}
use Rattle.std.specs.Ordering.{is_eq, nat_cmp, ordering_then}
use Rattle.std.specs.Cmp.Lexicographic.{slice_cmp}
use Rattle.resolvo_text.specs.declared.spec.Span.{Span}
use Rattle.resolvo_text.specs.declared.spec.Span.TheVariants.{Any, One, Range}
use Rattle.resolvo_pool_core.specs.declared.id.VersionSetId.{VersionSetId}
use Rattle.resolvo_pool_core.specs.declared.condition.Condition.{Condition}
use Rattle.resolvo_pool_core.specs.declared.condition.Condition.TheVariants.{Binary, Requirement}
use Rattle.resolvo_pool_core.specs.declared.condition.LogicalOperator.TheVariants as joins
use Rattle.resolvo_intern.specs.Intern.{AreBelow}
use Rattle.resolvo_terms.specs.Hash.{mix, numbers_hash}
use Rattle.resolvo_terms.specs.declared.terms.Numbers.{Numbers}
use Rattle.resolvo_terms.specs.declared.key_index.KeyIndex.{KeyIndex}
use Rattle.resolvo_terms.specs.Terms.{NameId, AreSeveral}

-- the key of a version set or a condition
abbrev pub Key : Type 0
Key = ℕ × ℕ × ℕ × ℕ

abbrev pub key_cmp : Key → Key → Ordering
key_cmp x y = ordering_then (ordering_then (ordering_then (nat_cmp x.0 y.0) (nat_cmp x.1 y.1)) (nat_cmp x.2 y.2)) (nat_cmp x.3 y.3)

abbrev pub key_eq : Key → Key → Bool
key_eq x y = is_eq (key_cmp x y)

-- the number of a key among the entries of a sorted map
abbrev pub number_in : List (Key × ℕ) → Key → Option ℕ
number_in entries key = lookup (key_eq key) entries

-- the same where the keys are vectors
abbrev pub list_number_in : List (Vec ℕ × ℕ) → List ℕ → Option ℕ
list_number_in entries key = lookup (λ k. is_eq (slice_cmp nat_cmp key k.items)) entries

-- ---- places of hashes

-- What lies at a place is 0 if it is free, else one more than the number of a value. A value has a few places, one after
-- the other from that of its hash on. Those whose places others have are found through a sorted map.
abbrev pub tries : ℕ
tries = 8

-- the first place of a hash
abbrev pub place_from : ℕ → ℕ
place_from hash = hash % 4294967296

-- a place among so many, which are a power of two
abbrev pub place_among : ℕ → ℕ → ℕ
place_among count place = bit_and place (count - 1)

-- what lies at a place
abbrev pub slot_at : List ℕ → ℕ → Option ℕ
slot_at slots place = slice_get slots (place_among (length slots) place)

-- the number in a slot, if there is one
abbrev pub number_in_slot : Option ℕ → Option ℕ
number_in_slot None = None
number_in_slot (Some zero) = None
number_in_slot (Some (suc n)) = Some n

-- the first number, else the later one
abbrev pub or_later : Option ℕ → Option ℕ → Option ℕ
or_later None later = later
or_later (Some n) later = Some n

-- the first free one of so many places
abbrev pub free_by : ℕ → Option ℕ → Option ℕ → Option ℕ
free_by place None later = later
free_by place (Some zero) later = Some place
free_by place (Some (suc n)) later = later

abbrev pub free_from : List ℕ → ℕ → ℕ → Option ℕ
free_from slots zero place = None
free_from slots (suc left) place = free_by (place_among (length slots) place) (slot_at slots place) (free_from slots left (suc place))

-- the number of a value: none at a free place, else one whose value it is, else that of the later places, and at last of the map
abbrev pub number_if : {V : Type 0} → (V → V → Bool) → Option V → ℕ → Option ℕ → V → Option ℕ
number_if eq None n later v = later
number_if eq (Some first) n later v = if eq first v then Some n else later

abbrev pub number_of_slot : {V : Type 0} → (V → V → Bool) → List V → Option ℕ → Option ℕ → V → Option ℕ
number_of_slot eq values None later v = later
number_of_slot eq values (Some zero) later v = None
number_of_slot eq values (Some (suc n)) later v = number_if eq (slice_get values n) n later v

abbrev pub number_from : {V : Type 0} → (V → V → Bool) → List V → List ℕ → Option ℕ → ℕ → ℕ → V → Option ℕ
number_from eq values slots other zero place v = other
number_from eq values slots other (suc left) place v = number_of_slot eq values (slot_at slots place) (number_from eq values slots other left (suc place) v) v

-- The first so many values are found at their places, or through the map. What the map has is right.
pub record AreIndexed {V : Type 0} (eq : V → V → Bool) (hash : V → ℕ) (values : List V) (slots : List ℕ) (others : V → Option ℕ) (count : ℕ) : Type 0 where
  pub right : (v : V) (n : ℕ) → others v ≡ Some n → slice_get values n ≡ Some v
  pub all : (v : V) (n : ℕ) → n < count → slice_get values n ≡ Some v → number_from eq values slots (others v) tries (place_from (hash v)) v ≡ Some n

-- the first free place of a hash
abbrev pub free_of : List ℕ → ℕ → Option ℕ
free_of slots hash = free_from slots tries (place_from hash)

-- what lies at the places after a number is put at a place
abbrev pub slots_after : Option ℕ → List ℕ → ℕ → List ℕ
slots_after None slots n = slots
slots_after (Some place) slots n = slice_set slots place (suc n)

-- A number is put at the first free place of a value's hash, or else into the map.
pub record IsPut {V : Type 0} (eq : V → V → Bool) (v : V) (hash n : ℕ) (slots news : List ℕ) (others new_others : V → Option ℕ) : Type 0 where
  pub at_place : news ≡ slots_after (free_of slots hash) slots n
  pub in_map : (w : V) → new_others w ≡ (if is_some (free_of slots hash) then others w else if eq v w then Some n else others w)

-- ---- values by keys

-- a hash of a key
unfoldable pub key_hash : Key → ℕ
key_hash key = mix (mix (mix key.0 key.1) key.2) key.3

-- where the value of a key is
abbrev pub keyed_number : List Key → KeyIndex → Key → Option ℕ
keyed_number keys index key = number_from key_eq keys index.slots.numbers.items (number_in index.others.entries key) tries (place_from (key_hash key)) key

-- Each value is found by its key.
abbrev pub AreKeyed : List Key → KeyIndex → Type 0
AreKeyed keys index = AreIndexed key_eq key_hash keys index.slots.numbers.items (number_in index.others.entries) (length keys)

-- The values are those of before, and maybe one more at their end.
abbrev pub HasMore : {V : Type 0} → List V → V → List V → Type 0
HasMore values v news = (news ≡ values) ⊎ (news ≡ values ++ v ∷ [])

-- ---- texts

-- a hash of a text
unfoldable pub text_hash : List ℕ → ℕ
text_hash text = numbers_hash text

-- The first so many texts are found.
abbrev pub AreTextsFound : List (List ℕ) → List ℕ → List (Vec ℕ × ℕ) → ℕ → Type 0
AreTextsFound texts slots others count = AreIndexed bytes_eq text_hash texts slots (list_number_in others) count

-- ---- keys

abbrev pub span_key : Span → ℕ × ℕ × ℕ
span_key Any = (0, 0, 0)
span_key (One n) = (1, n, 0)
span_key (Range low high) = (2, low, high)

abbrev pub set_key : NameId × Numbers → Key
set_key s = (s.0.raw, (span_key s.1.0).0, (span_key s.1.0).1, (span_key s.1.0).2)

abbrev pub condition_key : Condition → Key
condition_key (Requirement v) = (0, v.0, 0, 0)
condition_key (Binary joins.And a b) = (1, a.0, b.0, 0)
condition_key (Binary joins.Or a b) = (2, a.0, b.0, 0)

-- Version sets and conditions are found by their keys; no union is of one version set, and operands come first.
pub record AreKept (ss : List (NameId × Numbers)) (si : KeyIndex) (us : List (List VersionSetId)) (cs : List Condition) (ci : KeyIndex) : Type 0 where
  pub sets : AreKeyed (map set_key ss) si
  pub conditions : AreKeyed (map condition_key cs) ci
  pub below : AreBelow cs
  pub several : AreSeveral us

-- Each of these numbers, but the last that there is, is that of the version set of all versions of the package at its place.
abbrev pub AreWholes : List ℕ → List (NameId × Numbers) → Type 0
AreWholes numbers sets = (n k : ℕ) → slice_get numbers n ≡ Some k → k < 4294967295 → slice_get sets k ≡ Some (record { raw = n; tag = record {} }, record { 0 = Any })
