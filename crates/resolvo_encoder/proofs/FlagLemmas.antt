-- The flags of the places of encoded cases, as one more is encoded.
use Rattle.std.proofs.Common.{◌≡◌, ◌⊎◌, ◌==◌, ℕ, inl, inr, Bool, true, false, List, [], ◌∷◌, ◌++◌, cond, refl, sym, ◌∙◌, subst, eqb-true, eq-eqb}
use Rattle.std.specs.Prelude.{slice_index_or, Contains}
use Rattle.std.proofs.lemmas.Bool.{both_ways}
use Rattle.indexmap.specs.IndexSet.{insert_key}
use Rattle.resolvo_sat.proofs.Lists.{contains_none, contains_one, contains_only, contains_left, contains_right, contains_parts, contained_any}
use Rattle.resolvo_encoder.specs.FiredCases.{AreFlagged}
use Rattle.resolvo_encoder.proofs.Parents.{insert_fresh, insert_known}

empty_flag : (i : ℕ) → slice_index_or [] i false ≡ false
empty_flag i = refl

pub flags_none : AreFlagged [] []
flags_none = λ i. (λ h. absurd (both_ways _ (empty_flag i) h), λ h. absurd (contains_none i h))

first_true : (b c : Bool) → b ≡ true → cond b true c ≡ true
first_true true c h = refl
first_true false c h = absurd (both_ways _ refl h)

second_true : (b c : Bool) → c ≡ true → cond b true c ≡ true
second_true true c h = refl
second_true false c h = h

-- the place is flagged too
pub flags_more : (old new : List Bool) (places : List ℕ) (k : ℕ) → ((j : ℕ) → slice_index_or new j false ≡ cond (j == k) true (slice_index_or old j false)) → AreFlagged old places → AreFlagged new (places ++ k ∷ [])
flags_more old new places k sets f = λ i. (λ h. there i (i == k) refl (sym (sets i) ∙ h), λ h. sets i ∙ flagged i (contains_parts i places (k ∷ []) h))
  where
    there : (i : ℕ) (b : Bool) → (i == k) ≡ b → cond b true (slice_index_or old i false) ≡ true → Contains (places ++ k ∷ []) i
    there i true is h = contains_right i places (k ∷ []) (subst (λ x. Contains (k ∷ []) x) (sym (eqb-true i k is)) (contains_only k))
    there i false is h = contains_left i places (k ∷ []) ((f i).0 h)

    flagged : (i : ℕ) → Contains places i ⊎ Contains (k ∷ []) i → cond (i == k) true (slice_index_or old i false) ≡ true
    flagged i (inl a) = second_true (i == k) (slice_index_or old i false) ((f i).1 a)
    flagged i (inr a) = first_true (i == k) (slice_index_or old i false) (eq-eqb i k (contains_one i k a))

-- a place of the list isn't inserted
pub insert_there : (places : List ℕ) (k : ℕ) → Contains places k → places ≡ insert_key (λ m n. m == n) places k
insert_there places k h = insert_known (λ m n. m == n) places k (contained_any (λ n. k == n) k places h (eq-eqb k k refl))

-- another one is appended
pub insert_new : (places : List ℕ) (k : ℕ) → (Contains places k → ⊥) → places ++ k ∷ [] ≡ insert_key (λ m n. m == n) places k
insert_new places k none = insert_fresh (λ m n. m == n) places k (λ y e. sym (eqb-true k y e)) none
