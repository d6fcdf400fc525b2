-- Lists of states, and lists that are kept by an index.
use Rattle.std.proofs.Common.{◌≡◌, ℕ, zero, suc, ◌+◌, ◌<◌, ◌≤◌, ◌⊎◌, inl, inr, List, [], ◌∷◌, ◌++◌, map, length, get_or, Vec, Global, refl, sym, ◌∙◌, ap, subst, arith}
use Rattle.std.specs.Prelude.{slice_get, slice_set}
use Rattle.std.proofs.lemmas.Bool.{cases_lt}
use Rattle.std.proofs.lemmas.List.{ext_get_or, length-map}
use Rattle.resolvo_store_core.specs.Lists.{items_or_none}
use Rattle.resolvo_decide.specs.declared.clause_states.ClauseState.{ClauseState}
use Rattle.resolvo_decide.specs.declared.clause_states.ClauseState.TheVariants.{Open}
use Rattle.resolvo_decide.specs.States.{state_at, is_open_state, reopened, AreShut}

pub state_out : (ss : List ClauseState) (i : ℕ) → length ss ≤ i → state_at ss i ≡ Open
state_out [] i h = refl
state_out (x ∷ ss) zero h = absurd (omega arith)
state_out (x ∷ ss) (suc i) h = state_out ss i (omega arith)

pub state_end : (ss : List ClauseState) (i : ℕ) → state_at (ss ++ Open ∷ []) i ≡ state_at ss i
state_end [] zero = refl
state_end [] (suc i) = refl
state_end (x ∷ ss) zero = refl
state_end (x ∷ ss) (suc i) = state_end ss i

pub shut_more : (old new : List ClauseState) (end : ℕ) → new ≡ old ++ Open ∷ [] → AreShut old end → AreShut new end
shut_more old new end is shut i low = ap (λ (ss : List ClauseState). is_open_state (state_at ss i)) is ∙ ap is_open_state (state_end old i) ∙ shut i low

pub state_set : (ss : List ClauseState) (i : ℕ) (s : ClauseState) → i < length ss → state_at (slice_set ss i s) i ≡ s
state_set [] i s h = absurd (omega arith)
state_set (x ∷ ss) zero s h = refl
state_set (x ∷ ss) (suc i) s h = state_set ss i s (omega arith)

pub state_set_other : (ss : List ClauseState) (i : ℕ) (s : ClauseState) (j : ℕ) → (state_at (slice_set ss i s) j ≡ state_at ss j) ⊎ (j ≡ i)
state_set_other [] i s j = inl refl
state_set_other (x ∷ ss) zero s zero = inr refl
state_set_other (x ∷ ss) zero s (suc j) = inl refl
state_set_other (x ∷ ss) (suc i) s zero = inl refl
state_set_other (x ∷ ss) (suc i) s (suc j) = elim (state_set_other ss i s j) [ inl same ↦ inl same | inr is ↦ inr (ap suc is) ]

pub state_put : (ss : List ClauseState) (i : ℕ) (s : ClauseState) → (state_at (slice_set ss i s) i ≡ s) ⊎ (state_at (slice_set ss i s) i ≡ Open)
state_put [] i s = inr refl
state_put (x ∷ ss) zero s = inl refl
state_put (x ∷ ss) (suc i) s = state_put ss i s

state_open : (ss : List ClauseState) (i : ℕ) → state_at (slice_set ss i Open) i ≡ Open
state_open ss i = elim (state_put ss i Open) [ inl is ↦ is | inr is ↦ is ]

pub state_map : (common : ℕ) (ss : List ClauseState) (i : ℕ) → state_at (map (reopened common) ss) i ≡ reopened common (state_at ss i)
state_map common [] i = refl
state_map common (x ∷ ss) zero = refl
state_map common (x ∷ ss) (suc i) = state_map common ss i

-- lists by index

pub places_read : {X : Type 0} (ps : List (Vec X Global)) (i : ℕ) (p : Vec X Global) → i < length ps → p ≡ get_or ps i p → items_or_none (slice_get ps i) ≡ p.items
places_read [] i p h e = absurd (omega arith)
places_read (x ∷ ps) zero p h e = ap (λ w. w.items) (sym e)
places_read (x ∷ ps) (suc i) p h e = places_read ps i p (omega arith) e

pub places_set : {X : Type 0} (ps : List (Vec X Global)) (i : ℕ) (p : Vec X Global) → i < length ps → items_or_none (slice_get (slice_set ps i p) i) ≡ p.items
places_set [] i p h = absurd (omega arith)
places_set (x ∷ ps) zero p h = refl
places_set (x ∷ ps) (suc i) p h = places_set ps i p (omega arith)

pub places_set_other : {X : Type 0} (ps : List (Vec X Global)) (i : ℕ) (p : Vec X Global) (j : ℕ) → (items_or_none (slice_get (slice_set ps i p) j) ≡ items_or_none (slice_get ps j)) ⊎ (j ≡ i)
places_set_other [] i p j = inl refl
places_set_other (x ∷ ps) zero p zero = inr refl
places_set_other (x ∷ ps) zero p (suc j) = inl refl
places_set_other (x ∷ ps) (suc i) p zero = inl refl
places_set_other (x ∷ ps) (suc i) p (suc j) = elim (places_set_other ps i p j) [ inl same ↦ inl same | inr is ↦ inr (ap suc is) ]

-- states that are changed one by one are the changed list
pub all_reopened : (common : ℕ) (old new : List ClauseState) → length new ≡ length old → ((i : ℕ) → i < length old → state_at new i ≡ reopened common (state_at old i)) → new ≡ map (reopened common) old
all_reopened common old new long each = ext_get_or Open new (map (reopened common) old) (long ∙ sym (length-map old (reopened common))) (λ i low. each i (subst (λ n. i < n) long low) ∙ sym (state_map common old i))

-- one state more is changed
module _ (common start p : ℕ) (first old new : List ClauseState) (s : ClauseState) (low : p < length old) (put : new ≡ slice_set old p s) (is : s ≡ reopened common (state_at old p)) where
  other : (i : ℕ) → (i ≡ p → ⊥) → state_at new i ≡ state_at old i
  other i far = ap (λ ss. state_at ss i) put ∙ elim (state_set_other old p s i) [ inl same ↦ same | inr here ↦ absurd (far here) ]

  pub changed_one : ((i : ℕ) → start ≤ i → i < p → state_at old i ≡ reopened common (state_at first i)) → ((i : ℕ) → p ≤ i → state_at old i ≡ state_at first i)
      → (i : ℕ) → start ≤ i → i < p + 1 → state_at new i ≡ reopened common (state_at first i)
  changed_one changed after i above below = elim (cases_lt i p) [
    | inl less ↦ other i (λ here. omega arith) ∙ changed i above less
    | inr more ↦ (let here : i ≡ p = omega arith in
        ap (state_at new) here ∙ ap (λ ss. state_at ss p) put ∙ state_set old p s low ∙ is ∙ ap (reopened common) (after p (omega arith)) ∙ ap (λ j. reopened common (state_at first j)) (sym here))
  ]

  pub before_one : start ≤ p → ((i : ℕ) → i < start → state_at old i ≡ state_at first i) → (i : ℕ) → i < start → state_at new i ≡ state_at first i
  before_one order before i below = other i (λ here. omega arith) ∙ before i below

  pub after_one : ((i : ℕ) → p ≤ i → state_at old i ≡ state_at first i) → (i : ℕ) → p + 1 ≤ i → state_at new i ≡ state_at first i
  after_one after i above = other i (λ here. omega arith) ∙ after i (omega arith)

-- states that are opened one after the other

pub others_more : (first old new : List ClauseState) (place : ℕ) → ((i : ℕ) → (state_at old i ≡ state_at first i) ⊎ (state_at old i ≡ Open))
    → new ≡ slice_set old place Open → (i : ℕ) → (state_at new i ≡ state_at first i) ⊎ (state_at new i ≡ Open)
others_more first old new place before put i = subst (λ (ss : List ClauseState). (state_at ss i ≡ state_at first i) ⊎ (state_at ss i ≡ Open)) (sym put) (elim (state_set_other old place Open i) [
  | inl same ↦ elim (before i) [ inl a ↦ inl (same ∙ a) | inr a ↦ inr (same ∙ a) ]
  | inr at ↦ inr (ap (state_at (slice_set old place Open)) at ∙ state_open old place)
])

pub opened_put : (old new : List ClauseState) (place i : ℕ) → new ≡ slice_set old place Open → (state_at old i ≡ Open) ⊎ (i ≡ place) → state_at new i ≡ Open
opened_put old new place i put (inl open_) = ap (λ ss. state_at ss i) put ∙ elim (state_set_other old place Open i) [ inl same ↦ same ∙ open_ | inr at ↦ ap (state_at (slice_set old place Open)) at ∙ state_open old place ]
opened_put old new place i put (inr here) = ap (λ ss. state_at ss i) put ∙ ap (state_at (slice_set old place Open)) here ∙ state_open old place
