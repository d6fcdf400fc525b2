-- Lemmas on entries that are removed from the end of a trail.
use Rattle.std.proofs.Common.{◌≡◌, ℕ, ◌<◌, ◌≤◌, ◌==◌, true, length, arith, eqb-true, cond, List, [], ◌∷◌, ◌++◌, Some, option_map, All, refl, ◌∙◌, ap, lt-ltb, le-ltb}
use Rattle.std.proofs.lemmas.List.Elements.{All-head, All-tail}
use Rattle.resolvo_store_core.specs.declared.decision.Entry.{Entry}
use Rattle.resolvo_store_core.specs.Trail.{last_level}
use Rattle.resolvo_store.specs.Changes.{all_but_last, last_entry, last_undone, down_to, unless_above}

pub all_but_last_is : (es : List Entry) (e : Entry) → all_but_last (es ++ e ∷ []) ≡ es
all_but_last_is [] e = refl
all_but_last_is (d ∷ []) e = refl
all_but_last_is (d ∷ f ∷ es) e = ap (λ xs. d ∷ xs) (all_but_last_is (f ∷ es) e)

pub last_entry_is : (es : List Entry) (e : Entry) → last_entry (es ++ e ∷ []) ≡ Some e
last_entry_is [] e = refl
last_entry_is (d ∷ []) e = refl
last_entry_is (d ∷ f ∷ es) e = last_entry_is (f ∷ es) e

-- all entries above the level are removed
above_go : (level : ℕ) (es : List Entry) → All (λ e. level < e.level) es → down_to level es ≡ []
above_go level [] h = refl
above_go level (e ∷ es) h = ap (unless_above level e) (above_go level es (All-tail (λ d. level < d.level) e es h)) ∙ ap (λ b. cond b [] (e ∷ [])) (lt-ltb level e.level (All-head (λ d. level < d.level) e es h))

-- the trail that is left ends with an entry that is not above the level
pub down_to_is : (level : ℕ) (es gone : List Entry) → last_level es ≤ level → All (λ e. level < e.level) gone → down_to level (es ++ gone) ≡ es
down_to_is level [] gone h k = above_go level gone k
down_to_is level (e ∷ []) gone h k = ap (unless_above level e) (above_go level gone k) ∙ ap (λ b. cond b [] (e ∷ [])) (le-ltb level e.level h)
down_to_is level (e ∷ d ∷ es) gone h k = ap (unless_above level e) (down_to_is level (d ∷ es) gone h k)

pub last_undone_is : (es : List Entry) (e : Entry) → last_undone (es ++ e ∷ []) ≡ Some (e.decision, last_level es)
last_undone_is es e = ap (λ o. option_map (λ (d : Entry). (d.decision, last_level (all_but_last (es ++ e ∷ [])))) o) (last_entry_is es e) ∙ ap (λ (ds : List Entry). Some (e.decision, last_level ds)) (all_but_last_is es e)

-- nothing is undone where the trail is empty
pub empty_undone : (es : List Entry) → (length es == 0) ≡ true → es ≡ all_but_last es
empty_undone [] h = refl
empty_undone (e ∷ es) h = let none : length (e ∷ es) ≡ 0 = eqb-true (length (e ∷ es)) 0 h in absurd (omega arith)
