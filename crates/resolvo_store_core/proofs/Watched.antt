-- Lemmas on the watched literals of clauses.
use Rattle.std.proofs.Common.{◌≡◌, ℕ, zero, suc, ◌+◌, ◌<◌, ◌≤◌, ◌⊎◌, inl, inr, Bool, true, false, ◌||◌, List, [], ◌∷◌, ◌++◌, take, drop, length, set, cond, Option, Some, None, refl, sym, ◌∙◌, ap, subst, arith, eqb}
use Rattle.std.specs.Prelude.{slice_get}
use Rattle.std.proofs.lemmas.Bool.{both_ways, or_cases, or_left, or_right, cases_Bool}
use Rattle.std.proofs.lemmas.Bool.Decides.{eqb_tells}
use Rattle.resolvo_pool_core.specs.declared.id.ClauseId.{ClauseId}
use Rattle.resolvo_store_core.specs.Signed.{Signed, same_literal, index_in}
use Rattle.resolvo_store_core.specs.SignLaws.{same_literal_true, same_literal-self, index_distinct}
use Rattle.resolvo_store_core.specs.Pairs.{watches, moved_pair}
use Rattle.resolvo_store_core.specs.declared.watched_literals.WatchedLiterals.{WatchedLiterals}
use Rattle.resolvo_store_core.specs.Watches.{pair_at, one_if, count, IsWatched, StartsIn, MovesIn}
use Rattle.resolvo_store_core.proofs.ClauseLists.{count_split, one_same, count_at}

pub not_same : (a b : Signed) → same_literal a b ≡ false → a ≡ b → ⊥
not_same a b n e = both_ways (same_literal a b) n (subst (λ (x : Signed). same_literal a x ≡ true) e (same_literal-self a))

-- equal or not
pub cases_literal : (a b : Signed) → (a ≡ b) ⊎ (same_literal a b ≡ false)
cases_literal a b = elim (cases_Bool (same_literal a b)) [ inl e ↦ inl (same_literal_true a b e) | inr e ↦ inr e ]

pub index_differs : (l m : Signed) → same_literal l m ≡ false → index_in l ≡ index_in m → ⊥
index_differs l m n e = not_same l m n (index_distinct l m e)

pub differs_from : (a b : Signed) → (a ≡ b → ⊥) → same_literal a b ≡ false
differs_from a b h = elim (cases_literal a b) [ inl e ↦ absurd (h e) | inr e ↦ e ]

pub differs_sym : (a b : Signed) → same_literal a b ≡ false → same_literal b a ≡ false
differs_sym a b n = differs_from b a (λ e. not_same a b n (sym e))

pub both_false : (a b : Bool) → (a || b) ≡ false → (a ≡ false) × (b ≡ false)
both_false true b e = cc
both_false false b e = (refl, e)

or_both : (a b : Bool) → a ≡ false → b ≡ false → (a || b) ≡ false
or_both a b p q = ap (λ x. x || b) p ∙ q

pub pair_at-set_same : (ps : List (Option WatchedLiterals)) (c : ℕ) (x : Option WatchedLiterals) → c < length ps → pair_at (set ps c x) c ≡ x
pair_at-set_same [] c x h = absurd (omega arith)
pair_at-set_same (p ∷ ps) zero x h = refl
pair_at-set_same (p ∷ ps) (suc c) x h = pair_at-set_same ps c x (omega arith)

pub pair_at-set_other : (ps : List (Option WatchedLiterals)) (c d : ℕ) (x : Option WatchedLiterals) → (c ≡ d → ⊥) → pair_at (set ps c x) d ≡ pair_at ps d
pair_at-set_other [] c d x h = refl
pair_at-set_other (p ∷ ps) zero zero x h = absurd (h refl)
pair_at-set_other (p ∷ ps) zero (suc d) x h = refl
pair_at-set_other (p ∷ ps) (suc c) zero x h = refl
pair_at-set_other (p ∷ ps) (suc c) (suc d) x h = pair_at-set_other ps c d x (λ e. h (ap suc e))

pub pair_in_range : (ps : List (Option WatchedLiterals)) (c : ℕ) (p : WatchedLiterals) → pair_at ps c ≡ Some p → c < length ps
pair_in_range [] c p e = cc
pair_in_range (x ∷ ps) zero p e = omega arith
pair_in_range (x ∷ ps) (suc c) p e = let h : c < length ps = pair_in_range ps c p e in omega arith

pub pair_past : (ps : List (Option WatchedLiterals)) (c : ℕ) → length ps ≤ c → pair_at ps c ≡ None
pair_past [] c h = refl
pair_past (x ∷ ps) zero h = absurd (omega arith)
pair_past (x ∷ ps) (suc c) h = pair_past ps c (omega arith)

pub pair_at_end : (ps : List (Option WatchedLiterals)) (x : Option WatchedLiterals) → pair_at (ps ++ x ∷ []) (length ps) ≡ x
pair_at_end [] x = refl
pair_at_end (p ∷ ps) x = pair_at_end ps x

pub pair_before_end : (ps : List (Option WatchedLiterals)) (x : Option WatchedLiterals) (c : ℕ) → (c ≡ length ps → ⊥) → pair_at (ps ++ x ∷ []) c ≡ pair_at ps c
pair_before_end [] x zero h = absurd (h refl)
pair_before_end [] x (suc c) h = refl
pair_before_end (p ∷ ps) x zero h = refl
pair_before_end (p ∷ ps) x (suc c) h = pair_before_end ps x c (λ e. h (ap suc e))

-- the watched literals of a clause that watches the literal
pub watched_at : (ps : List (Option WatchedLiterals)) (c : ℕ) (l : Signed) → watches (pair_at ps c) l ≡ true → (p : WatchedLiterals) × (pair_at ps c ≡ Some p) × (watches (Some p) l ≡ true)
watched_at ps c l h = go (pair_at ps c) refl h
  where
    go : (o : Option WatchedLiterals) → pair_at ps c ≡ o → watches o l ≡ true → (p : WatchedLiterals) × (pair_at ps c ≡ Some p) × (watches (Some p) l ≡ true)
    go None e w = absurd (both_ways false refl w)
    go (Some p) e w = (p, e, w)

one_true : (b : Bool) → 1 ≤ one_if b → b ≡ true
one_true true h = refl
one_true false h = absurd (omega arith)

pub pair_of_watcher : (ps : List (Option WatchedLiterals)) (view : Signed → List ClauseId) (l : Signed) (place : ℕ) (c : ClauseId) → IsWatched ps view → slice_get (view l) place ≡ Some c → (p : WatchedLiterals) × (pair_at ps c.0 ≡ Some p) × (watches (Some p) l ≡ true)
pair_of_watcher ps view l place c well e =
    let a : 1 ≤ count c.0 (view l) = count_at (view l) place c e in
    let b : count c.0 (view l) ≡ one_if (watches (pair_at ps c.0) l) = well.once l c.0 in
    watched_at ps c.0 l (one_true (watches (pair_at ps c.0) l) (omega arith))

pub moved_to : (p : WatchedLiterals) (from to : Signed) → watches (Some (moved_pair p from to)) to ≡ true
moved_to p from to = go (same_literal p.first from)
  where
    go : (b : Bool) → watches (Some (cond b (record p { first = to }) (record p { second = to }))) to ≡ true
    go true = or_left _ _ (same_literal-self to)
    go false = or_right _ _ (same_literal-self to)

pub first_watched : (p : WatchedLiterals) (l : Signed) → watches (Some p) l ≡ true → same_literal p.first l ≡ false → p.second ≡ l
first_watched p l w n = elim (or_cases _ _ w) [ inl e ↦ absurd (both_ways _ n e) | inr e ↦ same_literal_true _ _ e ]

pub moved_from : (p : WatchedLiterals) (from to : Signed) → same_literal p.first p.second ≡ false → watches (Some p) from ≡ true → watches (Some p) to ≡ false → watches (Some (moved_pair p from to)) from ≡ false
moved_from p from to differ w n = go (same_literal p.first from) refl
  where
    go : (b : Bool) → same_literal p.first from ≡ b → watches (Some (cond b (record p { first = to }) (record p { second = to }))) from ≡ false
    go true e =
        let is : p.first ≡ from = same_literal_true _ _ e in
        or_both _ _ (differs_sym from to (subst (λ (l : Signed). same_literal l to ≡ false) is (both_false _ _ n).0)) (differs_sym from p.second (subst (λ (l : Signed). same_literal l p.second ≡ false) is differ))
    go false e =
        let is : p.second ≡ from = first_watched p from w e in
        or_both _ _ e (differs_sym from to (subst (λ (l : Signed). same_literal l to ≡ false) is (both_false _ _ n).1))

pub moved_other : (p : WatchedLiterals) (from to l : Signed) → watches (Some p) from ≡ true → same_literal from l ≡ false → same_literal to l ≡ false → watches (Some (moved_pair p from to)) l ≡ watches (Some p) l
moved_other p from to l w a b = go (same_literal p.first from) refl
  where
    go : (x : Bool) → same_literal p.first from ≡ x → watches (Some (cond x (record p { first = to }) (record p { second = to }))) l ≡ watches (Some p) l
    go true e =
        let is : p.first ≡ from = same_literal_true _ _ e in
        ap (λ x. x || same_literal p.second l) (b ∙ sym (subst (λ (m : Signed). same_literal m l ≡ false) (sym is) a))
    go false e =
        let is : p.second ≡ from = first_watched p from w e in
        ap (λ x. same_literal p.first l || x) (b ∙ sym (subst (λ (m : Signed). same_literal m l ≡ false) (sym is) a))

pub moved_differ : (p : WatchedLiterals) (from to : Signed) → watches (Some p) to ≡ false → same_literal (moved_pair p from to).first (moved_pair p from to).second ≡ false
moved_differ p from to n = go (same_literal p.first from)
  where
    go : (x : Bool) → same_literal (cond x (record p { first = to }) (record p { second = to })).first (cond x (record p { first = to }) (record p { second = to })).second ≡ false
    go true = differs_sym p.second to (both_false _ _ n).1
    go false = (both_false _ _ n).0

pub not_same_watch : (p : WatchedLiterals) (from to : Signed) → watches (Some p) from ≡ true → watches (Some p) to ≡ false → same_literal from to ≡ false
not_same_watch p from to w n = differs_from from to (λ e. both_ways _ n (subst (λ (l : Signed). watches (Some p) l ≡ true) e w))

-- a clause that moved is once in its new lists
pub moved_well :
    (ps : List (Option WatchedLiterals)) (old new : Signed → List ClauseId) (cl : ClauseId) (p : WatchedLiterals) (from : Signed) (place : ℕ) (to : Signed)
    → IsWatched ps old → pair_at ps cl.0 ≡ Some p → watches (Some p) from ≡ true → watches (Some p) to ≡ false → MovesIn cl from place to old new
    → IsWatched (set ps cl.0 (Some (moved_pair p from to))) new
moved_well ps old new cl p from place to well is w n moves = record { once = λ l d. go l d (cases_literal from l) (cases_literal to l) (eqb_tells d cl.0); differ = λ d q e. differ d q e (eqb_tells d cl.0) }
  where
    here : pair_at (set ps cl.0 (Some (moved_pair p from to))) cl.0 ≡ Some (moved_pair p from to)
    here = pair_at-set_same ps cl.0 (Some (moved_pair p from to)) (pair_in_range ps cl.0 p is)

    elsewhere : (d : ℕ) → (d ≡ cl.0 → ⊥) → pair_at (set ps cl.0 (Some (moved_pair p from to))) d ≡ pair_at ps d
    elsewhere d h = pair_at-set_other ps cl.0 d (Some (moved_pair p from to)) (λ e. h (sym e))

    same_number : (d : ℕ) (l : Signed) → (d ≡ cl.0 → ⊥) → one_if (watches (pair_at (set ps cl.0 (Some (moved_pair p from to))) d) l) ≡ count d (old l)
    same_number d l h = ap (λ (o : Option WatchedLiterals). one_if (watches o l)) (elsewhere d h) ∙ sym (well.once l d)

    at_c : (l : Signed) → one_if (watches (pair_at (set ps cl.0 (Some (moved_pair p from to))) cl.0) l) ≡ one_if (watches (Some (moved_pair p from to)) l)
    at_c l = ap (λ (o : Option WatchedLiterals). one_if (watches o l)) here

    old_c : (l : Signed) → count cl.0 (old l) ≡ one_if (watches (Some p) l)
    old_c l = well.once l cl.0 ∙ ap (λ (o : Option WatchedLiterals). one_if (watches o l)) is

    go : (l : Signed) (d : ℕ) → (from ≡ l) ⊎ (same_literal from l ≡ false) → (to ≡ l) ⊎ (same_literal to l ≡ false) → ((eqb d cl.0 ≡ true) × (d ≡ cl.0)) ⊎ ((eqb d cl.0 ≡ false) × (d ≡ cl.0 → ⊥))
        → count d (new l) ≡ one_if (watches (pair_at (set ps cl.0 (Some (moved_pair p from to))) d) l)
    go l d (inl f) (inl t) k = absurd (not_same from to (not_same_watch p from to w n) (f ∙ sym t))
    go l d (inl f) (inr t) (inl k) =
        let a : count cl.0 (old from) ≡ one_if (eqb cl.0 cl.0) + count cl.0 (take place (old from) ++ drop (suc place) (old from)) = count_split (old from) place cl cl.0 moves.was_in in
        let b : one_if (eqb cl.0 cl.0) ≡ 1 = one_same cl.0 in
        let e : count cl.0 (old from) ≡ 1 = old_c from ∙ ap one_if w in
        let g : count cl.0 (new from) ≡ count cl.0 (take place (old from) ++ drop (suc place) (old from)) = ap (count cl.0) moves.taken in
        let x : one_if (watches (pair_at (set ps cl.0 (Some (moved_pair p from to))) cl.0) from) ≡ 0 = at_c from ∙ ap one_if (moved_from p from to (well.differ cl.0 p is) w n) in
        let goal : count cl.0 (new from) ≡ one_if (watches (pair_at (set ps cl.0 (Some (moved_pair p from to))) cl.0) from) = omega arith in
        subst (λ (m : Signed). count d (new m) ≡ one_if (watches (pair_at (set ps cl.0 (Some (moved_pair p from to))) d) m)) f
        (subst (λ (y : ℕ). count y (new from) ≡ one_if (watches (pair_at (set ps cl.0 (Some (moved_pair p from to))) y) from)) (sym k.1) goal)
    go l d (inl f) (inr t) (inr k) =
        let a : count d (old from) ≡ one_if (eqb d cl.0) + count d (take place (old from) ++ drop (suc place) (old from)) = count_split (old from) place cl d moves.was_in in
        let b : one_if (eqb d cl.0) ≡ 0 = ap one_if k.0 in
        let g : count d (new from) ≡ count d (take place (old from) ++ drop (suc place) (old from)) = ap (count d) moves.taken in
        let x : one_if (watches (pair_at (set ps cl.0 (Some (moved_pair p from to))) d) from) ≡ count d (old from) = same_number d from k.1 in
        let goal : count d (new from) ≡ one_if (watches (pair_at (set ps cl.0 (Some (moved_pair p from to))) d) from) = omega arith in
        subst (λ (m : Signed). count d (new m) ≡ one_if (watches (pair_at (set ps cl.0 (Some (moved_pair p from to))) d) m)) f goal
    go l d (inr f) (inl t) (inl k) =
        let e : count cl.0 (old to) ≡ 0 = old_c to ∙ ap one_if n in
        let b : one_if (eqb cl.0 cl.0) ≡ 1 = one_same cl.0 in
        let g : count cl.0 (new to) ≡ one_if (eqb cl.0 cl.0) + count cl.0 (old to) = ap (count cl.0) moves.put in
        let x : one_if (watches (pair_at (set ps cl.0 (Some (moved_pair p from to))) cl.0) to) ≡ 1 = at_c to ∙ ap one_if (moved_to p from to) in
        let goal : count cl.0 (new to) ≡ one_if (watches (pair_at (set ps cl.0 (Some (moved_pair p from to))) cl.0) to) = omega arith in
        subst (λ (m : Signed). count d (new m) ≡ one_if (watches (pair_at (set ps cl.0 (Some (moved_pair p from to))) d) m)) t
        (subst (λ (y : ℕ). count y (new to) ≡ one_if (watches (pair_at (set ps cl.0 (Some (moved_pair p from to))) y) to)) (sym k.1) goal)
    go l d (inr f) (inl t) (inr k) =
        let b : one_if (eqb d cl.0) ≡ 0 = ap one_if k.0 in
        let g : count d (new to) ≡ one_if (eqb d cl.0) + count d (old to) = ap (count d) moves.put in
        let x : one_if (watches (pair_at (set ps cl.0 (Some (moved_pair p from to))) d) to) ≡ count d (old to) = same_number d to k.1 in
        let goal : count d (new to) ≡ one_if (watches (pair_at (set ps cl.0 (Some (moved_pair p from to))) d) to) = omega arith in
        subst (λ (m : Signed). count d (new m) ≡ one_if (watches (pair_at (set ps cl.0 (Some (moved_pair p from to))) d) m)) t goal
    go l d (inr f) (inr t) (inl k) =
        subst (λ (y : ℕ). count y (new l) ≡ one_if (watches (pair_at (set ps cl.0 (Some (moved_pair p from to))) y) l)) (sym k.1)
        (ap (count cl.0) (moves.others l f t) ∙ old_c l ∙ sym (at_c l ∙ ap one_if (moved_other p from to l w f t)))
    go l d (inr f) (inr t) (inr k) = ap (count d) (moves.others l f t) ∙ sym (same_number d l k.1)

    differ : (d : ℕ) (r : WatchedLiterals) → pair_at (set ps cl.0 (Some (moved_pair p from to))) d ≡ Some r → ((eqb d cl.0 ≡ true) × (d ≡ cl.0)) ⊎ ((eqb d cl.0 ≡ false) × (d ≡ cl.0 → ⊥)) → same_literal r.first r.second ≡ false
    differ d r e (inl k) =
        let there : Some (moved_pair p from to) ≡ Some r = sym here ∙ subst (λ (y : ℕ). pair_at (set ps cl.0 (Some (moved_pair p from to))) y ≡ Some r) k.1 e in
        let same : moved_pair p from to ≡ r = cc in
        subst (λ (x : WatchedLiterals). same_literal x.first x.second ≡ false) same (moved_differ p from to n)
    differ d r e (inr k) = well.differ d r (sym (elsewhere d k.1) ∙ e)

-- a new clause is once in each of its lists
pub started_well : (ps : List (Option WatchedLiterals)) (old new : Signed → List ClauseId) (cl : ClauseId) (p : WatchedLiterals) → cl.0 ≡ length ps → IsWatched ps old → same_literal p.first p.second ≡ false → StartsIn cl p old new → IsWatched (ps ++ Some p ∷ []) new
started_well ps old new cl p number well differ starts = record { once = λ l d. go l d (cases_Bool (watches (Some p) l)) (eqb_tells d (length ps)); differ = λ d q e. differs d q e (eqb_tells d (length ps)) }
  where
    in_list : (l : Signed) → watches (Some p) l ≡ true → new l ≡ cl ∷ old l
    in_list l w = elim (or_cases _ _ w) [
      | inl e ↦ subst (λ (m : Signed). new m ≡ cl ∷ old m) (same_literal_true _ _ e) starts.first
      | inr e ↦ subst (λ (m : Signed). new m ≡ cl ∷ old m) (same_literal_true _ _ e) starts.second
    ]

    none_before : (l : Signed) → count (length ps) (old l) ≡ 0
    none_before l = well.once l (length ps) ∙ ap (λ (o : Option WatchedLiterals). one_if (watches o l)) (pair_past ps (length ps) (omega arith))

    go : (l : Signed) (d : ℕ) → (watches (Some p) l ≡ true) ⊎ (watches (Some p) l ≡ false) → ((eqb d (length ps) ≡ true) × (d ≡ length ps)) ⊎ ((eqb d (length ps) ≡ false) × (d ≡ length ps → ⊥))
        → count d (new l) ≡ one_if (watches (pair_at (ps ++ Some p ∷ []) d) l)
    go l d (inl w) (inl k) =
        let a : count (length ps) (new l) ≡ one_if (eqb (length ps) (length ps)) + count (length ps) (old l) = ap (count (length ps)) (in_list l w) ∙ ap (λ n. one_if (eqb (length ps) n) + count (length ps) (old l)) number in
        let b : one_if (eqb (length ps) (length ps)) ≡ 1 = one_same (length ps) in
        let e : count (length ps) (old l) ≡ 0 = none_before l in
        let x : one_if (watches (pair_at (ps ++ Some p ∷ []) (length ps)) l) ≡ 1 = ap (λ (o : Option WatchedLiterals). one_if (watches o l)) (pair_at_end ps (Some p)) ∙ ap one_if w in
        let goal : count (length ps) (new l) ≡ one_if (watches (pair_at (ps ++ Some p ∷ []) (length ps)) l) = omega arith in
        subst (λ (y : ℕ). count y (new l) ≡ one_if (watches (pair_at (ps ++ Some p ∷ []) y) l)) (sym k.1) goal
    go l d (inl w) (inr k) =
        let a : count d (new l) ≡ one_if (eqb d (length ps)) + count d (old l) = ap (count d) (in_list l w) ∙ ap (λ n. one_if (eqb d n) + count d (old l)) number in
        let b : one_if (eqb d (length ps)) ≡ 0 = ap one_if k.0 in
        let e : count d (old l) ≡ one_if (watches (pair_at ps d) l) = well.once l d in
        let x : one_if (watches (pair_at (ps ++ Some p ∷ []) d) l) ≡ one_if (watches (pair_at ps d) l) = ap (λ (o : Option WatchedLiterals). one_if (watches o l)) (pair_before_end ps (Some p) d k.1) in
        omega arith
    go l d (inr w) (inl k) =
        let a : count (length ps) (new l) ≡ count (length ps) (old l) = ap (count (length ps)) (starts.others l w) in
        let e : count (length ps) (old l) ≡ 0 = none_before l in
        let x : one_if (watches (pair_at (ps ++ Some p ∷ []) (length ps)) l) ≡ 0 = ap (λ (o : Option WatchedLiterals). one_if (watches o l)) (pair_at_end ps (Some p)) ∙ ap one_if w in
        let goal : count (length ps) (new l) ≡ one_if (watches (pair_at (ps ++ Some p ∷ []) (length ps)) l) = omega arith in
        subst (λ (y : ℕ). count y (new l) ≡ one_if (watches (pair_at (ps ++ Some p ∷ []) y) l)) (sym k.1) goal
    go l d (inr w) (inr k) = ap (count d) (starts.others l w) ∙ well.once l d ∙ sym (ap (λ (o : Option WatchedLiterals). one_if (watches o l)) (pair_before_end ps (Some p) d k.1))

    differs : (d : ℕ) (r : WatchedLiterals) → pair_at (ps ++ Some p ∷ []) d ≡ Some r → ((eqb d (length ps) ≡ true) × (d ≡ length ps)) ⊎ ((eqb d (length ps) ≡ false) × (d ≡ length ps → ⊥)) → same_literal r.first r.second ≡ false
    differs d r e (inl k) =
        let there : Some p ≡ Some r = sym (pair_at_end ps (Some p)) ∙ subst (λ (y : ℕ). pair_at (ps ++ Some p ∷ []) y ≡ Some r) k.1 e in
        let same : p ≡ r = cc in
        subst (λ (x : WatchedLiterals). same_literal x.first x.second ≡ false) same differ
    differs d r e (inr k) = well.differ d r (sym (pair_before_end ps (Some p) d k.1) ∙ e)

-- a clause without watched literals was added
pub unwatched_well : (ps : List (Option WatchedLiterals)) (view : Signed → List ClauseId) → IsWatched ps view → IsWatched (ps ++ None ∷ []) view
unwatched_well ps view well = record { once = λ l c. well.once l c ∙ ap (λ (o : Option WatchedLiterals). one_if (watches o l)) (sym (none_more ps c)); differ = λ c p e. well.differ c p (sym (none_more ps c) ∙ e) }
  where
    none_more : (qs : List (Option WatchedLiterals)) (c : ℕ) → pair_at (qs ++ None ∷ []) c ≡ pair_at qs c
    none_more [] zero = refl
    none_more [] (suc c) = refl
    none_more (q ∷ qs) zero = refl
    none_more (q ∷ qs) (suc c) = none_more qs c
