-- Lemmas on trails.
use Rattle.std.proofs.Common.{◌≡◌, ℕ, zero, suc, ◌+◌, ◌<◌, ◌≤◌, min, length, take, drop, List, [], ◌∷◌, ◌++◌, Bool, true, false, cond, ◌==◌, Option, Some, None, All, ◌⊎◌, inl, inr, refl, sym, ◌∙◌, ap, subst, arith, eqb-true, eq-eqb, append_assoc}
use Rattle.std.proofs.lemmas.Bool.{both_ways}
use Rattle.std.proofs.lemmas.List.{length-append, append-nil, take_all, take-append-drop, take-append-le, take-take}
use Rattle.std.specs.Prelude.{slice_get}
use Rattle.resolvo_pool_core.specs.Slots.{at, PutsSlot}
use Rattle.resolvo_store_core.specs.declared.decision.Entry.{Entry}
use Rattle.resolvo_store_core.specs.declared.decision.Decision.{Decision}
use Rattle.resolvo_store_core.specs.declared.decision_map.Assignment.{Assignment}
use Rattle.std.specs.Option.{option_map}
use Rattle.resolvo_store_core.specs.Values.{value_at}
use Rattle.resolvo_store_core.specs.Trail.{assigned, assignment_of, last_level, EachOnce, IsTrail, Tracked, PopsLast, TakesAway, IsSeenOf, KeepsSeen}
use Rattle.resolvo_store_core.specs.AtMostOne.{IsPrefixOf}

pub last_level_end : (es : List Entry) (e : Entry) → last_level (es ++ e ∷ []) ≡ e.level
last_level_end [] e = refl
last_level_end (d ∷ []) e = refl
last_level_end (d ∷ c ∷ es) e = last_level_end (c ∷ es) e

pub last_level_read : (es : List Entry) (i : ℕ) (e : Entry) → i + 1 ≡ length es → slice_get es i ≡ Some e → last_level es ≡ e.level
last_level_read [] i e h r = absurd (omega arith)
last_level_read (d ∷ []) zero e h r = let same : d ≡ e = cc in ap (λ (x : Entry). x.level) same
last_level_read (d ∷ []) (suc i) e h r = absurd (omega arith)
last_level_read (d ∷ c ∷ es) zero e h r = absurd (omega arith)
last_level_read (d ∷ c ∷ es) (suc i) e h r = last_level_read (c ∷ es) i e (omega arith) r

-- an appended entry assigns its own variable alone, where that has no value
pub assigned_end_same : (es : List Entry) (e : Entry) → assigned es e.decision.variable.0 ≡ None → assigned (es ++ e ∷ []) e.decision.variable.0 ≡ Some (assignment_of e)
assigned_end_same [] e h = ap (λ b. cond b (Some (assignment_of e)) None) (eq-eqb e.decision.variable.0 e.decision.variable.0 refl)
assigned_end_same (d ∷ es) e h = go (d.decision.variable.0 == e.decision.variable.0) h (assigned_end_same es e)
  where
    go : (b : Bool) → cond b (Some (assignment_of d)) (assigned es e.decision.variable.0) ≡ None → (assigned es e.decision.variable.0 ≡ None → assigned (es ++ e ∷ []) e.decision.variable.0 ≡ Some (assignment_of e)) → cond b (Some (assignment_of d)) (assigned (es ++ e ∷ []) e.decision.variable.0) ≡ Some (assignment_of e)
    go true k more = cc
    go false k more = more k

pub assigned_end_other : (es : List Entry) (e : Entry) (v : ℕ) → (v ≡ e.decision.variable.0 → ⊥) → assigned (es ++ e ∷ []) v ≡ assigned es v
assigned_end_other [] e v h = go (e.decision.variable.0 == v) refl
  where
    go : (b : Bool) → (e.decision.variable.0 == v) ≡ b → cond b (Some (assignment_of e)) None ≡ None
    go true q = absurd (h (sym (eqb-true e.decision.variable.0 v q)))
    go false q = refl
assigned_end_other (d ∷ es) e v h = ap (λ o. cond (d.decision.variable.0 == v) (Some (assignment_of d)) o) (assigned_end_other es e v h)

-- a variable without a value in a trail has none in a prefix of it
assigned_prefix : (es : List Entry) (e : Entry) (v : ℕ) → assigned (es ++ e ∷ []) v ≡ None → assigned es v ≡ None
assigned_prefix [] e v h = refl
assigned_prefix (d ∷ es) e v h = go (d.decision.variable.0 == v) h (assigned_prefix es e v)
  where
    go : (b : Bool) → cond b (Some (assignment_of d)) (assigned (es ++ e ∷ []) v) ≡ None → (assigned (es ++ e ∷ []) v ≡ None → assigned es v ≡ None) → cond b (Some (assignment_of d)) (assigned es v) ≡ None
    go true k more = cc
    go false k more = more k

once_end : (es : List Entry) (e : Entry) → EachOnce es → assigned es e.decision.variable.0 ≡ None → EachOnce (es ++ e ∷ [])
once_end [] e h k = (refl, tt)
once_end (d ∷ es) e h k = go (d.decision.variable.0 == e.decision.variable.0) refl k (once_end es e h.1)
  where
    go : (b : Bool) → (d.decision.variable.0 == e.decision.variable.0) ≡ b → cond b (Some (assignment_of d)) (assigned es e.decision.variable.0) ≡ None → (assigned es e.decision.variable.0 ≡ None → EachOnce (es ++ e ∷ [])) → EachOnce (d ∷ (es ++ e ∷ []))
    go true q r more = cc
    go false q r more = (assigned_end_other es e d.decision.variable.0 (λ x. both_ways (d.decision.variable.0 == e.decision.variable.0) q (eq-eqb _ _ x)) ∙ h.0, more r)

once_prefix : (es : List Entry) (e : Entry) → EachOnce (es ++ e ∷ []) → EachOnce es
once_prefix [] e h = tt
once_prefix (d ∷ es) e h = (assigned_prefix es e d.decision.variable.0 h.0, once_prefix es e h.1)

last_open : (es : List Entry) (e : Entry) → EachOnce (es ++ e ∷ []) → assigned es e.decision.variable.0 ≡ None
last_open [] e h = refl
last_open (d ∷ es) e h = go (d.decision.variable.0 == e.decision.variable.0) refl (last_open es e h.1)
  where
    go : (b : Bool) → (d.decision.variable.0 == e.decision.variable.0) ≡ b → assigned es e.decision.variable.0 ≡ None → cond b (Some (assignment_of d)) (assigned es e.decision.variable.0) ≡ None
    go true q more =
        let same : d.decision.variable.0 ≡ e.decision.variable.0 = eqb-true _ _ q in
        let qhead : assigned es d.decision.variable.0 ≡ None = assigned_prefix es e d.decision.variable.0 h.0 in
        let there : assigned (es ++ e ∷ []) e.decision.variable.0 ≡ Some (assignment_of e) = assigned_end_same es e (subst (λ (v : ℕ). assigned es v ≡ None) same qhead) in
        let open_ : assigned (es ++ e ∷ []) e.decision.variable.0 ≡ None = subst (λ (v : ℕ). assigned (es ++ e ∷ []) v ≡ None) same h.0 in
        absurd cc
    go false q more = more

cases_number : (a b : ℕ) → (a ≡ b) ⊎ (a ≡ b → ⊥)
cases_number a b = go (a == b) refl
  where
    go : (x : Bool) → (a == b) ≡ x → (a ≡ b) ⊎ (a ≡ b → ⊥)
    go true q = inl (eqb-true a b q)
    go false q = inr (λ e. both_ways (a == b) q (eq-eqb a b e))

pub undecided_at : (map : List (Option Assignment)) (v : ℕ) → value_at map v ≡ None → at map v ≡ None
undecided_at map v h = go (at map v) h
  where
    go : (o : Option Assignment) → option_map (λ (a : Assignment). a.value) o ≡ None → o ≡ None
    go None k = refl
    go (Some a) k = cc

pub trail_pushed : (map map' : List (Option Assignment)) (es : List Entry) (e : Entry) (qhead floor : ℕ) → IsTrail map es qhead floor → at map e.decision.variable.0 ≡ None → PutsSlot map map' e.decision.variable.0 (Some (assignment_of e)) → IsTrail map' (es ++ e ∷ []) qhead floor
trail_pushed map map' es e qhead floor old undecided put =
    let open_ : assigned es e.decision.variable.0 ≡ None = sym (old.mapped e.decision.variable.0) ∙ undecided in
    let long : length (es ++ e ∷ []) ≡ length es + 1 = length-append es (e ∷ []) in
    let a = old.qhead_within in
    let b = old.floor_within in
    record {
      mapped = λ v. elim (cases_number v e.decision.variable.0) [
        | inl h ↦ subst (λ (w : ℕ). at map' w ≡ assigned (es ++ e ∷ []) w) (sym h) (put.0 ∙ sym (assigned_end_same es e open_))
        | inr h ↦ put.1 v h ∙ old.mapped v ∙ sym (assigned_end_other es e v h)
      ];
      once = once_end es e old.once open_;
      qhead_within = omega arith;
      floor_within = omega arith;
    }

pub trail_popped : (map map' : List (Option Assignment)) (all es : List Entry) (e : Entry) (qhead floor : ℕ) → IsTrail map all qhead floor → all ≡ es ++ e ∷ [] → PutsSlot map map' e.decision.variable.0 None → IsTrail map' es (min qhead (length es)) (min floor (length es))
trail_popped map map' all es e qhead floor old is put =
    let once' : EachOnce (es ++ e ∷ []) = subst EachOnce is old.once in
    let open_ : assigned es e.decision.variable.0 ≡ None = last_open es e once' in
    record {
      mapped = λ v. elim (cases_number v e.decision.variable.0) [
        | inl h ↦ subst (λ (w : ℕ). at map' w ≡ assigned es w) (sym h) (put.0 ∙ sym open_)
        | inr h ↦ put.1 v h ∙ old.mapped v ∙ ap (λ (xs : List Entry). assigned xs v) is ∙ assigned_end_other es e v h
      ];
      once = once_prefix es e once';
      qhead_within = omega arith;
      floor_within = omega arith;
    }

all_cons : (level : ℕ) (e : Entry) (es : List Entry) → level < e.level → All (λ d. level < d.level) es → All (λ d. level < d.level) (e ∷ es)
all_cons level e es p h zero d k = p
all_cons level e es p h (suc i) d k = h i d (omega arith)

pub takes_nothing : (level : ℕ) (t : Tracked) → t.qhead ≤ length t.trail → t.floor ≤ length t.trail → TakesAway level t t
takes_nothing level t a b = record { undone = []; trail = sym (append-nil t.trail); above = λ k d h. absurd (omega arith); qhead = omega arith; floor = omega arith }

pub takes_one_more : (level : ℕ) (a b c : Tracked) (d : Decision) → TakesAway level a b → PopsLast b c d → level < last_level b.trail → TakesAway level a c
takes_one_more level a b c d took pops above =
    let e : Entry = record { decision = d; level = pops.level } in
    let long : length b.trail ≡ length c.trail + 1 = ap length pops.trail ∙ length-append c.trail (e ∷ []) in
    let is : last_level b.trail ≡ pops.level = ap last_level pops.trail ∙ last_level_end c.trail e in
    let h : level < pops.level = omega arith in
    let x = took.qhead in
    let y = pops.qhead in
    let z = took.floor in
    let w = pops.floor in
    record {
      undone = e ∷ took.undone;
      trail = took.trail ∙ ap (λ (xs : List Entry). xs ++ took.undone) pops.trail ∙ append_assoc c.trail (e ∷ []) took.undone;
      above = all_cons level e took.undone h took.above;
      qhead = omega arith;
      floor = omega arith;
    }

-- ---- what was seen of the trail

-- a prefix of the trail is seen of it, whatever its least length
pub seen_prefix : (t : Tracked) (seen : List Entry) → IsPrefixOf seen t.trail → IsSeenOf t seen
seen_prefix t seen (rest, is) = (
  drop t.floor seen ++ rest,
  is ∙ ap (λ (xs : List Entry). xs ++ rest) (sym (take-append-drop t.floor seen)) ∙ append_assoc (take t.floor seen) (drop t.floor seen) rest,
)

-- after an entry more
pub seen_pushed : (t : Tracked) (e : Entry) → KeepsSeen t (record t { trail = t.trail ++ e ∷ [] })
seen_pushed t e seen (rest, is) = (rest ++ e ∷ [], ap (λ (xs : List Entry). xs ++ e ∷ []) is ∙ append_assoc (take t.floor seen) rest (e ∷ []))

-- the first of entries that begin a list begin its first ones
prefix_take : {X : Type 0} (n : ℕ) (xs ys : List X) → IsPrefixOf xs ys → IsPrefixOf (take n xs) (take n ys)
prefix_take {X} n xs ys (rest, is) = go n xs ys is
  where
    go : (m : ℕ) (us vs : List X) → vs ≡ us ++ rest → IsPrefixOf (take m us) (take m vs)
    go zero us vs e = ([], refl)
    go (suc m) [] vs e = (take (suc m) vs, refl)
    go (suc m) (u ∷ us) vs e = let (more, at) = go m us (us ++ rest) refl in (more, ap (take (suc m)) e ∙ ap (λ (ws : List X). u ∷ ws) at)

-- after entries were taken away from its end
pub seen_taken : (old new : Tracked) (undone : List Entry) → old.trail ≡ new.trail ++ undone → new.floor ≡ min old.floor (length new.trail) → KeepsSeen old new
seen_taken old new undone is floor seen h =
    let n : ℕ = length new.trail in
    let whole : take n old.trail ≡ new.trail = ap (take n) is ∙ take-append-le n new.trail undone (omega arith) ∙ take_all n new.trail (omega arith) in
    let low : new.floor ≤ n = omega (arith, floor) in
    let under : new.floor ≤ old.floor = omega (arith, floor) in
    let first : take new.floor (take old.floor seen) ≡ take new.floor seen = take-take new.floor old.floor seen under in
    let (rest, here) = prefix_take new.floor (take old.floor seen) old.trail h in
    let same : take new.floor old.trail ≡ take new.floor new.trail = sym (take-take new.floor n old.trail low) ∙ ap (take new.floor) whole in (
      rest ++ drop new.floor new.trail,
      sym (take-append-drop new.floor new.trail) ∙ ap (λ (xs : List Entry). xs ++ drop new.floor new.trail) (sym same ∙ here ∙ ap (λ (xs : List Entry). xs ++ rest) first) ∙ append_assoc (take new.floor seen) rest (drop new.floor new.trail),
    )

pub seen_popped : (old new : Tracked) (d : Decision) → PopsLast old new d → KeepsSeen old new
seen_popped old new d pops = seen_taken old new (record { decision = d; level = pops.level } ∷ []) pops.trail pops.floor

pub seen_undone : (level : ℕ) (old new : Tracked) → TakesAway level old new → KeepsSeen old new
seen_undone level old new took = seen_taken old new took.undone took.trail took.floor
