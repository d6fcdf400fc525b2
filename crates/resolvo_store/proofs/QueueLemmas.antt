-- What the queue of a store knows stays so.
use Rattle.std.proofs.Common.{◌≡◌, ℕ, ◌+◌, ◌*◌, ◌/◌, ◌<◌, ◌≤◌, ◌⊎◌, inl, inr, Bool, true, false, List, [], length, max, cond, Option, Some, None, Result, Ok, Err, OnOk, OnErr, Vec, Global, not, is_some, refl, sym, ◌∙◌, ap, subst, arith, eqb-true, eq-eqb}
use Rattle.std.specs.Prelude.{◌==◌, nat_lt, IfOk}
use Rattle.std.proofs.lemmas.Bool.{and_parts, both_ways, cases_Bool, ltb-false}
use Rattle.std.proofs.lemmas.List.{append-nil}
use Rattle.std.proofs.lemmas.Nat.{mul-le, div_below}
use Rattle.resolvo_pool_core.specs.declared.id.DenseId.{DenseId}
use Rattle.resolvo_pool_core.specs.declared.id.DisjunctionTag.{DisjunctionTag}
use Rattle.resolvo_pool_core.specs.declared.id.LearntClauseTag.{LearntClauseTag}
use Rattle.resolvo_pool_core.specs.declared.id.VariableId.{VariableId}
use Rattle.resolvo_pool_core.specs.declared.requirement.Requirement.{Requirement}
use Rattle.resolvo_pool_core.specs.declared.requirement.Requirement.TheVariants.{Single, Union}
use Rattle.resolvo_pool_core.specs.Slots.{at}
use Rattle.resolvo_pool_core.specs.ByRequirement.{slot_of, PutsAt}
use Rattle.resolvo_store_core.specs.AddPairs.{with_entry}
use Rattle.resolvo_store_core.specs.Lists.{list_or_none, candidates_in, has_candidates, FixesCandidates, FixesDisjunction, FixesLearnt}
use Rattle.resolvo_store_core.specs.Trail.{Tracked, IsSeenOf, KeepsSeen}
use Rattle.resolvo_store_core.specs.declared.decision.Entry.{Entry}
use Rattle.resolvo_store_core.specs.declared.decision_tracker.Set.{Set}
use Rattle.resolvo_store_core.specs.declared.decision_tracker.Set.TheVariants.{New, Already, Opposite}
use Rattle.resolvo_store_core.specs.Signed.{Signed}
use Rattle.resolvo_store_core.specs.declared.lists.Candidate.{Candidate}
use Rattle.resolvo_store_core.specs.declared.lists.FixedLists.{FixedLists}
use Rattle.resolvo_store_core.proofs.Trails.{seen_prefix, seen_pushed}
use Rattle.resolvo_decide.specs.Queue.{IsNew, IsSound, IsSynced, KeepsSound}
use Rattle.resolvo_decide.specs.declared.decide_queue.DecideQueue.{DecideQueue}
use Rattle.resolvo_decide.specs.declared.cold_clauses.ColdClauses.{ColdClauses}
use Rattle.resolvo_decide.proofs.SoundLemmas.{sound_more, sound_new}
use Rattle.resolvo_store.specs.Stored.{Kept, plain, IsQueueOf}
use Rattle.resolvo_store.specs.Calls.{can_fix, can_decay}

-- a new queue
pub queue_new : {N : Type 0} (lists : FixedLists N) (t : Tracked) (score : N → ℕ) (q : DecideQueue N) → IsNew q → ((n : N) → score n ≡ 0) → IsQueueOf lists t score q
queue_new lists t score q new none = record {
  sound = sound_new lists q new;
  seen = subst (λ es. IsSeenOf t es) (sym new.seen) (seen_prefix t [] (t.trail, refl));
  hot = λ n. (let zero : score n ≡ 0 = none n in omega arith);
  unknown = new.known;
}

-- ---- lists

-- where the candidates are the same
pub sound_same : {N : Type 0} (old new : FixedLists N) (q : DecideQueue N) → new.candidates ≡ old.candidates → IsSound old q → IsSound new q
sound_same old new q same = sound_more old new q (λ r some. ap (λ cs. list_or_none (slot_of cs r)) same)

-- another requirement keeps its candidates
put_other : {V : Type 0} (m n : List (Option V) × List (Option V)) (r q : Requirement) (x : V) → PutsAt m n r x → (q ≡ r) ⊎ (slot_of n q ≡ slot_of m q)
put_other m n (Single v) (Single w) x f = elim (cases_Bool (w.0 == v.0)) [
  | inl e ↦ inl (ap (λ k. Single (record { 0 = k })) (eqb-true w.0 v.0 e))
  | inr e ↦ inr (f.0.1 w.0 (λ i. both_ways (w.0 == v.0) e (eq-eqb w.0 v.0 i)))
]
put_other {V} m n (Single v) (Union u) x f = inr (ap (λ (xs : List (Option V)). at xs u.0) f.1)
put_other {V} m n (Union u) (Single w) x f = inr (ap (λ (xs : List (Option V)). at xs w.0) f.1)
put_other m n (Union u) (Union w) x f = elim (cases_Bool (w.0 == u.0)) [
  | inl e ↦ inl (ap (λ k. Union (record { 0 = k })) (eqb-true w.0 u.0 e))
  | inr e ↦ inr (f.0.1 w.0 (λ i. both_ways (w.0 == u.0) e (eq-eqb w.0 u.0 i)))
]

no_slot : {X : Type 0} (o : Option X) → is_some o ≡ false → o ≡ None
no_slot None h = refl
no_slot (Some x) h = absurd (both_ways true h refl)

-- where a requirement without candidates got some
pub sound_fixed : {N : Type 0} (r : Requirement) (given : List (Candidate N)) (old new : FixedLists N) (q : DecideQueue N) → has_candidates old r ≡ false → FixesCandidates r given old new → IsSound old q → IsSound new q
sound_fixed {N} r given old new q fresh fixes = sound_more old new q same
  where
    same : (p : Requirement) → 0 < length (candidates_in old p) → candidates_in new p ≡ candidates_in old p
    same p some = elim (put_other old.candidates new.candidates r p given fixes.put) [
      | inl is ↦ (let none : length (candidates_in old p) ≡ 0 = ap (λ x. length (list_or_none x)) (ap (slot_of old.candidates) is ∙ no_slot (slot_of old.candidates r) fresh) in absurd (omega (arith, some, none)))
      | inr is ↦ ap list_or_none is
    ]

-- so it is where the lists were changed, or the change was refused
pub sound_tried : {N E : Type 0} (res : Result Unit E) (r : Requirement) (given : List (Candidate N)) (old new : FixedLists N) (q : DecideQueue N) → has_candidates old r ≡ false → OnOk res (FixesCandidates r given old new) → OnErr res (new ≡ old) → IsSound old q → IsSound new q
sound_tried (Ok u) r given old new q fresh ok err h = sound_fixed r given old new q fresh ok h
sound_tried {N} (Err w) r given old new q fresh ok err h = subst (λ (ls : FixedLists N). IsSound ls q) (sym err) h

pub sound_disjunction : {N E : Type 0} (res : Result (DenseId DisjunctionTag ℕ) E) (given : List Signed) (old new : FixedLists N) (q : DecideQueue N) → IfOk res (λ id. FixesDisjunction id.raw given old new) → OnErr res (new ≡ old) → IsSound old q → IsSound new q
sound_disjunction (Ok id) given old new q ok err h = sound_same old new q ok.candidates h
sound_disjunction {N} (Err w) given old new q ok err h = subst (λ (ls : FixedLists N). IsSound ls q) (sym err) h

pub sound_learnt : {N E : Type 0} (res : Result (DenseId LearntClauseTag ℕ) E) (given : List Signed) (old new : FixedLists N) (q : DecideQueue N) → IfOk res (λ id. FixesLearnt id.raw given old new) → OnErr res (new ≡ old) → IsSound old q → IsSound new q
sound_learnt (Ok id) given old new q ok err h = sound_same old new q ok.candidates h
sound_learnt {N} (Err w) given old new q ok err h = subst (λ (ls : FixedLists N). IsSound ls q) (sym err) h

-- a requirement that may get candidates has none
pub can_fix_fresh : {N S : Type 0} (score : S → N → ℕ) (k : Kept N S) (r : Requirement) (groups : List (N × Vec VariableId Global)) → can_fix (plain score k) r groups ≡ true → has_candidates k.lists r ≡ false
can_fix_fresh {N} score k r groups h = go (slot_of k.lists.candidates r) (and_parts _ _ h).0
  where
    go : (o : Option (List (Candidate N))) → not (is_some o) ≡ true → is_some o ≡ false
    go None e = refl
    go (Some v) e = absurd (both_ways false refl e)

-- ---- the trail

entered_seen : (t : Tracked) (s : Set) (e : Entry) → KeepsSeen t (with_entry s e t)
entered_seen t New e = seen_pushed t e
entered_seen t Already e = λ seen h. h
entered_seen t Opposite e = λ seen h. h

-- where an assignment was added, or refused
pub assigned_seen : {E : Type 0} (r : Result Set E) (old new : Tracked) (e : Entry) → IfOk r (λ s. new ≡ with_entry s e old) → OnErr r (new ≡ old) → KeepsSeen old new
assigned_seen (Ok s) old new e ok err = subst (KeepsSeen old) (sym ok) (entered_seen old s e)
assigned_seen (Err w) old new e ok err = subst (KeepsSeen old) (sym err) (λ seen h. h)

-- ---- scores

-- a score that was raised to one that isn't above the bound
pub hot_raised : {N : Type 0} (eq : N → N → Bool) (old new : N → ℕ) (n : N) (x most : ℕ) → ((m : N) → new m ≡ cond (eq n m) x (old m)) → ((m : N) → old m ≤ most) → (m : N) → new m ≤ max most x
hot_raised eq old new n x most puts below m = go (eq n m) (puts m)
  where
    go : (b : Bool) → new m ≡ cond b x (old m) → new m ≤ max most x
    go true is = omega (arith, is)
    go false is = (let low : old m ≤ most = below m in omega (arith, is, low))

-- scores that decayed
pub hot_decayed : {N : Type 0} (old new : N → ℕ) (per_million most : ℕ) → per_million ≤ 1000000 → ((m : N) → new m ≡ (old m * per_million) / 1000000) → ((m : N) → old m ≤ most) → (m : N) → new m ≤ most
hot_decayed old new per_million most part scaled below m =
    let low : old m ≤ most = below m in
    let less : old m * per_million ≤ old m * 1000000 = mul-le (old m) per_million (old m) 1000000 (omega arith) part in
    let under : (old m * per_million) / 1000000 < old m + 1 = div_below (old m * per_million) 1000000 (old m + 1) (omega arith) (omega (arith, less)) in
    let is : new m ≡ (old m * per_million) / 1000000 = scaled m in
    omega (arith, low, under, is)

-- so it is where the score was set, or that was refused
pub hot_tried : {N E : Type 0} (res : Result Unit E) (eq : N → N → Bool) (old new : N → ℕ) (n : N) (x most : ℕ) → OnOk res ((m : N) → new m ≡ cond (eq n m) x (old m)) → OnErr res ((m : N) → new m ≡ old m) → ((m : N) → old m ≤ most) → (m : N) → new m ≤ max most x
hot_tried (Ok u) eq old new n x most ok err below = hot_raised eq old new n x most ok below
hot_tried (Err w) eq old new n x most ok err below = λ m. (let low : old m ≤ most = below m in let is : new m ≡ old m = err m in omega (arith, low, is))

-- a decay is by a million at most
pub not_above : (per_million : ℕ) → can_decay per_million ≡ true → per_million ≤ 1000000
not_above p h = go (nat_lt 1000000 p) refl h
  where
    go : (b : Bool) → nat_lt 1000000 p ≡ b → not b ≡ true → p ≤ 1000000
    go true is e = absurd (both_ways false refl e)
    go false is e = ltb-false 1000000 p is

-- ---- the queue itself

-- a clause was registered, or refused
pub queue_registered : {N : Type 0} (lists : FixedLists N) (t : Tracked) (score : N → ℕ) (old new : DecideQueue N) → KeepsSound old new → new.undecided.seen ≡ old.undecided.seen → new.most ≡ old.most → new.cold ≡ old.cold → IsQueueOf lists t score old → IsQueueOf lists t score new
queue_registered {N} lists t score old new sound seen most cold h = record {
  sound = sound lists h.sound;
  seen = subst (λ (es : Vec Entry Global). IsSeenOf t es.items) (sym seen) h.seen;
  hot = λ n. subst (λ (m : ℕ). score n ≤ m) (sym most) (h.hot n);
  unknown = ap (λ (c : ColdClauses N). c.is_known) cold ∙ h.unknown;
}

-- the trail was seen, or a part of it
pub queue_synced : {N : Type 0} (lists : FixedLists N) (before after : Tracked) (score : N → ℕ) (old new : DecideQueue N) → KeepsSound old new → IsSeenOf after new.undecided.seen.items → new ≡ record old { undecided = new.undecided } → IsQueueOf lists before score old → IsQueueOf lists after score new
queue_synced {N} lists before after score old new sound seen rest h = record {
  sound = sound lists h.sound;
  seen = seen;
  hot = λ n. subst (λ (q : DecideQueue N). score n ≤ q.most) (sym rest) (h.hot n);
  unknown = ap (λ (q : DecideQueue N). q.cold.is_known) rest ∙ h.unknown;
}

-- a decision was picked, or refused
pub queue_picked : {N : Type 0} (lists : FixedLists N) (t : Tracked) (score : N → ℕ) (old new : DecideQueue N) → IsSound lists new → IsSynced new t.trail → new ≡ record old { undecided = new.undecided; cold = new.cold } → new.cold.is_known ≡ old.cold.is_known → IsQueueOf lists t score old → IsQueueOf lists t score new
queue_picked {N} lists t score old new sound synced rest known h = record {
  sound = sound;
  seen = seen_prefix t new.undecided.seen.items ([], sym synced.seen ∙ sym (append-nil new.undecided.seen.items));
  hot = λ n. subst (λ (q : DecideQueue N). score n ≤ q.most) (sym rest) (h.hot n);
  unknown = known ∙ h.unknown;
}

-- a package was marked as hot, and its score raised
pub queue_hot : {N : Type 0} (lists : FixedLists N) (t : Tracked) (before after : N → ℕ) (old new : DecideQueue N) (most : ℕ) → new ≡ record old { most = most } → ((n : N) → after n ≤ most) → IsQueueOf lists t before old → IsQueueOf lists t after new
queue_hot {N} lists t before after old new most is below h = subst (λ (q : DecideQueue N). IsQueueOf lists t after q) (sym is) (record { sound = record { fits = h.sound.fits; cold = h.sound.cold }; seen = h.seen; hot = below; unknown = h.unknown })

-- it was set whether scores are bumped as usual
pub queue_standard : {N : Type 0} (lists : FixedLists N) (t : Tracked) (score : N → ℕ) (old new : DecideQueue N) (is_standard : Bool) → new ≡ record old { is_standard = is_standard } → IsQueueOf lists t score old → IsQueueOf lists t score new
queue_standard {N} lists t score old new is_standard is h = subst (λ (q : DecideQueue N). IsQueueOf lists t score q) (sym is) (record { sound = record { fits = h.sound.fits; cold = h.sound.cold }; seen = h.seen; hot = h.hot; unknown = h.unknown })
