-- The fields of a clause store agree with its plain lists.
use Rattle.std.proofs.Common.{Result, Ok, Err, OnOk, ◌==◌, eqb, cond, true, false, ◌⊎◌, inl, inr, ◌≡◌, ℕ, List, [], Option, Some, None, option_map, refl, sym, ap, subst}
use Rattle.std.specs.Prelude.{slice_get}
use Rattle.std.proofs.lemmas.Bool.Decides.{eqb_tells}
use Rattle.std.specs.Option.{unwrap_or}
use Rattle.resolvo_pool_core.specs.declared.id.DenseId.{DenseId}
use Rattle.resolvo_pool_core.specs.declared.id.DisjunctionTag.{DisjunctionTag}
use Rattle.resolvo_pool_core.specs.declared.requirement.Requirement.{Requirement}
use Rattle.resolvo_pool_core.specs.declared.requirement.Requirement.TheVariants.{Single, Union}
use Rattle.resolvo_pool_core.specs.Slots.{at, PutsSlot}
use Rattle.resolvo_pool_core.specs.ByRequirement.{slot_of, PutsAt}
use Rattle.resolvo_store_core.specs.Trail.{assigned, value_in}
use Rattle.resolvo_store_core.specs.Values.{value_at}
use Rattle.resolvo_store.specs.Changes.{same_requirement, with_candidates}
use Rattle.resolvo_store_core.specs.Lists.{FixesCandidates, named_by, list_or_none, condition_in}
use Rattle.resolvo_store_core.specs.Pick.{first_broken, pick}
use Rattle.resolvo_store.specs.Calls.{broken_in, picked_in}
use Rattle.resolvo_store.specs.Stored.{Kept, Like, plain, names_in, condition_among}
use Rattle.resolvo_store_core.specs.declared.lists.Candidate.{Candidate}
use Rattle.resolvo_store_core.specs.declared.lists.FixedLists.{FixedLists}
use Rattle.resolvo_store_core.specs.declared.decision.Entry.{Entry}
use Rattle.resolvo_store_core.specs.declared.decision_map.Assignment.{Assignment}
use Rattle.resolvo_store.proofs.Picks.{SameNames, first_broken_same, pick_same}

list_plain : {X : Type 0} (o : Option (List X)) → list_or_none o ≡ unwrap_or o []
list_plain None = refl
list_plain (Some xs) = refl

-- ids name the same lists in the plain lists
pub names_plain : {N S : Type 0} (score : S → N → ℕ) (k : Kept N S) → SameNames (named_by k.lists) (names_in (plain score k))
names_plain score k = record { candidates = λ r. list_plain (slot_of k.lists.candidates r); condition = condition; learnt = λ l. list_plain (slice_get k.lists.learnt l.raw) }
  where
    condition : (d : Option (DenseId DisjunctionTag ℕ)) → condition_in k.lists d ≡ condition_among k.lists.disjunctions d
    condition None = refl
    condition (Some d) = list_plain (slice_get k.lists.disjunctions d.raw)

-- a map that agrees with the trail has its values
pub values_plain : (slots : List (Option Assignment)) (es : List Entry) → ((v : ℕ) → at slots v ≡ assigned es v) → (v : ℕ) → value_at slots v ≡ value_in es v
values_plain slots es mapped v = ap (λ o. option_map (λ a. a.value) o) (mapped v)

-- the falsified clause and the pick are those of the plain lists
pub broken_plain : {N S : Type 0} (score : S → N → ℕ) (k : Kept N S) (slots : List (Option Assignment)) → ((v : ℕ) → at slots v ≡ assigned k.trail v) → first_broken k.lists (value_at slots) k.needs ≡ broken_in (plain score k)
broken_plain score k slots mapped = first_broken_same (named_by k.lists) (names_in (plain score k)) (value_at slots) (value_in k.trail) (names_plain score k) (values_plain slots k.trail mapped) k.needs

pub picked_plain : {N S : Type 0} (score : S → N → ℕ) (k : Kept N S) (slots : List (Option Assignment)) → ((v : ℕ) → at slots v ≡ assigned k.trail v) → pick k.lists (value_at slots) (score k.scores) k.needs ≡ picked_in (plain score k)
picked_plain score k slots mapped = pick_same (named_by k.lists) (names_in (plain score k)) (value_at slots) (value_in k.trail) (names_plain score k) (values_plain slots k.trail mapped) (score k.scores) (score k.scores) (λ p. refl) k.needs

-- a store with another trail
pub trail_like : {N S : Type 0} (score : S → N → ℕ) (k : Kept N S) (es fs : List Entry) → es ≡ fs → Like (plain score (record k { trail = es })) (record (plain score k) { trail = fs })
trail_like score k es fs e = record { candidates = λ r. refl; disjunctions = refl; learnt = refl; clauses = refl; watched = refl; watchers = λ l. refl; trail = e; needs = refl; score = λ n. refl }

-- a consequence of a property of an answer, unless the call is refused
pub on_ok : {X E P Q : Type 0} (r : Result X E) → OnOk r P → (P → Q) → OnOk r Q
on_ok (Ok x) h f = f h
on_ok (Err e) h f = record {}

-- a requirement got candidates
pub candidates_like : {N S : Type 0} (score : S → N → ℕ) (k : Kept N S) (new : FixedLists N) (r : Requirement) (given : List (Candidate N)) → FixesCandidates r given k.lists new → Like (plain score (record k { lists = new })) (with_candidates r given (plain score k))
candidates_like {N} score k new r given fixed = record {
  candidates = put r fixed.put;
  disjunctions = fixed.disjunctions;
  learnt = fixed.learnt;
  clauses = refl;
  watched = refl;
  watchers = λ l. refl;
  trail = refl;
  needs = refl;
  score = λ n. refl;
}
  where
    slot : (xs ys : List (Option (List (Candidate N)))) (i j : ℕ) → PutsSlot xs ys i (Some given) → ((eqb i j ≡ true) × (i ≡ j)) ⊎ ((eqb i j ≡ false) × (i ≡ j → ⊥))
        → at ys j ≡ cond (i == j) (Some given) (at xs j)
    slot xs ys i j puts (inl e) = rw (e.0) (subst (λ (n : ℕ). at ys n ≡ Some given) e.1 puts.0)
    slot xs ys i j puts (inr e) = rw (e.0) (puts.1 j (λ h. e.1 (sym h)))

    put : (s : Requirement) → PutsAt k.lists.candidates new.candidates s given → (q : Requirement) → slot_of new.candidates q ≡ cond (same_requirement s q) (Some given) (slot_of k.lists.candidates q)
    put (Single v) puts (Single w) = slot k.lists.candidates.0 new.candidates.0 v.0 w.0 puts.0 (eqb_tells v.0 w.0)
    put (Single v) puts (Union w) = ap (λ (xs : List (Option (List (Candidate N)))). at xs w.0) puts.1
    put (Union v) puts (Single w) = ap (λ (xs : List (Option (List (Candidate N)))). at xs w.0) puts.1
    put (Union v) puts (Union w) = slot k.lists.candidates.1 new.candidates.1 v.0 w.0 puts.0 (eqb_tells v.0 w.0)
