-- A clause begins without a count, and may be given one.
use Rattle.std.proofs.Common.{◌≡◌, ℕ, zero, suc, ◌+◌, ◌<◌, ◌≤◌, ◌⊎◌, inl, inr, cond, Bool, true, false, List, [], ◌∷◌, ◌++◌, length, get_or, Option, Some, None, Vec, Global, refl, sym, ◌∙◌, ap, subst, arith, eq-eqb, eqb-true}
use Rattle.std.specs.Prelude.{◌==◌, slice_get, slice_set, Contains}
use Rattle.std.specs.Option.{option_map}
use Rattle.std.proofs.Math.Bool.{beq}
use Rattle.std.proofs.lemmas.Bool.{both_ways, cases_Bool, cases_lt}
use Rattle.std.proofs.lemmas.List.{append_assoc, length-append}
use Rattle.std.proofs.lemmas.List.Elements.{Contains-append_cases, Contains-append_left, Contains-append_right}
use Rattle.resolvo_pool_core.specs.declared.requirement.Requirement.{Requirement}
use Rattle.resolvo_store_core.specs.Signed.{Signed, value_under, index_in, is_false}
use Rattle.resolvo_store_core.specs.SignLaws.{same_is_index}
use Rattle.resolvo_store_core.specs.Clauses.{candidate_literals}
use Rattle.resolvo_store_core.specs.Trail.{EachOnce, value_in}
use Rattle.resolvo_store_core.specs.declared.decision.Entry.{Entry}
use Rattle.resolvo_store_core.specs.declared.pick.NeedClause.{NeedClause}
use Rattle.resolvo_store_core.specs.declared.lists.Candidate.{Candidate}
use Rattle.resolvo_decide.specs.declared.candidate_counts.CountState.{CountState}
use Rattle.resolvo_decide.specs.declared.candidate_counts.CountState.TheVariants.{Kept}
use Rattle.resolvo_decide.specs.declared.candidate_counts.CandidateCounts.{CandidateCounts}
use Rattle.resolvo_decide.specs.declared.candidate_counts.Occurrence.{Occurrence}
use Rattle.resolvo_decide.specs.declared.candidate_count.CandidateCount.{CandidateCount}
use Rattle.resolvo_decide.specs.CandidateCounts.{times, found, occurrences_at, occurrences_of, kept_count, number_at, Counts, Lists, AreListed, AreBelow, IsRightCount}
use Rattle.resolvo_decide.specs.Needs.{AreRightCounts, KeepsCounted}
use Rattle.resolvo_decide.proofs.Positions.{places_read, places_set, places_set_other}
use Rattle.resolvo_decide.proofs.OfferLemmas.{counts_agree}

-- ---- the numbers of counts

number_set : (cs : List CountState) (i : ℕ) (c : CountState) → i < length cs → number_at (slice_set cs i c) i ≡ kept_count c
number_set [] i c h = absurd (omega (arith, h))
number_set (x ∷ cs) zero c h = refl
number_set (x ∷ cs) (suc i) c h = number_set cs i c (omega (arith, h))

number_set_other : (cs : List CountState) (i : ℕ) (c : CountState) (j : ℕ) → (number_at (slice_set cs i c) j ≡ number_at cs j) ⊎ (j ≡ i)
number_set_other [] i c j = inl refl
number_set_other (x ∷ cs) zero c zero = inr refl
number_set_other (x ∷ cs) zero c (suc j) = inl refl
number_set_other (x ∷ cs) (suc i) c zero = inl refl
number_set_other (x ∷ cs) (suc i) c (suc j) = elim (number_set_other cs i c j) [ inl same ↦ inl same | inr is ↦ inr (ap suc is) ]

-- a clause without a count that stays without one
pub number_same : (cs : List CountState) (i : ℕ) (c d : CountState) → kept_count (get_or cs i d) ≡ None → kept_count c ≡ None → (j : ℕ) → number_at (slice_set cs i c) j ≡ number_at cs j
number_same [] i c d was is j = refl
number_same (x ∷ cs) zero c d was is zero = is ∙ sym was
number_same (x ∷ cs) zero c d was is (suc j) = refl
number_same (x ∷ cs) (suc i) c d was is zero = refl
number_same (x ∷ cs) (suc i) c d was is (suc j) = number_same cs i c d was is j

-- ---- the occurrences of a new count

times_both : (k : ℕ) (xs ys : List Occurrence) → times k (xs ++ ys) ≡ times k xs + times k ys
times_both k [] ys = (let same : times k ys ≡ 0 + times k ys = omega arith in same)
times_both k (x ∷ xs) ys =
    let more : times k (xs ++ ys) ≡ times k xs + times k ys = times_both k xs ys in
    let sum : (n : ℕ) → n + (times k xs + times k ys) ≡ n + times k xs + times k ys = λ n. omega arith in
    ap (λ n. cond (x.count == k) 1 0 + n) more ∙ sum (cond (x.count == k) 1 0)

times_none : (k : ℕ) (xs : List Occurrence) → ((u : Occurrence) → Contains xs u → u.count < k) → times k xs ≡ 0
times_none k [] h = refl
times_none k (x ∷ xs) h = go (x.count == k) refl (h x (0, omega arith, refl)) (times_none k xs (λ u a. h u (Contains-append_right (x ∷ []) xs u a)))
  where
    go : (b : Bool) → (x.count == k) ≡ b → x.count < k → times k xs ≡ 0 → cond b 1 0 + times k xs ≡ 0
    go true is low more = (let same : x.count ≡ k = eqb-true x.count k is in absurd (omega (arith, low, same)))
    go false is low more = (let same : 0 + times k xs ≡ times k xs = omega arith in same ∙ more)

module _ (k : ℕ) where
  times_occurrences : (place : ℕ) (ls : List Signed) (l : Signed) → times k (occurrences_of k place ls (index_in l)) ≡ found l ls
  times_occurrences place [] l = refl
  times_occurrences place (x ∷ ls) l =
      times_both k (cond (index_in x == index_in l) (record { count = k; place = place } ∷ []) []) (occurrences_of k (place + 1) ls (index_in l))
      ∙ ap (λ n. times k (cond (index_in x == index_in l) (record { count = k; place = place } ∷ []) []) + n) (times_occurrences (place + 1) ls l)
      ∙ ap (λ n. n + found l ls) (one (index_in x == index_in l) ∙ ap (λ b. cond b 1 0) (turned (index_in x) (index_in l) ∙ sym (same_is_index l x)))
    where
      own : (k == k) ≡ true
      own = eq-eqb k k refl

      one : (b : Bool) → times k (cond b (record { count = k; place = place } ∷ []) []) ≡ cond b 1 0
      one true = ap (λ b. cond b 1 0 + 0) own
      one false = refl

      turned : (a b : ℕ) → (a == b) ≡ (b == a)
      turned a b = elim (cases_Bool (a == b)) [
        | inl same ↦ same ∙ sym (eq-eqb b a (sym (eqb-true a b same)))
        | inr far ↦ elim (cases_Bool (b == a)) [
          | inl same ↦ absurd (both_ways (a == b) far (eq-eqb a b (sym (eqb-true b a same))))
          | inr other ↦ far ∙ sym other
        ]
      ]

  occurrences_own : (place : ℕ) (ls : List Signed) (index : ℕ) (u : Occurrence) → Contains (occurrences_of k place ls index) u → u.count ≡ k
  occurrences_own place [] index u (i, low, at) = absurd (omega (arith, low))
  occurrences_own place (x ∷ ls) index u h = elim (Contains-append_cases (cond (index_in x == index) (record { count = k; place = place } ∷ []) []) (occurrences_of k (place + 1) ls index) u h) [
    | inl first ↦ go (index_in x == index) first
    | inr later ↦ occurrences_own (place + 1) ls index u later
  ]
    where
      go : (b : Bool) → Contains (cond b (record { count = k; place = place } ∷ []) []) u → u.count ≡ k
      go true (zero, low, at) = ap (λ (v : Occurrence). v.count) (sym at)
      go true (suc i, low, at) = absurd (omega (arith, low))
      go false (i, low, at) = absurd (omega (arith, low))

  occurrences_placed : (place : ℕ) (ls : List Signed) (p : ℕ) (l : Signed) → slice_get ls p ≡ Some l → Contains (occurrences_of k place ls (index_in l)) (record { count = k; place = place + p })
  occurrences_placed place [] p l at = cc
  occurrences_placed place (x ∷ ls) zero l at =
      let is : x ≡ l = cc in
      let same : place ≡ place + 0 = omega arith in
      let own : (index_in x == index_in l) ≡ true = eq-eqb (index_in x) (index_in l) (ap index_in is) in
      let u : Occurrence = record { count = k; place = place } in
      let first : Contains {X = Occurrence} (u ∷ []) u = (0, omega arith, refl) in
      let here : Contains {X = Occurrence} (cond (index_in x == index_in l) (u ∷ []) []) u = subst (λ b. Contains {X = Occurrence} (cond b (u ∷ []) []) u) (sym own) first in
      subst (λ n. Contains (occurrences_of k place (x ∷ ls) (index_in l)) (record { count = k; place = n })) same
      (Contains-append_left (cond (index_in x == index_in l) (u ∷ []) []) (occurrences_of k (place + 1) ls (index_in l)) u here)
  occurrences_placed place (x ∷ ls) (suc p) l at =
      let sum : place + 1 + p ≡ place + suc p = omega arith in
      subst (λ n. Contains (occurrences_of k place (x ∷ ls) (index_in l)) (record { count = k; place = n })) sum
      (Contains-append_right (cond (index_in x == index_in l) (record { count = k; place = place } ∷ []) []) (occurrences_of k (place + 1) ls (index_in l)) (record { count = k; place = place + 1 + p }) (occurrences_placed (place + 1) ls p l at))

none_first : (n : ℕ) → 0 + n ≡ n
none_first n = omega arith

module _ (k : ℕ) (ls : List Signed) (old new : List (Vec Occurrence Global)) (added : Lists k ls old new) (below : AreBelow k old) where
  listed_new : AreListed ls new k
  listed_new = record {
    times = λ l. ap (times k) (added (index_in l)) ∙ times_both k (occurrences_at old (index_in l)) (occurrences_of k 0 ls (index_in l))
        ∙ ap (λ n. n + times k (occurrences_of k 0 ls (index_in l))) (times_none k (occurrences_at old (index_in l)) (below (index_in l))) ∙ none_first (times k (occurrences_of k 0 ls (index_in l))) ∙ times_occurrences k 0 ls l;
    placed = λ p l at. subst (λ us. Contains us (record { count = k; place = p })) (sym (added (index_in l))) (Contains-append_right (occurrences_at old (index_in l)) (occurrences_of k 0 ls (index_in l)) (record { count = k; place = p }) (subst (λ n. Contains (occurrences_of k 0 ls (index_in l)) (record { count = k; place = n })) (none_first p) (occurrences_placed k 0 ls p l at)));
  }

  below_new : AreBelow (k + 1) new
  below_new index u h = elim (Contains-append_cases (occurrences_at old index) (occurrences_of k 0 ls index) u (subst (λ us. Contains us u) (added index) h)) [
    | inl before ↦ (let low : u.count < k = below index u before in omega (arith, low))
    | inr here ↦ (let own : u.count ≡ k = occurrences_own k 0 ls index u here in omega (arith, own))
  ]

  listed_other : (j : ℕ) (ms : List Signed) → j < k → AreListed ms old j → AreListed ms new j
  listed_other j ms low h = record {
    times = λ l. ap (times j) (added (index_in l)) ∙ times_both j (occurrences_at old (index_in l)) (occurrences_of k 0 ls (index_in l))
        ∙ ap (λ n. times j (occurrences_at old (index_in l)) + n) (none (occurrences_of k 0 ls (index_in l)) (occurrences_own k 0 ls (index_in l))) ∙ plus (times j (occurrences_at old (index_in l))) ∙ h.times l;
    placed = λ p l at. subst (λ us. Contains us (record { count = j; place = p })) (sym (added (index_in l))) (Contains-append_left (occurrences_at old (index_in l)) (occurrences_of k 0 ls (index_in l)) (record { count = j; place = p }) (h.placed p l at));
  }
    where
      plus : (n : ℕ) → n + 0 ≡ n
      plus n = omega arith

      none : (us : List Occurrence) → ((u : Occurrence) → Contains us u → u.count ≡ k) → times j us ≡ 0
      none [] h = refl
      none (x ∷ us) h = go (x.count == j) refl (h x (0, omega arith, refl)) (none us (λ u a. h u (Contains-append_right (x ∷ []) us u a)))
        where
          go : (b : Bool) → (x.count == j) ≡ b → x.count ≡ k → times j us ≡ 0 → cond b 1 0 + times j us ≡ 0
          go true is own more = (let same : x.count ≡ j = eqb-true x.count j is in absurd (omega (arith, low, own, same)))
          go false is own more = (let same : 0 + times j us ≡ times j us = omega arith in same ∙ more)

-- no candidate is left to list
pub no_more : (us : List Occurrence) → us ≡ us ++ []
no_more [] = refl
no_more (x ∷ us) = ap (λ vs. x ∷ vs) (no_more us)

-- an occurrence was pushed to the list of an index
pub pushed_occurrence : (old room new : List (Vec Occurrence Global)) (index : ℕ) (v p : Vec Occurrence Global) (u : Occurrence) → ((j : ℕ) → occurrences_at room j ≡ occurrences_at old j) → index < length room → v ≡ get_or room index v → p.items ≡ v.items ++ u ∷ [] → new ≡ slice_set room index p
    → (j : ℕ) → occurrences_at new j ≡ occurrences_at old j ++ cond (index == j) (u ∷ []) []
pushed_occurrence old room new index v p u same within read more is j = ap (λ us. occurrences_at us j) is ∙ elim (cases_Bool (index == j)) [
  | inl here ↦
      let at : index ≡ j = eqb-true index j here in
      subst (λ n. occurrences_at (slice_set room index p) n ≡ occurrences_at old n ++ (u ∷ [])) at (places_set room index p within ∙ more ∙ ap (λ us. us ++ u ∷ []) (sym (places_read room index v within read) ∙ same index)) ∙ ap (λ b. occurrences_at old j ++ cond b (u ∷ []) []) (sym here)
  | inr far ↦ elim (places_set_other room index p j) [
    | inl kept ↦ kept ∙ same j ∙ no_more (occurrences_at old j) ∙ ap (λ b. occurrences_at old j ++ cond b (u ∷ []) []) (sym far)
    | inr at ↦ absurd (both_ways (index == j) far (eq-eqb index j (sym at)))
  ]
]

-- one candidate more is listed
pub occurrences_more : (k place : ℕ) (ls : List Signed) (l : Signed) (rest : List Signed) (index : ℕ) (before after first : List Occurrence) → ls ≡ l ∷ rest → after ≡ before ++ cond (index_in l == index) (record { count = k; place = place } ∷ []) []
    → before ++ occurrences_of k place ls index ≡ first → after ++ occurrences_of k (place + 1) rest index ≡ first
occurrences_more k place ls l rest index before after first is more h =
    ap (λ us. us ++ occurrences_of k (place + 1) rest index) more ∙ append_assoc before (cond (index_in l == index) (record { count = k; place = place } ∷ []) []) (occurrences_of k (place + 1) rest index)
    ∙ ap (λ ms. before ++ occurrences_of k place ms index) (sym is) ∙ h

-- ---- what stays right

pub count_prefix : (ts : List CandidateCount) (t u : CandidateCount) (k : ℕ) → slice_get ts k ≡ Some t → slice_get (ts ++ u ∷ []) k ≡ Some t
count_prefix [] t u k h = cc
count_prefix (x ∷ ts) t u zero h = h
count_prefix (x ∷ ts) t u (suc k) h = count_prefix ts t u k h

count_last : (ts : List CandidateCount) (u : CandidateCount) → slice_get (ts ++ u ∷ []) (length ts) ≡ Some u
count_last [] u = refl
count_last (x ∷ ts) u = count_last ts u

some_apart : (k n : ℕ) → Some k ≡ Some n → k ≡ n
some_apart k n h = cc

-- the numbers are the same
pub counted_same : (values : ℕ → Option Bool) (position : ℕ) (ls : List Signed) (old new : CandidateCounts) → new.counts.items ≡ old.counts.items → new.occurrences ≡ old.occurrences → ((i : ℕ) → number_at new.count_states.items i ≡ number_at old.count_states.items i) → (trail : List Entry) → KeepsCounted trail values position ls old new
counted_same values position ls old new ts us same trail = λ agree literals queue at h. record {
  each = λ i q k here number. (let one = h.each i q k here (sym (same i) ∙ number) in record {
    some = one.some;
    once = one.once;
    count = one.count;
    there = ap (λ xs. slice_get xs k) ts ∙ one.there;
    counts = one.counts;
    listed = subst (λ xs. AreListed (literals q.requirement) xs.items k) (sym us) one.listed;
  });
  within = λ i k number. subst (λ xs. k < length xs) (sym ts) (h.within i k (sym (same i) ∙ number));
  apart = λ i j k a b. h.apart i j k (sym (same i) ∙ a) (sym (same j) ∙ b);
  below = subst (λ xs. AreBelow (length xs) new.occurrences.items) (sym ts) (subst (λ xs. AreBelow (length old.counts.items) xs.items) (sym us) h.below);
}

-- a clause was given a count
pub counted_given : (values : ℕ → Option Bool) (position : ℕ) (ls : List Signed) (t : CandidateCount) (old new : CandidateCounts) → position < length old.count_states.items → 0 < length ls → Counts values ls t → new.counts.items ≡ old.counts.items ++ t ∷ []
    → Lists (length old.counts.items) ls old.occurrences.items new.occurrences.items → new.count_states.items ≡ slice_set old.count_states.items position (Kept (length old.counts.items)) → (trail : List Entry) → EachOnce trail → KeepsCounted trail values position ls old new
counted_given values position ls t old new inside many counts ts added cs trail once = λ agree literals queue at h. record {
  each = λ i q k here number. elim (either i k number) [
    | inl before ↦ other literals queue h i q k here before
    | inr (is, last) ↦ given agree (literals q.requirement) k last (at q (subst (λ j. slice_get queue j ≡ Some q) is here)) h.below
  ];
  within = λ i k number. (let long : length new.counts.items ≡ length old.counts.items + 1 = ap length ts ∙ length-append old.counts.items (t ∷ []) in elim (either i k number) [
    | inl before ↦ (let low : k < length old.counts.items = h.within i k before in omega (arith, low, long))
    | inr (is, last) ↦ omega (arith, last, long)
  ]);
  apart = λ i j k a b. elim (either i k a) [
    | inl before ↦ elim (either j k b) [
      | inl both ↦ h.apart i j k before both
      | inr (is, last) ↦ (let low : k < length old.counts.items = h.within i k before in absurd (omega (arith, low, last)))
    ]
    | inr (here, last) ↦ elim (either j k b) [
      | inl before ↦ (let low : k < length old.counts.items = h.within j k before in absurd (omega (arith, low, last)))
      | inr (there, _) ↦ here ∙ sym there
    ]
  ];
  below = subst (λ n. AreBelow n new.occurrences.items) (sym (ap length ts ∙ length-append old.counts.items (t ∷ []))) (below_new (length old.counts.items) ls old.occurrences.items new.occurrences.items added h.below);
}
  where
    either : (i k : ℕ) → number_at new.count_states.items i ≡ Some k → (number_at old.count_states.items i ≡ Some k) ⊎ ((i ≡ position) × (k ≡ length old.counts.items))
    either i k number = elim (number_set_other old.count_states.items position (Kept (length old.counts.items)) i) [
      | inl same ↦ inl (sym same ∙ ap (λ xs. number_at xs i) (sym cs) ∙ number)
      | inr is ↦ inr (is, some_apart k (length old.counts.items) (sym number ∙ ap (λ xs. number_at xs i) cs ∙ ap (number_at (slice_set old.count_states.items position (Kept (length old.counts.items)))) is ∙ number_set old.count_states.items position (Kept (length old.counts.items)) inside))
    ]

    other : (literals : Requirement → List Signed) (queue : List NeedClause) → AreRightCounts literals queue trail old → (i : ℕ) (q : NeedClause) (k : ℕ) → slice_get queue i ≡ Some q → number_at old.count_states.items i ≡ Some k → IsRightCount (literals q.requirement) trail new k
    other literals queue h i q k here number =
        let one = h.each i q k here number in
        record {
          some = one.some;
          once = one.once;
          count = one.count;
          there = ap (λ xs. slice_get xs k) ts ∙ count_prefix old.counts.items one.count t k one.there;
          counts = one.counts;
          listed = listed_other (length old.counts.items) ls old.occurrences.items new.occurrences.items added h.below k (literals q.requirement) (h.within i k number) one.listed;
        }

    given : ((v : ℕ) → values v ≡ value_in trail v) → (ms : List Signed) (k : ℕ) → k ≡ length old.counts.items → ms ≡ ls → AreBelow (length old.counts.items) old.occurrences.items → IsRightCount ms trail new k
    given agree ms k last is below = subst (λ n. IsRightCount ms trail new n) (sym last) (subst (λ xs. IsRightCount xs trail new (length old.counts.items)) (sym is) (record {
      some = many;
      once = once;
      count = t;
      there = ap (λ xs. slice_get xs (length old.counts.items)) ts ∙ count_last old.counts.items t;
      counts = counts_agree (value_in trail) values (λ v. sym (agree v)) ls t counts;
      listed = listed_new (length old.counts.items) ls old.occurrences.items new.occurrences.items added below;
    }))

-- more candidates in front are passed over
count_set : (ts : List CandidateCount) (n : ℕ) (t : CandidateCount) → n < length ts → slice_get (slice_set ts n t) n ≡ Some t
count_set [] n t h = absurd (omega (arith, h))
count_set (x ∷ ts) zero t h = refl
count_set (x ∷ ts) (suc n) t h = count_set ts n t (omega (arith, h))

count_set_other : (ts : List CandidateCount) (n : ℕ) (t : CandidateCount) (k : ℕ) → (n ≡ k → ⊥) → slice_get (slice_set ts n t) k ≡ slice_get ts k
count_set_other [] n t k far = refl
count_set_other (x ∷ ts) zero t zero far = absurd (far refl)
count_set_other (x ∷ ts) zero t (suc k) far = refl
count_set_other (x ∷ ts) (suc n) t zero far = refl
count_set_other (x ∷ ts) (suc n) t (suc k) far = count_set_other ts n t k (λ same. far (ap suc same))

length_set : (ts : List CandidateCount) (n : ℕ) (t : CandidateCount) → length (slice_set ts n t) ≡ length ts
length_set [] n t = refl
length_set (x ∷ ts) zero t = refl
length_set (x ∷ ts) (suc n) t = ap suc (length_set ts n t)

count_read : (ts : List CandidateCount) (n : ℕ) (d t : CandidateCount) → slice_get ts n ≡ Some t → get_or ts n d ≡ t
count_read [] n d t h = cc
count_read (x ∷ ts) zero d t h = cc
count_read (x ∷ ts) (suc n) d t h = count_read ts n d t h

-- the default doesn't matter within the list
pub get_any : {X : Type 0} (xs : List X) (n : ℕ) (d e : X) → n < length xs → get_or xs n d ≡ get_or xs n e
get_any [] n d e h = absurd (omega (arith, h))
get_any (x ∷ xs) zero d e h = refl
get_any (x ∷ xs) (suc n) d e h = get_any xs n d e (omega (arith, h))

-- false candidates have false literals
pub false_literals : {N : Type 0} (values : ℕ → Option Bool) (cs : List (Candidate N)) (from to : ℕ) → ((p : ℕ) → from ≤ p → p < to → (c : Candidate N) → slice_get cs p ≡ Some c → is_false (value_under values c.literal) ≡ true)
    → (p : ℕ) (l : Signed) → from ≤ p → p < to → slice_get (candidate_literals cs) p ≡ Some l → is_false (value_under values l) ≡ true
false_literals {N} values cs from to h p l low high at =
    let (c, there, is) = literal_there cs p l at in
    subst (λ (x : Signed). is_false (value_under values x) ≡ true) is (h p low high c there)
  where
    literal_there : (xs : List (Candidate N)) (i : ℕ) (m : Signed) → slice_get (candidate_literals xs) i ≡ Some m → (c : Candidate N) × (slice_get xs i ≡ Some c) × (c.literal ≡ m)
    literal_there [] i m h = cc
    literal_there (x ∷ xs) zero m h = (let is : x.literal ≡ m = cc in (x, refl, is))
    literal_there (x ∷ xs) (suc i) m h = literal_there xs i m h

pub counted_passed : (values : ℕ → Option Bool) (position : ℕ) (ls : List Signed) (n passed : ℕ) (d : CandidateCount) (old new : CandidateCounts) → number_at old.count_states.items position ≡ Some n → n < length old.counts.items
    → ((p : ℕ) (l : Signed) → (get_or old.counts.items n d).passed ≤ p → p < passed → slice_get ls p ≡ Some l → is_false (value_under values l) ≡ true)
    → new.counts.items ≡ slice_set old.counts.items n (record (get_or old.counts.items n d) { passed = passed }) → new.occurrences ≡ old.occurrences → new.count_states ≡ old.count_states → (trail : List Entry) → KeepsCounted trail values position ls old new
counted_passed values position ls n passed d old new has inside falses ts us cs trail = λ agree literals queue at h. record {
  each = λ i q k here number. each agree literals queue at h i q k here (ap (λ xs. number_at xs.items i) (sym cs) ∙ number);
  within = λ i k number. (let low : k < length old.counts.items = h.within i k (ap (λ xs. number_at xs.items i) (sym cs) ∙ number) in omega (arith, low, long));
  apart = λ i j k a b. h.apart i j k (ap (λ xs. number_at xs.items i) (sym cs) ∙ a) (ap (λ xs. number_at xs.items j) (sym cs) ∙ b);
  below = subst (λ m. AreBelow m new.occurrences.items) (sym long) (subst (λ xs. AreBelow (length old.counts.items) xs.items) (sym us) h.below);
}
  where
    long : length new.counts.items ≡ length old.counts.items
    long = ap length ts ∙ length_set old.counts.items n (record (get_or old.counts.items n d) { passed = passed })

    each : ((v : ℕ) → values v ≡ value_in trail v) → (literals : Requirement → List Signed) (queue : List NeedClause) → ((q : NeedClause) → slice_get queue position ≡ Some q → literals q.requirement ≡ ls) → AreRightCounts literals queue trail old
        → (i : ℕ) (q : NeedClause) (k : ℕ) → slice_get queue i ≡ Some q → number_at old.count_states.items i ≡ Some k → IsRightCount (literals q.requirement) trail new k
    each agree literals queue at h i q k here number = elim (cases_Bool (n == k)) [
      | inl same ↦ mine (eqb-true n k same)
      | inr far ↦ record {
        some = one.some;
        once = one.once;
        count = one.count;
        there = ap (λ xs. slice_get xs k) ts ∙ count_set_other old.counts.items n (record (get_or old.counts.items n d) { passed = passed }) k (λ is. both_ways (n == k) far (eq-eqb n k is)) ∙ one.there;
        counts = one.counts;
        listed = subst (λ xs. AreListed (literals q.requirement) xs.items k) (sym us) one.listed;
      }
    ]
      where
        one : IsRightCount (literals q.requirement) trail old k
        one = h.each i q k here number

        mine : n ≡ k → IsRightCount (literals q.requirement) trail new k
        mine is =
            let place : position ≡ i = h.apart position i k (has ∙ ap Some is) number in
            let own : literals q.requirement ≡ ls = at q (subst (λ j. slice_get queue j ≡ Some q) (sym place) here) in
            let read : get_or old.counts.items n d ≡ one.count = count_read old.counts.items n d one.count (ap (slice_get old.counts.items) is ∙ one.there) in
            let first : (get_or old.counts.items n d).passed ≡ one.count.passed = ap (λ (t : CandidateCount). t.passed) read in
            record {
              some = one.some;
              once = one.once;
              count = record one.count { passed = passed };
              there = ap (λ xs. slice_get xs k) ts ∙ ap (slice_get (slice_set old.counts.items n (record (get_or old.counts.items n d) { passed = passed }))) (sym is)
                  ∙ count_set old.counts.items n (record (get_or old.counts.items n d) { passed = passed }) inside ∙ ap (λ (t : CandidateCount). Some (record t { passed = passed })) read;
              counts = record {
                total = one.counts.total;
                trues = one.counts.trues;
                falses = one.counts.falses;
                passed = λ p l low there. elim (cases_lt p one.count.passed) [
                  | inl before ↦ one.counts.passed p l before there
                  | inr behind ↦ ap (λ o. is_false (option_map (λ v. beq v l.positive) o)) (sym (agree l.variable.0)) ∙ falses p l (omega (arith, behind, first)) low (ap (λ ms. slice_get ms p) (sym own) ∙ there)
                ];
              };
              listed = subst (λ xs. AreListed (literals q.requirement) xs.items k) (sym us) one.listed;
            }
