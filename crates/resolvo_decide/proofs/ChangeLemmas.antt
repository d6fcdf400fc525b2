-- The counts stay right as the trail grows and shrinks.
use Rattle.std.proofs.Common.{◌≡◌, ℕ, zero, suc, ◌+◌, ◌-◌, ◌<◌, ◌≤◌, inl, inr, cond, Bool, true, false, List, [], ◌∷◌, ◌++◌, length, Option, Some, None, refl, sym, ◌∙◌, ap, subst, arith, get_or, eq-eqb, eqb-true}
use Rattle.std.specs.Prelude.{◌==◌, nat_lt, min, slice_get, slice_set, Contains}
use Rattle.std.specs.Option.{option_map}
use Rattle.std.proofs.lemmas.Bool.{both_ways, cases_Bool, ltb-false}
use Rattle.std.proofs.lemmas.List.Elements.{Contains-append_cases}
use Rattle.std.proofs.lemmas.List.Sums.{count_by-le-length}
use Rattle.resolvo_pool_core.specs.declared.requirement.Requirement.{Requirement}
use Rattle.resolvo_store_core.specs.Signed.{Signed, negation, value_under, index_in, is_true, is_false}
use Rattle.resolvo_store_core.specs.SignLaws.{same_literal_true}
use Rattle.resolvo_store_core.specs.Trail.{assigned, value_in}
use Rattle.resolvo_store_core.specs.declared.decision.Entry.{Entry}
use Rattle.resolvo_store_core.specs.declared.pick.NeedClause.{NeedClause}
use Rattle.resolvo_decide.specs.declared.candidate_counts.CandidateCounts.{CandidateCounts}
use Rattle.resolvo_decide.specs.declared.candidate_counts.Occurrence.{Occurrence}
use Rattle.resolvo_decide.specs.declared.candidate_count.CandidateChange.{CandidateChange}
use Rattle.resolvo_decide.specs.declared.candidate_count.CandidateChange.TheVariants.{MadeTrue, MadeFalse, UndoneTrue, UndoneFalse}
use Rattle.resolvo_decide.specs.declared.candidate_count.CandidateCount.{CandidateCount}
use Rattle.resolvo_decide.specs.CandidateCounts.{one_more, changed, changed_each, times, found, occurrences_at, made_true, number_at, AreListed, AreBelow, IsRightCount, Changes}
use Rattle.resolvo_decide.specs.Needs.{AreRightCounts, KeepsCounts}
use Rattle.resolvo_decide.proofs.TrailEnds.{once_end, once_prefix, last_open, trues_end, falses_end, stays_false, was_false}

-- ---- a change for each occurrence

one_more_is : (total n : ℕ) → n < total → one_more total n ≡ n + 1
one_more_is total n h = go (nat_lt n total) refl
  where
    go : (b : Bool) → nat_lt n total ≡ b → cond b (n + 1) n ≡ n + 1
    go true is = refl
    go false is = (let above : total ≤ n = ltb-false n total is in absurd (omega (arith, h, above)))

met_each : (k : ℕ) (us : List Occurrence) (total trues falses passed : ℕ) → trues + times k us ≤ total
    → changed_each MadeTrue k us (record { total = total; trues = trues; falses = falses; passed = passed }) ≡ record { total = total; trues = trues + times k us; falses = falses; passed = passed }
met_each k [] total trues falses passed h =
    let same : trues ≡ trues + 0 = omega arith in
    ap (λ (n : ℕ). record { total = total; trues = n; falses = falses; passed = passed }) same
met_each k (u ∷ us) total trues falses passed h = go (u.count == k) h (λ n low. met_each k us total n falses passed low)
  where
    go : (b : Bool) → trues + (cond b 1 0 + times k us) ≤ total → ((n : ℕ) → n + times k us ≤ total → changed_each MadeTrue k us (record { total = total; trues = n; falses = falses; passed = passed }) ≡ record { total = total; trues = n + times k us; falses = falses; passed = passed })
        → changed_each MadeTrue k us (cond b (changed MadeTrue u.place (record { total = total; trues = trues; falses = falses; passed = passed })) (record { total = total; trues = trues; falses = falses; passed = passed }))
        ≡ record { total = total; trues = trues + (cond b 1 0 + times k us); falses = falses; passed = passed }
    go true low more =
        let less : trues < total = omega (arith, low) in
        let rest : trues + 1 + times k us ≤ total = omega (arith, low) in
        let sum : trues + 1 + times k us ≡ trues + (1 + times k us) = omega arith in
        ap (λ (n : ℕ). changed_each MadeTrue k us (record { total = total; trues = n; falses = falses; passed = passed })) (one_more_is total trues less)
        ∙ more (trues + 1) rest
        ∙ ap (λ (n : ℕ). record { total = total; trues = n; falses = falses; passed = passed }) sum
    go false low more =
        let rest : trues + times k us ≤ total = omega (arith, low) in
        let sum : trues + times k us ≡ trues + (0 + times k us) = omega arith in
        more trues rest
        ∙ ap (λ (n : ℕ). record { total = total; trues = n; falses = falses; passed = passed }) sum

fell_each : (k : ℕ) (us : List Occurrence) (total trues falses passed : ℕ) → falses + times k us ≤ total
    → changed_each MadeFalse k us (record { total = total; trues = trues; falses = falses; passed = passed }) ≡ record { total = total; trues = trues; falses = falses + times k us; passed = passed }
fell_each k [] total trues falses passed h =
    let same : falses ≡ falses + 0 = omega arith in
    ap (λ (n : ℕ). record { total = total; trues = trues; falses = n; passed = passed }) same
fell_each k (u ∷ us) total trues falses passed h = go (u.count == k) h (λ n low. fell_each k us total trues n passed low)
  where
    go : (b : Bool) → falses + (cond b 1 0 + times k us) ≤ total → ((n : ℕ) → n + times k us ≤ total → changed_each MadeFalse k us (record { total = total; trues = trues; falses = n; passed = passed }) ≡ record { total = total; trues = trues; falses = n + times k us; passed = passed })
        → changed_each MadeFalse k us (cond b (changed MadeFalse u.place (record { total = total; trues = trues; falses = falses; passed = passed })) (record { total = total; trues = trues; falses = falses; passed = passed }))
        ≡ record { total = total; trues = trues; falses = falses + (cond b 1 0 + times k us); passed = passed }
    go true low more =
        let less : falses < total = omega (arith, low) in
        let rest : falses + 1 + times k us ≤ total = omega (arith, low) in
        let sum : falses + 1 + times k us ≡ falses + (1 + times k us) = omega arith in
        ap (λ (n : ℕ). changed_each MadeFalse k us (record { total = total; trues = trues; falses = n; passed = passed })) (one_more_is total falses less)
        ∙ more (falses + 1) rest
        ∙ ap (λ (n : ℕ). record { total = total; trues = trues; falses = n; passed = passed }) sum
    go false low more =
        let rest : falses + times k us ≤ total = omega (arith, low) in
        let sum : falses + times k us ≡ falses + (0 + times k us) = omega arith in
        more falses rest
        ∙ ap (λ (n : ℕ). record { total = total; trues = trues; falses = n; passed = passed }) sum

unmet_each : (k : ℕ) (us : List Occurrence) (total trues falses passed : ℕ)
    → changed_each UndoneTrue k us (record { total = total; trues = trues; falses = falses; passed = passed }) ≡ record { total = total; trues = trues - times k us; falses = falses; passed = passed }
unmet_each k [] total trues falses passed =
    let same : trues ≡ trues - 0 = omega arith in
    ap (λ (n : ℕ). record { total = total; trues = n; falses = falses; passed = passed }) same
unmet_each k (u ∷ us) total trues falses passed = go (u.count == k) (λ n. unmet_each k us total n falses passed)
  where
    go : (b : Bool) → ((n : ℕ) → changed_each UndoneTrue k us (record { total = total; trues = n; falses = falses; passed = passed }) ≡ record { total = total; trues = n - times k us; falses = falses; passed = passed })
        → changed_each UndoneTrue k us (cond b (changed UndoneTrue u.place (record { total = total; trues = trues; falses = falses; passed = passed })) (record { total = total; trues = trues; falses = falses; passed = passed }))
        ≡ record { total = total; trues = trues - (cond b 1 0 + times k us); falses = falses; passed = passed }
    go true more =
        let sum : trues - 1 - times k us ≡ trues - (1 + times k us) = omega arith in
        more (trues - 1)
        ∙ ap (λ (n : ℕ). record { total = total; trues = n; falses = falses; passed = passed }) sum
    go false more =
        let sum : trues - times k us ≡ trues - (0 + times k us) = omega arith in
        more trues
        ∙ ap (λ (n : ℕ). record { total = total; trues = n; falses = falses; passed = passed }) sum

-- one occurrence more, where the others are left
module _ (change : CandidateChange) (place : ℕ) (f : CandidateCount → CandidateCount) (d : CandidateCount) where
  set_same : (ts : List CandidateCount) (n : ℕ) → slice_get (slice_set ts n (changed change place (get_or ts n d))) n ≡ option_map (changed change place) (slice_get ts n)
  set_same [] zero = refl
  set_same [] (suc n) = refl
  set_same (x ∷ ts) zero = refl
  set_same (x ∷ ts) (suc n) = set_same ts n

  set_other : (ts : List CandidateCount) (n : ℕ) (x : CandidateCount) (k : ℕ) → (n ≡ k → ⊥) → slice_get (slice_set ts n x) k ≡ slice_get ts k
  set_other [] n x k far = refl
  set_other (y ∷ ts) zero x zero far = absurd (far refl)
  set_other (y ∷ ts) zero x (suc k) far = refl
  set_other (y ∷ ts) (suc n) x zero far = refl
  set_other (y ∷ ts) (suc n) x (suc k) far = set_other ts n x k (λ same. far (ap suc same))

  both_maps : (o : Option CandidateCount) → option_map f (option_map (changed change place) o) ≡ option_map (λ t. f (cond true (changed change place t) t)) o
  both_maps None = refl
  both_maps (Some t) = refl

  set_either : (ts : List CandidateCount) (n k : ℕ) (b : Bool) → (n == k) ≡ b → option_map f (slice_get (slice_set ts n (changed change place (get_or ts n d))) k) ≡ option_map (λ t. f (cond b (changed change place t) t)) (slice_get ts k)
  set_either ts n k true is =
      let same : n ≡ k = eqb-true n k is in
      subst (λ j. option_map f (slice_get (slice_set ts n (changed change place (get_or ts n d))) j) ≡ option_map (λ t. f (cond true (changed change place t) t)) (slice_get ts j)) same (ap (option_map f) (set_same ts n) ∙ both_maps (slice_get ts n))
  set_either ts n k false is = ap (option_map f) (set_other ts n (changed change place (get_or ts n d)) k (λ same. both_ways (n == k) is (eq-eqb n k same)))

pub change_more : (change : CandidateChange) (k : ℕ) (ts : List CandidateCount) (u : Occurrence) (us : List Occurrence) (d : CandidateCount) → option_map (changed_each change k us) (slice_get (slice_set ts u.count (changed change u.place (get_or ts u.count d))) k) ≡ option_map (changed_each change k (u ∷ us)) (slice_get ts k)
change_more change k ts u us d = set_either change u.place (changed_each change k us) d ts u.count k (u.count == k) refl

get_out : (ts : List CandidateCount) (k : ℕ) → length ts ≤ k → slice_get ts k ≡ None
get_out [] k h = refl
get_out (x ∷ ts) zero h = absurd (omega (arith, h))
get_out (x ∷ ts) (suc k) h = get_out ts k (omega (arith, h))

-- one occurrence more, whose count isn't there
pub change_out : (change : CandidateChange) (k : ℕ) (ts : List CandidateCount) (u : Occurrence) (us : List Occurrence) → length ts ≤ u.count → option_map (changed_each change k us) (slice_get ts k) ≡ option_map (changed_each change k (u ∷ us)) (slice_get ts k)
change_out change k ts u us out = go (u.count == k) refl
  where
    go : (b : Bool) → (u.count == k) ≡ b → option_map (changed_each change k us) (slice_get ts k) ≡ option_map (λ t. changed_each change k us (cond b (changed change u.place t) t)) (slice_get ts k)
    go true is =
        let same : u.count ≡ k = eqb-true u.count k is in
        let none : slice_get ts k ≡ None = get_out ts k (omega (arith, out, same)) in
        ap (option_map (changed_each change k us)) none ∙ sym (ap (option_map (λ t. changed_each change k us (cond true (changed change u.place t) t))) none)
    go false is = refl

-- the least place of the count's occurrences, or a lesser number
abbrev lowest : ℕ → List Occurrence → ℕ → ℕ
lowest k [] p = p
lowest k (u ∷ us) p = lowest k us (cond (u.count == k) (min p u.place) p)

rose_each : (k : ℕ) (us : List Occurrence) (total trues falses passed : ℕ)
    → changed_each UndoneFalse k us (record { total = total; trues = trues; falses = falses; passed = passed }) ≡ record { total = total; trues = trues; falses = falses - times k us; passed = lowest k us passed }
rose_each k [] total trues falses passed =
    let same : falses ≡ falses - 0 = omega arith in
    ap (λ (n : ℕ). record { total = total; trues = trues; falses = n; passed = passed }) same
rose_each k (u ∷ us) total trues falses passed = go (u.count == k) (λ n p. rose_each k us total trues n p)
  where
    go : (b : Bool) → ((n p : ℕ) → changed_each UndoneFalse k us (record { total = total; trues = trues; falses = n; passed = p }) ≡ record { total = total; trues = trues; falses = n - times k us; passed = lowest k us p })
        → changed_each UndoneFalse k us (cond b (changed UndoneFalse u.place (record { total = total; trues = trues; falses = falses; passed = passed })) (record { total = total; trues = trues; falses = falses; passed = passed }))
        ≡ record { total = total; trues = trues; falses = falses - (cond b 1 0 + times k us); passed = lowest k us (cond b (min passed u.place) passed) }
    go true more =
        let sum : falses - 1 - times k us ≡ falses - (1 + times k us) = omega arith in
        more (falses - 1) (min passed u.place)
        ∙ ap (λ (n : ℕ). record { total = total; trues = trues; falses = n; passed = lowest k us (min passed u.place) }) sum
    go false more =
        let sum : falses - times k us ≡ falses - (0 + times k us) = omega arith in
        more falses passed
        ∙ ap (λ (n : ℕ). record { total = total; trues = trues; falses = n; passed = lowest k us passed }) sum

lowest_le : (k : ℕ) (us : List Occurrence) (p : ℕ) → lowest k us p ≤ p
lowest_le k [] p = omega arith
lowest_le k (u ∷ us) p = go (u.count == k) (lowest_le k us)
  where
    go : (b : Bool) → ((n : ℕ) → lowest k us n ≤ n) → lowest k us (cond b (min p u.place) p) ≤ p
    go true less = let low : lowest k us (min p u.place) ≤ min p u.place = less (min p u.place) in omega (arith, low)
    go false less = less p

only : (x y : Occurrence) → Contains (x ∷ []) y → y ≡ x
only x y (zero, low, at) = sym at
only x y (suc i, low, at) = absurd (omega (arith, low))

lowest_at : (k : ℕ) (us : List Occurrence) (p place : ℕ) → Contains us (record { count = k; place = place }) → lowest k us p ≤ place
lowest_at k [] p place (i, low, at) = absurd (omega (arith, low))
lowest_at k (u ∷ us) p place h = elim (Contains-append_cases (u ∷ []) us (record { count = k; place = place }) h) [
  | inl first ↦ here (only u (record { count = k; place = place }) first)
  | inr later ↦ lowest_at k us (cond (u.count == k) (min p u.place) p) place later
]
  where
    here : record { count = k; place = place } ≡ u → lowest k us (cond (u.count == k) (min p u.place) p) ≤ place
    here is =
        let own : u.count ≡ k = ap (λ (x : Occurrence). x.count) (sym is) in
        let at : u.place ≡ place = ap (λ (x : Occurrence). x.place) (sym is) in
        elim (cases_Bool (u.count == k)) [
          | inl same ↦ subst (λ b. lowest k us (cond b (min p u.place) p) ≤ place) (sym same) (let low : lowest k us (min p u.place) ≤ min p u.place = lowest_le k us (min p u.place) in omega (arith, low, at))
          | inr other ↦ absurd (both_ways (u.count == k) other (eq-eqb u.count k own))
        ]

-- ---- a count after an entry

module _ (ls : List Signed) (es : List Entry) (e : Entry) (k : ℕ) (old middle new : CandidateCounts) where
  abbrev pub made : ℕ
  made = index_in (made_true e)

  abbrev pub fallen : ℕ
  fallen = index_in (negation (made_true e))

  pub add_one : assigned es e.decision.variable.0 ≡ None → Changes MadeTrue made old middle → Changes MadeFalse fallen middle new → IsRightCount ls es old k → IsRightCount ls (es ++ e ∷ []) new k
  add_one fresh a b h =
      let t = h.count in
      let us = occurrences_at old.occurrences.items made in
      let vs = occurrences_at old.occurrences.items fallen in
      let one : times k us ≡ found (made_true e) ls = h.listed.times (made_true e) in
      let two : times k vs ≡ found (negation (made_true e)) ls = h.listed.times (negation (made_true e)) in
      let trues = trues_end es e fresh ls in
      let falses = falses_end es e fresh ls in
      let most = count_by-le-length (λ l. is_true (value_under (value_in (es ++ e ∷ [])) l)) ls in
      let more = count_by-le-length (λ l. is_false (value_under (value_in (es ++ e ∷ [])) l)) ls in
      let met : t.trues + times k us ≤ t.total = omega (arith, h.counts.trues, h.counts.total, one, trues, most) in
      let fell : t.falses + times k vs ≤ t.total = omega (arith, h.counts.falses, h.counts.total, two, falses, more) in
      let there : slice_get middle.counts.items k ≡ Some (record { total = t.total; trues = t.trues + times k us; falses = t.falses; passed = t.passed }) =
      a.counts k ∙ ap (option_map (changed_each MadeTrue k us)) h.there ∙ ap Some (met_each k us t.total t.trues t.falses t.passed met) in
      record {
        some = h.some;
        once = once_end es e h.once fresh;
        count = record { total = t.total; trues = t.trues + times k us; falses = t.falses + times k vs; passed = t.passed };
        there = b.counts k ∙ ap (λ w. option_map (changed_each MadeFalse k (occurrences_at w.items fallen)) (slice_get middle.counts.items k)) a.occurrences ∙ ap (option_map (changed_each MadeFalse k vs)) there
            ∙ ap Some (fell_each k vs t.total (t.trues + times k us) t.falses t.passed fell);
        counts = record {
          total = h.counts.total;
          trues = omega (arith, h.counts.trues, one, trues);
          falses = omega (arith, h.counts.falses, two, falses);
          passed = λ p l low at. stays_false es e fresh l (h.counts.passed p l low at);
        };
        listed = subst (λ w. AreListed ls w.items k) (sym (b.occurrences ∙ a.occurrences)) h.listed;
      }

  pub undo_one : Changes UndoneTrue made old middle → Changes UndoneFalse fallen middle new → IsRightCount ls (es ++ e ∷ []) old k → IsRightCount ls es new k
  undo_one a b h =
      let t = h.count in
      let fresh = last_open es e h.once in
      let us = occurrences_at old.occurrences.items made in
      let vs = occurrences_at old.occurrences.items fallen in
      let one : times k us ≡ found (made_true e) ls = h.listed.times (made_true e) in
      let two : times k vs ≡ found (negation (made_true e)) ls = h.listed.times (negation (made_true e)) in
      let there : slice_get middle.counts.items k ≡ Some (record { total = t.total; trues = t.trues - times k us; falses = t.falses; passed = t.passed }) =
      a.counts k ∙ ap (option_map (changed_each UndoneTrue k us)) h.there ∙ ap Some (unmet_each k us t.total t.trues t.falses t.passed) in
      record {
        some = h.some;
        once = once_prefix es e h.once;
        count = record { total = t.total; trues = t.trues - times k us; falses = t.falses - times k vs; passed = lowest k vs t.passed };
        there = b.counts k ∙ ap (λ w. option_map (changed_each UndoneFalse k (occurrences_at w.items fallen)) (slice_get middle.counts.items k)) a.occurrences ∙ ap (option_map (changed_each UndoneFalse k vs)) there
            ∙ ap Some (rose_each k vs t.total (t.trues - times k us) t.falses t.passed);
        counts = record {
          total = h.counts.total;
          trues = omega (arith, h.counts.trues, one, trues_end es e fresh ls);
          falses = omega (arith, h.counts.falses, two, falses_end es e fresh ls);
          passed = λ p l low at. was_false es e fresh l (h.counts.passed p l (omega (arith, low, lowest_le k vs t.passed)) at) (λ same.
              let is : negation (made_true e) ≡ l = same_literal_true (negation (made_true e)) l same in
              let listed : Contains vs (record { count = k; place = p }) = subst (λ (x : Signed). Contains (occurrences_at old.occurrences.items (index_in x)) (record { count = k; place = p })) (sym is) (h.listed.placed p l at) in
              omega (arith, low, lowest_at k vs t.passed p listed));
        };
        listed = subst (λ w. AreListed ls w.items k) (sym (b.occurrences ∙ a.occurrences)) h.listed;
      }

-- all of them

module _ (e : Entry) (old middle new : CandidateCounts) where
  kept_numbers : (before after : List Entry) → new.occurrences ≡ old.occurrences → new.count_states ≡ old.count_states → length new.counts.items ≡ length old.counts.items → (literals : Requirement → List Signed) (queue : List NeedClause) → AreRightCounts literals queue before old
      → ((i : ℕ) (q : NeedClause) (k : ℕ) → slice_get queue i ≡ Some q → number_at old.count_states.items i ≡ Some k → IsRightCount (literals q.requirement) after new k) → AreRightCounts literals queue after new
  kept_numbers before after us cs long literals queue h each = record {
    each = λ i q k at number. each i q k at (ap (λ xs. number_at xs.items i) (sym cs) ∙ number);
    within = λ i k number. subst (λ n. k < n) (sym long) (h.within i k (ap (λ xs. number_at xs.items i) (sym cs) ∙ number));
    apart = λ i j k a b. h.apart i j k (ap (λ xs. number_at xs.items i) (sym cs) ∙ a) (ap (λ xs. number_at xs.items j) (sym cs) ∙ b);
    below = subst (λ n. AreBelow n new.occurrences.items) (sym long) (subst (λ xs. AreBelow (length old.counts.items) xs.items) (sym us) h.below);
  }

  pub counts_add : Changes MadeTrue (index_in (made_true e)) old middle → Changes MadeFalse (index_in (negation (made_true e))) middle new → (trail : List Entry) → assigned trail e.decision.variable.0 ≡ None → KeepsCounts trail (trail ++ e ∷ []) old new
  counts_add a b trail fresh = λ literals queue h. kept_numbers trail (trail ++ e ∷ []) (b.occurrences ∙ a.occurrences) (b.count_states ∙ a.count_states) (b.len ∙ a.len) literals queue h
      (λ i q k at number. add_one (literals q.requirement) trail e k old middle new fresh a b (h.each i q k at number))

  pub counts_undo : Changes UndoneTrue (index_in (made_true e)) old middle → Changes UndoneFalse (index_in (negation (made_true e))) middle new → (trail : List Entry) → KeepsCounts (trail ++ e ∷ []) trail old new
  counts_undo a b trail = λ literals queue h. kept_numbers (trail ++ e ∷ []) trail (b.occurrences ∙ a.occurrences) (b.count_states ∙ a.count_states) (b.len ∙ a.len) literals queue h
      (λ i q k at number. undo_one (literals q.requirement) trail e k old middle new a b (h.each i q k at number))
