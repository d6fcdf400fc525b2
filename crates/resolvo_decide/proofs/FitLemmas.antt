-- The states stay right after a backjump and as the trail grows. A clause offers no decision where
-- it is satisfied or idle.
use Rattle.std.proofs.Common.{◌≡◌, ℕ, zero, suc, ◌+◌, ◌-◌, ◌<◌, ◌≤◌, ◌⊎◌, inl, inr, cond, Bool, true, false, List, [], ◌∷◌, ◌++◌, map, length, take, drop, get_or, Option, Some, None, refl, sym, ◌∙◌, ap, subst, arith}
use Rattle.std.specs.Prelude.{nat_lt, ◌&&◌, ◌||◌, not, slice_get, slice_set, Contains}
use Rattle.std.specs.Option.{option_map}
use Rattle.std.specs.List.{list_any, list_all, find}
use Rattle.std.proofs.Math.Bool.{beq}
use Rattle.std.proofs.lemmas.Bool.{ltb-false, cases_lt}
use Rattle.std.proofs.lemmas.List.{append_assoc, length-append, length-drop, length-map, length-set, take_more, take_all, drop_all, take-append-drop}
use Rattle.std.proofs.Math.Seq.{take-length}
use Rattle.std.proofs.lemmas.List.Elements.{Contains-append_right}
use Rattle.resolvo_pool_core.specs.declared.requirement.Requirement.{Requirement}
use Rattle.resolvo_store_core.specs.AtMostOne.{IsPrefixOf}
use Rattle.resolvo_store_core.specs.Signed.{Signed, value_under, is_true, is_false, is_open}
use Rattle.resolvo_store_core.specs.Clauses.{candidate_literals}
use Rattle.resolvo_store_core.specs.Lists.{items_or_none, named_by, candidates_in, condition_in}
use Rattle.resolvo_store_core.specs.Pick.{offer, pick_after, offer_of, decision_for, is_eligible, later}
use Rattle.resolvo_store_core.specs.Trail.{assigned, value_in, EachOnce}
use Rattle.resolvo_store_core.specs.declared.decision.Entry.{Entry}
use Rattle.resolvo_store_core.specs.declared.pick.NeedClause.{NeedClause}
use Rattle.resolvo_store_core.specs.declared.pick.NextDecision.{NextDecision}
use Rattle.resolvo_store_core.specs.declared.lists.Candidate.{Candidate}
use Rattle.resolvo_store_core.specs.declared.lists.FixedLists.{FixedLists}
use Rattle.resolvo_decide.specs.declared.clause_states.ClauseState.{ClauseState}
use Rattle.resolvo_decide.specs.declared.clause_states.ClauseState.TheVariants.{Open, Satisfied, Inactive}
use Rattle.resolvo_decide.specs.declared.candidate_counts.CandidateCounts.{CandidateCounts}
use Rattle.resolvo_decide.specs.declared.candidate_counts.Occurrence.{Occurrence}
use Rattle.resolvo_decide.specs.declared.undecided_clauses.UndecidedClauses.{UndecidedClauses}
use Rattle.resolvo_decide.specs.States.{state_at, reopened, is_open_state, AreClosed}
use Rattle.resolvo_decide.specs.CandidateCounts.{IsRightCount, AreListed, AreBelow, Begins, HasNoCount, number_at}
use Rattle.resolvo_decide.specs.Needs.{literals_in, is_met, IsClauseOf, IsMetNow, IsSoundState, Fits, AreRightCounts, KeepsFits, KeepsCounts, KeepsCounted, OffersAtLeast, AddsNeed}
use Rattle.resolvo_decide.proofs.Positions.{state_end, state_map, state_out, state_put, state_set_other}
use Rattle.resolvo_decide.proofs.TrailEnds.{open_before}
use Rattle.resolvo_decide.proofs.Seen.{met_take, met_whole, take_less, idle_take, idle_more}

module _ (literals : Requirement → List Signed) (q : NeedClause) where
  -- under a prefix of the trail
  sound_back : (common : ℕ) (es : List Entry) (s : ClauseState) → IsSoundState literals es q s → IsSoundState literals (take common es) q (reopened common s)
  sound_back common es Open h = tt
  sound_back common es Inactive h = idle_take common es q.parent.0 h
  sound_back common es (Satisfied within) h = go (nat_lt common within) refl
    where
      go : (b : Bool) → nat_lt common within ≡ b → IsSoundState literals (take common es) q (cond b Open (Satisfied within))
      go true is = tt
      go false is = subst (λ (xs : List Entry). is_met xs (literals q.requirement) ≡ true) (sym (take_less within common es (ltb-false common within is))) h

  -- after an entry that makes no parent of an idle clause true
  sound_on : (es : List Entry) (e : Entry) (s : ClauseState) → IsSoundState literals es q s → (e.decision.value ≡ true → e.decision.variable.0 ≡ q.parent.0 → s ≡ Inactive → ⊥) → IsSoundState literals (es ++ e ∷ []) q s
  sound_on es e Open h other = tt
  sound_on es e (Satisfied within) h other = met_take within es (e ∷ []) (literals q.requirement) h
  sound_on es e Inactive h other = idle_more es e q.parent.0 h (λ same. go e.decision.value refl same)
    where
      go : (b : Bool) → e.decision.value ≡ b → e.decision.variable.0 ≡ q.parent.0 → b ≡ false
      go true is same = absurd (other is same refl)
      go false is same = refl

  -- an open state is right
  sound_open : (es : List Entry) (s : ClauseState) → s ≡ Open → IsSoundState literals es q s
  sound_open es s is = subst (IsSoundState literals es q) (sym is) tt

-- a state that was found, or none
pub sound_put : (literals : Requirement → List Signed) (es : List Entry) (q : NeedClause) (found new : ClauseState) → IsSoundState literals es q found → (new ≡ found) ⊎ (new ≡ Open) → IsSoundState literals es q new
sound_put literals es q found new so (inl is) = subst (IsSoundState literals es q) (sym is) so
sound_put literals es q found new so (inr is) = sound_open literals q es new is

pub fits_back : (common : ℕ) (old new : UndecidedClauses) → new.seen.items ≡ take common old.seen.items → new.states ≡ map (reopened common) old.states → new.by_parent ≡ old.by_parent → KeepsCounts old.seen.items new.seen.items old.counts new.counts → KeepsFits old new
fits_back common old new seen states by_parent counts = λ literals queue f. record {
  count = ap length states ∙ length-map old.states (reopened common) ∙ f.count;
  each = λ i q at. subst (λ (es : List Entry). IsSoundState literals es q (state_at new.states i)) (sym seen)
      (subst (IsSoundState literals (take common old.seen.items) q) (sym (ap (λ ss. state_at ss i) states ∙ state_map common old.states i)) (sound_back literals q common old.seen.items (state_at old.states i) (f.each i q at)));
  placed = λ i q at. subst (λ ps. IsClauseOf ps q.parent.0 i) (sym by_parent) (f.placed i q at);
  kept_count = counts literals queue f.kept_count;
}

-- the states are unchanged or open, and the clauses of a parent that the entry makes true are open
pub fits_on : (e : Entry) (old new : UndecidedClauses) → new.seen.items ≡ old.seen.items ++ e ∷ [] → new.by_parent ≡ old.by_parent → length new.states ≡ length old.states
    → ((i : ℕ) → (state_at new.states i ≡ state_at old.states i) ⊎ (state_at new.states i ≡ Open))
    → (e.decision.value ≡ true → (i : ℕ) → IsClauseOf old.by_parent e.decision.variable.0 i → state_at new.states i ≡ Open) → KeepsCounts old.seen.items (old.seen.items ++ e ∷ []) old.counts new.counts → KeepsFits old new
fits_on e old new seen by_parent long others opened counts = λ literals queue f. record {
  count = long ∙ f.count;
  each = λ i q at. subst (λ (es : List Entry). IsSoundState literals es q (state_at new.states i)) (sym seen) (each literals queue f i q at);
  placed = λ i q at. subst (λ ps. IsClauseOf ps q.parent.0 i) (sym by_parent) (f.placed i q at);
  kept_count = subst (λ (es : List Entry). AreRightCounts literals queue es new.counts) (sym seen) (counts literals queue f.kept_count);
}
  where
    open_not : (s : ClauseState) → s ≡ Open → s ≡ Inactive → ⊥
    open_not s a b = (let no : Open ≡ Inactive = sym a ∙ b in absurd cc)

    each : (literals : Requirement → List Signed) (queue : List NeedClause) → Fits literals old queue → (i : ℕ) (q : NeedClause) → slice_get queue i ≡ Some q → IsSoundState literals (old.seen.items ++ e ∷ []) q (state_at new.states i)
    each literals queue f i q at = elim (others i) [
      | inr open_ ↦ sound_open literals q (old.seen.items ++ e ∷ []) (state_at new.states i) open_
      | inl same ↦ sound_on literals q old.seen.items e (state_at new.states i) (subst (IsSoundState literals old.seen.items q) (sym same) (f.each i q at))
          (λ is parent. open_not (state_at new.states i) (opened is i (subst (λ v. IsClauseOf old.by_parent v i) (sym parent) (f.placed i q at))))
    ]

-- a count that a clause has was its before another clause was added
pub begun_numbers : (n : ℕ) (old new : CandidateCounts) → Begins n old new → (i k : ℕ) → number_at new.count_states.items i ≡ Some k → number_at old.count_states.items i ≡ Some k
begun_numbers n old new b i k number = elim (cases_lt i n) [
  | inl low ↦ sym (b.kept i low) ∙ number
  | inr high ↦ (let no : None ≡ Some k = sym (b.fresh i high) ∙ number in absurd cc)
]

-- where parents have further clauses, and no clause has another count
pub fits_widened : (old new : UndecidedClauses) → new.states ≡ old.states → new.seen.items ≡ old.seen.items → ((v i : ℕ) → IsClauseOf old.by_parent v i → IsClauseOf new.by_parent v i)
    → ((i k : ℕ) → number_at new.counts.count_states.items i ≡ Some k → number_at old.counts.count_states.items i ≡ Some k) → new.counts.counts ≡ old.counts.counts → new.counts.occurrences ≡ old.counts.occurrences → KeepsFits old new
fits_widened old new states seen more numbered counts occurrences = λ literals queue f. record {
  count = ap length states ∙ f.count;
  each = λ i q at. subst (λ (es : List Entry). IsSoundState literals es q (state_at new.states i)) (sym seen) (subst (λ (ss : List ClauseState). IsSoundState literals old.seen.items q (state_at ss i)) (sym states) (f.each i q at));
  placed = λ i q at. more q.parent.0 i (f.placed i q at);
  kept_count = record {
    each = λ i q k at number. (let one = subst (λ (es : List Entry). IsRightCount (literals q.requirement) es old.counts k) (sym seen) (f.kept_count.each i q k at (numbered i k number)) in record {
      some = one.some;
      once = one.once;
      count = one.count;
      there = ap (λ ts. slice_get ts.items k) counts ∙ one.there;
      counts = one.counts;
      listed = subst (λ us. AreListed (literals q.requirement) us.items k) (sym occurrences) one.listed;
    });
    within = λ i k number. subst (λ ts. k < length ts.items) (sym counts) (f.kept_count.within i k (numbered i k number));
    apart = λ i j k a b. f.kept_count.apart i j k (numbered i k a) (numbered j k b);
    below = subst (λ ts. AreBelow (length ts.items) new.counts.occurrences.items) (sym counts) (subst (λ us. AreBelow (length old.counts.counts.items) us.items) (sym occurrences) f.kept_count.below);
  };
}

-- after a new clause
pub fits_add : (literals : Requirement → List Signed) (q : NeedClause) (old new : UndecidedClauses) (queue : List NeedClause) → Fits literals old queue → AddsNeed q.parent old new → Fits literals new (queue ++ q ∷ [])
fits_add literals q old new queue f a = record {
  count = ap length a.states ∙ length-append old.states (Open ∷ []) ∙ ap (λ n. n + 1) f.count ∙ sym (length-append queue (q ∷ []));
  each = λ i r at. subst (λ (es : List Entry). IsSoundState literals es r (state_at new.states i)) (sym (ap (λ v. v.items) a.seen)) (each i r (at_end queue i r at));
  placed = λ i r at. placed i r (at_end queue i r at);
  kept_count = record {
    each = λ i r k at number. kept_count i r k number (at_end queue i r at);
    within = λ i k number. subst (λ ts. k < length ts.items) (sym a.counts.counts) (f.kept_count.within i k (begun_numbers (length old.states) old.counts new.counts a.counts i k number));
    apart = λ i j k here there. f.kept_count.apart i j k (begun_numbers (length old.states) old.counts new.counts a.counts i k here) (begun_numbers (length old.states) old.counts new.counts a.counts j k there);
    below = subst (λ ts. AreBelow (length ts.items) new.counts.occurrences.items) (sym a.counts.counts) (subst (λ us. AreBelow (length old.counts.counts.items) us.items) (sym a.counts.occurrences) f.kept_count.below);
  };
}
  where
    at_end : (qs : List NeedClause) (i : ℕ) (r : NeedClause) → slice_get (qs ++ q ∷ []) i ≡ Some r → (slice_get qs i ≡ Some r) ⊎ ((i ≡ length qs) × (r ≡ q) × (slice_get qs i ≡ None))
    at_end [] zero r h = (let is : q ≡ r = cc in inr (refl, sym is, refl))
    at_end [] (suc i) r h = cc
    at_end (x ∷ qs) zero r h = inl h
    at_end (x ∷ qs) (suc i) r h = elim (at_end qs i r h) [ inl before ↦ inl before | inr (last, is, none) ↦ inr (ap suc last, is, none) ]

    same : (i : ℕ) → state_at new.states i ≡ state_at old.states i
    same i = ap (λ ss. state_at ss i) a.states ∙ state_end old.states i

    each : (i : ℕ) (r : NeedClause) → (slice_get queue i ≡ Some r) ⊎ ((i ≡ length queue) × (r ≡ q) × (slice_get queue i ≡ None)) → IsSoundState literals old.seen.items r (state_at new.states i)
    each i r (inl before) = subst (IsSoundState literals old.seen.items r) (sym (same i)) (f.each i r before)
    each i r (inr (last, is, none)) = sound_open literals r old.seen.items (state_at new.states i) (same i ∙ state_out old.states i (let a : length old.states ≡ length queue = f.count in omega arith))

    placed : (i : ℕ) (r : NeedClause) → (slice_get queue i ≡ Some r) ⊎ ((i ≡ length queue) × (r ≡ q) × (slice_get queue i ≡ None)) → IsClauseOf new.by_parent r.parent.0 i
    placed i r (inl before) = a.kept r.parent.0 i (f.placed i r before)
    placed i r (inr (last, is, none)) = subst (λ (s : NeedClause). IsClauseOf new.by_parent s.parent.0 i) (sym is) (subst (λ j. IsClauseOf new.by_parent q.parent.0 j) (f.count ∙ sym last) a.placed)

    known : (i : ℕ) (r : NeedClause) → slice_get queue i ≡ Some r → i < length queue
    known i r at = inside queue i at
      where
        inside : (qs : List NeedClause) (j : ℕ) → slice_get qs j ≡ Some r → j < length qs
        inside [] j h = cc
        inside (x ∷ qs) zero h = omega arith
        inside (x ∷ qs) (suc j) h = let low : j < length qs = inside qs j h in omega (arith, low)

    kept_count : (i : ℕ) (r : NeedClause) (k : ℕ) → number_at new.counts.count_states.items i ≡ Some k → (slice_get queue i ≡ Some r) ⊎ ((i ≡ length queue) × (r ≡ q) × (slice_get queue i ≡ None)) → IsRightCount (literals r.requirement) new.seen.items new.counts k
    kept_count i r k number (inl before) =
        let low : i < length old.states = omega (arith, known i r before, f.count) in
        let was : IsRightCount (literals r.requirement) old.seen.items old.counts k = f.kept_count.each i r k before (sym (a.counts.kept i low) ∙ number) in
        let here : IsRightCount (literals r.requirement) new.seen.items old.counts k = subst (λ es. IsRightCount (literals r.requirement) es.items old.counts k) (sym a.seen) was in
        record {
          some = here.some;
          once = here.once;
          count = here.count;
          there = ap (λ ts. slice_get ts.items k) a.counts.counts ∙ here.there;
          counts = here.counts;
          listed = subst (λ us. AreListed (literals r.requirement) us.items k) (sym a.counts.occurrences) here.listed;
        }
    kept_count i r k number (inr (last, is, none)) = (let no : None ≡ Some k = sym (a.counts.fresh i (omega (arith, last, f.count))) ∙ number in absurd cc)

-- the state of a clause under values
module _ {N : Type 0} (lists : FixedLists N) (values : ℕ → Option Bool) (es : List Entry) (agree : (v : ℕ) → values v ≡ value_in es v) where
  met_agrees : (cs : List (Candidate N)) → list_any (λ c. is_true (value_under values c.literal)) cs ≡ is_met es (candidate_literals cs)
  met_agrees [] = refl
  met_agrees (c ∷ cs) =
      ap (λ o. is_true (option_map (λ v. beq v c.literal.positive) o) || list_any (λ d. is_true (value_under values d.literal)) cs) (agree c.literal.variable.0)
      ∙ ap (λ b. is_true (value_under (value_in es) c.literal) || b) (met_agrees cs)

  pub sound_met : (q : NeedClause) (s : ClauseState) → IsMetNow (length es) s → list_any (λ c. is_true (value_under values c.literal)) (candidates_in lists q.requirement) ≡ true → IsSoundState (literals_in lists) es q s
  sound_met q Open h met = tt
  sound_met q Inactive h met = absurd h
  sound_met q (Satisfied within) h met = subst (λ n. is_met (take n es) (literals_in lists q.requirement) ≡ true) (sym h)
      (subst (λ (xs : List Entry). is_met xs (literals_in lists q.requirement) ≡ true) (sym (take-length es)) (sym (met_agrees (candidates_in lists q.requirement)) ∙ met))

  pub sound_nothing : (q : NeedClause) (s : ClauseState) → IsSoundState (literals_in lists) es q s → is_open_state s ≡ false → (score : N → ℕ) → offer lists values score q ≡ None
  sound_nothing q Open h closed score = cc
  sound_nothing q Inactive h closed score = ap (λ b. cond (b && list_all (λ l. is_false (value_under values l)) (condition_in lists q.condition)) (offer_of (named_by lists) values score q (candidates_in lists q.requirement)) None) (ap is_true (agree q.parent.0) ∙ h)
  sound_nothing q (Satisfied within) h closed score = ap (λ b. cond (is_eligible lists values q) (cond b None (option_map (decision_for (named_by lists) values score q (candidates_in lists q.requirement)) (find (λ c. is_open (value_under values c.literal)) (candidates_in lists q.requirement)))) None)
      (met_agrees (candidates_in lists q.requirement) ∙ met_whole within es (literals_in lists q.requirement) h) ∙ either (is_eligible lists values q)
    where
      either : (b : Bool) → cond {A = Option NextDecision} b None None ≡ None
      either true = refl
      either false = refl

-- a clause that offers no decision changes none
pub later_none : (best : Option NextDecision) → later best None ≡ best
later_none None = refl
later_none (Some d) = refl

pub some_one : {X : Type 0} (x y : X) → Some x ≡ Some y → x ≡ y
some_one x y h = cc

-- the first candidate that isn't false is true or undecided
module _ {N : Type 0} (values : ℕ → Option Bool) where
  -- it is true
  pub possible_true : (cs : List (Candidate N)) (c : Candidate N) → find (λ d. not (is_false (value_under values d.literal))) cs ≡ Some c → is_true (value_under values c.literal) ≡ true → list_any (λ d. is_true (value_under values d.literal)) cs ≡ true
  possible_true [] c h t = cc
  possible_true (x ∷ cs) c h t = go (value_under values x.literal) refl h (λ is. possible_true cs c is t)
    where
      go : (o : Option Bool) → value_under values x.literal ≡ o → cond (not (is_false o)) (Some x) (find (λ d. not (is_false (value_under values d.literal))) cs) ≡ Some c → (find (λ d. not (is_false (value_under values d.literal))) cs ≡ Some c → list_any (λ d. is_true (value_under values d.literal)) cs ≡ true) → (is_true o || list_any (λ d. is_true (value_under values d.literal)) cs) ≡ true
      go None e is more = (let no : false ≡ true = sym (ap is_true e) ∙ ap (λ d. is_true (value_under values d.literal)) (some_one x c is) ∙ t in absurd cc)
      go (Some true) e is more = refl
      go (Some false) e is more = more is

  -- it is undecided
  pub possible_open : (cs : List (Candidate N)) (c : Candidate N) → find (λ d. not (is_false (value_under values d.literal))) cs ≡ Some c → is_true (value_under values c.literal) ≡ false → find (λ d. is_open (value_under values d.literal)) cs ≡ Some c
  possible_open [] c h t = cc
  possible_open (x ∷ cs) c h t = go (value_under values x.literal) refl h (λ is. possible_open cs c is t)
    where
      go : (o : Option Bool) → value_under values x.literal ≡ o → cond (not (is_false o)) (Some x) (find (λ d. not (is_false (value_under values d.literal))) cs) ≡ Some c → (find (λ d. not (is_false (value_under values d.literal))) cs ≡ Some c → find (λ d. is_open (value_under values d.literal)) cs ≡ Some c) → cond (is_open o) (Some x) (find (λ d. is_open (value_under values d.literal)) cs) ≡ Some c
      go None e is more = is
      go (Some true) e is more = (let no : true ≡ false = sym (ap is_true e) ∙ ap (λ d. is_true (value_under values d.literal)) (some_one x c is) ∙ t in absurd cc)
      go (Some false) e is more = more is

  -- there is none
  pub possible_none : (cs : List (Candidate N)) → find (λ d. not (is_false (value_under values d.literal))) cs ≡ None → find (λ d. is_open (value_under values d.literal)) cs ≡ None
  possible_none [] h = refl
  possible_none (x ∷ cs) h = go (value_under values x.literal) h (possible_none cs)
    where
      go : (o : Option Bool) → cond (not (is_false o)) (Some x) (find (λ d. not (is_false (value_under values d.literal))) cs) ≡ None → (find (λ d. not (is_false (value_under values d.literal))) cs ≡ None → find (λ d. is_open (value_under values d.literal)) cs ≡ None) → cond (is_open o) (Some x) (find (λ d. is_open (value_under values d.literal)) cs) ≡ None
      go None is more = cc
      go (Some true) is more = cc
      go (Some false) is more = more is

-- what a clause offers
module _ {N : Type 0} (lists : FixedLists N) (values : ℕ → Option Bool) (score : N → ℕ) (q : NeedClause) where
  nothing_either : (b c : Bool) → cond {A = Option NextDecision} b (cond c None None) None ≡ None
  nothing_either true true = refl
  nothing_either true false = refl
  nothing_either false c = refl

  -- nothing, where a candidate is true
  pub nothing_met : list_any (λ c. is_true (value_under values c.literal)) (candidates_in lists q.requirement) ≡ true → offer lists values score q ≡ None
  nothing_met h = ap (λ b. cond (is_eligible lists values q) (cond b None (option_map (decision_for (named_by lists) values score q (candidates_in lists q.requirement)) (find (λ c. is_open (value_under values c.literal)) (candidates_in lists q.requirement)))) None) h ∙ nothing_either (is_eligible lists values q) true

  -- nor where none is undecided
  pub nothing_left : find (λ c. is_open (value_under values c.literal)) (candidates_in lists q.requirement) ≡ None → offer lists values score q ≡ None
  nothing_left h = ap (λ o. cond (is_eligible lists values q) (cond (list_any (λ c. is_true (value_under values c.literal)) (candidates_in lists q.requirement)) None (option_map (decision_for (named_by lists) values score q (candidates_in lists q.requirement)) o)) None) h ∙ nothing_either (is_eligible lists values q) (list_any (λ c. is_true (value_under values c.literal)) (candidates_in lists q.requirement))

-- the state of one clause is set
pub fits_found : (literals : Requirement → List Signed) (needs : UndecidedClauses) (queue : List NeedClause) (position : ℕ) (q : NeedClause) (found : ClauseState) → Fits literals needs queue → slice_get queue position ≡ Some q
    → IsSoundState literals needs.seen.items q found → Fits literals (record needs { states = slice_set needs.states position found }) queue
fits_found literals needs queue position q found f here so = record { count = length-set needs.states position found ∙ f.count; each = each; placed = f.placed; kept_count = f.kept_count }
  where
    each : (i : ℕ) (r : NeedClause) → slice_get queue i ≡ Some r → IsSoundState literals needs.seen.items r (state_at (slice_set needs.states position found) i)
    each i r at = elim (state_set_other needs.states position found i) [
      | inl same ↦ subst (IsSoundState literals needs.seen.items r) (sym same) (f.each i r at)
      | inr is ↦ (let one : r ≡ q = some_one r q (sym at ∙ ap (slice_get queue) is ∙ here) in
          subst (λ (x : NeedClause). IsSoundState literals needs.seen.items x (state_at (slice_set needs.states position found) i)) (sym one)
          (subst (λ j. IsSoundState literals needs.seen.items q (state_at (slice_set needs.states position found) j)) (sym is) (sound_put literals needs.seen.items q found (state_at (slice_set needs.states position found) position) so (state_put needs.states position found))))
    ]

-- two steps in turn
pub keeps_both : (a b c : UndecidedClauses) → KeepsFits a b → KeepsFits b c → KeepsFits a c
keeps_both a b c f g = λ literals queue h. g literals queue (f literals queue h)

-- the pick continues after a clause
module _ {N : Type 0} (lists : FixedLists N) (values : ℕ → Option Bool) (score : N → ℕ) where
  pub pick_taken : (best : Option NextDecision) (qs : List NeedClause) (i : ℕ) (d : NeedClause) → i < length qs → pick_after lists values score best (drop i qs) ≡ pick_after lists values score (later best (offer lists values score (get_or qs i d))) (drop (i + 1) qs)
  pick_taken best [] i d h = absurd (omega arith)
  pick_taken best (x ∷ qs) zero d h = refl
  pick_taken best (x ∷ qs) (suc i) d h = let more : suc i + 1 ≡ suc (i + 1) = omega arith in rw more (pick_taken best qs i d (omega arith))

  -- after one whose offer changes nothing
  pub pick_beaten : (best : Option NextDecision) (qs : List NeedClause) (i : ℕ) → i < length qs → ((q : NeedClause) → slice_get qs i ≡ Some q → later best (offer lists values score q) ≡ best) → pick_after lists values score best (drop i qs) ≡ pick_after lists values score best (drop (i + 1) qs)
  pick_beaten best [] i h same = absurd (omega arith)
  pick_beaten best (x ∷ qs) zero h same = ap (λ b. pick_after lists values score b qs) (same x refl)
  pick_beaten best (x ∷ qs) (suc i) h same = let more : suc i + 1 ≡ suc (i + 1) = omega arith in rw more (pick_beaten best qs i (omega arith) same)

  -- and after several of these
  pub pick_behind : (best : Option NextDecision) (qs : List NeedClause) (n from to : ℕ) → to ≡ from + n → ((i : ℕ) → from ≤ i → i < to → (q : NeedClause) → slice_get qs i ≡ Some q → later best (offer lists values score q) ≡ best)
      → pick_after lists values score best (drop from qs) ≡ pick_after lists values score best (drop to qs)
  pick_behind best qs zero from to is none = (let same : to ≡ from = omega arith in ap (λ i. pick_after lists values score best (drop i qs)) (sym same))
  pick_behind best qs (suc n) from to is none = elim (cases_lt from (length qs)) [
    | inl low ↦ pick_beaten best qs from low (none from (omega arith) (omega arith)) ∙ pick_behind best qs n (from + 1) to (omega arith) (λ i above below. none i (omega arith) below)
    | inr high ↦ ap (pick_after lists values score best) (drop_all from qs high ∙ sym (drop_all to qs (omega arith)))
  ]

-- no clause beats a decision of the highest score, or with the fewest undecided candidates
module _ {N : Type 0} (lists : FixedLists N) (values : ℕ → Option Bool) (score : N → ℕ) (most : ℕ) (bounded : (name : N) → score name ≤ most) where
  offer_bounded : (q : NeedClause) (d : NextDecision) → offer lists values score q ≡ Some d → d.package_activity ≤ most
  offer_bounded q d h = eligible (is_eligible lists values q) h
    where
      cs : List (Candidate N)
      cs = candidates_in lists q.requirement

      found : (o : Option (Candidate N)) → option_map (decision_for (named_by lists) values score q cs) o ≡ Some d → d.package_activity ≤ most
      found None e = absurd cc
      found (Some x) e = subst (λ (n : NextDecision). n.package_activity ≤ most) (some_one (decision_for (named_by lists) values score q cs x) d e) (bounded x.package)

      none_true : (b : Bool) → cond b None (option_map (decision_for (named_by lists) values score q cs) (find (λ c. is_open (value_under values c.literal)) cs)) ≡ Some d → d.package_activity ≤ most
      none_true true e = absurd cc
      none_true false e = found (find (λ c. is_open (value_under values c.literal)) cs) e

      eligible : (b : Bool) → cond b (offer_of (named_by lists) values score q cs) None ≡ Some d → d.package_activity ≤ most
      eligible true e = none_true (list_any (λ c. is_true (value_under values c.literal)) cs) e
      eligible false e = absurd cc

  pub pick_final : (fewest : ℕ) (best : Option NextDecision) (qs : List NeedClause) → OffersAtLeast lists values qs fewest → ((next : NextDecision) → next.package_activity ≤ most → fewest ≤ next.candidate_count → later best (Some next) ≡ best)
      → pick_after lists values score best qs ≡ best
  pick_final fewest best [] many final = refl
  pick_final fewest best (q ∷ qs) many final =
      ap (λ b. pick_after lists values score b qs) (stays (offer lists values score q) refl)
      ∙ pick_final fewest best qs (λ scored r d a offered. many scored r d (Contains-append_right (q ∷ []) qs r a) offered) final
    where
      stays : (o : Option NextDecision) → offer lists values score q ≡ o → later best o ≡ best
      stays None is = later_none best
      stays (Some next) is = final next (offer_bounded q next is) (many score q next (0, omega arith, refl) is)

  -- what the clauses offer, those from a position on offer too
  pub many_left : (fewest i : ℕ) (qs : List NeedClause) → OffersAtLeast lists values qs fewest → OffersAtLeast lists values (drop i qs) fewest
  many_left fewest i qs many = λ scored r d a offered. many scored r d (subst (λ (rs : List NeedClause). Contains rs r) (take-append-drop i qs) (Contains-append_right (take i qs) (drop i qs) r a)) offered

-- the pick continues after clauses that aren't open
pub pick_closed : {N : Type 0} (lists : FixedLists N) (values : ℕ → Option Bool) (score : N → ℕ) (needs : UndecidedClauses) (queue : List NeedClause) → Fits (literals_in lists) needs queue → ((v : ℕ) → values v ≡ value_in needs.seen.items v) → (best : Option NextDecision) (from to : ℕ) → from ≤ to
    → AreClosed needs.states from to → pick_after lists values score best (drop from queue) ≡ pick_after lists values score best (drop to queue)
pick_closed lists values score needs queue f agree best from to order closed = pick_behind lists values score best queue (to - from) from to (omega arith) (λ i above below q at. ap (later best) (sound_nothing lists values needs.seen.items agree q (state_at needs.states i) (f.each i q at) (closed i above below) score) ∙ later_none best)

-- the fit depends on the states, not on their marks
pub fits_same : (literals : Requirement → List Signed) (needs : UndecidedClauses) (queue : List NeedClause) (states : List ClauseState) → states ≡ needs.states → Fits literals needs queue → Fits literals (record needs { states = states }) queue
fits_same literals needs queue states is f = record {
  count = ap length is ∙ f.count;
  each = λ i q at. subst (λ (ss : List ClauseState). IsSoundState literals needs.seen.items q (state_at ss i)) (sym is) (f.each i q at);
  placed = f.placed;
  kept_count = f.kept_count;
}

-- the clause read is the one at its position
pub read_at : (qs : List NeedClause) (i : ℕ) (d : NeedClause) → i < length qs → slice_get qs i ≡ Some (get_or qs i d)
read_at [] i d h = absurd (omega arith)
read_at (x ∷ qs) zero d h = refl
read_at (x ∷ qs) (suc i) d h = read_at qs i d (omega arith)

-- the state of the clause read is set
pub read_fits : (literals : Requirement → List Signed) (old new : UndecidedClauses) (queue : List NeedClause) (i : ℕ) (d : NeedClause) → i < length queue → Fits literals old queue → (found : ClauseState) → IsSoundState literals old.seen.items (get_or queue i d) found
    → new ≡ record old { states = slice_set old.states i found } → Fits literals new queue
read_fits literals old new queue i d h f found so is = subst (λ (n : UndecidedClauses). Fits literals n queue) (sym is) (fits_found literals old queue i (get_or queue i d) found f (read_at queue i d h) so)

-- the clause there is the one read
pub read_is : (qs : List NeedClause) (i : ℕ) (d q : NeedClause) → slice_get qs i ≡ Some q → get_or qs i d ≡ q
read_is [] i d q h = cc
read_is (x ∷ qs) zero d q h = cc
read_is (x ∷ qs) (suc i) d q h = read_is qs i d q h

-- the counts were changed by the candidates of a clause
pub fits_counted : {N : Type 0} (lists : FixedLists N) (values : ℕ → Option Bool) (old : UndecidedClauses) (all : CandidateCounts) (queue : List NeedClause) (position : ℕ) (d : NeedClause) (cs : List (Candidate N)) → cs ≡ candidates_in lists (get_or queue position d).requirement
    → ((v : ℕ) → values v ≡ value_in old.seen.items v) → KeepsCounted old.seen.items values position (candidate_literals cs) old.counts all → Fits (literals_in lists) old queue → Fits (literals_in lists) (record old { counts = all }) queue
fits_counted {N} lists values old all queue position d cs is agree kept f = record {
  count = f.count;
  each = f.each;
  placed = f.placed;
  kept_count = kept agree (literals_in lists) queue (λ q at. ap (λ (r : NeedClause). literals_in lists r.requirement) (sym (read_is queue position d q at)) ∙ ap candidate_literals (sym is)) f.kept_count;
}

-- another clause was counted
pub fits_marked : (literals : Requirement → List Signed) (needs : UndecidedClauses) (queue : List NeedClause) (counted : Option ℕ) → Fits literals needs queue → Fits literals (record needs { counted = counted }) queue
fits_marked literals needs queue counted f = record { count = f.count; each = f.each; placed = f.placed; kept_count = f.kept_count }

-- a clause doesn't beat a decision that no score as its first undecided candidate's beats
pub offer_beaten : {N : Type 0} (lists : FixedLists N) (values : ℕ → Option Bool) (score : N → ℕ) (q : NeedClause) (best : Option NextDecision) (c : Candidate N) → find (λ d. is_open (value_under values d.literal)) (candidates_in lists q.requirement) ≡ Some c
    → ((next : NextDecision) → next.package_activity ≤ score c.package → 0 ≤ next.candidate_count → later best (Some next) ≡ best) → later best (offer lists values score q) ≡ best
offer_beaten {N} lists values score q best c first final =
    ap (λ o. later best (cond (is_eligible lists values q) (cond (list_any (λ d. is_true (value_under values d.literal)) (candidates_in lists q.requirement)) None (option_map (decision_for (named_by lists) values score q (candidates_in lists q.requirement)) o)) None)) first
    ∙ go (is_eligible lists values q) (list_any (λ d. is_true (value_under values d.literal)) (candidates_in lists q.requirement))
  where
    go : (e m : Bool) → later best (cond e (cond m None (Some (decision_for (named_by lists) values score q (candidates_in lists q.requirement) c))) None) ≡ best
    go false m = later_none best
    go true true = later_none best
    go true false = final (decision_for (named_by lists) values score q (candidates_in lists q.requirement) c) (omega arith) (omega arith)

-- one entry more is in `seen`
pub seen_more : (first rest before after : List Entry) (i : ℕ) (d : Entry) → before ≡ first ++ take i rest → i < length rest → after ≡ before ++ get_or rest i d ∷ [] → after ≡ first ++ take (i + 1) rest
seen_more first rest before after i d is low more = more ∙ ap (λ xs. xs ++ get_or rest i d ∷ []) is ∙ append_assoc first (take i rest) (get_or rest i d ∷ []) ∙ ap (λ xs. first ++ xs) (sym (take_more rest i d low))

-- and all of them
pub seen_all : (n i : ℕ) (es seen : List Entry) → n ≤ length es → seen ≡ take n es ++ take i (take (length es - n) (drop n es)) → length (take (length es - n) (drop n es)) ≤ i → seen ≡ es
seen_all n i es seen low is end =
    let long : length (drop n es) ≡ length es - n = length-drop n es in
    is ∙ ap (λ xs. take n es ++ xs) (take_all i (take (length es - n) (drop n es)) end ∙ take_all (length es - n) (drop n es) (omega arith)) ∙ take-append-drop n es

-- those so far are the trail's first ones
pub seen_some : (n i : ℕ) (es seen : List Entry) → n ≤ length es → seen ≡ take n es ++ take i (take (length es - n) (drop n es)) → IsPrefixOf seen es
seen_some n i es seen low is =
    let rest = take (length es - n) (drop n es) in
    let long : length (drop n es) ≡ length es - n = length-drop n es in
    let all : rest ≡ drop n es = take_all (length es - n) (drop n es) (omega arith) in
    (drop i rest, sym (take-append-drop n es) ∙ ap (λ xs. take n es ++ xs) (sym all ∙ sym (take-append-drop i rest)) ∙ sym (append_assoc (take n es) (take i rest) (drop i rest)) ∙ ap (λ xs. xs ++ drop i rest) (sym is))

-- and its variable is in none of the seen ones
pub seen_fresh : (n i : ℕ) (es seen : List Entry) (d : Entry) → n ≤ length es → seen ≡ take n es ++ take i (take (length es - n) (drop n es)) → i < length (take (length es - n) (drop n es)) → EachOnce es
    → assigned seen (get_or (take (length es - n) (drop n es)) i d).decision.variable.0 ≡ None
seen_fresh n i es seen d low is within once =
    let rest = take (length es - n) (drop n es) in
    let long : length (drop n es) ≡ length es - n = length-drop n es in
    let all : rest ≡ drop n es = take_all (length es - n) (drop n es) (omega arith) in
    let parts : take i rest ++ get_or rest i d ∷ drop (i + 1) rest ≡ rest = sym (append_assoc (take i rest) (get_or rest i d ∷ []) (drop (i + 1) rest)) ∙ ap (λ xs. xs ++ drop (i + 1) rest) (sym (take_more rest i d within)) ∙ take-append-drop (i + 1) rest in
    let whole : seen ++ get_or rest i d ∷ drop (i + 1) rest ≡ es =
    ap (λ xs. xs ++ get_or rest i d ∷ drop (i + 1) rest) is ∙ append_assoc (take n es) (take i rest) (get_or rest i d ∷ drop (i + 1) rest) ∙ ap (λ xs. take n es ++ xs) (parts ∙ all) ∙ take-append-drop n es in
    open_before seen (get_or rest i d) (drop (i + 1) rest) (subst EachOnce (sym whole) once)

-- where requirements without candidates get some
pub fits_more : (old new : Requirement → List Signed) (needs : UndecidedClauses) (queue : List NeedClause) → ((r : Requirement) → 0 < length (old r) → new r ≡ old r) → Fits old needs queue → Fits new needs queue
fits_more old new needs queue same f = record {
  count = f.count;
  each = λ i q at. so q (state_at needs.states i) (f.each i q at);
  placed = f.placed;
  kept_count = record {
    each = λ i q k at number. (let h = f.kept_count.each i q k at number in subst (λ ls. IsRightCount ls needs.seen.items needs.counts k) (sym (same q.requirement h.some)) h);
    within = f.kept_count.within;
    apart = f.kept_count.apart;
    below = f.kept_count.below;
  };
}
  where
    some_literal : (es : List Entry) (ls : List Signed) → is_met es ls ≡ true → 0 < length ls
    some_literal es [] h = cc
    some_literal es (l ∷ ls) h = omega arith

    more : (r : Requirement) (es : List Entry) → is_met es (old r) ≡ true → is_met es (new r) ≡ true
    more r es h = ap (is_met es) (same r (some_literal es (old r) h)) ∙ h

    so : (q : NeedClause) (s : ClauseState) → IsSoundState old needs.seen.items q s → IsSoundState new needs.seen.items q s
    so q Open h = tt
    so q (Satisfied within) h = more q.requirement (take within needs.seen.items) h
    so q Inactive h = h

-- no clause has a count
pub counts_none : (literals : Requirement → List Signed) (queue : List NeedClause) (trail : List Entry) (all : CandidateCounts) → HasNoCount all → AreRightCounts literals queue trail all
counts_none literals queue trail all none = record {
  each = λ i q k at number. absurd (unnumbered i k number);
  within = λ i k number. absurd (unnumbered i k number);
  apart = λ i j k here there. absurd (unnumbered i k here);
  below = λ index u h. absurd (unused u (subst (λ us. Contains (items_or_none (slice_get us index)) u) none.occurrences h));
}
  where
    unnumbered : (i k : ℕ) → number_at all.count_states.items i ≡ Some k → ⊥
    unnumbered i k number = (let no : None ≡ Some k = ap (λ cs. number_at cs i) (sym none.count_states) ∙ number in absurd cc)

    unused : (u : Occurrence) → Contains [] u → ⊥
    unused u (i, low, at) = omega (arith, low)

-- the empty queue
pub fits_none : (literals : Requirement → List Signed) (needs : UndecidedClauses) → needs.states ≡ [] → HasNoCount needs.counts → Fits literals needs []
fits_none literals needs none uncounted = record {
  count = ap length none;
  each = λ i q at. absurd (nothing i q at);
  placed = λ i q at. absurd (nothing i q at);
  kept_count = counts_none literals [] needs.seen.items needs.counts uncounted;
}
  where
    nothing : (i : ℕ) (q : NeedClause) → slice_get [] i ≡ Some q → ⊥
    nothing i q at = cc
