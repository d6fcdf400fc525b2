-- Once propagation is complete, each clause that offers a decision has two undecided candidates.
use Rattle.std.proofs.Common.{◌≡◌, ℕ, ◌+◌, ◌≤◌, inl, inr, Bool, true, false, cond, List, [], ◌∷◌, ◌++◌, Option, Some, None, option_map, find, refl, sym, ◌∙◌, ap, subst, arith}
use Rattle.std.specs.Prelude.{Contains}
use Rattle.std.specs.List.{list_any, count_by}
use Rattle.std.proofs.lemmas.Bool.{both_ways, cases_Bool, and_parts}
use Rattle.std.proofs.lemmas.List.Sums.{sum_by-cons}
use Rattle.resolvo_store_core.specs.Signed.{Signed, negation, same_literal, has, value_under, is_true, is_false, is_open}
use Rattle.resolvo_store_core.specs.SignLaws.{same_literal-self}
use Rattle.resolvo_store_core.specs.Clauses.{no, candidate_literals}
use Rattle.resolvo_store_core.specs.Lists.{Named, named_by}
use Rattle.resolvo_store_core.specs.Pick.{is_eligible_by, decision_for, offer_of, offer_by}
use Rattle.resolvo_store_core.specs.Values.{value_at}
use Rattle.resolvo_store_core.specs.declared.lists.Candidate.{Candidate}
use Rattle.resolvo_store_core.specs.declared.pick.NeedClause.{NeedClause}
use Rattle.resolvo_store_core.specs.declared.pick.NextDecision.{NextDecision}
use Rattle.resolvo_decide.specs.Needs.{LeavesUndecided}
use Rattle.resolvo_decide.specs.Queue.{needs_of}
use Rattle.resolvo_sat.specs.Entries.{made_true}
use Rattle.resolvo_sat.specs.Known.{clause_at}
use Rattle.resolvo_sat.specs.Propagation.{IsQuiet}
use Rattle.resolvo_sat.specs.State.{history, count_of, clauses_of}
use Rattle.resolvo_sat.proofs.Lists.{contains_none, contains_cases, none_contained}
use Rattle.resolvo_sat.proofs.Literals.{has-cons, has-append}
use Rattle.resolvo_encoder.specs.Steps.{IsBuilt}
use Rattle.resolvo_encoder.specs.TurnLevels.{AreValues}
use Rattle.resolvo_encoder.specs.Progress.{AreQuiet}
use Rattle.resolvo_encoder.specs.declared.encoder.Encoder.{Encoder}
use Rattle.resolvo_encoder.proofs.ConditionLemmas.{all_has}
use Rattle.resolvo_encoder.proofs.DecideLemmas.{known_value, false_known, known_false, parent_known, open_or_known, trail_values}
use Rattle.resolvo_encoder.proofs.NeedLemmas.{literal_in}
use Rattle.resolvo_encoder.proofs.RequireLemmas.{some_one}

-- ---- counting

counted : {X : Type 0} (f : X → Bool) (z : X) (zs : List X) → f z ≡ true → count_by f (z ∷ zs) ≡ 1 + count_by f zs
counted f z zs h = sum_by-cons (λ y. cond (f y) 1 0) z zs ∙ ap (λ (b : Bool). cond b 1 0 + count_by f zs) h

count_later : {X : Type 0} (f : X → Bool) (z : X) (zs : List X) (n : ℕ) → n ≤ count_by f zs → n ≤ count_by f (z ∷ zs)
count_later f z zs n le =
    let parts : count_by f (z ∷ zs) ≡ cond (f z) 1 0 + count_by f zs = sum_by-cons (λ y. cond (f y) 1 0) z zs in
    subst (λ (m : ℕ). n ≤ m) (sym parts) (go (cond (f z) 1 0))
  where
    go : (k : ℕ) → n ≤ k + count_by f zs
    go k = omega arith

count_one : {X : Type 0} (f : X → Bool) (xs : List X) (x : X) → Contains xs x → f x ≡ true → 1 ≤ count_by f xs
count_one f [] x a h = absurd (contains_none x a)
count_one f (z ∷ zs) x a h = elim (contains_cases x z zs a) [
  | inl is ↦ subst (λ (m : ℕ). 1 ≤ m) (sym (counted f z zs (ap f (sym is) ∙ h))) (omega arith)
  | inr later ↦ count_later f z zs 1 (count_one f zs x later h)
]

-- two different items are two
count_two : {X : Type 0} (f : X → Bool) (xs : List X) (x y : X) → Contains xs x → Contains xs y → (x ≡ y → ⊥) → f x ≡ true → f y ≡ true → 2 ≤ count_by f xs
count_two f [] x y a b other h i = absurd (contains_none x a)
count_two f (z ∷ zs) x y a b other h i = elim (contains_cases x z zs a) [
  | inl first ↦ elim (contains_cases y z zs b) [
    | inl second ↦ absurd (other (first ∙ sym second))
    | inr later ↦ more (ap f (sym first) ∙ h) (count_one f zs y later i)
  ]
  | inr later ↦ elim (contains_cases y z zs b) [
    | inl second ↦ more (ap f (sym second) ∙ i) (count_one f zs x later h)
    | inr last ↦ count_later f z zs 2 (count_two f zs x y later last other h i)
  ]
]
  where
    more : f z ≡ true → 1 ≤ count_by f zs → 2 ≤ count_by f (z ∷ zs)
    more here rest = subst (λ (m : ℕ). 2 ≤ m) (sym (counted f z zs here)) (omega arith)

-- ---- what a clause offers

module _ {N : Type 0} (names : Named N) (values : ℕ → Option Bool) (score : N → ℕ) where
  -- the clause is eligible, none of its candidates is true, and the undecided ones are counted
  record IsOffer (q : NeedClause) (d : NextDecision) : Type 0 where
    eligible : is_eligible_by names values q ≡ true
    none_true : list_any (λ c. is_true (value_under values c.literal)) (names.candidates q.requirement) ≡ false
    counted : d.candidate_count ≡ count_by (λ c. is_open (value_under values c.literal)) (names.candidates q.requirement)

  offer_parts : (q : NeedClause) (d : NextDecision) → offer_by names values score q ≡ Some d → IsOffer q d
  offer_parts q d h = go (is_eligible_by names values q) refl h
    where
      cs : List (Candidate N)
      cs = names.candidates q.requirement

      count : (o : Option (Candidate N)) → option_map (decision_for names values score q cs) o ≡ Some d → d.candidate_count ≡ count_by (λ c. is_open (value_under values c.literal)) cs
      count None e = absurd cc
      count (Some c) e = ap (λ (x : NextDecision). x.candidate_count) (sym (some_one (decision_for names values score q cs c) d e))

      none : (b : Bool) → list_any (λ c. is_true (value_under values c.literal)) cs ≡ b → cond b None (option_map (decision_for names values score q cs) (find (λ c. is_open (value_under values c.literal)) cs)) ≡ Some d
          → (list_any (λ c. is_true (value_under values c.literal)) cs ≡ false) × (d.candidate_count ≡ count_by (λ c. is_open (value_under values c.literal)) cs)
      none true at e = absurd cc
      none false at e = (at, count (find (λ c. is_open (value_under values c.literal)) cs) e)

      go : (b : Bool) → is_eligible_by names values q ≡ b → cond b (offer_of names values score q cs) None ≡ Some d → IsOffer q d
      go true at e = (let (untrue, counted) = none (list_any (λ c. is_true (value_under values c.literal)) cs) refl e in record { eligible = at; none_true = untrue; counted = counted })
      go false at e = absurd cc

-- ---- the undecided candidates of a quiet clause

not_both : (o : Option Bool) → is_true o ≡ true → is_false o ≡ true → ⊥
not_both None h i = both_ways false refl h
not_both (Some true) h i = both_ways false refl i
not_both (Some false) h i = both_ways false refl h

module _ {N : Type 0} (names : Named N) (values : ℕ → Option Bool) (score : N → ℕ) (known : List Signed) (agree : AreValues values known) (q : NeedClause) (d : NextDecision) (o : IsOffer names values score q d) where
  untrue : (c : Candidate N) → Contains (names.candidates q.requirement) c → is_true (value_under values c.literal) ≡ false
  untrue c there = none_contained (λ (x : Candidate N). is_true (value_under values x.literal)) c (names.candidates q.requirement) there o.none_true

  fell : (l : Signed) → has (names.condition q.condition) l ≡ true → has known (negation l) ≡ true
  fell l a = false_known values known agree l (all_has (λ (x : Signed). is_false (value_under values x)) (names.condition q.condition) l (and_parts (is_true (values q.parent.0)) _ o.eligible).1 a)

  undecided_one : (c : Candidate N) → Contains (names.candidates q.requirement) c → has known (negation c.literal) ≡ false → is_open (value_under values c.literal) ≡ true
  undecided_one c there free = elim (open_or_known values known agree c.literal free) [
    | inl open_ ↦ open_
    | inr true_ ↦ absurd (both_ways (is_true (value_under values c.literal)) (untrue c there) (known_value values known agree c.literal true_))
  ]

  -- a literal of the need that isn't false is an undecided candidate's
  undecided : (l : Signed) → has (no q.parent ∷ (names.condition q.condition ++ candidate_literals (names.candidates q.requirement))) l ≡ true → has known (negation l) ≡ false
      → (c : Candidate N) × Contains (names.candidates q.requirement) c × (c.literal ≡ l) × (is_open (value_under values c.literal) ≡ true)
  undecided l a free = elim (has-cons (no q.parent) (names.condition q.condition ++ candidate_literals (names.candidates q.requirement)) l a) [
    | inl is ↦ absurd (both_ways (has known (negation l)) free (subst (λ (x : Signed). has known (negation x) ≡ true) is (parent_known values known agree q.parent (and_parts (is_true (values q.parent.0)) _ o.eligible).0)))
    | inr b ↦ elim (has-append (names.condition q.condition) (candidate_literals (names.candidates q.requirement)) l b) [
      | inl conditioned ↦ absurd (both_ways (has known (negation l)) free (fell l conditioned))
      | inr listed ↦
          let (c, there, is) = literal_in (names.candidates q.requirement) l listed in
          (c, there, is, undecided_one c there (subst (λ (x : Signed). has known (negation x) ≡ false) (sym is) free))
    ]
  ]

  free_one : (l : Signed) → has known l ≡ true → has known (negation l) ≡ false
  free_one l t = elim (cases_Bool (has known (negation l))) [
    | inl e ↦ absurd (not_both (value_under values l) (known_value values known agree l t) (known_false values known agree l e))
    | inr e ↦ e
  ]

  -- so a quiet clause of such literals has two
  offer_undecided : (clause : List Signed) → ((l : Signed) → has clause l ≡ true → has (no q.parent ∷ (names.condition q.condition ++ candidate_literals (names.candidates q.requirement))) l ≡ true) → IsQuiet known clause → 2 ≤ d.candidate_count
  offer_undecided clause each (inl (l, a, t)) =
      let (c, there, is, open_) = undecided l (each l a) (free_one l t) in
      absurd (both_ways (is_true (value_under values c.literal)) (untrue c there) (known_value values known agree c.literal (subst (λ (x : Signed). has known x ≡ true) (sym is) t)))
  offer_undecided clause each (inr (l, m, a, b, other, free, loose)) =
      let (c, there, is, open_) = undecided l (each l a) free in
      let (x, here, one, unset) = undecided m (each m b) loose in
      let apart : c ≡ x → ⊥ = λ same. both_ways (same_literal l m) other (subst (λ (y : Signed). same_literal l y ≡ true) (sym is ∙ ap (λ (y : Candidate N). y.literal) same ∙ one) (same_literal-self l)) in
      subst (λ n. 2 ≤ n) (sym o.counted) (count_two (λ (y : Candidate N). is_open (value_under values y.literal)) (names.candidates q.requirement) c x there here apart open_ unset)

-- each clause of the queue that offers a decision has two undecided candidates
pub leaves_undecided : {N S : Type 0} (e : Encoder N S) → IsBuilt e → AreQuiet e → LeavesUndecided e.lists e.coding.search.tracker.trail (needs_of e.queue) 2
leaves_undecided {N} {S} e b quiet = λ map mapped score q d a offered.
    let s = e.coding.search in
    let agree = trail_values (count_of s) (clauses_of s) s.tracker.trail map b.coding.ready.state.trail mapped in
    let clause = b.clauses q a in
    offer_undecided (named_by e.lists) (value_at map) score (made_true (history s)) agree q d (offer_parts (named_by e.lists) (value_at map) score q d offered) (clause_at (clauses_of s) q.clause.0) clause.each (quiet q.clause.0 clause.in_range)
