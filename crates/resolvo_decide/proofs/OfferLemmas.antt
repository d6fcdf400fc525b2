-- The decision that a clause offers, by a walk over its candidates or by its count.
use Rattle.std.proofs.Common.{◌≡◌, ℕ, zero, suc, ◌+◌, ◌-◌, ◌<◌, cond, Bool, true, false, List, [], ◌∷◌, length, drop, find, Option, Some, None, refl, sym, ◌∙◌, ap, subst, arith}
use Rattle.std.specs.Prelude.{◌||◌, slice_get}
use Rattle.std.specs.List.{count_by, list_any}
use Rattle.std.specs.Option.{option_map}
use Rattle.std.proofs.lemmas.Bool.{ltb-true}
use Rattle.std.proofs.lemmas.List.Sums.{sum_by-cons}
use Rattle.resolvo_store_core.specs.Signed.{Signed, value_under, is_true, is_false, is_open}
use Rattle.resolvo_pool_core.specs.declared.requirement.Requirement.{Requirement}
use Rattle.resolvo_store_core.specs.Clauses.{candidate_literals}
use Rattle.resolvo_store_core.specs.Lists.{named_by, candidates_in}
use Rattle.resolvo_store_core.specs.Pick.{offer, offer_of, decision_for, is_eligible}
use Rattle.resolvo_store_core.specs.Trail.{value_in}
use Rattle.resolvo_store_core.specs.declared.pick.NeedClause.{NeedClause}
use Rattle.resolvo_store_core.specs.declared.lists.FixedLists.{FixedLists}
use Rattle.resolvo_store_core.specs.declared.lists.Candidate.{Candidate}
use Rattle.resolvo_decide.specs.declared.candidate_count.CandidateCount.{CandidateCount}
use Rattle.resolvo_decide.specs.declared.undecided_clauses.UndecidedClauses.{UndecidedClauses}
use Rattle.resolvo_decide.specs.CandidateCounts.{Counts, CountsIn, has_true_in, passed_by, count_in, number_at}
use Rattle.resolvo_decide.specs.Needs.{IsRightCountAt}

-- the first candidate found, or a later one
abbrev pub first_of : {X : Type 0} → Option X → Option X → Option X
first_of None later = later
first_of (Some x) later = Some x

count_cons : {X : Type 0} (f : X → Bool) (x : X) (xs : List X) → count_by f (x ∷ xs) ≡ cond (f x) 1 0 + count_by f xs
count_cons f x xs = sum_by-cons (λ y. cond (f y) 1 0) x xs

-- a count over literals is one over the candidates
pub count_map : {N : Type 0} (f : Signed → Bool) (cs : List (Candidate N)) → count_by f (candidate_literals cs) ≡ count_by (λ c. f c.literal) cs
count_map f [] = refl
count_map f (c ∷ cs) = count_cons f c.literal (candidate_literals cs) ∙ ap (λ n. cond (f c.literal) 1 0 + n) (count_map f cs) ∙ sym (count_cons (λ d. f d.literal) c cs)

-- there is one exactly where the count isn't 0
some_counted : {X : Type 0} (f : X → Bool) (xs : List X) → 0 < count_by f xs → list_any f xs ≡ true
some_counted f [] h = absurd (omega (arith, h))
some_counted f (x ∷ xs) h = go (f x) (count_cons f x xs) (λ k. some_counted f xs k)
  where
    go : (b : Bool) → count_by f (x ∷ xs) ≡ cond b 1 0 + count_by f xs → (0 < count_by f xs → list_any f xs ≡ true) → (b || list_any f xs) ≡ true
    go true is more = refl
    go false is more = more (omega (arith, h, is))

none_counted : {X : Type 0} (f : X → Bool) (xs : List X) → count_by f xs ≡ 0 → list_any f xs ≡ false
none_counted f [] h = refl
none_counted f (x ∷ xs) h = go (f x) (count_cons f x xs) (λ k. none_counted f xs k)
  where
    go : (b : Bool) → count_by f (x ∷ xs) ≡ cond b 1 0 + count_by f xs → (count_by f xs ≡ 0 → list_any f xs ≡ false) → (b || list_any f xs) ≡ false
    go true is more = absurd (omega (arith, h, is))
    go false is more = more (omega (arith, h, is))

one_each : (o : Option Bool) → cond (is_open o) 1 0 + (cond (is_true o) 1 0 + cond (is_false o) 1 0) ≡ 1
one_each None = refl
one_each (Some true) = refl
one_each (Some false) = refl

not_open : (o : Option Bool) → is_false o ≡ true → is_open o ≡ false
not_open None h = cc
not_open (Some b) h = refl

pub length_literals : {N : Type 0} (cs : List (Candidate N)) → length (candidate_literals cs) ≡ length cs
length_literals [] = refl
length_literals (c ∷ cs) = ap suc (length_literals cs)

module _ {N : Type 0} (values : ℕ → Option Bool) where
  -- each candidate is undecided, true or false
  all_counted : (cs : List (Candidate N)) → count_by (λ c. is_open (value_under values c.literal)) cs + (count_by (λ c. is_true (value_under values c.literal)) cs + count_by (λ c. is_false (value_under values c.literal)) cs) ≡ length cs
  all_counted [] = refl
  all_counted (c ∷ cs) =
      let a = count_cons (λ (d : Candidate N). is_open (value_under values d.literal)) c cs in
      let b = count_cons (λ (d : Candidate N). is_true (value_under values d.literal)) c cs in
      let f = count_cons (λ (d : Candidate N). is_false (value_under values d.literal)) c cs in
      omega (arith, a, b, f, one_each (value_under values c.literal), all_counted cs)

  -- the first undecided one is behind those that are false
  pub find_behind : (n : ℕ) (cs : List (Candidate N)) → ((p : ℕ) (l : Signed) → p < n → slice_get (candidate_literals cs) p ≡ Some l → is_false (value_under values l) ≡ true)
      → find (λ c. is_open (value_under values c.literal)) cs ≡ find (λ c. is_open (value_under values c.literal)) (drop n cs)
  find_behind zero cs h = refl
  find_behind (suc n) [] h = refl
  find_behind (suc n) (c ∷ cs) h =
      ap (λ b. cond b (Some c) (find (λ d. is_open (value_under values d.literal)) cs)) (not_open (value_under values c.literal) (h zero c.literal (omega arith) refl))
      ∙ find_behind n cs (λ p l low at. h (suc p) l (omega (arith, low)) at)

  -- so is the first one that isn't false
  module _ (t : CandidateCount) (cs : List (Candidate N)) (counts : Counts values (candidate_literals cs) t) where
    pub count_true : 0 < t.trues → list_any (λ c. is_true (value_under values c.literal)) cs ≡ true
    count_true h = some_counted (λ c. is_true (value_under values c.literal)) cs (omega (arith, h, counts.trues, count_map (λ l. is_true (value_under values l)) cs))

    pub count_none : t.trues ≡ 0 → list_any (λ c. is_true (value_under values c.literal)) cs ≡ false
    count_none h = none_counted (λ c. is_true (value_under values c.literal)) cs (omega (arith, h, counts.trues, count_map (λ l. is_true (value_under values l)) cs))

    pub count_open : t.total - (t.trues + t.falses) ≡ count_by (λ c. is_open (value_under values c.literal)) cs
    count_open = omega (arith, counts.total, counts.trues, counts.falses, length_literals cs, count_map (λ l. is_true (value_under values l)) cs, count_map (λ l. is_false (value_under values l)) cs, all_counted cs)

    pub count_first : find (λ c. is_open (value_under values c.literal)) cs ≡ find (λ c. is_open (value_under values c.literal)) (drop t.passed cs)
    count_first = find_behind t.passed cs counts.passed

-- ---- what a count says, if there is one

module _ {N : Type 0} (values : ℕ → Option Bool) (cs : List (Candidate N)) where
  pub counted_met : (o : Option CandidateCount) → CountsIn values (candidate_literals cs) o → has_true_in o ≡ true → list_any (λ c. is_true (value_under values c.literal)) cs ≡ true
  counted_met None counts h = cc
  counted_met (Some t) counts h = count_true values t cs counts (ltb-true 0 t.trues h)

  pub counted_first : (o : Option CandidateCount) → CountsIn values (candidate_literals cs) o → find (λ c. is_open (value_under values c.literal)) cs ≡ find (λ c. is_open (value_under values c.literal)) (drop (passed_by o) cs)
  counted_first None counts = refl
  counted_first (Some t) counts = count_first values t cs counts

pub any_behind : {X : Type 0} (f : X → Bool) (n : ℕ) (xs : List X) → list_any f (drop n xs) ≡ true → list_any f xs ≡ true
any_behind f zero xs h = h
any_behind f (suc n) [] h = h
any_behind f (suc n) (x ∷ xs) h = go (f x) (any_behind f n xs h)
  where
    go : (b : Bool) → list_any f xs ≡ true → (b || list_any f xs) ≡ true
    go true more = refl
    go false more = more

-- the same values
pub counts_agree : (values others : ℕ → Option Bool) → ((v : ℕ) → values v ≡ others v) → (ls : List Signed) (t : CandidateCount) → Counts others ls t → Counts values ls t
counts_agree values others agree ls t h =
    let same : others ≡ values = λ i v. sym (agree v) i in
    subst (λ (f : ℕ → Option Bool). Counts f ls t) same h

-- the count at a position
pub counted_at : (literals : Requirement → List Signed) (needs : UndecidedClauses) (position : ℕ) (q : NeedClause) (values : ℕ → Option Bool) → ((v : ℕ) → values v ≡ value_in needs.seen.items v) → IsRightCountAt literals needs position q
    → (o : Option CandidateCount) → o ≡ count_in needs.counts.counts.items (number_at needs.counts.count_states.items position) → CountsIn values (literals q.requirement) o
counted_at literals needs position q values agree h o is = go (number_at needs.counts.count_states.items position) refl
  where
    go : (n : Option ℕ) → number_at needs.counts.count_states.items position ≡ n → CountsIn values (literals q.requirement) o
    go None none = subst (CountsIn values (literals q.requirement)) (sym (is ∙ ap (count_in needs.counts.counts.items) none)) tt
    go (Some k) some =
        let one = h k some in
        subst (CountsIn values (literals q.requirement)) (sym (is ∙ ap (count_in needs.counts.counts.items) some ∙ one.there)) (counts_agree values (value_in needs.seen.items) agree (literals q.requirement) one.count one.counts)

-- what an eligible clause offers
module _ {N : Type 0} (lists : FixedLists N) (values : ℕ → Option Bool) (score : N → ℕ) (q : NeedClause) where
  pub offered_none : is_eligible lists values q ≡ false → offer lists values score q ≡ None
  offered_none h = ap (λ b. cond b (offer_of (named_by lists) values score q (candidates_in lists q.requirement)) None) h

  pub offered_first : is_eligible lists values q ≡ true → list_any (λ c. is_true (value_under values c.literal)) (candidates_in lists q.requirement) ≡ false → (c : Candidate N) → find (λ d. is_open (value_under values d.literal)) (candidates_in lists q.requirement) ≡ Some c
      → offer lists values score q ≡ Some (decision_for (named_by lists) values score q (candidates_in lists q.requirement) c)
  offered_first eligible none c first =
      ap (λ b. cond b (offer_of (named_by lists) values score q (candidates_in lists q.requirement)) None) eligible
      ∙ ap (λ b. cond b None (option_map (decision_for (named_by lists) values score q (candidates_in lists q.requirement)) (find (λ d. is_open (value_under values d.literal)) (candidates_in lists q.requirement)))) none
      ∙ ap (option_map (decision_for (named_by lists) values score q (candidates_in lists q.requirement))) first
