-- The cold clauses: what the pick may skip, and what keeps them cold.
use Rattle.std.proofs.Common.{◌≡◌, ℕ, zero, suc, ◌+◌, ◌-◌, ◌<◌, ◌≤◌, ◌⊎◌, inl, inr, cond, Bool, true, false, List, [], ◌∷◌, ◌++◌, length, drop, Option, Some, None, refl, sym, ◌∙◌, ap, subst, arith, eqb-true}
use Rattle.std.specs.Prelude.{nat_lt, ◌==◌, ◌&&◌, ◌||◌, not, slice_get, is_some, Contains}
use Rattle.std.specs.Option.{option_map}
use Rattle.std.specs.List.{list_any, list_all, find}
use Rattle.std.proofs.lemmas.Bool.{le-ltb, and_parts}
use Rattle.std.proofs.lemmas.List.Elements.{Contains-append_right, Contains-append_cases, Contains-push_cases}
use Rattle.resolvo_store_core.specs.Signed.{value_under, is_true, is_open}
use Rattle.resolvo_store_core.specs.Lists.{named_by, candidates_in}
use Rattle.resolvo_store_core.specs.Pick.{offer, pick_after, decision_for, is_eligible, later}
use Rattle.resolvo_store_core.specs.Trail.{value_in}
use Rattle.resolvo_store_core.specs.declared.pick.NeedClause.{NeedClause}
use Rattle.resolvo_store_core.specs.declared.pick.NextDecision.{NextDecision}
use Rattle.resolvo_store_core.specs.declared.lists.Candidate.{Candidate}
use Rattle.resolvo_store_core.specs.declared.lists.FixedLists.{FixedLists}
use Rattle.resolvo_decide.specs.declared.cold_clauses.ColdClauses.{ColdClauses}
use Rattle.resolvo_decide.specs.declared.undecided_clauses.UndecidedClauses.{UndecidedClauses}
use Rattle.resolvo_decide.specs.States.{state_at, is_open_state, bit_of}
use Rattle.resolvo_decide.specs.HotNames.{AreHot}
use Rattle.resolvo_decide.specs.Cold.{IsKnownHot, AreCold, HasColdBits, KeepsCold, CanSkip}
use Rattle.resolvo_decide.specs.Needs.{literals_in, Fits}
use Rattle.resolvo_decide.proofs.MarkLemmas.{bit_out}
use Rattle.resolvo_decide.proofs.FitLemmas.{later_none, some_one, offer_beaten, pick_behind, sound_nothing}

-- ---- what keeps them cold

pub bit_nil : (i : ℕ) → bit_of [] i ≡ 0 → ⊥
bit_nil i none = (let one : bit_of [] i ≡ 1 = bit_out [] i (omega arith) in omega (arith, one, none))

-- without words of warm clauses only the marks tell
pub only_marked : (ms : List ℕ) (i : ℕ) → (bit_of ms i ≡ 0) ⊎ (bit_of [] i ≡ 0) → bit_of ms i ≡ 0
only_marked ms i h = elim h [ inl unmarked ↦ unmarked | inr none ↦ absurd (bit_nil i none) ]

-- no word has a bit that is 0
pub none_cold : {N : Type 0} (lists : FixedLists N) (cold : ColdClauses N) (queue : List NeedClause) → cold.warm.items ≡ [] → HasColdBits lists cold queue
none_cold lists cold queue none i zero_bit =
    absurd (bit_nil i (ap (λ ws. bit_of ws i) (sym none) ∙ zero_bit))

pub keeps_cleared : {N : Type 0} (old new : ColdClauses N) → new.warm.items ≡ [] → KeepsCold old new
keeps_cleared old new none = λ lists queue h. none_cold lists new queue none

-- where no bit more is 0, and no package more is hot
pub keeps_fewer : {N : Type 0} (old new : ColdClauses N) → ((i : ℕ) → bit_of new.warm.items i ≡ 0 → bit_of old.warm.items i ≡ 0) → ((n : N) → Contains new.hot.items n → Contains old.hot.items n) → KeepsCold old new
keeps_fewer old new bits names = λ lists queue h i none.
    let one = h i (bits i none) in
    record {
      need = one.need;
      there = one.there;
      cold = record { some = one.cold.some; none = λ c there hot. one.cold.none c there (names c.package hot) };
    }

-- candidates of packages with score 0
unscored : {N : Type 0} (score : N → ℕ) (cs : List (Candidate N)) → list_all (λ c. score c.package == 0) cs ≡ true → (c : Candidate N) → Contains cs c → score c.package ≡ 0
unscored score [] h c (k, low, is) = absurd (omega (arith, low))
unscored {N} score (x ∷ cs) h c there = elim (Contains-append_cases (x ∷ []) cs c there) [
  | inl first ↦ elim (Contains-push_cases [] x c first) [
    | inl (k, low, is) ↦ absurd (omega (arith, low))
    | inr is ↦ subst (λ (y : Candidate N). score y.package ≡ 0) is (eqb-true (score x.package) 0 (and_parts _ _ h).0)
  ]
  | inr later ↦ unscored score cs (and_parts _ _ h).1 c later
]

pub unscored_cold : {N : Type 0} (score : N → ℕ) (hot : List N) (cs : List (Candidate N)) → AreHot score hot → 0 < length cs → list_all (λ c. score c.package == 0) cs ≡ true → AreCold hot cs
unscored_cold score hot cs h some all = record {
  some = some;
  none = λ c there is. (let none : score c.package ≡ 0 = unscored score cs all c there in let scored : 0 < score c.package = h.scored c.package is in absurd (omega (arith, none, scored)));
}

get_before : (qs : List NeedClause) (x : NeedClause) (i : ℕ) (r : NeedClause) → slice_get qs i ≡ Some r → slice_get (qs ++ x ∷ []) i ≡ Some r
get_before [] x i r h = cc
get_before (q ∷ qs) x zero r h = h
get_before (q ∷ qs) x (suc i) r h = get_before qs x i r h

-- another clause is registered
pub cold_more : {N : Type 0} (lists : FixedLists N) (cold : ColdClauses N) (queue : List NeedClause) (x : NeedClause) → HasColdBits lists cold queue → HasColdBits lists cold (queue ++ x ∷ [])
cold_more lists cold queue x h i none =
    let one = h i none in
    record { need = one.need; there = get_before queue x i one.need one.there; cold = one.cold }

-- ---- what the pick may skip

found_in : {X : Type 0} (f : X → Bool) (xs : List X) (x : X) → find f xs ≡ Some x → Contains xs x
found_in f [] x h = cc
found_in {X} f (y ∷ ys) x h = go (f y) h (λ e. found_in f ys x e)
  where
    go : (b : Bool) → cond b (Some y) (find f ys) ≡ Some x → (find f ys ≡ Some x → Contains ys x) → Contains (y ∷ ys) x
    go true e more = subst (λ (z : X). Contains (y ∷ ys) z) (some_one y x e) (0, omega arith, refl)
    go false e more = Contains-append_right (y ∷ []) ys x (more e)

-- a decision with score 0 beats none
unbeaten : (best : Option NextDecision) (next : NextDecision) → is_some best ≡ true → next.package_activity ≡ 0 → later best (Some next) ≡ best
unbeaten None next some none = cc
unbeaten (Some b) next some none =
    let low : nat_lt b.package_activity next.package_activity ≡ false = le-ltb b.package_activity next.package_activity (omega (arith, none)) in
    ap (λ t. cond (t && (nat_lt next.candidate_count b.candidate_count && ((next.required_by.0 == 0) || not (b.required_by.0 == 0)))) (Some next) (Some b)) low

-- a cold clause beats no decision
cold_beaten : {N : Type 0} (lists : FixedLists N) (values : ℕ → Option Bool) (score : N → ℕ) (q : NeedClause) (hot : List N) → AreHot score hot → AreCold hot (candidates_in lists q.requirement) → (best : Option NextDecision) → is_some best ≡ true → later best (offer lists values score q) ≡ best
cold_beaten {N} lists values score q hot is cold best some = go (find (λ d. is_open (value_under values d.literal)) cs) refl
  where
    cs : List (Candidate N)
    cs = candidates_in lists q.requirement

    nothing : (e m : Bool) → later best (cond e (cond m None None) None) ≡ best
    nothing true true = later_none best
    nothing true false = later_none best
    nothing false m = later_none best

    go : (o : Option (Candidate N)) → find (λ d. is_open (value_under values d.literal)) (candidates_in lists q.requirement) ≡ o → later best (offer lists values score q) ≡ best
    go None first =
        ap (λ o. later best (cond (is_eligible lists values q) (cond (list_any (λ d. is_true (value_under values d.literal)) (candidates_in lists q.requirement)) None (option_map (decision_for (named_by lists) values score q (candidates_in lists q.requirement)) o)) None)) first
        ∙ nothing (is_eligible lists values q) (list_any (λ d. is_true (value_under values d.literal)) (candidates_in lists q.requirement))
    go (Some c) first =
        let none : score c.package ≡ 0 = is.listed c.package (cold.none c (found_in (λ d. is_open (value_under values d.literal)) (candidates_in lists q.requirement) c first)) in
        offer_beaten lists values score q best c first (λ next low least. unbeaten best next some (omega (arith, low, none)))

-- the pick continues after clauses that aren't open, or cold
pub pick_skipped : {N : Type 0} (lists : FixedLists N) (values : ℕ → Option Bool) (score : N → ℕ) (needs : UndecidedClauses) (queue : List NeedClause) → Fits (literals_in lists) needs queue → ((v : ℕ) → values v ≡ value_in needs.seen.items v) → (cold : ColdClauses N) → IsKnownHot score cold → HasColdBits lists cold queue
    → (best : Option NextDecision) (from to : ℕ) → from ≤ to → ((i : ℕ) → from ≤ i → i < to → (is_open_state (state_at needs.states i) ≡ false) ⊎ CanSkip best cold i) → pick_after lists values score best (drop from queue) ≡ pick_after lists values score best (drop to queue)
pick_skipped lists values score needs queue f agree cold known has best from to order skipped =
    pick_behind lists values score best queue (to - from) from to (omega arith) (λ i above below q at. go i q at (skipped i above below))
  where
    go : (i : ℕ) (q : NeedClause) → slice_get queue i ≡ Some q → (is_open_state (state_at needs.states i) ≡ false) ⊎ CanSkip best cold i → later best (offer lists values score q) ≡ best
    go i q at (inl closed) = ap (later best) (sound_nothing lists values needs.seen.items agree q (state_at needs.states i) (f.each i q at) closed score) ∙ later_none best
    go i q at (inr skip) =
        let one = has i skip.unmarked in
        cold_beaten lists values score q cold.hot.items (known skip.known) (subst (λ (r : NeedClause). AreCold cold.hot.items (candidates_in lists r.requirement)) (some_one one.need q (sym one.there ∙ at)) one.cold) best skip.some
