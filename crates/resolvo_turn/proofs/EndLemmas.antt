-- The end of a turn.
use Rattle.std.proofs.Common.{◌≡◌, ℕ, ◌+◌, ◌<◌, ◌≤◌, inl, inr, Bool, true, false, nat_lt, cond, lt-ltb, le-ltb, List, [], ◌∷◌, ◌++◌, length, Option, Some, None, refl, sym, ◌∙◌, ap, subst, arith}
use Rattle.std.specs.Prelude.{slice_get, Contains, is_some}
use Rattle.std.proofs.lemmas.Bool.{false≢true}
use Rattle.std.proofs.lemmas.Option.{slice_get_within}
use Rattle.resolvo_pool_core.specs.declared.solver_id.SolvableIdOrRoot.TheVariants as Place
use Rattle.resolvo_pool_core.specs.declared.id.VariableId.{VariableId}
use Rattle.resolvo_store_core.specs.Clauses.{yes}
use Rattle.resolvo_store_core.specs.Signed.{has}
use Rattle.resolvo_store_core.specs.declared.decision.Entry.{Entry}
use Rattle.resolvo_sat.specs.declared.analyze.FinalConflict.{FinalConflict}
use Rattle.resolvo_sat.specs.Entries.{literal_of, made_true, top_level}
use Rattle.resolvo_sat.specs.Steps.{choice_entry}
use Rattle.resolvo_sat.proofs.Literals.{has_here, has_later}
use Rattle.resolvo_sat.specs.State.{history}
use Rattle.resolvo_state.proofs.Growth.{below_or_not}
use Rattle.resolvo_state.proofs.Positions.{contains_get, prefix_get, prefix_long, get_below}
use Rattle.resolvo_encoder.specs.declared.encoder.Encoder.{Encoder}
use Rattle.resolvo_encoder.specs.declared.encoder.EncodedOnce.{EncodedOnce}
use Rattle.resolvo_encoder.specs.Encoded.{IsWhole}
use Rattle.resolvo_encoder.specs.Steps.{AddsParent}
use Rattle.resolvo_state.specs.declared.registry.Registry.{Registry}
use Rattle.resolvo_state.specs.Registered.{IsQueued}
use Rattle.resolvo_encoder.specs.Conditions.{AreSpent}
use Rattle.resolvo_encoder.specs.Base.{base_of, HasTurn, KeepsFirst, KeepsTurn}
use Rattle.resolvo_encoder.specs.Progress.{IsDone, GoesOn, IsDecision}
use Rattle.resolvo_encoder.proofs.Bases.{turn_decided}
use Rattle.resolvo_store_core.specs.AtMostOne.{IsPrefixOf}
use Rattle.resolvo_sat.proofs.Lists.{contains_one, contains_left, contains_parts}
use Rattle.resolvo_state.specs.declared.solver_state.SolverState.{SolverState}
use Rattle.resolvo_turn.specs.Encoder.{AddsNeeds, AddsParents, AddsAll}
use Rattle.resolvo_turn.specs.Turn.{AddsChosen, FindsMore, FindsNone, FiresMore, MakesProgress, HasSoft, IsBegunBy, IsDecisionOf, IsRooted, IsTurn, AreChosenEncoded, rounds_left}
use Rattle.resolvo_turn.proofs.AddLemmas.{all_then, goes_parents, needs_parents, parents_needs, parents_coding, parents_then}

-- there is nothing from the end on
pub past_end : {X : Type 0} (xs : List X) (n : ℕ) → slice_get xs n ≡ None → length xs ≤ n
past_end xs n none = elim (below_or_not n (length xs)) [
  | inl below ↦ let (x, at) = get_below xs n below in let no : None ≡ Some x = sym none ∙ at in absurd cc
  | inr past ↦ past
]

-- more parents keep the end of the search
pub done_parents : {N S : Type 0} (a b : Encoder N S) → AddsParent a b → IsDone a → IsDone b
done_parents {N} {S} a b f s = subst (λ (x : Encoder N S). IsDone x) (sym f.rest) (record { quiet = s.quiet; values = s.values; score = s.score; agree = s.agree; decided = s.decided })

-- and that nothing waits
whole_parents : {N S : Type 0} (a b : Encoder N S) → AddsParent a b → IsWhole a → IsWhole b
whole_parents {N} {S} a b f h = subst (λ (x : Encoder N S). IsWhole x) (sym f.rest) (record { solvables = h.solvables; packages = h.packages })

-- nothing waits after steps of the search
pub whole_goes : {N S : Type 0} (a b : Encoder N S) → GoesOn a b → IsWhole a → IsWhole b
whole_goes {N} {S} a b f h = record {
  solvables = λ n v k. h.solvables n v (subst (λ (r : Registry N). IsQueued r n v) f.rest.registry k);
  packages = λ n k. h.packages n (subst (λ (x : EncodedOnce N S). Contains x.queued.keys n) f.rest.recorded k);
}

-- where the chosen solvables are parents, and all parents are encoded, their rules are clauses
pub chosen_encoded : {N S : Type 0} (a b : Encoder N S) → AddsChosen a b → slice_get b.parents.keys 0 ≡ Some Place.Root → slice_get b.parents.keys b.encoded ≡ None → AreChosenEncoded b
chosen_encoded {N} {S} a b f rooted none = λ members chosen. record {
  root = (0, (let x : 0 < length b.parents.keys = slice_get_within b.parents.keys 0 Place.Root rooted in let y : length b.parents.keys ≤ b.encoded = past_end b.parents.keys b.encoded none in omega arith), rooted);
  each = λ s h. (
      let (k, at) = contains_get b.parents.keys (Place.Solvable s) (f.chosen members chosen s h) in
      let x : k < length b.parents.keys = slice_get_within b.parents.keys k (Place.Solvable s) at in
      let y : length b.parents.keys ≤ b.encoded = past_end b.parents.keys b.encoded none in
      (k, omega arith, at));
}

-- an item of a list is in each list with that prefix
pub contains_longer : {X : Type 0} (xs ys : List X) (x : X) → IsPrefixOf xs ys → Contains xs x → Contains ys x
contains_longer xs ys x (more, is) h = subst (λ (zs : List _). Contains zs x) (sym is) (contains_left x xs more h)

-- one more parent is there
pub among_more : {N S : Type 0} (a b : Encoder N S) (done : List S) (last : S) → AddsParent a b → ((s : S) → Contains done s → Contains a.parents.keys (Place.Solvable s)) → Contains b.parents.keys (Place.Solvable last)
    → (s : S) → Contains (done ++ last ∷ []) s → Contains b.parents.keys (Place.Solvable s)
among_more a b done last added before now s h = elim (contains_parts s done (last ∷ []) h) [
  | inl c ↦ contains_longer a.parents.keys b.parents.keys (Place.Solvable s) added.prefix (before s c)
  | inr c ↦ subst (λ x. Contains b.parents.keys (Place.Solvable x)) (sym (contains_one s last c)) now
]

-- all parents stay encoded in the search
pub all_goes : {N S : Type 0} (a b c : Encoder N S) → AddsAll a b → GoesOn b c → AddsAll a c
all_goes a b c f g = record {
  adds = all_then a b c f.adds (goes_parents b c g);
  all = g.rest.encoded ∙ f.all ∙ sym (ap (λ ks. length ks.keys) g.rest.parents);
}

none_is : {X : Type 0} (o : Option X) → is_some o ≡ false → o ≡ None
none_is None h = refl
none_is (Some x) h = absurd (false≢true (sym h))

some_is : {X : Type 0} (o : Option X) → is_some o ≡ true → (x : X) × (o ≡ Some x)
some_is None h = absurd (false≢true h)
some_is (Some x) h = (x, refl)

-- the root is still the first parent
pub still_rooted : {N S : Type 0} (a b : Encoder N S) → IsRooted a → AddsParents a b → IsRooted b
still_rooted a b rooted adds = prefix_get a.parents.keys b.parents.keys 0 Place.Root adds.parents rooted

-- where the trail is the same, a soft requirement stays true
pub soft_stays : {N S : Type 0} (soft : Option VariableId) (a b : Encoder N S) → b.coding ≡ a.coding → HasSoft soft a → HasSoft soft b
soft_stays None a b same h = tt
soft_stays {N} {S} (Some v) a b same h = subst (λ (x : SolverState N S). has (made_true (history x.search)) (yes v) ≡ true) (sym same) h

module _ {N S : Type 0} (same : S → S → Bool) (a b c : Encoder N S) (first : IsRooted a) (all : AddsAll a b) (chosen : AddsChosen b c) where
  pub round_adds : AddsParents a c
  round_adds = all_then a b c all.adds (needs_parents b c (parents_needs b c chosen.added))

  -- the root is the first parent
  pub round_rooted : IsRooted c
  round_rooted = still_rooted a c first round_adds

  -- where no parent is to be encoded and no case holds, the turn has ended
  pub round_complete : (soft : Option VariableId) → IsWhole b → IsDone b × HasSoft soft b → slice_get c.parents.keys c.encoded ≡ None → AreSpent same c → IsTurn same soft c None
  round_complete soft placed (is_done, has) none spent = (done_parents b c chosen.added is_done, chosen_encoded b c chosen round_rooted none, spent, whole_parents b c chosen.added placed, soft_stays soft b c (parents_coding b c chosen.added) has)

-- there is progress where cases became clauses
pub fires_goes : {N S : Type 0} (a b c : Encoder N S) → AddsParents a b → FiresMore b c → MakesProgress a c
fires_goes a b c adds fires =
    let long : length a.fired.keys ≤ length b.fired.keys = prefix_long a.fired.keys b.fired.keys adds.fired in
    let more : length b.fired.keys < length c.fired.keys = fires.more in
    inr (inl (record { more = omega arith; bounded = fires.bounded }))

-- and where there is a parent to encode, since there was none
pub finds_goes : {N S : Type 0} (a b c : Encoder N S) → AddsAll a b → AddsNeeds b c → FindsMore b c → MakesProgress a c
finds_goes a b c all adds (inl (waits, small)) =
    let long : length a.parents.keys ≤ length b.parents.keys = prefix_long a.parents.keys b.parents.keys all.adds.parents in
    let whole : b.encoded ≡ length b.parents.keys = all.all in
    let stays : c.encoded ≡ b.encoded = adds.encoded in
    elim (below_or_not a.encoded (length a.parents.keys)) [
      | inl below ↦ inl (omega arith, small)
      | inr past ↦ inr (inr (past, waits))
    ]
finds_goes a b c all adds (inr fires) = fires_goes a b c all.adds fires

-- progress after the first scan is progress
pub finds_then : {N S : Type 0} (a b c : Encoder N S) → AddsNeeds a b → FindsMore b c → FindsMore a c
finds_then a b c adds (inl waits) = inl waits
finds_then a b c adds (inr fires) =
    let long : length a.fired.keys ≤ length b.fired.keys = prefix_long a.fired.keys b.fired.keys adds.fired in
    let more : length b.fired.keys < length c.fired.keys = fires.more in
    inr (record { more = omega arith; bounded = fires.bounded })

-- the next parent is to be encoded
pub next_waits : {N S : Type 0} (a b : Encoder N S) → is_some (slice_get b.parents.keys b.encoded) ≡ true → b.encoded < 18446744073709551616 → FindsMore a b
next_waits a b some small =
    let (x, at) = some_is (slice_get b.parents.keys b.encoded) some in
    inl (slice_get_within b.parents.keys b.encoded x at, small)

-- where parents were added before, the chosen are among them
pub chosen_then : {N S : Type 0} (a b c : Encoder N S) → AddsParent a b → AddsChosen b c → AddsChosen a c
chosen_then a b c added chosen = record { added = parents_then a b c added chosen.added; chosen = chosen.chosen }

-- and where nothing changed, still nothing is to be encoded
pub none_same : {N S : Type 0} (same : S → S → Bool) (a b c : Encoder N S) → AddsChosen a b → is_some (slice_get b.parents.keys b.encoded) ≡ false → c ≡ b → AreSpent same c → FindsNone same a c
none_same {N} {S} same a b c chosen none is spent = record {
  chosen = subst (λ (x : Encoder N S). AddsChosen a x) (sym is) chosen;
  none = subst (λ (x : Encoder N S). slice_get x.parents.keys x.encoded ≡ None) (sym is) (none_is (slice_get b.parents.keys b.encoded) none);
  spent = spent;
}

one_at_most : (b : Bool) → cond b 0 1 ≤ 1
one_at_most true = omega arith
one_at_most false = omega arith

none_left : (b : Bool) → b ≡ true → cond b 0 1 ≤ 0
none_left true h = omega arith
none_left false h = absurd (false≢true h)

one_left : (b : Bool) → b ≡ false → 1 ≤ cond b 0 1
one_left true h = absurd (false≢true (sym h))
one_left false h = omega arith

-- progress leaves fewer rounds
pub fewer_left : {N S : Type 0} (a b : Encoder N S) → AddsParents a b → MakesProgress a b → rounds_left b < rounds_left a
fewer_left a b adds goes =
    let long : length a.fired.keys ≤ length b.fired.keys = prefix_long a.fired.keys b.fired.keys adds.fired in
    let far : a.encoded ≤ b.encoded = adds.encoded in
    let one : cond (nat_lt b.encoded (length b.parents.keys)) 0 1 ≤ 1 = one_at_most (nat_lt b.encoded (length b.parents.keys)) in
    elim goes [
      | inl (more, small) ↦ (let x : a.encoded < b.encoded = more in let y : b.encoded < 18446744073709551616 = small in omega arith)
      | inr (inl fires) ↦ (let x : length a.fired.keys < length b.fired.keys = fires.more in let y : length b.fired.keys < 18446744073709551616 = fires.bounded in omega arith)
      | inr (inr (none, waits)) ↦ (
          let x : cond (nat_lt b.encoded (length b.parents.keys)) 0 1 ≤ 0 = none_left (nat_lt b.encoded (length b.parents.keys)) (lt-ltb b.encoded (length b.parents.keys) waits) in
          let y : 1 ≤ cond (nat_lt a.encoded (length a.parents.keys)) 0 1 = one_left (nat_lt a.encoded (length a.parents.keys)) (le-ltb a.encoded (length a.parents.keys) none) in
          omega arith)
    ]

-- ---- the turn's soft requirement

-- a true soft requirement stays true while the trail up to its level is kept
chosen_stays : (p : List Entry) (e : Entry) (base : List Entry) (v : VariableId) → literal_of e ≡ yes v → has (made_true (p ++ e ∷ base)) (yes v) ≡ true
chosen_stays [] e base v is = has_here (literal_of e) (made_true base) (yes v) is
chosen_stays (d ∷ p) e base v is = has_later (literal_of d) (made_true (p ++ e ∷ base)) (yes v) (chosen_stays p e base v is)

pub soft_kept : {N S : Type 0} (soft : Option VariableId) (a b : Encoder N S) → HasTurn soft a → HasSoft soft a → KeepsFirst a b → HasSoft soft b
soft_kept None a b turn h first = tt
soft_kept (Some v) a b turn h first =
    let (c, ends) = turn.first h in
    let begun : top_level (base_of a) + 1 ≡ a.coding.search.base_level = turn.begun in
    let (p, is) = first (choice_entry v c (base_of a) ∷ base_of a) (omega arith) ends in
    subst (λ (x : List Entry). has (made_true x) (yes v) ≡ true) (sym is) (chosen_stays p (choice_entry v c (base_of a)) (base_of a) v refl)

-- and its turn is kept
pub decided_turn : {N S : Type 0} (soft : Option VariableId) (a b : Encoder N S) → GoesOn a b → KeepsFirst a b → HasSoft soft a → KeepsTurn soft a b
decided_turn None a b goes first h = λ one. goes.grows.base_level ∙ one
decided_turn (Some v) a b goes first h = turn_decided a b v goes first h

-- the result of the decisions for the turn's soft requirement
pub decided_of : {N S : Type 0} (soft : Option VariableId) (e : Encoder N S) (o : Option FinalConflict) → IsDecision e o → HasSoft soft e → IsDecisionOf soft e o
decided_of soft e None is_done has = (is_done, has)
decided_of None e (Some r) refusal has = refusal
decided_of (Some v) e (Some r) refusal has = inl (refusal, has)

-- a soft requirement that is false before its turn
pub begun_of : {N S : Type 0} (soft : Option VariableId) (e : Encoder N S) (r : FinalConflict) → IsBegunBy soft e (Some r) → IsDecisionOf soft e (Some r)
begun_of None e r h = absurd h
begun_of (Some v) e r h = inr h
