-- The invariant of the traversal over a refutation's steps: at its start, at each step, and at its
-- end.
use Rattle.std.proofs.Common.{◌≡◌, ℕ, ◌+◌, ◌-◌, ◌<◌, ◌≤◌, Bool, true, false, get_or, set, replicate, take, List, [], ◌∷◌, ◌++◌, reverse, length, All, Some, inl, inr, refl, sym, ap, subst, ◌∙◌, arith, length-append, slice_get}
use Rattle.std.specs.Prelude.{◌⊎◌, ◌||◌, filter, nat_eq}
use Rattle.std.specs.List.{list_any, flat_map}
use Rattle.std.proofs.Common.{Vec, Global}
use Rattle.std.proofs.lemmas.Bool.{both_ways, cases_eq, cases_lt, eqb-true, false_from_ne_true}
use Rattle.indexmap.specs.IndexSet.{insert_all}
use Rattle.std.proofs.lemmas.List.{append-nil, reverse-append, nil_from_length, length-set, get_or-set_same, get_or-set_other, get_or-replicate, get_or_past, length-replicate, take_all}
use Rattle.std.proofs.lemmas.Option.{slice_get-get_or}
use Rattle.std.proofs.lemmas.List.Sums.{length-filter, count_by-le-length}
use Rattle.std.proofs.lemmas.List.Elements.{All-nil, All-cons, All-weaker, All-append, All-pop, All-same, filter_passes}
use Rattle.std.proofs.lemmas.Bool.{ltb-true}
use Rattle.resolvo_proof.specs.declared.step.ProofRule.{ProofRule}
use Rattle.resolvo_proof.specs.declared.step.ProofLiteral.{ProofLiteral}
use Rattle.resolvo_proof.specs.declared.step.ProofStep.{ProofStep}
use Rattle.resolvo_proof.specs.declared.step.ProofStep.TheVariants.{Rule, Derived}
use Rattle.resolvo_proof.specs.Order.{is_earlier, rules_under, conflict_order}
use Rattle.resolvo_proof.proofs.OrderLemmas.{has, IsSeen, left, left-seen, width, Gives, IsProcessed, has_left, has_right, has_cases, processed_top, processed_next, processed_new, gives_again, gives_rule, gives_derived, under-rule, under-derived, earlier_causes}

-- The remaining steps complete the order. The rules of a visited step are listed, or follow from
-- the steps that were stacked above it.
pub record IsWalk {N S : Type 0} (steps : List (ProofStep N S)) (stack : List ℕ) (seen : List Bool) (order : List ℕ) : Type 0 where
  pub long : length seen ≡ length steps
  pub within : All (λ place. place < length steps) stack
  pub gives : Gives steps (reverse stack) order
  pub listed : (place : ℕ) → has order place → IsSeen seen place
  pub processed : (place : ℕ) → IsSeen seen place → IsProcessed steps (reverse stack) order place

reverse-push : (below : List ℕ) (place : ℕ) → reverse (below ++ place ∷ []) ≡ place ∷ reverse below
reverse-push below place = reverse-append below (place ∷ [])

seen_now : (seen : List Bool) (place c : ℕ) → IsSeen (set seen place true) c → (c ≡ place) ⊎ IsSeen seen c
seen_now seen place c h = by (cases_eq c place)
  where
    by : (c ≡ place) ⊎ (c ≡ place → ⊥) → (c ≡ place) ⊎ IsSeen seen c
    by (inl e) = inl e
    by (inr n) = inr (sym (get_or-set_other seen place c true false n) ∙ h)

seen_still : (seen : List Bool) (place c : ℕ) → place < length seen → IsSeen seen c → IsSeen (set seen place true) c
seen_still seen place c l h = by (cases_eq c place)
  where
    by : (c ≡ place) ⊎ (c ≡ place → ⊥) → IsSeen (set seen place true) c
    by (inl e) = subst (IsSeen (set seen place true)) (sym e) (get_or-set_same seen place true false l)
    by (inr n) = get_or-set_other seen place c true false n ∙ h

none_seen : (n c : ℕ) → IsSeen (replicate n false) c → ⊥
none_seen n c h = by (cases_lt c n)
  where
    by : (c < n) ⊎ (n ≤ c) → ⊥
    by (inl l) = both_ways (get_or (replicate n false) c false) (get_or-replicate n c false false l) h
    by (inr l) = both_ways (get_or (replicate n false) c false) (get_or_past (replicate n false) c false (rw (length-replicate n false) l)) h

module _ {N S : Type 0} (steps : List (ProofStep N S)) where
  -- the traversal begins with the last step
  pub walk_starts : (seen : List Bool) (order : List ℕ) (last : ℕ) → seen ≡ replicate (length steps) false → order ≡ [] → 1 ≤ length steps → length steps - 1 ≡ last → IsWalk steps (last ∷ []) seen order
  unfolding conflict_order
  walk_starts seen order last new none some at = record {
    long = ap length new ∙ length-replicate (length steps) false;
    within = All-cons (λ place. place < length steps) last [] (omega arith) (All-nil (λ place. place < length steps));
    gives = ap (λ xs. insert_all nat_eq xs (rules_under steps last ++ [])) none ∙ ap (insert_all nat_eq []) (append-nil (rules_under steps last)) ∙ ap (λ n. insert_all nat_eq [] (rules_under steps n)) (sym at);
    listed = λ place h. absurd (both_ways false refl (sym (ap (list_any (nat_eq place)) none) ∙ h));
    processed = λ place h. absurd (none_seen (length steps) place (subst (λ xs. IsSeen xs place) new h));
  }

  -- there is nothing to traverse
  pub walk_of_none : (seen : List Bool) (stack order : List ℕ) → seen ≡ replicate (length steps) false → order ≡ [] → stack ≡ [] → length steps < 1 → IsWalk steps stack seen order
  unfolding conflict_order
  walk_of_none seen stack order new none empty few = record {
    long = ap length new ∙ length-replicate (length steps) false;
    within = All-same (λ place. place < length steps) stack [] empty (All-nil (λ place. place < length steps));
    gives = ap (λ xs. insert_all nat_eq order (flat_map (rules_under steps) (reverse xs))) empty ∙ none ∙ sym (ap (λ xs. insert_all nat_eq [] (rules_under xs (length xs - 1))) (nil_from_length steps (omega arith)));
    listed = λ place h. absurd (both_ways false refl (sym (ap (list_any (nat_eq place)) none) ∙ h));
    processed = λ place h. absurd (none_seen (length steps) place (subst (λ xs. IsSeen xs place) new h));
  }

  module _ (stack below : List ℕ) (seen : List Bool) (order : List ℕ) (place : ℕ) (walk : IsWalk steps stack seen order) (top : stack ≡ below ++ place ∷ []) where
    turned : reverse stack ≡ place ∷ reverse below
    turned = ap reverse top ∙ reverse-push below place

    inside : All (λ c. c < length steps) below × (place < length steps)
    inside = All-pop (λ c. c < length steps) stack below (Some place) top walk.within

    gave : Gives steps (place ∷ reverse below) order
    gave = subst (λ xs. Gives steps xs order) turned walk.gives

    was_processed : (c : ℕ) → IsSeen seen c → IsProcessed steps (place ∷ reverse below) order c
    was_processed c h = subst (λ xs. IsProcessed steps xs order c) turned (walk.processed c h)

    pub top_within : place < length steps
    top_within = inside.1

    -- a step that was visited
    pub walk_again : IsSeen seen place → IsWalk steps below seen order
    walk_again met =
        let known : (x : ℕ) → has (rules_under steps place) x → has order x = processed_top steps place (reverse below) order (was_processed place met) in
        record {
          long = walk.long;
          within = inside.0;
          gives = gives_again steps place (reverse below) order gave known;
          listed = walk.listed;
          processed = λ c h. processed_next steps place c (reverse below) [] order order (was_processed c h) (λ x k. k) (λ x k. has_left steps order [] x (known x k)) (All-nil (λ cause. cause < place));
        }

    -- an unvisited step, which is replaced by others on the stack
    processed_by : (more new : List ℕ) → ((x : ℕ) → has order x → has new x) → ((x : ℕ) → has (rules_under steps place) x → has (new ++ flat_map (rules_under steps) more) x) → All (λ cause. cause < place) more
        → (c : ℕ) → IsSeen (set seen place true) c → IsProcessed steps (more ++ reverse below) new c
    processed_by more new keeps passes under c h = by (seen_now seen place c h)
      where
        by : (c ≡ place) ⊎ IsSeen seen c → IsProcessed steps (more ++ reverse below) new c
        by (inl e) = subst (IsProcessed steps (more ++ reverse below) new) (sym e) (processed_new steps place (reverse below) more new passes under)
        by (inr met) = processed_next steps place c (reverse below) more order new (was_processed c met) keeps passes under

    -- an unvisited rule
    pub walk_rule : (r : ProofRule N S) (new : List ℕ) → slice_get steps place ≡ Some (Rule r) → (IsSeen seen place → ⊥) → new ≡ order ++ place ∷ [] → IsWalk steps below (set seen place true) new
    walk_rule r new at unmet put =
        let own : rules_under steps place ≡ place ∷ [] = under-rule steps place r at in
        let l : place < length seen = omega (arith, inside.1, walk.long) in
        let fresh : list_any (nat_eq place) order ≡ false = false_from_ne_true (list_any (nat_eq place) order) (λ h. unmet (walk.listed place h)) in
        let keeps : (x : ℕ) → has order x → has new x = λ x h. subst (λ xs. has xs x) (sym put) (has_left steps order (place ∷ []) x h) in
        let last : (x : ℕ) → has (rules_under steps place) x → has new x = λ x h. subst (λ xs. has xs x) (sym put) (has_right steps order (place ∷ []) x (subst (λ xs. has xs x) own h)) in
        record {
          long = length-set seen place true ∙ walk.long;
          within = inside.0;
          gives = subst (Gives steps (reverse below)) (sym put) (gives_rule steps place (reverse below) order gave own fresh);
          listed = λ c h. listed_by c l (has_cases steps order (place ∷ []) c (subst (λ xs. has xs c) put h));
          processed = processed_by [] new keeps (λ x h. has_left steps new [] x (last x h)) (All-nil (λ cause. cause < place));
        }
      where
        listed_by : (c : ℕ) → place < length seen → has order c ⊎ has (place ∷ []) c → IsSeen (set seen place true) c
        listed_by c l (inl h) = seen_still seen place c l (walk.listed c h)
        listed_by c l (inr h) = subst (IsSeen (set seen place true)) (sym (eqb-true c place (only (nat_eq c place) h))) (get_or-set_same seen place true false l)
          where
            only : (b : Bool) → (b || false) ≡ true → b ≡ true
            only true e = refl
            only false e = e

    -- an unvisited derived step
    pub walk_derived : (literals : Vec (ProofLiteral N S) Global) (causes : Vec ℕ Global) (now : List ℕ) → slice_get steps place ≡ Some (Derived literals causes) → (IsSeen seen place → ⊥) → now ≡ below ++ filter (is_earlier place) causes.items → IsWalk steps now (set seen place true) order
    walk_derived literals causes now at unmet put =
        let more = reverse (filter (is_earlier place) causes.items) in
        let own : rules_under steps place ≡ flat_map (rules_under steps) more = under-derived steps place literals causes at in
        let l : place < length seen = omega (arith, inside.1, walk.long) in
        let next : reverse now ≡ more ++ reverse below = ap reverse put ∙ reverse-append below (filter (is_earlier place) causes.items) in
        let passes : (x : ℕ) → has (rules_under steps place) x → has (order ++ flat_map (rules_under steps) more) x = λ x h. has_right steps order (flat_map (rules_under steps) more) x (subst (λ xs. has xs x) own h) in
        record {
          long = length-set seen place true ∙ walk.long;
          within = All-same (λ c. c < length steps) now (below ++ filter (is_earlier place) causes.items) put (All-append (λ c. c < length steps) below (filter (is_earlier place) causes.items) inside.0
              (All-weaker (λ cause. is_earlier place cause ≡ true) (λ cause. cause < length steps) (λ cause h. omega (arith, ltb-true cause place h, inside.1)) (filter (is_earlier place) causes.items) (filter_passes (is_earlier place) causes.items)));
          gives = subst (λ xs. Gives steps xs order) (sym next) (gives_derived steps place (reverse below) more order gave own);
          listed = λ c h. seen_still seen place c l (walk.listed c h);
          processed = λ c h. subst (λ xs. IsProcessed steps xs order c) (sym next) (processed_by more order (λ x k. k) passes (earlier_causes place causes.items) c h);
        }

  -- the measure falls where an unvisited step is popped, and at most its width is pushed
  pub smaller : (stack below now : List ℕ) (seen : List Bool) (place : ℕ) (step : ProofStep N S) → length seen ≡ length steps → slice_get steps place ≡ Some step → get_or seen place false ≡ false → stack ≡ below ++ place ∷ [] → length now ≤ length below + width step
      → left steps (set seen place true) + length now < left steps seen + length stack
  smaller stack below now seen place step long at unmet top few =
      let fell : left steps (set seen place true) + width step ≡ left steps seen = left-seen steps seen place step long at unmet in
      let tall : length stack ≡ length below + 1 = ap length top ∙ length-append below (place ∷ []) in
      omega (arith, fell, tall, few)

  pub few_causes : (below now causes : List ℕ) (place : ℕ) → now ≡ below ++ filter (is_earlier place) causes → length now ≤ length below + (length causes + 1)
  few_causes below now causes place put =
      let long : length now ≡ length below + length (filter (is_earlier place) causes) = ap length put ∙ length-append below (filter (is_earlier place) causes) in
      let few : length (filter (is_earlier place) causes) ≤ length causes = rw (length-filter (is_earlier place) causes) (count_by-le-length (is_earlier place) causes) in
      omega (arith, long, few)

  -- the traversal ends with the order
  pub walk_ends : (stack : List ℕ) (seen : List Bool) (order : List ℕ) → IsWalk steps stack seen order → stack ≡ [] → order ≡ conflict_order steps
  walk_ends stack seen order walk none = sym (ap (λ xs. insert_all nat_eq order (flat_map (rules_under steps) (reverse xs))) none) ∙ walk.gives

-- none of these places is seen
pub none_yet : (n k : ℕ) (old new : List Bool) → new ≡ take n old ++ replicate (n - k) false → old ≡ [] → k ≡ 0 → new ≡ replicate n false
none_yet n k old new put none count = put ∙ ap (λ xs. take n xs ++ replicate (n - k) false) none ∙ ap (λ xs. xs ++ replicate (n - k) false) (take_all n [] (omega arith)) ∙ ap (λ m. replicate m false) (omega (arith, count))

-- the step at a place within the list
pub step_at : {X : Type 0} (xs : List X) (place : ℕ) (x : X) → place < length xs → x ≡ get_or xs place x → slice_get xs place ≡ Some x
step_at xs place x l at = slice_get-get_or xs place x l ∙ ap Some (sym at)
