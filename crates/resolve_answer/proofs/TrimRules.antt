-- A conflict's rules stay where the steps that don't lead to its end are left out.
use Rattle.std.proofs.Common.{◌≡◌, ℕ, zero, suc, ◌+◌, ◌-◌, ◌<◌, ◌≤◌, ◌⊎◌, inl, inr, Bool, true, false, cond, ◌||◌, List, [], ◌∷◌, ◌++◌, map, reverse, length, Option, Some, None, refl, sym, ◌∙◌, ap, subst, arith}
use Rattle.std.specs.Prelude.{nat_eq, filter, slice_get, slice_index_or, Contains}
use Rattle.std.specs.List.{AllZip, list_any, flat_map, cons_option}
use Rattle.std.proofs.lemmas.Bool.{eqb-true, eq-eqb, lt-ltb}
use Rattle.std.proofs.lemmas.List.{append-nil, length-append, map-append, reverse-append}
use Rattle.std.proofs.lemmas.Grind.{flat_map-append}
use Rattle.std.proofs.lemmas.Option.{slice_get_within}
use Rattle.indexmap.specs.IndexSet.{insert_key, insert_all}
use Rattle.resolvo_sat.proofs.Lists.{contains_first, contains_later}
use Rattle.resolvo_proof.proofs.NumberLemmas.{order, falls_back}
use Rattle.resolvo_proof.specs.declared.step.ProofStep.{ProofStep}
use Rattle.resolvo_proof.specs.declared.step.ProofStep.TheVariants.{Rule, Derived}
use Rattle.resolvo_proof.specs.Proof.{EndsEmpty}
use Rattle.resolvo_proof.specs.Trimmed.{Names, IsTrimmed, IsTrimmedTo, IsRenumbered}
use Rattle.resolvo_proof.specs.Order.{is_earlier, rests_on, rules_within, rules_under, conflict_order, conflict_rules, rule_in, rules_at}

-- two tests that are true together are one
same_tests : (a b : Bool) → (a ≡ true → b ≡ true) → (b ≡ true → a ≡ true) → a ≡ b
same_tests true b f g = sym (f refl)
same_tests false true f g = g refl
same_tests false false f g = refl

-- ---- lists of places, each numbered by another one

module _ (h : ℕ → ℕ) (one : (a b : ℕ) → h a ≡ h b → a ≡ b) where
  same_place : (a b : ℕ) → nat_eq (h a) (h b) ≡ nat_eq a b
  same_place a b = same_tests (nat_eq (h a) (h b)) (nat_eq a b) (λ e. eq-eqb a b (one a b (eqb-true (h a) (h b) e))) (λ e. eq-eqb (h a) (h b) (ap h (eqb-true a b e)))

  is_listed : (ks : List ℕ) (x : ℕ) → list_any (nat_eq (h x)) (map h ks) ≡ list_any (nat_eq x) ks
  is_listed [] x = refl
  is_listed (k ∷ ks) x = ap (λ b. b || list_any (nat_eq (h x)) (map h ks)) (same_place x k) ∙ ap (λ b. nat_eq x k || b) (is_listed ks x)

  inserted : (ks : List ℕ) (x : ℕ) → insert_key nat_eq (map h ks) (h x) ≡ map h (insert_key nat_eq ks x)
  inserted ks x = ap (λ b. cond b (map h ks) (map h ks ++ h x ∷ [])) (is_listed ks x) ∙ by (list_any (nat_eq x) ks)
    where
      by : (b : Bool) → cond b (map h ks) (map h ks ++ h x ∷ []) ≡ map h (cond b ks (ks ++ x ∷ []))
      by true = refl
      by false = sym (map-append h ks (x ∷ []))

  all_inserted : (ks xs : List ℕ) → insert_all nat_eq (map h ks) (map h xs) ≡ map h (insert_all nat_eq ks xs)
  all_inserted ks [] = refl
  all_inserted ks (x ∷ xs) = ap (λ l. insert_all nat_eq l (map h xs)) (inserted ks x) ∙ all_inserted (insert_key nat_eq ks x) xs

flat_zip : (h : ℕ → ℕ) (f g : ℕ → List ℕ) (xs ys : List ℕ) → AllZip (λ x y. f x ≡ map h (g y)) xs ys → flat_map f (reverse xs) ≡ map h (flat_map g (reverse ys))
flat_zip h f g [] [] a = refl
flat_zip h f g [] (y ∷ ys) a = absurd a
flat_zip h f g (x ∷ xs) [] a = absurd a
flat_zip h f g (x ∷ xs) (y ∷ ys) (first, rest) =
    ap (flat_map f) (reverse-append (x ∷ []) xs) ∙ (flat_map-append f (reverse xs) (x ∷ []) ∙ (ap (λ zs. zs ++ (f x ++ [])) (flat_zip h f g xs ys rest)
    ∙ (ap (λ zs. map h (flat_map g (reverse ys)) ++ zs) (append-nil (f x) ∙ (first ∙ ap (map h) (sym (append-nil (g y)))))
    ∙ (sym (map-append h (flat_map g (reverse ys)) (g y ++ [])) ∙ ap (map h) (sym (flat_map-append g (reverse ys) (y ∷ [])) ∙ ap (flat_map g) (sym (reverse-append (y ∷ []) ys)))))))

-- ---- the steps that are kept

-- the place that a kept step had; beyond them, one beyond the steps
abbrev was : List ℕ → ℕ → ℕ → ℕ
was from count k = slice_index_or from k (count + k)

-- Each cause of a derived step is an earlier one.
abbrev pub AreEarlier : {N S : Type 0} → List (ProofStep N S) → Type 0
AreEarlier {N} {S} steps = (place : ℕ) (step : ProofStep N S) → slice_get steps place ≡ Some step → (cause : ℕ) → Names step cause → cause < place

item_or : (xs : List ℕ) (k d x : ℕ) → slice_get xs k ≡ Some x → slice_index_or xs k d ≡ x
item_or [] k d x h = absurd cc
item_or (y ∷ xs) zero d x h = cc
item_or (y ∷ xs) (suc k) d x h = item_or xs k d x h

none_or : (xs : List ℕ) (k d : ℕ) → slice_get xs k ≡ None → slice_index_or xs k d ≡ d
none_or [] k d h = refl
none_or (y ∷ xs) zero d h = absurd cc
none_or (y ∷ xs) (suc k) d h = none_or xs k d h

-- each place below the length has an item
get_below : {X : Type 0} (xs : List X) (k : ℕ) → k < length xs → (x : X) × (slice_get xs k ≡ Some x)
get_below [] k below = absurd (omega arith)
get_below (z ∷ xs) zero below = (z, refl)
get_below (z ∷ xs) (suc k) below = get_below xs k (omega arith)

none_beyond : {X : Type 0} (xs : List X) (k : ℕ) → length xs ≤ k → slice_get xs k ≡ None
none_beyond [] k h = refl
none_beyond (y ∷ xs) zero h = absurd (omega (arith, h))
none_beyond (y ∷ xs) (suc k) h = none_beyond xs k (omega (arith, h))

module _ {N S : Type 0} {Wanted : ℕ → Type 0} (steps kept : List (ProofStep N S)) (trimmed : IsTrimmedTo Wanted steps kept) (earlier : AreEarlier steps) where
  -- the kept step, and the one that it was
  renumbered_from : (k place : ℕ) → slice_get trimmed.from k ≡ Some place → (step old : ProofStep N S) × (slice_get kept k ≡ Some step) × (slice_get steps place ≡ Some old) × IsRenumbered trimmed.from place old step
  renumbered_from k place at =
      let within : k < length trimmed.from = slice_get_within trimmed.from k place at in
      let count : length kept ≡ length trimmed.from = trimmed.count in
      let (step, here) = get_below kept k (omega arith) in
      let (old, there, is) = trimmed.each k place step at here in
      (step, old, here, there, is)

  one : (a b : ℕ) → was trimmed.from (length steps) a ≡ was trimmed.from (length steps) b → a ≡ b
  one a b = go (slice_get trimmed.from a) (slice_get trimmed.from b) refl refl
    where
      below : (k place : ℕ) → slice_get trimmed.from k ≡ Some place → place < length steps
      below k place at = (let (step, old, here, there, is) = renumbered_from k place at in slice_get_within steps place old there)

      same : (k l p : ℕ) → slice_get trimmed.from k ≡ Some p → slice_get trimmed.from l ≡ Some p → k ≡ l
      same k l p h i = elim (order k l) [
        | inl less ↦ absurd (let no : p < p = trimmed.rising k l p p less h i in omega arith)
        | inr back ↦ elim (order l k) [
          | inl less ↦ absurd (let no : p < p = trimmed.rising l k p p less i h in omega arith)
          | inr forth ↦ omega arith
        ]
      ]

      go : (o q : Option ℕ) → slice_get trimmed.from a ≡ o → slice_get trimmed.from b ≡ q → was trimmed.from (length steps) a ≡ was trimmed.from (length steps) b → a ≡ b
      go (Some x) (Some y) h i e =
          let both : y ≡ x = sym (item_or trimmed.from b (length steps + b) y i) ∙ (sym e ∙ item_or trimmed.from a (length steps + a) x h) in
          same a b x h (i ∙ ap Some both)
      go (Some x) None h i e = absurd (let small : x < length steps = below a x h in let is : was trimmed.from (length steps) a ≡ x = item_or trimmed.from a (length steps + a) x h in let out : was trimmed.from (length steps) b ≡ length steps + b = none_or trimmed.from b (length steps + b) i in omega (arith, small, is, out, e))
      go None (Some y) h i e = absurd (let small : y < length steps = below b y i in let is : was trimmed.from (length steps) b ≡ y = item_or trimmed.from b (length steps + b) y i in let out : was trimmed.from (length steps) a ≡ length steps + a = none_or trimmed.from a (length steps + a) h in omega (arith, small, is, out, e))
      go None None h i e = (let out : was trimmed.from (length steps) a ≡ length steps + a = none_or trimmed.from a (length steps + a) h in let other : was trimmed.from (length steps) b ≡ length steps + b = none_or trimmed.from b (length steps + b) i in omega (arith, out, other, e))

  -- a rule stays
  found : (k : ℕ) → rule_in (slice_get steps (was trimmed.from (length steps) k)) ≡ rule_in (slice_get kept k)
  found k = go (slice_get trimmed.from k) refl
    where
      same : (place : ℕ) (old step : ProofStep N S) → IsRenumbered trimmed.from place old step → rule_in (Some old) ≡ rule_in (Some step)
      same place (Rule r) step is = ap (λ (x : ProofStep N S). rule_in (Some x)) (sym is)
      same place (Derived literals causes) step (renumbered, is, zip) = ap (λ (x : ProofStep N S). rule_in (Some x)) (sym is)

      go : (o : Option ℕ) → slice_get trimmed.from k ≡ o → rule_in (slice_get steps (was trimmed.from (length steps) k)) ≡ rule_in (slice_get kept k)
      go (Some place) at =
          let (step, old, here, there, is) = renumbered_from k place at in
          ap (λ n. rule_in (slice_get steps n)) (item_or trimmed.from k (length steps + k) place at) ∙ (ap rule_in there ∙ (same place old step is ∙ ap rule_in (sym here)))
      go None at =
          let count : length kept ≡ length trimmed.from = trimmed.count in
          ap (λ n. rule_in (slice_get steps n)) (none_or trimmed.from k (length steps + k) at) ∙ (ap rule_in (none_beyond steps (length steps + k) (omega arith)) ∙ ap rule_in (sym (none_beyond kept k (out (order k (length trimmed.from)) count))))
        where
          out : (k < length trimmed.from) ⊎ (length trimmed.from ≤ k) → length kept ≡ length trimmed.from → length kept ≤ k
          out (inl less) count = absurd (let (place, there) = get_below trimmed.from k less in let both : Some place ≡ None = sym there ∙ at in cc)
          out (inr more) count = omega (arith, more, count)

  found_all : (ks : List ℕ) → rules_at steps (map (was trimmed.from (length steps)) ks) ≡ rules_at kept ks
  found_all [] = refl
  found_all (k ∷ ks) = ap (λ o. cons_option o (rules_at steps (map (was trimmed.from (length steps)) ks))) (found k) ∙ ap (cons_option (rule_in (slice_get kept k))) (found_all ks)

  -- causes that name these steps
  named : (m n k place : ℕ) → slice_get trimmed.from k ≡ Some place → ((l p : ℕ) → slice_get trimmed.from l ≡ Some p → l < k → p < place → rules_within steps m p ≡ map (was trimmed.from (length steps)) (rules_within kept n l))
      → (causes numbers : List ℕ) → ((cause : ℕ) → Contains causes cause → cause < place) → AllZip (λ cause number. cause < place → slice_get trimmed.from number ≡ Some cause) causes numbers
      → AllZip (λ cause number. rules_within steps m cause ≡ map (was trimmed.from (length steps)) (rules_within kept n number)) (filter (is_earlier place) causes) (filter (is_earlier k) numbers)
  named m n k place at below [] [] small zip = tt
  named m n k place at below [] (l ∷ ls) small zip = absurd zip
  named m n k place at below (c ∷ cs) [] small zip = absurd zip
  named m n k place at below (c ∷ cs) (l ∷ ls) small (first, rest) =
      let less : c < place = small c (contains_first c c cs refl) in
      let there : slice_get trimmed.from l ≡ Some c = first less in
      let back : l < k = falls_back trimmed.from trimmed.rising l k c place there at less in
      subst (λ b. AllZip (λ cause number. rules_within steps m cause ≡ map (was trimmed.from (length steps)) (rules_within kept n number)) (cond b (c ∷ filter (is_earlier place) cs) (filter (is_earlier place) cs)) (filter (is_earlier k) (l ∷ ls))) (sym (lt-ltb c place less))
      (subst (λ b. AllZip (λ cause number. rules_within steps m cause ≡ map (was trimmed.from (length steps)) (rules_within kept n number)) (c ∷ filter (is_earlier place) cs) (cond b (l ∷ filter (is_earlier k) ls) (filter (is_earlier k) ls))) (sym (lt-ltb l k back))
      (below l c there back less, named m n k place at below cs ls (λ x a. small x (contains_later x c cs a)) rest))

  -- the antecedents of a kept step, by their old places, where earlier steps have theirs
  rests : (m n k place : ℕ) → slice_get trimmed.from k ≡ Some place → ((l p : ℕ) → slice_get trimmed.from l ≡ Some p → l < k → p < place → rules_within steps m p ≡ map (was trimmed.from (length steps)) (rules_within kept n l))
      → (old step : ProofStep N S) → ((cause : ℕ) → Names old cause → cause < place) → IsRenumbered trimmed.from place old step → rests_on (rules_within steps m) place (Some old) ≡ map (was trimmed.from (length steps)) (rests_on (rules_within kept n) k (Some step))
  rests m n k place at below (Rule r) step causes is = ap (λ p. p ∷ []) (sym (item_or trimmed.from k (length steps + k) place at)) ∙ ap (λ (x : ProofStep N S). map (was trimmed.from (length steps)) (rests_on (rules_within kept n) k (Some x))) (sym is)
  rests m n k place at below (Derived literals causes) step causes_are (renumbered, is, zip) =
      flat_zip (was trimmed.from (length steps)) (rules_within steps m) (rules_within kept n) (filter (is_earlier place) causes.items) (filter (is_earlier k) renumbered.items) (named m n k place at below causes.items renumbered.items causes_are zip)
      ∙ ap (λ (x : ProofStep N S). map (was trimmed.from (length steps)) (rests_on (rules_within kept n) k (Some x))) (sym is)

  under : (m n k place : ℕ) → slice_get trimmed.from k ≡ Some place → k < n → place < m → rules_within steps m place ≡ map (was trimmed.from (length steps)) (rules_within kept n k)
  under zero n k place at less small = absurd (omega (arith, small))
  under (suc m) zero k place at less small = absurd (omega (arith, less))
  under (suc m) (suc n) k place at less small =
      let (step, old, here, there, is) = renumbered_from k place at in
      ap (rests_on (rules_within steps m) place) there
      ∙ (rests m n k place at (λ l p has back before. under m n l p has (omega (arith, back, less)) (omega (arith, before, small))) old step (λ cause names. earlier place old there cause names) is ∙ ap (λ o. map (was trimmed.from (length steps)) (rests_on (rules_within kept n) k o)) (sym here))

-- the kept step that was the last one is the last one
last_kept : {N S : Type 0} (steps kept : List (ProofStep N S)) (trimmed : IsTrimmed steps kept) (last k : ℕ) → length steps ≡ suc last → slice_get trimmed.from k ≡ Some last → length kept ≡ suc k
last_kept steps kept trimmed last k long here = go (order (suc k) (length trimmed.from))
  where
    go : (suc k < length trimmed.from) ⊎ (length trimmed.from ≤ suc k) → length kept ≡ suc k
    go (inl less) =
        let (place, next) = get_below trimmed.from (suc k) less in
        let count : length kept ≡ length trimmed.from = trimmed.count in
        let (step, new) = get_below kept (suc k) (omega arith) in
        let (old, there, is) = trimmed.each (suc k) place step next new in
        let rises : last < place = trimmed.rising k (suc k) last place (omega arith) here next in
        let inside : place < length steps = slice_get_within steps place old there in
        absurd (omega arith)
    go (inr most) = let within : k < length trimmed.from = slice_get_within trimmed.from k last here in let count : length kept ≡ length trimmed.from = trimmed.count in omega arith

-- the antecedents of the last steps
ends_alike : {N S : Type 0} (steps kept : List (ProofStep N S)) (trimmed : IsTrimmed steps kept) (last k : ℕ) → AreEarlier steps → length steps ≡ suc last → slice_get trimmed.from k ≡ Some last
    → rules_under steps (length steps - 1) ≡ map (was trimmed.from (length steps)) (rules_under kept (length kept - 1))
ends_alike steps kept trimmed last k earlier long here =
    let end_kept : length kept ≡ suc k = last_kept steps kept trimmed last k long here in
    ap (rules_under steps) (omega (arith, long)) ∙ (under steps kept trimmed earlier (suc last) (suc k) k last here (omega arith) (omega arith) ∙ ap (λ n. map (was trimmed.from (length steps)) (rules_under kept n)) (omega (arith, end_kept)))

-- Of a refutation whose causes are earlier steps, the conflict's rules are those of the steps that are kept.
pub same_rules : {N S : Type 0} (steps kept : List (ProofStep N S)) → IsTrimmed steps kept → AreEarlier steps → EndsEmpty steps → conflict_rules kept ≡ conflict_rules steps
unfolding conflict_order
same_rules {N} {S} steps kept trimmed earlier ends =
    let long : length steps ≡ suc (length ends.earlier) = ap length ends.ends ∙ (length-append ends.earlier (Derived ends.literals ends.causes ∷ []) ∙ omega arith) in
    let (k, here) = trimmed.wanted (length ends.earlier) (omega (arith, long)) (omega (arith, long)) in
    sym (ap (λ xs. rules_at steps (insert_all nat_eq [] xs)) (ends_alike steps kept trimmed (length ends.earlier) k earlier long here)
    ∙ (ap (rules_at steps) (all_inserted (was trimmed.from (length steps)) (one steps kept trimmed earlier) [] (rules_under kept (length kept - 1)))
    ∙ found_all steps kept trimmed earlier (insert_all nat_eq [] (rules_under kept (length kept - 1)))))
