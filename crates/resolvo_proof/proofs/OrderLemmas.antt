-- The traversal with a stack lists the rules of the last step, each once.
use Rattle.std.proofs.Common.{◌≡◌, ℕ, zero, suc, ◌+◌, ◌<◌, Bool, true, false, cond, get_or, set, List, [], ◌∷◌, ◌++◌, reverse, length, All, Option, Some, None, inl, inr, refl, sym, ap, subst, ◌∙◌, arith, append_assoc, slice_get}
use Rattle.std.specs.Prelude.{◌⊎◌, filter, nat_eq}
use Rattle.std.specs.List.{list_any, flat_map}
use Rattle.std.proofs.Common.{Vec, Global}
use Rattle.std.proofs.lemmas.Bool.{ltb-true, or_left, or_right, or_cases}
use Rattle.std.proofs.lemmas.List.{append-nil}
use Rattle.std.proofs.lemmas.List.Elements.{All-nil, All-head, All-tail, All-weaker, All-append, filter_passes}
use Rattle.std.proofs.lemmas.List.Folds.{list_any-append}
use Rattle.std.proofs.lemmas.List.Sorted.{All-permutation, IsPermutation-reverse}
use Rattle.std.proofs.lemmas.Grind.{fold-append, flat_map-append}
use Rattle.indexmap.specs.IndexSet.{insert_key, insert_all}
use Rattle.resolvo_proof.specs.declared.step.ProofRule.{ProofRule}
use Rattle.resolvo_proof.specs.declared.step.ProofLiteral.{ProofLiteral}
use Rattle.resolvo_proof.specs.declared.step.ProofStep.{ProofStep}
use Rattle.resolvo_proof.specs.declared.step.ProofStep.TheVariants.{Rule, Derived}
use Rattle.resolvo_proof.specs.Order.{is_earlier, rests_on, rules_within, rules_under, conflict_order}

-- the place is among these
abbrev pub has : List ℕ → ℕ → Type 0
has places place = list_any (nat_eq place) places ≡ true

-- the step at this place was visited
abbrev pub IsSeen : List Bool → ℕ → Type 0
IsSeen seen place = get_or seen place false ≡ true

-- the number of places that a step stacks
abbrev pub width : {N S : Type 0} → ProofStep N S → ℕ
width (Rule r) = 1
width (Derived literals causes) = length causes.items + 1

-- how much the unvisited steps may stack
abbrev pub left : {N S : Type 0} → List (ProofStep N S) → List Bool → ℕ
left [] seen = 0
left (s ∷ ss) [] = 0
left (s ∷ ss) (b ∷ bs) = cond b 0 (width s) + left ss bs

pub left-seen : {N S : Type 0} (steps : List (ProofStep N S)) (seen : List Bool) (place : ℕ) (step : ProofStep N S) → length seen ≡ length steps → slice_get steps place ≡ Some step → get_or seen place false ≡ false → left steps (set seen place true) + width step ≡ left steps seen
left-seen [] seen place step long at new = cc
left-seen (s ∷ ss) [] place step long at new = absurd (omega (arith, long))
left-seen (s ∷ ss) (b ∷ bs) zero step long at new =
    let same : s ≡ step = cc in
    rw (new, same) (omega arith)
left-seen (s ∷ ss) (b ∷ bs) (suc n) step long at new =
    let rest : left ss (set bs n true) + width step ≡ left ss bs = left-seen ss bs n step (omega (arith, long)) at new in
    omega (arith, rest)

flat_map_agree : (f g : ℕ → List ℕ) (xs : List ℕ) → All (λ x. f x ≡ g x) xs → flat_map f xs ≡ flat_map g xs
flat_map_agree f g [] h = refl
flat_map_agree f g (x ∷ xs) h = λ i. All-head (λ y. f y ≡ g y) x xs h i ++ flat_map_agree f g xs (All-tail (λ y. f y ≡ g y) x xs h) i

-- the causes that count are earlier
pub earlier_causes : (place : ℕ) (causes : List ℕ) → All (λ cause. cause < place) (reverse (filter (is_earlier place) causes))
earlier_causes place causes =
    All-permutation (λ cause. cause < place) (filter (is_earlier place) causes) (reverse (filter (is_earlier place) causes)) (IsPermutation-reverse (filter (is_earlier place) causes))
    (All-weaker (λ cause. is_earlier place cause ≡ true) (λ cause. cause < place) (λ cause h. ltb-true cause place h) (filter (is_earlier place) causes) (filter_passes (is_earlier place) causes))

module _ {N S : Type 0} (steps : List (ProofStep N S)) where
  -- more depth than a place's own adds nothing
  enough : (n m place : ℕ) → place < n → place < m → rules_within steps n place ≡ rules_within steps m place
  enough zero m place h k = absurd (omega (arith, h))
  enough (suc n) zero place h k = absurd (omega (arith, k))
  enough (suc n) (suc m) place h k = at (λ cause e. enough n m cause (omega (arith, e, h)) (omega (arith, e, k))) (slice_get steps place)
    where
      at : ((cause : ℕ) → cause < place → rules_within steps n cause ≡ rules_within steps m cause) → (o : Option (ProofStep N S)) → rests_on (rules_within steps n) place o ≡ rests_on (rules_within steps m) place o
      at below None = refl
      at below (Some (Rule r)) = refl
      at below (Some (Derived literals causes)) =
          flat_map_agree (rules_within steps n) (rules_within steps m) (reverse (filter (is_earlier place) causes.items))
          (All-weaker (λ cause. cause < place) (λ cause. rules_within steps n cause ≡ rules_within steps m cause) below (reverse (filter (is_earlier place) causes.items)) (earlier_causes place causes.items))

  pub under-rule : (place : ℕ) (r : ProofRule N S) → slice_get steps place ≡ Some (Rule r) → rules_under steps place ≡ place ∷ []
  under-rule place r at = ap (rests_on (rules_within steps place) place) at

  pub under-derived : (place : ℕ) (literals : Vec (ProofLiteral N S) Global) (causes : Vec ℕ Global) → slice_get steps place ≡ Some (Derived literals causes) → rules_under steps place ≡ flat_map (rules_under steps) (reverse (filter (is_earlier place) causes.items))
  under-derived place literals causes at =
      ap (rests_on (rules_within steps place) place) at
      ∙ flat_map_agree (rules_within steps place) (rules_under steps) (reverse (filter (is_earlier place) causes.items))
      (All-weaker (λ cause. cause < place) (λ cause. rules_within steps place cause ≡ rules_under steps cause) (λ cause e. enough place (suc cause) cause e (omega arith)) (reverse (filter (is_earlier place) causes.items)) (earlier_causes place causes.items))

  -- the rules of the stacked steps, the top first, complete the order
  abbrev pub Gives : List ℕ → List ℕ → Type 0
  Gives stack order = insert_all nat_eq order (flat_map (rules_under steps) stack) ≡ conflict_order steps

  -- The rules of the step are listed, or follow from the earlier steps that were stacked above it.
  pub record IsProcessed (stack order : List ℕ) (place : ℕ) : Type 0 where
    pub pending : List ℕ
    pub base : List ℕ
    pub splits : stack ≡ pending ++ base
    pub below : All (λ cause. cause < place) pending
    pub covered : (x : ℕ) → has (rules_under steps place) x → has (order ++ flat_map (rules_under steps) pending) x

  pub has_left : (xs ys : List ℕ) (x : ℕ) → has xs x → has (xs ++ ys) x
  has_left xs ys x h = list_any-append (nat_eq x) xs ys ∙ or_left _ (list_any (nat_eq x) ys) h

  pub has_right : (xs ys : List ℕ) (x : ℕ) → has ys x → has (xs ++ ys) x
  has_right xs ys x h = list_any-append (nat_eq x) xs ys ∙ or_right (list_any (nat_eq x) xs) _ h

  pub has_cases : (xs ys : List ℕ) (x : ℕ) → has (xs ++ ys) x → has xs x ⊎ has ys x
  has_cases xs ys x h = or_cases _ _ (sym (list_any-append (nat_eq x) xs ys) ∙ h)

  -- a processed step that is visited again adds nothing
  pub processed_top : (place : ℕ) (rest order : List ℕ) → IsProcessed (place ∷ rest) order place → (x : ℕ) → has (rules_under steps place) x → has order x
  processed_top place rest order s x h = by s.pending s.splits s.below (s.covered x h)
    where
      by : (pending : List ℕ) → place ∷ rest ≡ pending ++ s.base → All (λ cause. cause < place) pending → has (order ++ flat_map (rules_under steps) pending) x → has order x
      by [] e b c = subst (λ xs. has xs x) (append-nil order) c
      by (y ∷ ys) e b c =
          let top : place ≡ y = cc in
          absurd (omega (arith, top, All-head (λ cause. cause < place) y ys b))

  -- A step stays processed where the top of the stack is replaced by earlier steps, its causes.
  pub processed_next : (place c : ℕ) (rest more old new : List ℕ) → IsProcessed (place ∷ rest) old c → ((x : ℕ) → has old x → has new x)
      → ((x : ℕ) → has (rules_under steps place) x → has (new ++ flat_map (rules_under steps) more) x) → All (λ cause. cause < place) more → IsProcessed (more ++ rest) new c
  processed_next place c rest more old new s keeps passes under = by s.pending s.splits s.below s.covered
    where
      by : (pending : List ℕ) → place ∷ rest ≡ pending ++ s.base → All (λ cause. cause < c) pending → ((x : ℕ) → has (rules_under steps c) x → has (old ++ flat_map (rules_under steps) pending) x) → IsProcessed (more ++ rest) new c
      by [] e b cov = record {
        pending = [];
        base = more ++ rest;
        splits = refl;
        below = All-nil (λ cause. cause < c);
        covered = λ x h. has_left new [] x (keeps x (subst (λ xs. has xs x) (append-nil old) (cov x h)));
      }
      by (y ∷ ys) e b cov =
          let top : place ≡ y = cc in
          let others : rest ≡ ys ++ s.base = cc in
          let small : place < c = subst (λ n. n < c) (sym top) (All-head (λ cause. cause < c) y ys b) in
          record {
            pending = more ++ ys;
            base = s.base;
            splits = ap (λ xs. more ++ xs) others ∙ sym (append_assoc more ys s.base);
            below = All-append (λ cause. cause < c) more ys (All-weaker (λ cause. cause < place) (λ cause. cause < c) (λ cause h. omega (arith, h, small)) more under) (All-tail (λ cause. cause < c) y ys b);
            covered = λ x h. joined x ys (split x y ys top (cov x h));
          }
        where
          split : (x y : ℕ) (ys : List ℕ) → place ≡ y → has (old ++ flat_map (rules_under steps) (y ∷ ys)) x → has old x ⊎ (has (rules_under steps place) x ⊎ has (flat_map (rules_under steps) ys) x)
          split x y ys top h = step (has_cases old (flat_map (rules_under steps) (y ∷ ys)) x h)
            where
              step : has old x ⊎ has (rules_under steps y ++ flat_map (rules_under steps) ys) x → has old x ⊎ (has (rules_under steps place) x ⊎ has (flat_map (rules_under steps) ys) x)
              step (inl a) = inl a
              step (inr a) = inr (subst (λ n. has (rules_under steps n) x ⊎ has (flat_map (rules_under steps) ys) x) (sym top) (has_cases (rules_under steps y) (flat_map (rules_under steps) ys) x a))

          joined : (x : ℕ) (ys : List ℕ) → has old x ⊎ (has (rules_under steps place) x ⊎ has (flat_map (rules_under steps) ys) x) → has (new ++ flat_map (rules_under steps) (more ++ ys)) x
          joined x ys h = subst (λ xs. has (new ++ xs) x) (sym (flat_map-append (rules_under steps) more ys)) (subst (λ xs. has xs x) (append_assoc new (flat_map (rules_under steps) more) (flat_map (rules_under steps) ys)) (step h))
            where
              step : has old x ⊎ (has (rules_under steps place) x ⊎ has (flat_map (rules_under steps) ys) x) → has ((new ++ flat_map (rules_under steps) more) ++ flat_map (rules_under steps) ys) x
              step (inl a) = has_left (new ++ flat_map (rules_under steps) more) (flat_map (rules_under steps) ys) x (has_left new (flat_map (rules_under steps) more) x (keeps x a))
              step (inr (inl a)) = has_left (new ++ flat_map (rules_under steps) more) (flat_map (rules_under steps) ys) x (passes x a)
              step (inr (inr a)) = has_right (new ++ flat_map (rules_under steps) more) (flat_map (rules_under steps) ys) x a

  -- a new step is processed once its rules are listed or stacked
  pub processed_new : (place : ℕ) (rest more order : List ℕ) → ((x : ℕ) → has (rules_under steps place) x → has (order ++ flat_map (rules_under steps) more) x) → All (λ cause. cause < place) more → IsProcessed (more ++ rest) order place
  processed_new place rest more order passes under = record { pending = more; base = rest; splits = refl; below = under; covered = passes }

  insert_known : (order xs : List ℕ) → ((x : ℕ) → has xs x → has order x) → insert_all nat_eq order xs ≡ order
  insert_known order [] h = refl
  insert_known order (x ∷ xs) h =
      let here : has order x = h x (or_left (nat_eq x x) (list_any (nat_eq x) xs) (own x)) in
      ap (λ b. insert_all nat_eq (cond b order (order ++ x ∷ [])) xs) here ∙ insert_known order xs (λ y k. h y (or_right (nat_eq y x) (list_any (nat_eq y) xs) k))
    where
      own : (n : ℕ) → nat_eq n n ≡ true
      own n = grind arith

  -- a visited step adds nothing
  pub gives_again : (place : ℕ) (rest order : List ℕ) → Gives (place ∷ rest) order → ((x : ℕ) → has (rules_under steps place) x → has order x) → Gives rest order
  gives_again place rest order g h =
      ap (λ xs. insert_all nat_eq xs (flat_map (rules_under steps) rest)) (sym (insert_known order (rules_under steps place) h))
      ∙ sym (fold-append (insert_key nat_eq) order (rules_under steps place) (flat_map (rules_under steps) rest)) ∙ g

  -- a new rule is added at the end
  pub gives_rule : (place : ℕ) (rest order : List ℕ) → Gives (place ∷ rest) order → rules_under steps place ≡ place ∷ [] → list_any (nat_eq place) order ≡ false → Gives rest (order ++ place ∷ [])
  gives_rule place rest order g own new =
      ap (λ b. insert_all nat_eq (cond b order (order ++ place ∷ [])) (flat_map (rules_under steps) rest)) (sym new)
      ∙ ap (λ xs. insert_all nat_eq order (xs ++ flat_map (rules_under steps) rest)) (sym own) ∙ g

  -- a derived step is replaced by its causes
  pub gives_derived : (place : ℕ) (rest more order : List ℕ) → Gives (place ∷ rest) order → rules_under steps place ≡ flat_map (rules_under steps) more → Gives (more ++ rest) order
  gives_derived place rest more order g own =
      ap (insert_all nat_eq order) (flat_map-append (rules_under steps) more rest ∙ ap (λ xs. xs ++ flat_map (rules_under steps) rest) (sym own)) ∙ g
