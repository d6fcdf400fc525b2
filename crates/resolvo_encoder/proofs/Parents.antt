-- Parents are added, and their requirements are encoded in turn.
use Rattle.std.proofs.Common.{◌≡◌, ℕ, suc, ◌+◌, ◌<◌, ◌≤◌, ◌⊎◌, inl, inr, Bool, true, false, List, [], ◌∷◌, ◌++◌, length, cond, Option, Some, refl, sym, ap, subst, arith, length-append}
use Rattle.std.specs.Prelude.{slice_get, Contains}
use Rattle.std.specs.List.{list_any}
use Rattle.indexmap.specs.IndexSet.{insert_key}
use Rattle.resolvo_pool_core.specs.declared.solver_id.SolvableIdOrRoot.{SolvableIdOrRoot}
use Rattle.resolvo_pool_core.specs.Text.{solvable_of}
use Rattle.resolvo_pool_core.specs.RuleKeeping.{Packages, Rules}
use Rattle.resolvo_store_core.specs.AtMostOne.{IsPrefixOf}
use Rattle.resolvo_sat.proofs.Lists.{any_contained, contains_first, contains_left, contains_right, contains_one, contains_parts}
use Rattle.resolvo_state.proofs.Positions.{get_old, prefix_long, prefix_same}
use Rattle.resolvo_encoder.proofs.CarryLemmas.{split_at}
use Rattle.resolvo_encoder.specs.Encoded.{IsParentEncoded, IsEncoding}
use Rattle.resolvo_encoder.specs.Steps.{AddsParent, IsNextEncoded}
use Rattle.resolvo_encoder.specs.declared.encoder.Encoder.{Encoder}

-- a value inserted into a list without repeats is appended, or was in it
pub prefix_insert : {X : Type 0} (eq : X → X → Bool) (xs : List X) (x : X) → IsPrefixOf xs (insert_key eq xs x)
prefix_insert {X} eq xs x = go (list_any (eq x) xs)
  where
    go : (b : Bool) → IsPrefixOf xs (cond b xs (xs ++ x ∷ []))
    go true = prefix_same xs
    go false = (x ∷ [], refl)

-- a value that equals one of a list is in it
pub any_is_in : {X : Type 0} (eq : X → X → Bool) (xs : List X) (x : X) → ((y : X) → eq x y ≡ true → y ≡ x) → list_any (eq x) xs ≡ true → Contains xs x
any_is_in eq xs x exact h = let (y, present, same) = any_contained (eq x) xs h in subst (Contains xs) (exact y same) present

-- an inserted value is in the list
pub inserted : {X : Type 0} (eq : X → X → Bool) (xs : List X) (x : X) → ((y : X) → eq x y ≡ true → y ≡ x) → Contains (insert_key eq xs x) x
inserted {X} eq xs x exact = go (list_any (eq x) xs) refl
  where
    go : (b : Bool) → list_any (eq x) xs ≡ b → Contains (cond b xs (xs ++ x ∷ [])) x
    go true h = any_is_in eq xs x exact h
    go false h = contains_right x xs (x ∷ []) (contains_first x x [] refl)

-- a value in the prefix of a list is in it
pub prefix_contains : {X : Type 0} (xs ys : List X) (x : X) → IsPrefixOf xs ys → Contains xs x → Contains ys x
prefix_contains xs ys x (more, is) h = subst (λ zs. Contains zs x) (sym is) (contains_left x xs more h)

-- a value that isn't in the list makes it longer by one
pub inserted_long : {X : Type 0} (eq : X → X → Bool) (xs : List X) (x : X) → ((y : X) → eq x y ≡ true → y ≡ x) → (Contains xs x → ⊥) → length (insert_key eq xs x) ≡ suc (length xs)
inserted_long {X} eq xs x exact fresh = go (list_any (eq x) xs) refl
  where
    go : (b : Bool) → list_any (eq x) xs ≡ b → length (cond b xs (xs ++ x ∷ [])) ≡ suc (length xs)
    go true h = absurd (fresh (any_is_in eq xs x exact h))
    go false h = let long : length (xs ++ x ∷ []) ≡ length xs + 1 = length-append xs (x ∷ []) in omega (arith, long)

-- a value of the list was in it before the insertion, or is the inserted one
pub inserted_only : {X : Type 0} (eq : X → X → Bool) (xs : List X) (x y : X) → Contains (insert_key eq xs x) y → Contains xs y ⊎ (y ≡ x)
inserted_only {X} eq xs x y = go (list_any (eq x) xs)
  where
    go : (b : Bool) → Contains (cond b xs (xs ++ x ∷ [])) y → Contains xs y ⊎ (y ≡ x)
    go true h = inl h
    go false h = elim (contains_parts y xs (x ∷ []) h) [ inl a ↦ inl a | inr a ↦ inr (contains_one y x a) ]

-- a value of the list isn't inserted
pub insert_known : {X : Type 0} (eq : X → X → Bool) (xs : List X) (x : X) → list_any (eq x) xs ≡ true → xs ≡ insert_key eq xs x
insert_known eq xs x h = sym (ap (λ b. cond b xs (xs ++ x ∷ [])) h)

-- one that isn't in the list is appended
pub insert_fresh : {X : Type 0} (eq : X → X → Bool) (xs : List X) (x : X) → ((y : X) → eq x y ≡ true → y ≡ x) → (Contains xs x → ⊥) → xs ++ x ∷ [] ≡ insert_key eq xs x
insert_fresh {X} eq xs x exact fresh = go (list_any (eq x) xs) refl
  where
    go : (b : Bool) → list_any (eq x) xs ≡ b → xs ++ x ∷ [] ≡ cond b xs (xs ++ x ∷ [])
    go true h = absurd (fresh (any_is_in eq xs x exact h))
    go false h = refl

-- an appended value is in the list, and no other one is new
pub pushed_present : {X : Type 0} (xs : List X) (x : X) → Contains (xs ++ x ∷ []) x
pushed_present xs x = contains_right x xs (x ∷ []) (contains_first x x [] refl)

pub pushed_only : {X : Type 0} (xs : List X) (x y : X) → Contains (xs ++ x ∷ []) y → Contains xs y ⊎ (y ≡ x)
pushed_only xs x y h = elim (contains_parts y xs (x ∷ []) h) [ inl a ↦ inl a | inr a ↦ inr (contains_one y x a) ]

module _ {N S : Type 0} (same : S → S → Bool) (p : Packages N S) (root : Rules) where
  -- more parents keep the invariant
  pub parent_keeps : (old new : Encoder N S) → IsEncoding same p root old → AddsParent old new → IsEncoding same p root new
  parent_keeps old new e added = subst (λ (x : Encoder N S). IsEncoding same p root x) (sym added.rest) (record {
    coding = e.coding;
    tied = e.tied;
    spelled = e.spelled;
    rule = e.rule;
    positive = e.positive;
    named = e.named;
    candidates = e.candidates;
    listed = λ q c a. (let (s, fits, m) = e.listed q c a in (s, record { positive = fits.positive; present = fits.present; tracked = fits.tracked }, m));
    offered = λ q s h m. (let (c, a, fits) = e.offered q s h m in (c, a, record { positive = fits.positive; present = fits.present; tracked = fits.tracked }));
    fixed = e.fixed;
    queued = e.queued;
    asked = e.asked;
    gates = e.gates;
    forbid = e.forbid;
    recorded = record { packages = e.recorded.packages; version_sets = e.recorded.version_sets; matches = e.recorded.matches };
    marks = record { right = e.marks.right; registered = e.marks.registered; recorded = e.marks.recorded };
    cases = record { waiting = e.cases.waiting; places = e.cases.places; fired = e.cases.fired; cased = e.cases.cased; at_least_one = e.cases.at_least_one; there = e.cases.there };
    within = (let a : length old.parents.keys ≤ length new.parents.keys = prefix_long old.parents.keys new.parents.keys added.prefix in let b : old.encoded ≤ length old.parents.keys = e.within in omega arith);
    encoded = λ i parent below at. (let b : old.encoded ≤ length old.parents.keys = e.within in let (more, is) = added.prefix in
        let h = e.encoded i parent below (get_old old.parents.keys more i parent (omega arith) (subst (λ (ks : List (SolvableIdOrRoot S)). slice_get ks i ≡ Some parent) is at)) in
        record { needs = h.needs; limits = h.limits; guarded = h.guarded; unknown = h.unknown });
    wished = e.wished;
    called = e.called;
  })

  -- the requirements of one parent more are encoded
  pub next_keeps : (e : Encoder N S) → IsEncoding same p root e → e.encoded < length e.parents.keys → IsNextEncoded same p root e → IsEncoding same p root (record e { encoded = e.encoded + 1 })
  next_keeps old e below next = record {
    coding = e.coding;
    tied = e.tied;
    spelled = e.spelled;
    rule = e.rule;
    positive = e.positive;
    named = e.named;
    candidates = e.candidates;
    listed = λ q c a. (let (s, fits, m) = e.listed q c a in (s, record { positive = fits.positive; present = fits.present; tracked = fits.tracked }, m));
    offered = λ q s h m. (let (c, a, fits) = e.offered q s h m in (c, a, record { positive = fits.positive; present = fits.present; tracked = fits.tracked }));
    fixed = e.fixed;
    queued = e.queued;
    asked = e.asked;
    gates = e.gates;
    forbid = e.forbid;
    recorded = record { packages = e.recorded.packages; version_sets = e.recorded.version_sets; matches = e.recorded.matches };
    marks = record { right = e.marks.right; registered = e.marks.registered; recorded = e.marks.recorded };
    cases = record { waiting = e.cases.waiting; places = e.cases.places; fired = e.cases.fired; cased = e.cases.cased; at_least_one = e.cases.at_least_one; there = e.cases.there };
    within = omega arith;
    encoded = λ i parent low at. elim (last_or_before i old.encoded low) [
      | inl before ↦ same_parent (solvable_of parent) (e.encoded i parent before at)
      | inr is ↦ same_parent (solvable_of parent) (next parent (subst (λ n. slice_get old.parents.keys n ≡ Some parent) is at))
    ];
    wished = e.wished;
    called = e.called;
  }
    where
      same_parent : (parent : Option S) → IsParentEncoded same p old root parent → IsParentEncoded same p (record old { encoded = old.encoded + 1 }) root parent
      same_parent parent h = record { needs = h.needs; limits = h.limits; guarded = h.guarded; unknown = h.unknown }

      last_or_before : (i n : ℕ) → i < n + 1 → (i < n) ⊎ (i ≡ n)
      last_or_before i n h = elim (split_at i n) [ inl a ↦ inl a | inr a ↦ inr (omega arith) ]
