-- The solvables of a package that its lock and its exclusions keep out.
use Rattle.std.proofs.Common.{◌≡◌, suc, ◌⊎◌, inl, inr, Bool, true, false, not, ◌||◌, List, [], ◌∷◌, ◌++◌, map, filter, cond, refl, sym, ◌∙◌, ap, subst, arith}
use Rattle.std.specs.Prelude.{Option, Some, None, All, Contains}
use Rattle.std.specs.List.{list_any, AllByRecursion}
use Rattle.std.proofs.lemmas.Bool.{or_cases, or_left, or_right, both_ways}
use Rattle.std.proofs.lemmas.List.Elements.{All-contains_itself}
use Rattle.resolvo_pool_core.specs.declared.id.StringId.{StringId}
use Rattle.resolvo_pool_core.specs.declared.id.VersionSetId.{VersionSetId}
use Rattle.resolvo_pool_core.specs.Provider.{Listing, listed, listing_or_empty, matching_in, AreOf}
use Rattle.resolvo_pool_core.specs.RuleKeeping.{Packages, IsLawful, is_in, locks_out}
use Rattle.resolvo_packages.specs.declared.package_source.ForbiddenSolvable.{ForbiddenSolvable}
use Rattle.resolvo_packages.specs.PackageSource.{offer_by, AreOutside}
use Rattle.resolvo_packages.specs.Forbidden.{KeepsOut, AreForbidden, forbidden_solvables, locked_by, excluded_by, locked_out, kept_out}
use Rattle.resolvo_packages.proofs.OfferLemmas.{offered_back, offered_named, unkept_members}

not_true : (b : Bool) → not b ≡ true → b ≡ false
not_true true h = absurd (both_ways true (sym h) refl)
not_true false h = refl

all_behind : {X : Type 0} (P : X → Type 0) (xs ys : List X) → AllByRecursion P xs → AllByRecursion P ys → AllByRecursion P (xs ++ ys)
all_behind P [] ys h k = k
all_behind P (x ∷ xs) ys (h, hs) k = (h, all_behind P xs ys hs k)

module _ {N S : Type 0} (same : S → S → Bool) (exact : (x y : S) → same x y ≡ true → x ≡ y) (p : Packages N S) where
  -- the members of either list are in their concatenation
  in_left : (s : S) (xs ys : List (ForbiddenSolvable S)) → is_in same p (forbidden_solvables xs) s ≡ true → is_in same p (forbidden_solvables (xs ++ ys)) s ≡ true
  in_left s [] ys h = absurd (both_ways false refl h)
  in_left s (x ∷ xs) ys h = elim (or_cases (same x.solvable s) (is_in same p (forbidden_solvables xs) s) h) [
    | inl a ↦ or_left _ _ a
    | inr a ↦ or_right _ _ (in_left s xs ys a)
  ]

  in_right : (s : S) (xs ys : List (ForbiddenSolvable S)) → is_in same p (forbidden_solvables ys) s ≡ true → is_in same p (forbidden_solvables (xs ++ ys)) s ≡ true
  in_right s [] ys h = h
  in_right s (x ∷ xs) ys h = or_right _ _ (in_right s xs ys h)

  -- a candidate that is not the locked one is kept out
  locked_in : (l s : S) (xs : List S) → same l s ≡ false → is_in same p xs s ≡ true → is_in same p (forbidden_solvables (locked_out same (Some l) xs)) s ≡ true
  locked_in l s [] other h = absurd (both_ways false refl h)
  locked_in l s (x ∷ xs) other h = go (same l x) refl (or_cases (same x s) (is_in same p xs s) h) (locked_in l s xs other)
    where
      go : (b : Bool) → same l x ≡ b → (same x s ≡ true) ⊎ (is_in same p xs s ≡ true) → (is_in same p xs s ≡ true → is_in same p (forbidden_solvables (locked_out same (Some l) xs)) s ≡ true)
          → is_in same p (forbidden_solvables (map (locked_by l) (cond (not b) (x ∷ filter (λ y. not (same l y)) xs) (filter (λ y. not (same l y)) xs)))) s ≡ true
      go true e (inl a) later = absurd (both_ways _ other (subst (λ y. same l y ≡ true) (exact x s a) e))
      go true e (inr a) later = later a
      go false e (inl a) later = or_left _ _ a
      go false e (inr a) later = or_right _ _ (later a)

  excluded_in : (s : S) (xs : List (S × StringId)) → list_any (λ e. same e.0 s) xs ≡ true → is_in same p (forbidden_solvables (map excluded_by xs)) s ≡ true
  excluded_in s [] h = absurd (both_ways false refl h)
  excluded_in s (x ∷ xs) h = elim (or_cases (same x.0 s) (list_any (λ e. same e.0 s) xs) h) [
    | inl a ↦ or_left _ _ a
    | inr a ↦ or_right _ _ (excluded_in s xs a)
  ]

  -- a lock or an exclusion of a listing keeps its solvable out
  kept_in : (l : Listing S) (s : S) → is_in same p l.candidates s ≡ true → (locks_out same l.locked s || list_any (λ e. same e.0 s) l.excluded) ≡ true → is_in same p (forbidden_solvables (kept_out same l)) s ≡ true
  kept_in l s there h = elim (or_cases (locks_out same l.locked s) (list_any (λ e. same e.0 s) l.excluded) h) [
    | inl a ↦ in_left s (locked_out same l.locked l.candidates) (map excluded_by l.excluded) (go l.locked a)
    | inr a ↦ in_right s (locked_out same l.locked l.candidates) (map excluded_by l.excluded) (excluded_in s l.excluded a)
  ]
    where
      go : (o : Option S) → locks_out same o s ≡ true → is_in same p (forbidden_solvables (locked_out same o l.candidates)) s ≡ true
      go None a = absurd (both_ways false refl a)
      go (Some k) a = locked_in k s l.candidates (not_true _ a) there

  module _ (n : N) (l : Listing S) where
    abbrev IsRight : ForbiddenSolvable S → Type 0
    IsRight b = (p.package_of b.solvable ≡ n) × KeepsOut same l b.solvable b.why

    locked_right : (k : S) → l.locked ≡ Some k → (xs : List S) → All (λ s. p.package_of s ≡ n) xs → All (Contains l.candidates) xs → AllByRecursion IsRight (locked_out same (Some k) xs)
    locked_right k is [] named there = tt
    locked_right k is (x ∷ xs) named there = go (same k x) refl (locked_right k is xs (λ i d below. named (suc i) d (omega arith)) (λ i d below. there (suc i) d (omega arith)))
      where
        go : (b : Bool) → same k x ≡ b → AllByRecursion IsRight (locked_out same (Some k) xs) → AllByRecursion IsRight (map (locked_by k) (cond (not b) (x ∷ filter (λ y. not (same k y)) xs) (filter (λ y. not (same k y)) xs)))
        go true e later = later
        go false e later = ((named 0 x (omega arith), (is, e, there 0 x (omega arith))), later)

    excluded_right : (xs : List (S × StringId)) → All (λ e. p.package_of e.0 ≡ n) xs → All (Contains l.excluded) xs → AllByRecursion IsRight (map excluded_by xs)
    excluded_right [] named there = tt
    excluded_right (x ∷ xs) named there = ((named 0 x (omega arith), there 0 x (omega arith)), excluded_right xs (λ i d below. named (suc i) d (omega arith)) (λ i d below. there (suc i) d (omega arith)))

  -- the solvables of a listing have the package's name
  named_in : (n : N) (s : S) (xs : List S) → All (λ x. p.package_of x ≡ n) xs → is_in same p xs s ≡ true → p.package_of s ≡ n
  named_in n s [] named h = absurd (both_ways false refl h)
  named_in n s (x ∷ xs) named h = elim (or_cases (same x s) (is_in same p xs s) h) [
    | inl a ↦ sym (ap p.package_of (exact x s a)) ∙ named 0 x (omega arith)
    | inr a ↦ named_in n s xs (λ i d below. named (suc i) d (omega arith)) a
  ]

  -- a package's listing keeps out exactly the candidates that lock or exclusions rule out
  pub are_forbidden : IsLawful p → (n : N) → AreForbidden same p n (kept_out same (listing_or_empty (p.candidates_of n)))
  are_forbidden lawful n = go (p.candidates_of n) refl (lawful.named n)
    where
      go : (o : Option (Listing S)) → p.candidates_of n ≡ o → AreOf p.package_of n o → AreForbidden same p n (kept_out same (listing_or_empty (p.candidates_of n)))
      go None is named = record {
        each = λ s h forbidden. absurd (both_ways false refl (sym (ap (λ x. is_in same p (listed x) s) is) ∙ h));
        all = subst (λ (x : Option (Listing S)). AllByRecursion (λ (b : ForbiddenSolvable S). (p.package_of b.solvable ≡ n) × KeepsOut same (listing_or_empty x) b.solvable b.why) (kept_out same (listing_or_empty x))) (sym is) tt;
      }
      go (Some l) is named = record {
        each = λ s h forbidden.
            let there : is_in same p l.candidates s ≡ true = sym (ap (λ x. is_in same p (listed x) s) is) ∙ h in
            let own : p.package_of s ≡ n = named_in n s l.candidates named.candidates there in
            let here : (locks_out same l.locked s || list_any (λ e. same e.0 s) l.excluded) ≡ true = sym (ap (λ (x : Listing S). locks_out same x.locked s || list_any (λ e. same e.0 s) x.excluded) (ap (λ m. listing_or_empty (p.candidates_of m)) own ∙ ap listing_or_empty is)) ∙ forbidden in
            subst (λ (x : Option (Listing S)). is_in same p (forbidden_solvables (kept_out same (listing_or_empty x))) s ≡ true) (sym is) (kept_in l s there here);
        all = subst (λ (x : Option (Listing S)). AllByRecursion (λ (b : ForbiddenSolvable S). (p.package_of b.solvable ≡ n) × KeepsOut same (listing_or_empty x) b.solvable b.why) (kept_out same (listing_or_empty x))) (sym is)
            (all_behind (IsRight n l) (locked_out same l.locked l.candidates) (map excluded_by l.excluded) (locked l.locked refl) (excluded_right n l l.excluded named.excluded (All-contains_itself l.excluded)));
      }
        where
          locked : (k : Option S) → l.locked ≡ k → AllByRecursion (IsRight n l) (locked_out same k l.candidates)
          locked None e = tt
          locked (Some k) e = locked_right n l k e l.candidates named.candidates (All-contains_itself l.candidates)

  -- the candidates that don't match a version set are those outside it
  pub are_outside : (v : VersionSetId) → AreOutside same p v (map (offer_by p.package_of) (matching_in p.set_package p.candidates_of p.matches true v))
  are_outside v = record {
    outside = λ s. ap (λ xs. is_in same p xs s) (offered_back p.package_of (matching_in p.set_package p.candidates_of p.matches true v)) ∙ unkept_members same exact (p.matches v) s (listed (p.candidates_of (p.set_package v)));
    named = offered_named p.package_of (matching_in p.set_package p.candidates_of p.matches true v);
  }
