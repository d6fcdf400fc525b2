-- The sorted candidates of a requirement are the solvables that meet it.
use Rattle.std.proofs.Common.{◌≡◌, suc, Bool, true, false, not, ◌&&◌, ◌||◌, List, [], ◌∷◌, map, cond, refl, sym, ◌∙◌, ap, arith}
use Rattle.std.specs.Prelude.{Option, Some, None, All}
use Rattle.std.specs.List.{list_any, flat_map, AllByRecursion}
use Rattle.std.specs.List.Sorted.{IsPermutation}
use Rattle.std.specs.Set.{remove_key}
use Rattle.std.proofs.lemmas.Bool.{false≢true}
use Rattle.std.proofs.lemmas.List.Folds.{list_any-append}
use Rattle.std.proofs.lemmas.List.Sorted.{list_any-IsPermutation}
use Rattle.resolvo_pool_core.specs.declared.id.VersionSetId.{VersionSetId}
use Rattle.resolvo_pool_core.specs.declared.requirement.Requirement.{Requirement}
use Rattle.resolvo_pool_core.specs.Provider.{listed, kept, matching_in, favoured_first, IsTried, IsTriedFor, tried_first}
use Rattle.resolvo_pool_core.specs.Text.{alternatives_of}
use Rattle.resolvo_pool_core.specs.RuleKeeping.{Packages, is_in, is_match}
use Rattle.resolvo_packages.specs.declared.package_source.Offered.{Offered}
use Rattle.resolvo_packages.specs.PackageSource.{offer_by, offered_solvables, AreOffered}

both_false : (b : Bool) → (b && false) ≡ false
both_false true = refl
both_false false = refl

swap_or : (a b c : Bool) → (a || (b || c)) ≡ (b || (a || c))
swap_or true true c = refl
swap_or true false c = refl
swap_or false b c = refl

-- the offered solvables are the solvables
pub offered_back : {N S : Type 0} (f : S → N) (xs : List S) → offered_solvables (map (offer_by f) xs) ≡ xs
offered_back f [] = refl
offered_back f (x ∷ xs) = ap (λ ys. x ∷ ys) (offered_back f xs)

pub offered_named : {N S : Type 0} (f : S → N) (xs : List S) → AllByRecursion (λ (o : Offered N S). o.name ≡ f o.solvable) (map (offer_by f) xs)
offered_named f [] = tt
offered_named f (x ∷ xs) = (refl, offered_named f xs)

module _ {S : Type 0} (same : S → S → Bool) (exact : (x y : S) → same x y ≡ true → x ≡ y) where
  -- moving the favoured one first keeps the list's members
  favoured_members : (test : S → Bool) (f : S) (xs : List S) → list_any (λ s. same s f) xs ≡ true → (test f || list_any test (remove_key (λ s. same s f) xs)) ≡ list_any test xs
  favoured_members test f [] h = absurd (false≢true h)
  favoured_members test f (x ∷ xs) h = go (same x f) refl (favoured_members test f xs)
    where
      go : (b : Bool) → same x f ≡ b → (list_any (λ s. same s f) xs ≡ true → (test f || list_any test (remove_key (λ s. same s f) xs)) ≡ list_any test xs) → (test f || list_any test (cond (same x f) xs (x ∷ remove_key (λ s. same s f) xs))) ≡ (test x || list_any test xs)
      go true e later = rw e (ap (λ y. test y || list_any test xs) (sym (exact x f e)))
      go false e later =
          let rest : list_any (λ s. same s f) xs ≡ true = sym (ap (λ b. b || list_any (λ s. same s f) xs) e) ∙ h in
          rw e (swap_or (test f) (test x) (list_any test (remove_key (λ s. same s f) xs)) ∙ ap (λ b. test x || b) (later rest))

  favoured_first_members : (test : S → Bool) (favoured : Option S) (xs : List S) → list_any test (favoured_first same favoured xs) ≡ list_any test xs
  favoured_first_members test None xs = refl
  favoured_first_members test (Some f) xs = go (list_any (λ s. same s f) xs) refl
    where
      go : (b : Bool) → list_any (λ s. same s f) xs ≡ b → list_any test (cond b (f ∷ remove_key (λ s. same s f) xs) xs) ≡ list_any test xs
      go true e = favoured_members test f xs e
      go false e = refl

  -- a solvable is among those that pass exactly if it is listed and passes
  kept_members : (m : S → Bool) (s : S) (xs : List S) → list_any (λ x. same x s) (kept m false xs) ≡ (list_any (λ x. same x s) xs && m s)
  kept_members m s [] = refl
  kept_members m s (x ∷ xs) = go (m x) refl (same x s) refl (kept_members m s xs)
    where
      go : (b : Bool) → m x ≡ b → (d : Bool) → same x s ≡ d → list_any (λ y. same y s) (kept m false xs) ≡ (list_any (λ y. same y s) xs && m s)
          → list_any (λ y. same y s) (cond b (x ∷ kept m false xs) (kept m false xs)) ≡ ((same x s || list_any (λ y. same y s) xs) && m s)
      go true e true f later = rw f (sym (sym (ap m (exact x s f)) ∙ e))
      go true e false f later = rw f later
      go false e true f later = rw f (later ∙ (rw (sym (ap m (exact x s f)) ∙ e) (both_false (list_any (λ y. same y s) xs))))
      go false e false f later = rw f later

  -- a solvable is among those that don't pass exactly if it is listed and doesn't
  pub unkept_members : (m : S → Bool) (s : S) (xs : List S) → list_any (λ x. same x s) (kept m true xs) ≡ (list_any (λ x. same x s) xs && not (m s))
  unkept_members m s xs = kept_members (λ x. not (m x)) s xs

  module _ {N : Type 0} (p : Packages N S) (sorts : List S → List S → Type 0) (permutes : (xs ys : List S) → sorts xs ys → IsPermutation xs ys) where
    -- the solvables tried for a version set are its matches
    pub tried_members : (favoured : Option S) (v : VersionSetId) (tried : List S) (s : S) → IsTried sorts same favoured (matching_in p.set_package p.candidates_of p.matches false v) tried → is_in same p tried s ≡ is_match same p v s
    tried_members favoured v tried s (ys, sorted, is) =
        ap (λ zs. is_in same p zs s) is
        ∙ (favoured_first_members (λ x. same x s) favoured ys
        ∙ (sym (list_any-IsPermutation (λ x. same x s) (matching_in p.set_package p.candidates_of p.matches false v) ys (permutes (matching_in p.set_package p.candidates_of p.matches false v) ys sorted))
        ∙ kept_members (p.matches v) s (listed (p.candidates_of (p.set_package v)))))

    all_members : (first : VersionSetId → Option S) (order : VersionSetId → List S) (s : S) (sets : List VersionSetId)
        → All (λ v. IsTried sorts same (first v) (matching_in p.set_package p.candidates_of p.matches false v) (order v)) sets → is_in same p (flat_map order sets) s ≡ list_any (λ v. is_match same p v s) sets
    all_members first order s [] h = refl
    all_members first order s (v ∷ vs) h =
        list_any-append (λ x. same x s) (order v) (flat_map order vs)
        ∙ (ap (λ b. b || is_in same p (flat_map order vs) s) (tried_members (first v) v (order v) s (h 0 v (omega arith)))
        ∙ ap (λ b. is_match same p v s || b) (all_members first order s vs (λ k d l. h (suc k) d (omega arith))))

    -- the solvables tried for a requirement are offered
    pub are_offered : (r : Requirement) (tried : List S)
        → IsTriedFor sorts same (tried_first p.set_package p.candidates_of) (matching_in p.set_package p.candidates_of p.matches false) (alternatives_of p.members_of r) tried
        → AreOffered same p r (map (offer_by p.package_of) tried)
    are_offered r tried (order, each, is) = record {
      matches = λ s. ap (λ xs. is_in same p xs s) (offered_back p.package_of tried ∙ is) ∙ all_members (tried_first p.set_package p.candidates_of) order s (alternatives_of p.members_of r) each;
      named = offered_named p.package_of tried;
    }
