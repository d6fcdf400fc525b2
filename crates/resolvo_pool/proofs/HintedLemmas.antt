-- Lemmas on the set of the solvables that kept candidates hint.
use Rattle.std.proofs.Common.{◌≡◌, inl, inr, Bool, true, false, cond, List, Option, Some, refl, sym, ◌∙◌, ap, subst}
use Rattle.std.specs.Map.{lookup, keys_of}
use Rattle.std.specs.Option.{is_some}
use Rattle.std.proofs.lemmas.Bool.{and_parts, false≢true}
use Rattle.resolvo_pool_core.specs.Provider.{Listing, listing_or_empty, hints}
use Rattle.resolvo_pool.specs.Cached.{among}
use Rattle.resolvo_pool.specs.Hinted.{hints_own, is_hinted, Grows, HasEach, HoldsHinted}
use Rattle.resolvo_pool.proofs.KeptLemmas.{among-lookup}

-- a set with nothing, where nothing is kept
pub hinted_none : {S : Type 0} (is_kept hinted has : S → Bool) → ((s : S) → has s ≡ false) → ((s : S) → is_kept s ≡ false) → HoldsHinted is_kept hinted has
hinted_none is_kept hinted has empty none = record {
  only = λ s h. absurd (false≢true (sym (empty s) ∙ h));
  each = λ s k h. absurd (false≢true (sym (none s) ∙ k));
}

module _ {N S : Type 0} (same_name : N → N → Bool) (same : S → S → Bool) (name_of : S → N) (candidates_of : N → Option (Listing S)) (exact : (x y : N) → same_name x y ≡ true → x ≡ y) (n : N) (l : Listing S) (is : l ≡ listing_or_empty (candidates_of n)) where
  -- a solvable that its package's candidates hint is hinted
  own_hinted : (s : S) → hints_own same_name same name_of n l s ≡ true → is_hinted same name_of candidates_of s ≡ true
  own_hinted s h =
      let (hinted, own) = and_parts (hints same l s) (same_name (name_of s) n) h in
      subst (λ m. hints same (listing_or_empty (candidates_of m)) s ≡ true) (sym (exact (name_of s) n own)) (subst (λ k. hints same k s ≡ true) is hinted)

  -- a hinted solvable of the package is hinted by its candidates
  own_hints : (s : S) → same_name n (name_of s) ≡ true → is_hinted same name_of candidates_of s ≡ true → hints_own same_name same name_of n l s ≡ true
  own_hints s h hinted =
      let here : n ≡ name_of s = exact n (name_of s) h in
      let own : same_name (name_of s) n ≡ true = subst (λ m. same_name (name_of s) m ≡ true) (sym here) (subst (λ m. same_name m (name_of s) ≡ true) here h) in
      let by_listing : hints same l s ≡ true = subst (λ j. hints same j s ≡ true) (sym is) (subst (λ m. hints same (listing_or_empty (candidates_of m)) s ≡ true) (sym here) hinted) in
      rw by_listing own

  -- a set after the hinted solvables of a package were added
  pub hinted_grows : (is_kept old new : S → Bool) → Grows (hints_own same_name same name_of n l) old new → HoldsHinted is_kept (is_hinted same name_of candidates_of) old → HoldsHinted is_kept (is_hinted same name_of candidates_of) new
  hinted_grows is_kept old new grows holds = record {
    only = λ s h. elim (grows.only s h) [ inl before ↦ holds.only s before | inr got ↦ own_hinted s got ];
    each = λ s k h. grows.stays s (holds.each s k h);
  }

  -- a set that has each of the hinted solvables of a package serves once the package's candidates are kept
  pub hinted_kept : {V : Type 0} (es fs : List (N × V)) (w : V) (has : S → Bool) → ((q : N) → lookup (same_name q) fs ≡ cond (same_name n q) (Some w) (lookup (same_name q) es)) → HasEach (hints_own same_name same name_of n l) has
      → HoldsHinted (λ s. among same_name (keys_of es) (name_of s)) (is_hinted same name_of candidates_of) has → HoldsHinted (λ s. among same_name (keys_of fs) (name_of s)) (is_hinted same name_of candidates_of) has
  hinted_kept es fs w has updates each holds = record {
    only = holds.only;
    each = λ s k h. go s (same_name n (name_of s)) refl (ap is_some (sym (updates (name_of s))) ∙ (sym (among-lookup same_name fs (name_of s)) ∙ k)) h;
  }
    where
      go : (s : S) (b : Bool) → same_name n (name_of s) ≡ b → is_some (cond (same_name n (name_of s)) (Some w) (lookup (same_name (name_of s)) es)) ≡ true → is_hinted same name_of candidates_of s ≡ true → has s ≡ true
      go s true e k h = each s (own_hints s e h)
      go s false e k h =
          let before : is_some (lookup (same_name (name_of s)) es) ≡ true = rw e at k in
          holds.each s (among-lookup same_name es (name_of s) ∙ before) h
