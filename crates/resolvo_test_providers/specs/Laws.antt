-- The laws of a provider hold under other ids too.
use Rattle.std.proofs.Common.{◌≡◌, List, [], ◌∷◌, map, Option, None, Some, refl, ap, ◌∙◌}
use Rattle.std.specs.Option.{option_map}
use Rattle.std.specs.List.Sorted.{IsPermutation}
use Rattle.std.proofs.lemmas.List.Elements.{All-map, All-weaker}
use Rattle.std.proofs.lemmas.List.Sorted.{IsPermutation-map}
use Rattle.resolvo_pool_core.specs.Provider.{Listing, AreOf, IsOf}
use Rattle.resolvo_test_providers.specs.Renamed.{renamed}

module _ {N S M T : Type 0} (id : S → T) (name : N → M) (name_of : S → N) (named : T → M) (same : (s : S) → named (id s) ≡ name (name_of s)) (n : N) where
  named_so : (s : S) → name_of s ≡ n → named (id s) ≡ name n
  named_so s h = same s ∙ ap name h

  one_named : (o : Option S) → IsOf name_of n o → IsOf named (name n) (option_map id o)
  one_named None h = tt
  one_named (Some s) h = named_so s h

  -- candidates have their package's name
  pub candidates_named : (o : Option (Listing S)) → AreOf name_of n o → AreOf named (name n) (option_map (renamed id) o)
  candidates_named None h = tt
  candidates_named (Some l) h = record {
    candidates = All-map (λ t. named t ≡ name n) id l.candidates (All-weaker (λ s. name_of s ≡ n) (λ s. named (id s) ≡ name n) named_so l.candidates h.candidates);
    locked = one_named l.locked h.locked;
    excluded = All-map (λ e. named e.0 ≡ name n) (λ e. (id e.0, e.1)) l.excluded (All-weaker (λ e. name_of e.0 ≡ n) (λ e. named (id e.0) ≡ name n) (λ e. named_so e.0) l.excluded h.excluded);
  }

module _ {S T : Type 0} (id : S → T) (raw : T → S) (back : (t : T) → id (raw t) ≡ t) where
  -- ids that are taken back are the same
  pub taken_back : (xs : List T) → map id (map raw xs) ≡ xs
  taken_back [] = refl
  taken_back (x ∷ xs) = rw (back x) (ap (λ ys. x ∷ ys) (taken_back xs))

  -- sorting gives a permutation
  pub sorts_permute : (xs ys : List T) → IsPermutation (map raw xs) (map raw ys) → IsPermutation xs ys
  sorts_permute xs ys h = rw (taken_back xs) at (rw (taken_back ys) at (IsPermutation-map id (map raw xs) (map raw ys) h))
