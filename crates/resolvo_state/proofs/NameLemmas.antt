-- The packages of a registry, and a solvable more.
use Rattle.std.proofs.Common.{◌≡◌, ℕ, ◌+◌, ◌<◌, inl, inr, List, [], ◌∷◌, ◌++◌, length, Some, None, refl, sym, ◌∙◌, ap, subst, arith}
use Rattle.std.specs.Prelude.{slice_get}
use Rattle.std.proofs.lemmas.List.{length-append}
use Rattle.std.proofs.lemmas.Option.{slice_get_within}
use Rattle.resolvo_pool_core.specs.declared.id.VariableId.{VariableId}
use Rattle.resolvo_store_core.specs.AtMostOne.{Tracking}
use Rattle.resolvo_state.specs.declared.registry.Registry.{Registry}
use Rattle.resolvo_state.specs.Keys.{IsPlace, AreOnce}
use Rattle.resolvo_state.specs.Registered.{PlacesName}
use Rattle.resolvo_state.proofs.Positions.{get_last, get_push, prefix_same, once_push}

-- a package that has its place
pub place_found : {N : Type 0} (name : N) (place : ℕ) (r : Registry N) → length r.names.keys ≡ length r.trackers.items → slice_get r.names.keys place ≡ Some name → PlacesName name place r r
place_found name place r each at = record {
  names = prefix_same r.names.keys;
  trackers = prefix_same r.trackers.items;
  each = each;
  present = at;
  once = λ once. once;
  members = refl;
  waits = refl;
  many = refl;
  fresh = λ k t past h. (let within : k < length r.trackers.items = slice_get_within r.trackers.items k t h in absurd (omega arith));
}

-- a package that is appended
pub place_pushed : {N : Type 0} (name : N) (place : ℕ) (old new : Registry N) (t : Tracking VariableId) → length old.names.keys ≡ length old.trackers.items → IsPlace old.names.keys name None → place ≡ length old.trackers.items
    → new.names.keys ≡ old.names.keys ++ name ∷ [] → new.trackers.items ≡ old.trackers.items ++ t ∷ [] → t.variables ≡ [] → t.helpers ≡ [] → new.members ≡ old.members → new.tied ≡ old.tied → new.many ≡ old.many → PlacesName name place old new
place_pushed {N} name place old new t each absent at names trackers none helpers members waits many = record {
  names = (name ∷ [], names);
  trackers = (t ∷ [], trackers);
  each =
      let a : length new.names.keys ≡ length old.names.keys + 1 = ap length names ∙ length-append old.names.keys (name ∷ []) in
      let b : length new.trackers.items ≡ length old.trackers.items + 1 = ap length trackers ∙ length-append old.trackers.items (t ∷ []) in
      omega arith;
  present = subst (λ k. slice_get new.names.keys k ≡ Some name) (each ∙ sym at) (subst (λ (xs : List N). slice_get xs (length old.names.keys) ≡ Some name) (sym names) (get_last old.names.keys name));
  once = λ once. subst (λ (xs : List N). AreOnce xs) (sym names) (once_push old.names.keys name once absent);
  members = members;
  waits = waits;
  many = many;
  fresh = λ k u past h. elim (get_push old.trackers.items t u k (subst (λ (xs : List (Tracking VariableId)). slice_get xs k ≡ Some u) trackers h)) [
    | inl a ↦ let within : k < length old.trackers.items = slice_get_within old.trackers.items k u a in absurd (omega arith)
    | inr (e, same) ↦ (ap (λ (x : Tracking VariableId). x.variables) same ∙ none, ap (λ (x : Tracking VariableId). x.helpers) same ∙ helpers)
  ];
}

-- the package's place is one of a tracker
pub place_within : {N : Type 0} (name : N) (place : ℕ) (old new : Registry N) → PlacesName name place old new → place < length new.trackers.items
place_within name place old new places = let below : place < length new.names.keys = slice_get_within new.names.keys place name places.present in let each : length new.names.keys ≡ length new.trackers.items = places.each in omega arith
