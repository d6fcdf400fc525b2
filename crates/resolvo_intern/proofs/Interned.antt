-- Lists of interned values, seen through a map.
use Rattle.std.proofs.Common.{◌≡◌, ℕ, ◌+◌, Bool, true, false, not, List, [], ◌∷◌, ◌++◌, refl, ap, ◌∙◌, sym, cond, map}
use Rattle.std.specs.List.{list_any, position_or_len}
use Rattle.std.specs.Prelude.{◌||◌, String, bytes_eq}
use Rattle.std.specs.String.{string_bytes, string_eq}
use Rattle.std.proofs.lemmas.List.{map-append}
use Rattle.indexmap.specs.IndexSet.{insert_key}

module _ {X Y : Type 0} (f : X → Y) where
  -- some image passes where some item's image does
  pub list_any-map : (p : Y → Bool) (xs : List X) → list_any p (map f xs) ≡ list_any (λ x. p (f x)) xs
  list_any-map p [] = refl
  list_any-map p (x ∷ xs) = ap (λ b. p (f x) || b) (list_any-map p xs)

  -- the first image that passes is at the place of the first item whose image passes
  pub position_or_len-map : (p : Y → Bool) (xs : List X) → position_or_len p (map f xs) ≡ position_or_len (λ x. p (f x)) xs
  position_or_len-map p [] = refl
  position_or_len-map p (x ∷ xs) = ap (λ n. cond (not (p (f x))) (1 + n) 0) (position_or_len-map p xs)

  -- the images of the keys after an insertion
  pub map-insert_key : (eq : Y → Y → Bool) (ks : List X) (k : X) → map f (insert_key (λ a b. eq (f a) (f b)) ks k) ≡ insert_key eq (map f ks) (f k)
  map-insert_key eq ks k = rw (list_any-map (eq (f k)) ks) (go (list_any (λ x. eq (f k) (f x)) ks))
    where
      go : (b : Bool) → map f (cond b ks (ks ++ k ∷ [])) ≡ cond b (map f ks) (map f ks ++ f k ∷ [])
      go true = refl
      go false = map-append f ks (k ∷ [])

-- the place of a text among texts that are kept as strings
pub place_of_text : {A : Type 0} (keys : List (String A)) (k : String A) (text : List ℕ) (strings : List (List ℕ)) (i : ℕ) → string_bytes k ≡ text → map string_bytes keys ≡ strings → i ≡ position_or_len (string_eq k) keys → i ≡ position_or_len (bytes_eq text) strings
place_of_text keys k text strings i spelled seen at = rw (← seen, ← spelled) (at ∙ sym (position_or_len-map string_bytes (bytes_eq (string_bytes k)) keys))

-- the texts after one more was interned
pub texts_with : {A : Type 0} (keys news : List (String A)) (k : String A) (text : List ℕ) (strings : List (List ℕ)) → string_bytes k ≡ text → map string_bytes keys ≡ strings → news ≡ insert_key string_eq keys k → map string_bytes news ≡ insert_key bytes_eq strings text
texts_with keys news k text strings spelled seen put = rw (← seen, ← spelled) (ap (map string_bytes) put ∙ map-insert_key string_bytes bytes_eq keys k)
