-- Texts in one list of bytes, with one more or one less.
use Rattle.std.proofs.Common.{◌≡◌, ◌∙◌, ◌≤◌, ◌-◌, ◌+◌, ◌∷◌, ◌++◌, [], ℕ, suc, List, map, take, drop, length, Some, refl, sym, ap, subst, inl, inr, arith}
use Rattle.std.specs.Prelude.{slice_get}
use Rattle.std.specs.Str.{IsUtf8}
use Rattle.std.proofs.lemmas.List.{length-append, length-drop, map-append, take-append-le, drop-append-le, take_all}
use Rattle.std.proofs.Math.Seq.{drop-append_seam}
use Rattle.resolvo_terms.specs.declared.text_list.Bounds.{Bounds}
use Rattle.resolvo_terms.specs.Texts.{AreTexts, text_between}
use Rattle.resolvo_terms.proofs.Places.{get_push}

-- more bytes change no text
text_kept : (bytes more : List ℕ) (b : Bounds) → b.begin ≤ b.end → b.end ≤ length bytes → text_between (bytes ++ more) b ≡ text_between bytes b
text_kept bytes more b rising within =
    ap (λ (xs : List ℕ). take (b.end - b.begin) xs) (drop-append-le b.begin bytes more (omega (arith, rising, within)))
    ∙ take-append-le (b.end - b.begin) (drop b.begin bytes) more (let left = length-drop b.begin bytes in omega (arith, rising, within, left))

-- the bytes that are added last
text_last : (bytes text : List ℕ) (b : Bounds) → b.begin ≡ length bytes → b.end ≡ length bytes + length text → text_between (bytes ++ text) b ≡ text
text_last bytes text b begin end =
    ap (λ (n : ℕ). take (b.end - n) (drop n (bytes ++ text))) begin
    ∙ ap (λ (xs : List ℕ). take (b.end - length bytes) xs) (drop-append_seam bytes text)
    ∙ take_all (b.end - length bytes) text (omega (arith, end))

texts_kept : (bytes more : List ℕ) (bounds : List Bounds) → ((i : ℕ) (b : Bounds) → slice_get bounds i ≡ Some b → b.begin ≤ b.end) → ((i : ℕ) (b : Bounds) → slice_get bounds i ≡ Some b → b.end ≤ length bytes)
    → map (text_between (bytes ++ more)) bounds ≡ map (text_between bytes) bounds
texts_kept bytes more [] rising within = refl
texts_kept bytes more (b ∷ bounds) rising within =
    ap (λ (t : List ℕ). t ∷ map (text_between (bytes ++ more)) bounds) (text_kept bytes more b (rising 0 b refl) (within 0 b refl))
    ∙ ap (λ (ts : List (List ℕ)). text_between bytes b ∷ ts) (texts_kept bytes more bounds (λ i c at. rising (suc i) c at) (λ i c at. within (suc i) c at))

-- one text more
module _ (bytes text : List ℕ) (bounds : List Bounds) (b : Bounds) (h : AreTexts bytes bounds) (begin : b.begin ≡ length bytes) (end : b.end ≡ length bytes + length text) where
  pub texts_push : map (text_between (bytes ++ text)) (bounds ++ b ∷ []) ≡ map (text_between bytes) bounds ++ text ∷ []
  texts_push =
      map-append (text_between (bytes ++ text)) bounds (b ∷ [])
      ∙ ap (λ (ts : List (List ℕ)). ts ++ text_between (bytes ++ text) b ∷ []) (texts_kept bytes text bounds h.rising h.within)
      ∙ ap (λ (t : List ℕ). map (text_between bytes) bounds ++ t ∷ []) (text_last bytes text b begin end)

  pub are_texts_push : IsUtf8 text → AreTexts (bytes ++ text) (bounds ++ b ∷ [])
  are_texts_push utf8 = record {
    rising = λ i c at. elim (get_push bounds b c i at) [ inl old ↦ h.rising i c old | inr last ↦ subst (λ (x : Bounds). x.begin ≤ x.end) last.1 (omega (arith, begin, end)) ];
    within = λ i c at.
        let all = length-append bytes text in
        elim (get_push bounds b c i at) [ inl old ↦ (let had = h.within i c old in omega (arith, had, all)) | inr last ↦ subst (λ (x : Bounds). x.end ≤ length (bytes ++ text)) last.1 (omega (arith, end, all)) ];
    utf8 = λ i c at. elim (get_push bounds b c i at) [
      | inl old ↦ subst (λ (t : List ℕ). IsUtf8 t) (sym (text_kept bytes text c (h.rising i c old) (h.within i c old))) (h.utf8 i c old)
      | inr last ↦ subst (λ (x : Bounds). IsUtf8 (text_between (bytes ++ text) x)) last.1 (subst (λ (t : List ℕ). IsUtf8 t) (sym (text_last bytes text b begin end)) utf8)
    ];
  }
