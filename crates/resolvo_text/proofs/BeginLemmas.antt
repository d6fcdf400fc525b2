-- What the first byte of the next word tells, and the last word.
use Rattle.std.proofs.Common.{◌≡◌, ℕ, zero, suc, ◌+◌, ◌-◌, ◌<◌, false, List, [], ◌∷◌, length, get_or, take, drop, Option, Some, None, refl, sym, ap, subst, ◌∙◌, arith, inl, inr, slice_get}
use Rattle.std.specs.List.{slice_split, position, onto_first}
use Rattle.std.specs.Str.{bytes_eq}
use Rattle.std.proofs.lemmas.Bool.{cases_Bool, eqb-true}
use Rattle.std.proofs.lemmas.Option.{same_Some}
use Rattle.std.proofs.lemmas.List.{take_rest, drop_more}
use Rattle.std.proofs.lemmas.List.Splits.{slice_split-cons_yes, slice_split-cons_no, length-slice_split}
use Rattle.std.proofs.lemmas.List.Quantifiers.{position-Some}
use Rattle.std.proofs.lemmas.Slice.Eq.{bytes_eq-Decides}
use Rattle.resolvo_text.specs.declared.spec.Span.{Span}
use Rattle.resolvo_text.specs.declared.spec.Span.TheVariants.{Any}
use Rattle.resolvo_text.specs.Spelling.{Words}
use Rattle.resolvo_text.specs.Parse.{◌>>=◌, is_dot, is_space, words_in, end_at, number_in, last_number, range_in, span_in, span_or_range, span_at, with_span, skip}
use Rattle.resolvo_text.proofs.AlternativeLemmas.{bind_some}
use Rattle.resolvo_text.proofs.SpanLaws.{IsNoDigit, not_a_number, number_in-nil, none_if}
use Rattle.resolvo_text.proofs.WordLemmas.{first_word_ends, only_word, not_at_end}

-- The first word of what begins with this byte is empty, or begins with it.
words_begin : (b : ℕ) (bs : List ℕ) (Q : Words → Type 0) → ((ws : Words) → Q ([] ∷ ws)) → ((w : List ℕ) (ws : Words) → Q ((b ∷ w) ∷ ws)) → Q (slice_split is_space (b ∷ bs))
words_begin b bs Q empty other = elim (cases_Bool (is_space b)) [
  | inl space ↦ subst Q (sym (slice_split-cons_yes is_space b bs space)) (empty (slice_split is_space bs))
  | inr letter ↦ subst Q (sym (slice_split-cons_no is_space b bs letter)) (onto (slice_split is_space bs) (omega (arith, length-slice_split is_space bs)))
]
  where
    onto : (parts : Words) → 0 < length parts → Q (onto_first b parts)
    onto [] less = absurd (omega (arith, less))
    onto (w ∷ ws) less = other w ws

other_word : (word next : List ℕ) (ws : Words) → (next ≡ word → ⊥) → (false, next ∷ ws) ≡ skip word (next ∷ ws)
unfolding skip
other_word word next ws other = elim (cases_Bool (bytes_eq next word)) [
  | inl same ↦ absurd (other ((bytes_eq-Decides next word).0 same))
  | inr apart ↦ rw apart refl
]

pub skip_apart : (word bs : List ℕ) (b first : ℕ) → 1 < length bs → b ≡ get_or bs 1 b → slice_get word 0 ≡ Some first → (b ≡ first → ⊥) → (false, words_in bs) ≡ skip word (words_in bs)
skip_apart [] bs b first more at begins other = absurd cc
skip_apart (w ∷ ws) [] b first more at begins other = absurd (omega (arith, more))
skip_apart (w ∷ ws) (c ∷ []) b first more at begins other = absurd (omega (arith, more))
skip_apart (w ∷ ws) (c ∷ d ∷ ds) b first more at begins other =
    words_begin d ds (λ parts. (false, parts) ≡ skip (w ∷ ws) parts) (λ parts. other_word (w ∷ ws) [] parts (λ e. absurd cc))
    (λ p parts. other_word (w ∷ ws) (d ∷ p) parts (λ e. other (at ∙ (ap (λ (xs : List ℕ). get_or xs 0 0) e ∙ same_Some w first begins))))

no_span_nil : span_in [] ≡ None
unfolding span_in range_in
no_span_nil = rw number_in-nil refl

no_range : (d : ℕ) (p : List ℕ) → IsNoDigit d → range_in (d ∷ p) ≡ None
unfolding range_in
no_range d p none = none_if (range_in (d ∷ p)) (λ x e.
    let dot = bind_some (position is_dot (d ∷ p)) _ x e in
    let low = bind_some (number_in (take dot.0 (d ∷ p))) _ x dot.2 in
    no_low dot.0 low.0 low.1)
  where
    no_low : (dot low : ℕ) → number_in (take dot (d ∷ p)) ≡ Some low → ⊥
    no_low zero low e = absurd (let f = sym number_in-nil ∙ e in cc)
    no_low (suc k) low e = absurd (let f = sym (not_a_number (d ∷ take k p) 0 (omega arith) none) ∙ e in cc)

no_span : (d : ℕ) (p : List ℕ) → IsNoDigit d → span_in (d ∷ p) ≡ None
unfolding span_in
no_span d p none = ap (λ (o : Option ℕ). span_or_range o (d ∷ p)) (not_a_number (d ∷ p) 0 (omega arith) none) ∙ no_range d p none

pub span_apart : (bs : List ℕ) (b : ℕ) → 1 < length bs → b ≡ get_or bs 1 b → IsNoDigit b → (Any, words_in bs) ≡ span_at (words_in bs)
unfolding span_at
span_apart [] b more at none = absurd (omega (arith, more))
span_apart (c ∷ []) b more at none = absurd (omega (arith, more))
span_apart (c ∷ d ∷ ds) b more at none =
    words_begin d ds (λ parts. (Any, parts) ≡ span_at parts) (λ parts. ap (λ (o : Option Span). with_span o ([] ∷ parts) parts) (sym no_span_nil))
    (λ p parts. ap (λ (o : Option Span). with_span o ((d ∷ p) ∷ parts) parts) (sym (no_span d p (subst IsNoDigit at none))))

-- ---- a dot

-- a word with a dot is no number
pub dotted : (word : List ℕ) (dot : ℕ) → position is_dot word ≡ Some dot → range_in word ≡ span_in word
unfolding span_in
dotted word dot e =
    let at = position-Some is_dot word dot 0 e in
    let is : get_or word dot 0 ≡ 46 = eqb-true (get_or word dot 0) 46 at.1 in
    sym (ap (λ (o : Option ℕ). span_or_range o word) (not_a_number word dot at.0 (inl (omega (arith, is)))))

undotted_range : (word : List ℕ) → position is_dot word ≡ None → range_in word ≡ None
unfolding range_in
undotted_range word e = rw e refl

pub undotted : (word : List ℕ) → position is_dot word ≡ None → None ≡ number_in word → None ≡ span_in word
unfolding span_in
undotted word e none = sym (undotted_range word e) ∙ ap (λ (o : Option ℕ). span_or_range o word) none

-- ---- the last word

some_last : (o : Option ℕ) → (o >>= λ (n : ℕ). Some n) ≡ o
some_last None = refl
some_last (Some n) = refl

none_last : (o : Option ℕ) → ◌≡◌ {A = Option ℕ} (o >>= λ (n : ℕ). None) None
none_last None = refl
none_last (Some n) = refl

pub last_is : (bs : List ℕ) → last_number (slice_split is_space bs) ≡ number_in bs
unfolding last_number
last_is bs = go (position is_space bs) refl
  where
    go : (o : Option ℕ) → position is_space bs ≡ o → last_number (slice_split is_space bs) ≡ number_in bs
    go None e =
        let nothing : length bs - length bs ≡ 0 = omega arith in
        let rest : words_in (take (length bs - length bs) (drop (length bs) bs)) ≡ [] = ap (λ (n : ℕ). words_in (take n (drop (length bs) bs))) nothing in
        ap last_number (only_word bs e ∙ ap (λ (ws : Words). bs ∷ ws) rest) ∙ some_last (number_in bs)
    go (Some end) e =
        let at = position-Some is_space bs end 0 e in
        let is : get_or bs end 0 ≡ 32 = eqb-true (get_or bs end 0) 32 at.1 in
        let next : take (length bs - end) (drop end bs) ≡ get_or bs end 0 ∷ drop (end + 1) bs = take_rest bs end ∙ drop_more bs end 0 at.0 in
        let more : end_at (words_in (take (length bs - end) (drop end bs))) ≡ None = not_at_end (take (length bs - end) (drop end bs)) (omega (arith, ap (λ (xs : List ℕ). length xs) next)) in
        ap last_number (first_word_ends bs end e) ∙ (ap (λ (o : Option (Unit {0})). number_in (take end bs) >>= λ n. o >>= λ _. Some n) more ∙ (none_last (number_in (take end bs)) ∙ sym (not_a_number bs end at.0 (inl (omega (arith, is))))))

pub no_last : (bs : List ℕ) → length bs ≡ 0 → last_number (words_in bs) ≡ None
unfolding last_number
no_last [] none = refl
no_last (b ∷ bs) none = absurd (omega (arith, none))
