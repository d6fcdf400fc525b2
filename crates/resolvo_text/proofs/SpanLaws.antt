-- Spans: parsing and spelling are inverse.
use Rattle.std.proofs.Common.{◌≡◌, ℕ, ◌+◌, ◌^◌, ◌<◌, ◌≤◌, ◌⊎◌, inl, Bool, true, false, cond, ltb, List, [], ◌∷◌, ◌++◌, length, get_or, take, drop, Option, Some, None, refl, sym, ap, subst, ◌∙◌, arith, ⊎_elim}
use Rattle.std.specs.Fmt.{decimal}
use Rattle.std.specs.List.{position, position_or_len}
use Rattle.std.proofs.lemmas.Bool.{ne_eqb, eqb-true, lt-ltb, ltb-true}
use Rattle.std.proofs.lemmas.Option.{cond_some, same_Some}
use Rattle.std.proofs.lemmas.Fmt.{decimal_nonempty}
use Rattle.std.proofs.lemmas.Str.Parse.{digit_at}
use Rattle.std.proofs.lemmas.List.{take_at, drop_at, drop-drop, take-append-drop, drop_more, length-append, get_or_append_left, get_or_at}
use Rattle.std.proofs.lemmas.List.Sums.{position_or_len_is}
use Rattle.std.proofs.lemmas.List.Quantifiers.{position-Some}
use Rattle.resolvo_text.specs.declared.spec.Span.{Span}
use Rattle.resolvo_text.specs.declared.spec.Span.TheVariants.{Any, One, Range}
use Rattle.resolvo_text.specs.Spelling.{Words, span_words, IsSpan}
use Rattle.resolvo_text.specs.Parse.{◌>>=◌, is_dot, number_in, number_after_dot, range_in, span_in, span_or_range}
use Rattle.resolvo_text.proofs.NumberLemmas.{number_in-decimal, number_in_spells, number_in_none, digits}
use Rattle.resolvo_text.proofs.AlternativeLemmas.{bind_some}

digit_in : (n i : ℕ) → n < 2 ^ 32 → i < length (decimal n) → (48 ≤ get_or (decimal n) i 0) × (get_or (decimal n) i 0 ≤ 57)
digit_in n i small lt = digit_at (decimal n) i (digits n small) lt

-- a byte that is no digit
abbrev pub IsNoDigit : ℕ → Type 0
IsNoDigit b = (b < 48) ⊎ (57 < b)

no_digit_at : (word : List ℕ) (i n : ℕ) → i < length word → IsNoDigit (get_or word i 0) → n < 2 ^ 32 → word ≡ decimal n → ⊥
no_digit_at word i n lt none small is =
    let d = digit_in n i small (omega (arith, ap (λ (xs : List ℕ). length xs) is)) in
    let same : get_or word i 0 ≡ get_or (decimal n) i 0 = ap (λ (xs : List ℕ). get_or xs i 0) is in
    ⊎_elim (λ low. absurd (omega arith)) (λ high. absurd (omega arith)) none

-- a word with another byte than digits is no number
pub not_a_number : (word : List ℕ) (i : ℕ) → i < length word → IsNoDigit (get_or word i 0) → number_in word ≡ None
not_a_number word i lt none = number_in_none word (λ n small is. no_digit_at word i n lt none small is)

pub number_in-nil : number_in [] ≡ None
number_in-nil = number_in_none [] (λ n small is. absurd (omega (arith, decimal_nonempty n (omega arith), ap (λ (xs : List ℕ). length xs) is)))

abbrev first_of : Words → List ℕ
first_of [] = []
first_of (w ∷ ws) = w

chosen_some : {A : Type 0} (b : Bool) (o : Option A) (x : A) → cond b o None ≡ Some x → (b ≡ true) × (o ≡ Some x)
chosen_some true o x e = (refl, e)
chosen_some false o x e = absurd cc

pub none_if : {A : Type 0} (o : Option A) → ((x : A) → o ≡ Some x → ⊥) → o ≡ None
none_if None h = refl
none_if (Some x) h = absurd (h x refl)

-- ---- ranges

abbrev dots : ℕ → List ℕ
dots high = 46 ∷ 46 ∷ decimal high

dot_at : (low high : ℕ) → low < 2 ^ 32 → position_or_len is_dot (decimal low ++ dots high) ≡ length (decimal low)
dot_at low high small = position_or_len_is is_dot (decimal low ++ dots high) (length (decimal low)) 0 (omega (arith, length-append (decimal low) (dots high)))
    (λ k lt. let d = digit_in low k small lt in rw (get_or_append_left (decimal low) (dots high) 0 k lt) (ne_eqb (get_or (decimal low) k 0) 46 (λ e. absurd (omega arith))))
    (λ lt. rw (get_or_at (decimal low) 46 (46 ∷ decimal high) 0 (length (decimal low)) refl) refl)

dot_is : (low high : ℕ) → low < 2 ^ 32 → position is_dot (decimal low ++ dots high) ≡ Some (length (decimal low))
dot_is low high small = rw (dot_at low high small, lt-ltb (length (decimal low)) (length (decimal low ++ dots high)) (omega (arith, length-append (decimal low) (dots high)))) refl

after_dot : (low high : ℕ) → drop (length (decimal low) + 1) (decimal low ++ dots high) ≡ 46 ∷ decimal high
after_dot low high = sym (drop-drop 1 (length (decimal low)) (decimal low ++ dots high)) ∙ ap (λ (xs : List ℕ). drop 1 xs) (drop_at (decimal low) (dots high) (length (decimal low)) refl)

after_second_dot : (high : ℕ) → high < 2 ^ 32 → number_after_dot (46 ∷ decimal high) ≡ Some high
unfolding number_after_dot
after_second_dot high small = number_in-decimal high small

pub range_again : (low high : ℕ) → low < high → high < 2 ^ 32 → range_in (decimal low ++ dots high) ≡ Some (Range low high)
unfolding range_in
range_again low high lt small = rw (dot_is low high (omega arith), take_at (decimal low) (dots high) (length (decimal low)) refl, number_in-decimal low (omega arith), after_dot low high, after_second_dot high small, lt-ltb low high lt) refl

number_after_dot_takes : (word : List ℕ) (n : ℕ) → number_after_dot word ≡ Some n → (word ≡ 46 ∷ decimal n) × (n < 2 ^ 32)
unfolding number_after_dot
number_after_dot_takes [] n e = absurd cc
number_after_dot_takes (b ∷ bs) n e =
    let g = chosen_some (is_dot b) (number_in bs) n e in
    let h = number_in_spells bs n g.1 in
    (ap (λ (x : ℕ). x ∷ bs) (eqb-true b 46 g.0) ∙ ap (λ (xs : List ℕ). 46 ∷ xs) h.0, h.1)

pub record IsRange (word : List ℕ) (span : Span) : Type 0 where
  pub low : ℕ
  pub high : ℕ
  pub is : span ≡ Range low high
  pub rises : low < high
  pub small : high < 2 ^ 32
  pub spelled : word ≡ decimal low ++ dots high

pub range_takes : (word : List ℕ) (span : Span) → range_in word ≡ Some span → IsRange word span
unfolding range_in
range_takes word span e =
    let a = bind_some (position is_dot word) (λ dot. number_in (take dot word) >>= λ low. number_after_dot (drop (dot + 1) word) >>= λ high. cond (ltb low high) (Some (Range low high)) None) span e in
    let b = bind_some (number_in (take a.0 word)) (λ low. number_after_dot (drop (a.0 + 1) word) >>= λ high. cond (ltb low high) (Some (Range low high)) None) span a.2 in
    let c = bind_some (number_after_dot (drop (a.0 + 1) word)) (λ high. cond (ltb b.0 high) (Some (Range b.0 high)) None) span b.2 in
    let g = cond_some (ltb b.0 c.0) (Range b.0 c.0) span c.2 in
    let dot = position-Some is_dot word a.0 0 a.1 in
    let prefix = number_in_spells (take a.0 word) b.0 b.1 in
    let back = number_after_dot_takes (drop (a.0 + 1) word) c.0 c.1 in
    let here : drop a.0 word ≡ dots c.0 = drop_more word a.0 0 dot.0 ∙ ap (λ (x : ℕ). x ∷ drop (a.0 + 1) word) (eqb-true (get_or word a.0 0) 46 dot.1) ∙ ap (λ (xs : List ℕ). 46 ∷ xs) back.0 in
    record {
      low = b.0;
      high = c.0;
      is = sym g.1;
      rises = ltb-true b.0 c.0 g.0;
      small = back.1;
      spelled = sym (take-append-drop a.0 word) ∙ ap (λ (xs : List ℕ). xs ++ drop a.0 word) prefix.0 ∙ ap (λ (xs : List ℕ). decimal b.0 ++ xs) here;
    }

-- ---- spans

pub span_again : (span : Span) (word : List ℕ) → IsSpan span → span_words span ≡ word ∷ [] → span_in word ≡ Some span
unfolding span_in
span_again Any word fits is = absurd cc
span_again (One n) word fits is = let e : decimal n ≡ word = ap (λ (ws : Words). first_of ws) is in rw (← e, number_in-decimal n fits) refl
span_again (Range low high) word fits is =
    let e : decimal low ++ dots high ≡ word = ap (λ (ws : Words). first_of ws) is in
    let dot = not_a_number (decimal low ++ dots high) (length (decimal low)) (omega (arith, length-append (decimal low) (dots high))) (rw (get_or_at (decimal low) 46 (46 ∷ decimal high) 0 (length (decimal low)) refl) (inl (omega arith))) in
    rw (← e, dot) (range_again low high fits.0 fits.1)

one_takes : (word : List ℕ) (n : ℕ) → number_in word ≡ Some n → (span_words (One n) ≡ word ∷ []) × IsSpan (One n)
one_takes word n e = let h = number_in_spells word n e in (ap (λ (w : List ℕ). w ∷ []) (sym h.0), h.1)

span_parts : (word : List ℕ) (span : Span) (o : Option ℕ) → number_in word ≡ o → span_or_range o word ≡ Some span → (span_words span ≡ word ∷ []) × IsSpan span
span_parts word span (Some n) is e = subst (λ (s : Span). (span_words s ≡ word ∷ []) × IsSpan s) (same_Some (One n) span e) (one_takes word n is)
span_parts word span None is e =
    let r = range_takes word span e in
    subst (λ (s : Span). (span_words s ≡ word ∷ []) × IsSpan s) (sym r.is) (ap (λ (w : List ℕ). w ∷ []) (sym r.spelled), (r.rises, r.small))

not_a_range : (b : ℕ) (bs : List ℕ) → IsNoDigit b → range_in (b ∷ bs) ≡ None
not_a_range b bs none = none_if (range_in (b ∷ bs)) (λ span e.
    let r = range_takes (b ∷ bs) span e in
    let small : r.low < 2 ^ 32 = omega (arith, r.rises, r.small) in
    let some : 0 < length (decimal r.low) = decimal_nonempty r.low (omega arith) in
    let d = digit_in r.low 0 small some in
    let same : b ≡ get_or (decimal r.low) 0 0 = ap (λ (xs : List ℕ). get_or xs 0 0) r.spelled ∙ get_or_append_left (decimal r.low) (dots r.high) 0 0 some in
    ⊎_elim (λ low. absurd (omega arith)) (λ high. absurd (omega arith)) none)

pub span_takes : (word : List ℕ) (span : Span) → span_in word ≡ Some span → (span_words span ≡ word ∷ []) × IsSpan span
unfolding span_in
span_takes word span e = span_parts word span (number_in word) refl e

-- a word that begins with no digit is no span
pub not_a_span : (b : ℕ) (bs : List ℕ) → IsNoDigit b → span_in (b ∷ bs) ≡ None
unfolding span_in
not_a_span b bs none = rw (not_a_number (b ∷ bs) 0 (omega arith) none) (not_a_range b bs none)
