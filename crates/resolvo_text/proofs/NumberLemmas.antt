-- The number that a word spells.
use Rattle.std.proofs.Common.{◌≡◌, ℕ, zero, suc, ◌^◌, ◌<◌, ◌≤◌, true, ltb, ◌&&◌, ◌+◌, ◌*◌, take, List, [], ◌∷◌, length, get_or, Option, Some, None, Result, Ok, Err, refl, sym, ap, subst, ◌∙◌, arith, slice_get, Bor}
use Rattle.std.specs.Prelude.{MatchResult, IfSome, IfNone}
use Rattle.std.specs.Option.{option_map, option_map_or}
use Rattle.std.specs.Fmt.{decimal}
use Rattle.std.specs.Str.{bytes_eq}
use Rattle.std.specs.Result.{result_ok}
use Rattle.std.specs.Char.{digit_value}
use Rattle.std.proofs.lemmas.Int.Digits.{digits_more, digits_value_more}
use Rattle.std.specs.Str.Parse.{digits_value, AllDigits}
use Rattle.std.proofs.lemmas.Bool.{and_parts, lt-ltb, ltb-true}
use Rattle.std.proofs.lemmas.Slice.Eq.{bytes_eq-Decides}
use Rattle.std.proofs.lemmas.Fmt.{digits_value-decimal, decimal-digits_value, decimal_nonempty, first_decimal, decimal_digit, digits_decimal}
use Rattle.std.proofs.lemmas.Str.Parse.{digits_value-take-le, IsNumeralModel, numerals_by_value, tells_digits}
use Rattle.std.proofs.lemmas.Option.{slice_get_within, cond_some, same_Some, get_or_from_slice_get}
use Rattle.resolvo_text.specs.Parse.{number_in}

own : IsNumeralModel (AllDigits 10) (digits_value 10)
own = numerals_by_value _ tells_digits

-- a spelling is parsed back
pub number_in-decimal : (n : ℕ) → n < 2 ^ 32 → number_in (decimal n) ≡ Some n
unfolding number_in
number_in-decimal n lt =
    let value : digits_value 10 (decimal n) ≡ n = digits_value-decimal own n (omega arith) in
    let same : bytes_eq (decimal n) (decimal n) ≡ true = (bytes_eq-Decides (decimal n) (decimal n)).1 refl in
    rw (value, same, lt-ltb n (2 ^ 32) lt) refl

pub number_in_is : (word : List ℕ) (n : ℕ) → n < 2 ^ 32 → word ≡ decimal n → number_in word ≡ Some n
number_in_is word n lt is = ap number_in is ∙ number_in-decimal n lt

-- a parsed number has this spelling
pub number_in_spells : (word : List ℕ) (n : ℕ) → number_in word ≡ Some n → (word ≡ decimal n) × (n < 2 ^ 32)
unfolding number_in
number_in_spells word n e =
    let value = digits_value 10 word in
    let g = cond_some (bytes_eq word (decimal value) && ltb value (2 ^ 32)) value n e in
    let tests = and_parts (bytes_eq word (decimal value)) (ltb value (2 ^ 32)) g.0 in
    let spelled : word ≡ decimal value = (bytes_eq-Decides word (decimal value)).0 tests.0 in
    (spelled ∙ ap decimal g.1, subst (λ (m : ℕ). m < 2 ^ 32) g.1 (ltb-true value (2 ^ 32) tests.1))

none_from_no_some : (o : Option ℕ) → ((n : ℕ) → o ≡ Some n → ⊥) → o ≡ None
none_from_no_some None h = refl
none_from_no_some (Some n) h = absurd (h n refl)

-- where no number is spelled so, none is read
pub number_in_none : (word : List ℕ) → ((n : ℕ) → n < 2 ^ 32 → word ≡ decimal n → ⊥) → number_in word ≡ None
number_in_none word none = none_from_no_some (number_in word) (λ n e. let h = number_in_spells word n e in none n h.1 h.0)

-- ---- digits, one after the other

-- one more digit of a word
pub one_digit_more : (word : List ℕ) (i n : ℕ) → i < length word → AllDigits 10 (take i word) → n ≡ digits_value 10 (take i word)
    → digit_value (get_or word i 0) < 10
    → AllDigits 10 (take (i + 1) word) × (n * 10 + digit_value (get_or word i 0) ≡ digits_value 10 (take (i + 1) word))
one_digit_more word i n l all value digit =
    (digits_more 10 word i l all digit, ap (λ (m : ℕ). m * 10 + digit_value (get_or word i 0)) value ∙ sym (digits_value_more 10 word i l))

digit_below : (word : List ℕ) (i : ℕ) → AllDigits 10 word → i < length word → digit_value (get_or word i 0) < 10
digit_below [] i all l = absurd (omega (arith, l))
digit_below (c ∷ cs) zero all l = all.0
digit_below (c ∷ cs) (suc i) all l = digit_below cs i all.1 (omega (arith, l))

-- a byte that is no digit
pub no_digit_at : (word : List ℕ) (i : ℕ) → i < length word → (digit_value (get_or word i 0) < 10 → ⊥) → AllDigits 10 word → ⊥
no_digit_at word i l none all = none (digit_below word i all l)

-- the digits so far have no room
pub too_large_at : (word : List ℕ) (i n : ℕ) → i < length word → n ≡ digits_value 10 (take i word) → 2 ^ 32 ≤ n * 10 + digit_value (get_or word i 0)
    → 2 ^ 32 ≤ digits_value 10 word
too_large_at word i n l value large =
    let more : n * 10 + digit_value (get_or word i 0) ≡ digits_value 10 (take (i + 1) word) = ap (λ (m : ℕ). m * 10 + digit_value (get_or word i 0)) value ∙ sym (digits_value_more 10 word i l) in
    omega (arith, large, more, digits_value-take-le 10 word (i + 1) (omega arith))

-- ---- why a word spells no number

pub digits : (n : ℕ) → n < 2 ^ 32 → AllDigits 10 (decimal n)
digits n lt = digits_decimal own n (omega arith)

pub no_number_empty : (word : List ℕ) → slice_get word 0 ≡ None → number_in word ≡ None
no_number_empty [] h = number_in_none [] (λ n lt e. absurd (omega (arith, decimal_nonempty n (omega arith), ap (λ (xs : List ℕ). length xs) e)))
no_number_empty (b ∷ bs) h = absurd cc

not_after_zero : (b : ℕ) (bs : List ℕ) (n : ℕ) → b ≡ 48 → 1 < length (b ∷ bs) → n < 2 ^ 32 → ◌≡◌ {A = List ℕ} (b ∷ bs) (decimal n) → ⊥
not_after_zero b bs zero is long lt e = absurd (omega (arith, long, ap (λ (xs : List ℕ). length xs) (e ∙ decimal_digit 0 (omega arith))))
not_after_zero b bs (suc n) is long lt e = absurd (omega (arith, is, first_decimal (suc n) (omega arith) (omega arith), ap (λ (xs : List ℕ). get_or xs 0 0) e))

pub no_number_zero : (word : List ℕ) → slice_get word 0 ≡ Some 48 → 1 < length word → number_in word ≡ None
no_number_zero [] h long = absurd cc
no_number_zero (b ∷ bs) h long = number_in_none (b ∷ bs) (λ n lt e. not_after_zero b bs n (same_Some b 48 h) long lt e)

-- the digits of a word, where it begins as a number does
pub number_from_digits : (word : List ℕ) (first : ℕ) (r : Option ℕ) → slice_get word 0 ≡ Some first → (first ≡ 48 → length word ≤ 1)
    → IfSome r (λ n. n < 2 ^ 32) → IfSome r (λ _. AllDigits 10 word) → IfSome r (λ n. n ≡ digits_value 10 word)
    → IfNone r (AllDigits 10 word → 2 ^ 32 ≤ digits_value 10 word) → r ≡ number_in word
number_from_digits word first (Some n) at no_zero small all value none =
    let head : get_or word 0 0 ≡ first = get_or_from_slice_get word 0 first 0 at in
    let some : 0 < length word = slice_get_within word 0 first at in
    let spelled : decimal (digits_value 10 word) ≡ word = decimal-digits_value own word all some (λ e. omega (arith, some, no_zero (sym head ∙ e))) (omega (arith, value, small)) in
    sym (number_in_is word n small (sym spelled ∙ ap decimal (sym value)))
number_from_digits word first None at no_zero small all value none =
    sym (number_in_none word (λ n lt e.
    let spelled : digits_value 10 word ≡ n = ap (digits_value 10) e ∙ digits_value-decimal own n (omega arith) in
    omega (arith, lt, spelled, none (subst (AllDigits 10) (sym e) (digits n lt)))))

-- ---- text

-- the text that `from_utf8` gives, and why it gives none
pub text_is : {E : Type 0} (U : Type 0) (Q : E → Type 0) (word : List ℕ) (r : Result (Bor (List ℕ)) E) (s : Bor (List ℕ))
    → MatchResult r (λ t. (t.now ≡ word) × U) Q → Some s ≡ result_ok r → s.now ≡ word
text_is U Q word (Ok t) s h e = ap (λ (o : Option (Bor (List ℕ))). option_map_or (λ x. x.now) o word) e ∙ h.0
text_is U Q word (Err d) s h e = absurd cc

pub text_given : {E : Type 0} (U : Type 0) (Q : E → Type 0) (word : List ℕ) (r : Result (Bor (List ℕ)) E)
    → MatchResult r (λ t. (t.now ≡ word) × U) (λ e. (U → ⊥) × Q e) → U → option_map (λ s. s.now) (result_ok r) ≡ Some word
text_given U Q word (Ok t) h u = ap (λ (x : List ℕ). Some x) h.0
text_given U Q word (Err d) h u = absurd (h.0 u)
