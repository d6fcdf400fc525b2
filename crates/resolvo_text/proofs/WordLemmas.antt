-- The words of a line, one word at a time.
use Rattle.std.proofs.Common.{◌≡◌, ℕ, ◌+◌, ◌-◌, ◌<◌, ◌≤◌, Bool, true, false, cond, List, [], ◌∷◌, ◌++◌, length, get_or, take, drop, Some, None, All, refl, sym, ap, ◌∙◌, arith}
use Rattle.std.specs.List.{slice_split, position, position_or_len}
use Rattle.std.proofs.lemmas.List.{take-append-drop, drop_more, get_or-take, length-take, take_rest, drop_all, get_or_default}
use Rattle.std.proofs.lemmas.List.Splits.{slice_split_at, slice_split_none, length-slice_split}
use Rattle.std.proofs.lemmas.List.Quantifiers.{position-Some}
use Rattle.std.proofs.lemmas.List.Sums.{fails_before_first}
use Rattle.std.proofs.lemmas.Bool.{ltb-false}
use Rattle.resolvo_text.specs.Spelling.{Words}
use Rattle.resolvo_text.specs.Parse.{is_space, words_in, end_at}

some_word : (words : Words) → 0 < length words → end_at words ≡ None
some_word [] lt = absurd (omega arith)
some_word (word ∷ words) lt = refl

-- the rest of a line has a word, unless it is empty
pub not_at_end : (rest : List ℕ) → 0 < length rest → end_at (words_in rest) ≡ None
not_at_end [] lt = absurd (omega arith)
not_at_end (b ∷ bs) lt = some_word (slice_split is_space bs) (omega (arith, length-slice_split is_space bs))

pub first_word_ends : (text : List ℕ) (end : ℕ) → position is_space text ≡ Some end → slice_split is_space text ≡ take end text ∷ words_in (take (length text - end) (drop end text))
first_word_ends text end e =
    let at = position-Some is_space text end 0 e in
    let next : drop end text ≡ get_or text end 0 ∷ drop (end + 1) text = drop_more text end 0 at.0 in
    let parts : text ≡ take end text ++ (get_or text end 0 ∷ drop (end + 1) text) = sym (take-append-drop end text) ∙ ap (λ (xs : List ℕ). take end text ++ xs) next in
    let each : All (λ x. is_space x ≡ false) (take end text) = λ k d lt.
    let below : (k < end) × (k < length text) = (omega (arith, length-take end text), omega (arith, length-take end text)) in
    rw (get_or-take end text k d below.0, get_or_default text k d 0 below.1) (at.2 k below.0) in
    let split : slice_split is_space text ≡ take end text ∷ slice_split is_space (drop (end + 1) text) = ap (slice_split is_space) parts ∙ slice_split_at is_space (take end text) (get_or text end 0) (drop (end + 1) text) each at.1 in
    let rest : words_in (take (length text - end) (drop end text)) ≡ slice_split is_space (drop (end + 1) text) = ap words_in (take_rest text end ∙ next) in
    split ∙ ap (λ (ws : Words). take end text ∷ ws) (sym rest)

none_from_test : (b : Bool) (n : ℕ) → cond b (Some n) None ≡ None → b ≡ false
none_from_test true n e = absurd cc
none_from_test false n e = refl

pub only_word : (text : List ℕ) → position is_space text ≡ None → slice_split is_space text ≡ text ∷ words_in (take (length text - length text) (drop (length text) text))
only_word text e =
    let long : length text ≤ position_or_len is_space text = ltb-false _ _ (none_from_test _ _ e) in
    let each : All (λ x. is_space x ≡ false) text = λ k d lt. fails_before_first is_space text k d (omega arith) in
    let rest : words_in (take (length text - length text) (drop (length text) text)) ≡ [] = ap words_in (take_rest text (length text) ∙ drop_all (length text) text (omega arith)) in
    slice_split_none is_space text each ∙ ap (λ (ws : Words). text ∷ ws) (sym rest)
