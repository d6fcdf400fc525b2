-- Literals and numbers, one after the other, and the order of literals.
use Rattle.std.proofs.Common.{◌≡◌, ℕ, List, [], ◌∷◌, ◌++◌, ◌+◌, ◌<◌, ◌≤◌, Bool, true, false, cond, length, Option, Some, None, All, refl, sym, ◌∙◌, arith}
use Rattle.std.specs.List.{slice_split, position, position_or_len}
use Rattle.std.proofs.lemmas.List.Splits.{slice_split_none}
use Rattle.std.proofs.lemmas.List.Sums.{fails_before_first}
use Rattle.std.proofs.lemmas.Bool.{ltb-false}
use Rattle.resolvo_text.specs.Parse.{◌>>=◌}
use Rattle.resolvo_report.specs.Value.{Literal}
use Rattle.resolvo_report.specs.Parse.{is_semicolon, numbers_in}
use Rattle.resolvo_text.specs.declared.line.LineFault.{LineFault}
use Rattle.resolvo_text.specs.declared.line.LineFault.TheVariants.{Fault, Memory}
use Rattle.resolvo_text.specs.Parse.{Fails, word_at, end_at, number_in, words_in}
use Rattle.resolvo_text.proofs.WordLemmas.{not_at_end}
use Rattle.resolvo_text.specs.Spelling.{Words}

-- the elements read so far, and the rest
abbrev pub with_literals : List Literal → Option (List Literal) → Option (List Literal)
with_literals prefix read = read >>= λ ls. Some (prefix ++ ls)

abbrev pub with_numbers : List ℕ → Option (List ℕ) → Option (List ℕ)
with_numbers prefix read = read >>= λ ns. Some (prefix ++ ns)

-- ---- numbers

pub no_number : (e : LineFault) (prefix : List ℕ) (w : List ℕ) (ws : Words) (total : Option (List ℕ)) → with_numbers prefix (numbers_in (w ∷ ws)) ≡ total → Fails e (number_in w) → Fails e total
no_number Memory prefix w ws total so_far h = tt
no_number Fault prefix w ws total so_far h = sym so_far ∙ rw h refl

-- bytes that are left have a word
pub no_word : (e : LineFault) (rest : List ℕ) (total : Option (List ℕ)) → 0 < length rest → Fails e (word_at (words_in rest)) → Fails e total
no_word Memory rest total some h = tt
no_word Fault rest total some h = absurd (none (words_in rest) (not_at_end rest some) h)
  where
    none : (words : Words) → end_at words ≡ None → word_at words ≡ None → ⊥
    none [] e h = cc
    none (w ∷ ws) e h = cc

-- ---- pieces

none_from_test : (b : Bool) (n : ℕ) → cond b (Some n) None ≡ None → b ≡ false
none_from_test true n e = absurd cc
none_from_test false n e = refl

-- a text without semicolons is one piece
pub only_piece : (text : List ℕ) → position is_semicolon text ≡ None → slice_split is_semicolon text ≡ text ∷ []
only_piece text e =
    let long : length text ≤ position_or_len is_semicolon text = ltb-false _ _ (none_from_test _ _ e) in
    let each : All (λ x. is_semicolon x ≡ false) text = λ k d lt. fails_before_first is_semicolon text k d (omega arith) in
    slice_split_none is_semicolon text each
