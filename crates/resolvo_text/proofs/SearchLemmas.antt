-- The first newline, as the search for a byte finds it.
use Rattle.std.proofs.Common.{◌≡◌, ℕ, Bool, cond, List, length, Option, Some, None, sym, ap, ◌∙◌, arith}
use Rattle.std.specs.List.{position, position_or_len}
use Rattle.std.proofs.lemmas.List.Sums.{position_or_len_is}
use Rattle.std.proofs.lemmas.Bool.{lt-ltb, le-ltb, false_from_ne_true}
use Rattle.memchr.specs.Find.{IsFirstByte, is_byte}
use Rattle.resolvo_text.specs.Lines.{is_newline}

pub is_position : (bytes : List ℕ) (found : Option ℕ) → IsFirstByte (is_byte 10) bytes found → found ≡ position is_newline bytes
is_position bytes None h =
    let at = position_or_len is_newline bytes in
    let over : at ≡ length bytes = position_or_len_is is_newline bytes (length bytes) 0 (omega arith) (λ k lt. false_from_ne_true _ (h k (omega arith) lt)) (λ lt. absurd (omega arith)) in
    sym (ap (λ (b : Bool). cond b (Some at) None) (le-ltb at (length bytes) (omega (arith, over))))
is_position bytes (Some k) h =
    let at = position_or_len is_newline bytes in
    let first : at ≡ k = position_or_len_is is_newline bytes k 0 (omega (arith, h.0.high)) (λ j lt. false_from_ne_true _ (h.0.before j (omega arith) lt)) (λ lt. h.1) in
    sym (ap (λ (b : Bool). cond b (Some at) None) (lt-ltb at (length bytes) (omega (arith, first, h.0.high))) ∙ ap (λ (n : ℕ). Some n) first)
