-- Bytes without a newline.
use Rattle.std.proofs.Common.{◌≡◌, ℕ, suc, ◌<◌, Bool, true, false, List, [], ◌∷◌, length, get_or, Option, Some, None, refl, ap, arith}
use Rattle.std.specs.Prelude.{◌&&◌, not}
use Rattle.std.specs.List.{list_all}
use Rattle.std.proofs.lemmas.Bool.{false_from_ne_true}
use Rattle.memchr.specs.Find.{IsFirstByte, is_byte}
use Rattle.resolvo_text.specs.Lines.{is_newline}
use Rattle.resolve_answer.specs.Message.{IsPlain}

both : (x y : Bool) → x ≡ true → y ≡ true → (x && y) ≡ true
both true y h k = k
both false y h k = cc

all_plain : (bytes : List ℕ) → ((k : ℕ) → k < length bytes → is_newline (get_or bytes k 0) ≡ false) → IsPlain bytes
all_plain [] h = refl
all_plain (b ∷ bytes) h = both (not (is_newline b)) (list_all (λ x. not (is_newline x)) bytes) (ap not (h 0 (omega arith))) (all_plain bytes (λ k lt. h (suc k) (omega arith)))

-- no newline is found
pub plain_if_none : (bytes : List ℕ) (found : Option ℕ) → IsFirstByte (is_byte 10) bytes found → found ≡ None → IsPlain bytes
plain_if_none bytes None h is = all_plain bytes (λ k lt. false_from_ne_true _ (h k (omega arith) lt))
plain_if_none bytes (Some k) h is = cc
