use Rattle.std.proofs.Common.{ℕ, Some, sym, ap, ◌∙◌, arith}
use Rattle.resolvo_text.proofs.NumberLemmas.{no_number_empty, no_number_zero, number_from_digits}
use Rattle.resolvo_text.proofs.words.number_in.Goals as goal

pub returns-in_err-first : goal.returns-in_err-first
returns-in_err-first c = c.from_residual.ensures ∙ sym (no_number_empty c.args.word.now (sym c.in_err-first.ensures.value))

pub returns-then-word-gt1 : goal.returns-then-word-gt1
returns-then-word-gt1 c = sym (no_number_zero c.args.word.now (sym c.in_ok-first.ensures.value ∙ ap (λ (n : ℕ). Some n) c.if-first-eq48.true) c.if-word-gt1.true)

pub returns : goal.returns
returns c = number_from_digits c.args.word.now c.in_ok-first.field-0.now c.digits_in.result (sym c.in_ok-first.ensures.value) (λ zero. grind arith) c.digits_in.ensures.small c.digits_in.ensures.digits c.digits_in.ensures.value c.digits_in.ensures.none
