use Rattle.std.proofs.Common.{◌+◌, ◌*◌, ◌/◌, ◌%◌, inl, inr, ap, sym, ◌∙◌, arith}
use Rattle.std.specs.Int.{bit_at}
use Rattle.std.proofs.lemmas.Bool.{cases_lt}
use Rattle.resolvo_decide.proofs.MarkLemmas.{in_both, in_both_words}
use Rattle.resolvo_decide.proofs.clause_states.first_warm.Goals as goal

pub returns-then-place-lt-BLOCK-clause-passed : goal.returns-then-place-lt-BLOCK-clause-passed
returns-then-place-lt-BLOCK-clause-passed c = λ i above below.
    let place = c.first_bit-place.ensures in
    in_both c.args.marks.now c.args.warm.now (c.args.from / 64) (c.args.from % 64) c.first_bit-place.result i (λ j up down. ap (λ w. bit_at w j) (sym c.warm_word.ensures) ∙ place.passed j up down)
    place.within (omega arith) (omega (arith, below, c.min.ensures))

pub returns-clause-passed : goal.returns-clause-passed
returns-clause-passed c = λ i above below.
    let ms = c.args.marks.now in
    let ws = c.args.warm.now in
    let from = c.args.from in
    let found = c.first_warm_word-found.result in
    let place = c.first_bit-place.ensures in
    let words = c.first_warm_word-found.ensures in
    let last = c.first_bit.ensures in
    elim (cases_lt i ((from / 64 + 1) * 64)) [
      | inl front ↦ in_both ms ws (from / 64) (from % 64) c.first_bit-place.result i (λ j up down. ap (λ w. bit_at w j) (sym c.warm_word.ensures) ∙ place.passed j up down)
          place.within (omega arith) (omega (arith, front, c.if-place-lt-BLOCK.false))
      | inr behind ↦ elim (cases_lt i (found * 64)) [
        | inl between ↦ in_both_words ms ws (from / 64 + 1) found i words.passed behind between
        | inr end ↦ in_both ms ws found 0 c.first_bit.result i (λ j up down. ap (λ w. bit_at w j) (sym c.warm_word-2.ensures) ∙ last.passed j up down)
            last.within (omega (arith, end)) (omega (arith, below, c.min-2.ensures))
      ]
    ]
