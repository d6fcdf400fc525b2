use Rattle.std.proofs.Common.{◌∙◌, ◌-◌, ℕ, length, ap, sym, arith}
use Rattle.std.proofs.Math.Facts.{Fits-lt-pow}
use Rattle.std.specs.Prelude.{nat_eq}
use Rattle.resolvo_terms.specs.Hash.{four_at}
use Rattle.resolvo_terms.proofs.BytesLemmas.{fours_decide}
use Rattle.resolvo_terms.proofs.bytes.same_fours.Goals as goal

pub returns : goal.returns
returns c =
    let first = c.args.first.now in
    let other = c.args.other.now in
    let last = length first - 4 in
    ap (λ (n : ℕ). nat_eq n c.four_at-4.result) c.four_at-3.ensures.number ∙ (ap (λ (n : ℕ). nat_eq (four_at first last) n) c.four_at-4.ensures.number
    ∙ fours_decide first other (λ i. Fits-lt-pow (c.type_inv.first i)) (λ i. Fits-lt-pow (c.type_inv.other i)) last c.requires.same (omega (arith, c.requires.long)) (omega (arith, c.requires.short)) (sym c.four_at.ensures.number ∙ (c.if-four_at.false ∙ c.four_at-2.ensures.number)))
