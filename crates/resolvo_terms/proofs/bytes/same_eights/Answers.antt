use Rattle.std.proofs.Common.{◌∙◌, ◌*◌, ◌-◌, ℕ, length, ap, arith}
use Rattle.std.proofs.Math.Facts.{Fits-lt-pow}
use Rattle.std.specs.Prelude.{nat_eq}
use Rattle.resolvo_terms.specs.Hash.{eight_at}
use Rattle.resolvo_terms.proofs.BytesLemmas.{eights_decide}
use Rattle.resolvo_terms.proofs.bytes.same_eights.Goals as goal

pub returns : goal.returns
returns c =
    let first = c.args.first.now in
    let other = c.args.other.now in
    let last = length first - 8 in
    ap (λ (n : ℕ). nat_eq n c.eight_at-3.result) c.eight_at-2.ensures ∙ (ap (λ (n : ℕ). nat_eq (eight_at first last) n) c.eight_at-3.ensures
    ∙ eights_decide first other (λ i. Fits-lt-pow (c.type_inv.first i)) (λ i. Fits-lt-pow (c.type_inv.other i)) last (c.loop-eight.eight * 8) c.requires.same (omega (arith, c.requires.long)) (omega (arith, c.loop-eight-test.false)) c.loop-eight.invariant)
