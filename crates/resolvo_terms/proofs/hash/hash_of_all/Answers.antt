use Rattle.std.proofs.Common.{◌≡◌, ◌<◌, ◌≤◌, ◌+◌, ◌-◌, ◌*◌, ◌/◌, ℕ, suc, List, length, refl, sym, ap, ◌∙◌, arith}
use Rattle.resolvo_terms.specs.Hash.{eight_at, eights_hash, last_of, mix, numbers_hash}
use Rattle.resolvo_terms.proofs.hash.hash_of_all.Goals as goal

-- eight bytes more
step : (bytes : List ℕ) (eights eight hash new : ℕ) → eight < eights → new ≡ mix hash (eight_at bytes (eight * 8))
    → eights_hash bytes (eights - (eight + 1)) ((eight + 1) * 8) new ≡ eights_hash bytes (eights - eight) (eight * 8) hash
step bytes eights eight hash new less is =
    let more : eights - eight ≡ suc (eights - (eight + 1)) = omega (arith, less) in
    let at : (eight + 1) * 8 ≡ eight * 8 + 8 = omega arith in
    rw (is, more, at) refl

pub loop-eight-preserved : goal.loop-eight-preserved
loop-eight-preserved c =
    let bytes = c.args.bytes.now in
    step bytes (length bytes / 8) c.loop-eight.eight c.loop-eight.hash c.mixed-hash.result c.loop-eight-test.true (c.mixed-hash.ensures ∙ ap (mix c.loop-eight.hash) c.eight_at.ensures) ∙ c.loop-eight.invariant

-- no bytes are left for the loop
finished : (bytes : List ℕ) (eights eight hash : ℕ) → eights ≤ eight → eights_hash bytes (eights - eight) (eight * 8) hash ≡ hash
finished bytes eights eight hash past =
    let none : eights - eight ≡ 0 = omega (arith, past) in
    ap (λ (n : ℕ). eights_hash bytes n (eight * 8) hash) none

pub returns : goal.returns
unfolding numbers_hash
returns c =
    let bytes = c.args.bytes.now in
    let all = sym (finished bytes (length bytes / 8) c.loop-eight.eight c.loop-eight.hash c.loop-eight-test.false) ∙ c.loop-eight.invariant in
    c.mixed.ensures ∙ ap (λ (h : ℕ). mix h (length bytes)) (c.mixed-whole.ensures ∙ (ap (mix c.loop-eight.hash) c.last_of.ensures ∙ ap (λ (h : ℕ). mix h (last_of bytes)) all))
