use Rattle.std.proofs.Common.{◌≡◌, rules, ◌+◌, ◌∷◌, [], ◌++◌, take, ap, sym, ◌∙◌, arith}
use Rattle.std.proofs.lemmas.List.{take_all, take_more}
use Rattle.std.specs.List.{join_with_byte}
use Rattle.std.proofs.lemmas.Grind.{put_two}
use Rattle.resolvo_text.specs.Spelling.{alternatives_words, spec_words}
use Rattle.resolvo_text.specs.View.{spec_of, specs_of}
use Rattle.resolvo_report.specs.Pieces.{spaced, with_bars}
use Rattle.resolvo_report.proofs.TextLemmas.{alternatives_spaced, bars_push}
use Rattle.resolvo_report.proofs.text.AlternativesDisplay.fmt.Goals as goal

pub returns-after-loop-spec-clause-writes : goal.returns-after-loop-spec-clause-writes
returns-after-loop-spec-clause-writes g c = λ plain ok.
    let h1 = c.in_ok-write.ensures.writes plain (search rules) in
    let h2 = c.loop-spec.invariant h1.plain in
    let text_is = ap (λ ss. spaced (alternatives_words (specs_of ss))) c.in-Some.ensures.cases.0 ∙ alternatives_spaced c.in-Some.spec.now c.in-Some.others.now in
    let all : take c.loop-spec.spec-index c.in-Some.others.now ≡ c.in-Some.others.now = take_all _ _ (omega (arith, c.loop-spec-test.false)) in
    put_two _ _ _ _ _ _ _ h1 h2 (ap (λ ss. 32 ∷ join_with_byte 32 (spec_words (spec_of c.in-Some.spec.now)) ++ with_bars ss) all ∙ sym text_is)

pub loop-spec-preserved : goal.loop-spec-preserved
loop-spec-preserved g c = λ plain.
    let xs = c.in-Some.others.now in
    let k = c.loop-spec.spec-index in
    let s = c.spec-item.result in
    let h1 = c.loop-spec.invariant plain in
    let h2 = c.in_ok-write-2.ensures.writes h1.plain (search rules) in
    let more : take (k + 1) xs ≡ take k xs ++ s ∷ [] = take_more xs k s c.loop-spec-test.true ∙ ap (λ x. take k xs ++ x ∷ []) (sym c.spec-item.is) in
    put_two _ _ _ _ _ _ _ h1 h2 (bars_push (take k xs) s ∙ sym (ap with_bars more))
