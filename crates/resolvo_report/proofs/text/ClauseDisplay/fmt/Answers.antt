use Rattle.std.proofs.Common.{◌≡◌, rules, codes, ◌+◌, ◌++◌, ◌∷◌, [], take, List, ℕ, ap, sym, ◌∙◌, arith, append_assoc}
use Rattle.std.proofs.lemmas.List.{take_all, take_more}
use Rattle.std.proofs.lemmas.Grind.{put_two, put_three}
use Rattle.resolvo_report.specs.Text.{clause_text, literal_text}
use Rattle.resolvo_report.specs.View.{literal_of, literals_of}
use Rattle.resolvo_report.specs.Pieces.{parted}
use Rattle.resolvo_report.proofs.TextLemmas.{clause_parted, parted_push}
use Rattle.resolvo_report.proofs.text.ClauseDisplay.fmt.Goals as goal

pub returns-clause-writes : goal.returns-clause-writes
returns-clause-writes g c = λ plain ok.
    let h1 = c.in_ok-write.ensures.writes plain (search rules) in
    let h2 = c.loop-literal.invariant h1.plain in
    let h3 = c.write-3.ensures.writes h2.plain ok in
    let text_is = ap (λ ls. clause_text (literals_of ls)) c.in-Some.ensures.cases.0 ∙ clause_parted c.in-Some.first.now c.in-Some.others.now in
    let first : List ℕ = codes "[" ++ literal_text (literal_of c.in-Some.first.now) in
    let all : take c.loop-literal.literal-index c.in-Some.others.now ≡ c.in-Some.others.now = take_all _ _ (omega (arith, c.loop-literal-test.false)) in
    put_three _ _ _ _ _ (codes "[" ++ literal_text (literal_of c.in-Some.first.now)) (parted (take c.loop-literal.literal-index c.in-Some.others.now)) (codes "]") _ h1 h2 h3 (ap (λ ls. first ++ (parted ls ++ codes "]")) all ∙ sym (append_assoc first (parted c.in-Some.others.now) (codes "]")) ∙ sym text_is)

pub loop-literal-preserved : goal.loop-literal-preserved
loop-literal-preserved g c = λ plain.
    let xs = c.in-Some.others.now in
    let k = c.loop-literal.literal-index in
    let l = c.literal-item.result in
    let h1 = c.loop-literal.invariant plain in
    let h2 = c.in_ok-write-2.ensures.writes h1.plain (search rules) in
    let more : take (k + 1) xs ≡ take k xs ++ l ∷ [] = take_more xs k l c.loop-literal-test.true ∙ ap (λ x. take k xs ++ x ∷ []) (sym c.literal-item.is) in
    put_two _ _ _ _ _ _ _ h1 h2 (parted_push (take k xs) l ∙ sym (ap parted more))
