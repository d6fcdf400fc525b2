use Rattle.std.proofs.Common.{◌≡◌, ◌++◌, ◌∷◌, [], take, refl, sym, ap, ◌∙◌, arith}
use Rattle.std.specs.List.{flat_map}
use Rattle.std.proofs.lemmas.Grind.{put_two}
use Rattle.std.proofs.lemmas.List.{take_all}
use Rattle.resolvo_graph.specs.Indent.{levels_in, signs, shown_levels, sign_above}
use Rattle.resolvo_graph.proofs.IndentLemmas.{signs_of_stretches}
use Rattle.resolvo_graph.proofs.ListLemmas.{flat_more}
use Rattle.resolvo_graph.proofs.indenter.IndenterDisplay.fmt.Goals as goal

pub loop-stretch-preserved : goal.loop-stretch-preserved
loop-stretch-preserved g c plain =
    let before = c.loop-stretch.invariant plain in
    put_two g.W.Write.write_str_gives _ _ _ _ _ _ before (c.in_ok-write_above.ensures before.plain refl) (flat_more _ _ _ _ c.loop-stretch-test.true refl (λ s. flat_map sign_above (levels_in s)))

pub returns-clause-writes : goal.returns-clause-writes
returns-clause-writes g c plain ok =
    let above = c.loop-stretch.invariant plain in
    let all : take c.loop-stretch.stretch-index c.in-Some.above.now ≡ c.in-Some.above.now = take_all c.loop-stretch.stretch-index c.in-Some.above.now (omega arith) in
    let levels : shown_levels c.args.self.now ≡ flat_map levels_in (c.in-Some.above.now ++ c.in-Some.last.now ∷ []) = sym c.shown.ensures ∙ ap (flat_map levels_in) c.in-Some.ensures.cases.0 in
    put_two g.W.Write.write_str_gives _ _ _ _ _ _ above (c.write_last.ensures above.plain ok)
    (ap (λ xs. flat_map (λ s. flat_map sign_above (levels_in s)) xs ++ signs (levels_in c.in-Some.last.now)) all ∙ sym (ap signs levels ∙ signs_of_stretches c.in-Some.above.now c.in-Some.last.now))
