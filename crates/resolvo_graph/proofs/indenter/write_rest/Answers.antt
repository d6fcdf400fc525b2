use Rattle.std.proofs.Common.{◌++◌, ◌∙◌, ap, refl}
use Rattle.std.specs.Prelude.{replicate}
use Rattle.std.specs.List.{flat_map}
use Rattle.std.proofs.lemmas.Grind.{put_two}
use Rattle.resolvo_graph.specs.Indent.{sign_above}
use Rattle.resolvo_graph.proofs.IndentLemmas.{one_sign_more}
use Rattle.resolvo_graph.proofs.indenter.write_rest.Goals as goal

pub loop-preserved : goal.loop-preserved
loop-preserved g c plain =
    let before = c.loop.invariant plain in
    put_two g.W.Write.write_str_gives _ _ _ _ _ _ before (c.in_ok-write_str.ensures.writes before.plain refl)
    (ap (λ xs. flat_map sign_above (replicate c.loop.counter c.args.order) ++ xs) c.sign_above.ensures ∙ one_sign_more c.loop.counter c.args.order)
