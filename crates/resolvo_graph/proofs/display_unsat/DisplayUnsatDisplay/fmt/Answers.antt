use Rattle.std.proofs.Common.{◌∙◌, refl, subst}
use Rattle.std.specs.Fmt.{HasWritten}
use Rattle.std.specs.List.{flat_map}
use Rattle.std.proofs.lemmas.Grind.{put_two}
use Rattle.std.proofs.lemmas.List.{take_all}
use Rattle.resolvo_pool_core.proofs.Texts.{wrote_nothing}
use Rattle.resolvo_graph.specs.Words.{meaning_by, line_text}
use Rattle.resolvo_graph.proofs.ListLemmas.{flat_more}
use Rattle.resolvo_graph.proofs.display_unsat.DisplayUnsatDisplay.fmt.Goals as goal

pub loop-line-init : goal.loop-line-init
loop-line-init g c plain = wrote_nothing g.W.Write.write_str_gives c.args.f.now plain

pub loop-line-preserved : goal.loop-line-preserved
loop-line-preserved g c plain =
    let before = c.loop-line.invariant plain in
    put_two g.W.Write.write_str_gives _ _ _ _ _ _ before (c.in_ok-write.ensures.writes before.plain refl) (flat_more _ _ _ _ c.loop-line-test.true c.line-item.is (line_text (meaning_by g.I.Interner c.args.self.now.interner.now)))

pub returns-clause-writes : goal.returns-clause-writes
returns-clause-writes g c plain ok =
    let m = meaning_by g.I.Interner c.args.self.now.interner.now in
    subst (λ ls. HasWritten g.W.Write.write_str_gives c.args.f.now (flat_map (line_text m) ls) c.loop-line.f) (take_all c.loop-line.line-index c.deref-line-items.result.now c.loop-line-test.false ∙ c.deref-line-items.ensures.value) (c.loop-line.invariant plain)
