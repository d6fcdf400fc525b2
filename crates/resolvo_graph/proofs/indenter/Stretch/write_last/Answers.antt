use Rattle.std.proofs.Common.{◌++◌, ◌∙◌, ap, refl}
use Rattle.std.specs.Prelude.{replicate}
use Rattle.std.specs.List.{flat_map}
use Rattle.std.proofs.lemmas.Grind.{put_two}
use Rattle.resolvo_graph.specs.Indent.{sign_above}
use Rattle.resolvo_graph.proofs.IndentLemmas.{signs_same}
use Rattle.resolvo_graph.proofs.indenter.Stretch.write_last.Goals as goal

pub returns : goal.returns
returns g c plain ok =
    let each = c.in_ok-write_each.ensures plain refl in
    put_two g.W.Write.write_str_gives _ _ _ _ _ _ each (c.write_str.ensures.writes each.plain ok)
    (ap (λ xs. flat_map sign_above (replicate c.args.self.more c.args.self.order) ++ xs) c.sign.ensures ∙ signs_same c.args.self.more c.args.self.order)
