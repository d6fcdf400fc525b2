use Rattle.std.proofs.Common.{◌++◌, ap, refl}
use Rattle.std.specs.Prelude.{replicate}
use Rattle.std.specs.List.{flat_map}
use Rattle.std.proofs.lemmas.Grind.{put_two}
use Rattle.resolvo_graph.specs.Indent.{sign_above}
use Rattle.resolvo_graph.proofs.indenter.Stretch.write_above.Goals as goal

pub returns : goal.returns
returns g c plain ok =
    let first = c.in_ok-write_str.ensures.writes plain refl in
    put_two g.W.Write.write_str_gives _ _ _ _ _ _ first (c.write_each.ensures first.plain ok)
    (ap (λ xs. xs ++ flat_map sign_above (replicate c.args.self.more c.args.self.order)) c.sign_above.ensures)
