use Rattle.std.proofs.Common.{refl}
use Rattle.std.proofs.lemmas.Grind.{put_three}
use Rattle.resolvo_graph.proofs.display_line.DisplayLine.write_constraint.Goals as goal

pub returns : goal.returns
returns g c plain ok =
    let before = c.in_ok-write_str.ensures.writes plain refl in
    let set = c.in_ok-write_set.ensures before.plain refl in
    put_three g.W.Write.write_str_gives _ _ _ _ _ _ _ _ before set (c.write_str-2.ensures.writes set.plain ok) refl
