use Rattle.std.proofs.Common.{refl}
use Rattle.std.proofs.lemmas.Grind.{put_two}
use Rattle.resolvo_graph.proofs.display_line.DisplayLine.write_admitted.Goals as goal

pub returns : goal.returns
returns g c plain ok =
    let set = c.in_ok-write_set.ensures plain refl in
    put_two g.W.Write.write_str_gives _ _ _ _ _ _ set (c.write_str.ensures.writes set.plain ok) refl
