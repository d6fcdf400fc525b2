use Rattle.std.proofs.Common.{◌++◌, ap, refl}
use Rattle.std.specs.Prelude.{codes}
use Rattle.std.proofs.lemmas.Grind.{put_three}
use Rattle.resolvo_graph.proofs.display_line.DisplayLine.write_set.Goals as goal

pub returns : goal.returns
returns g c plain ok =
    let i = c.args.self.now.interner.now in
    let name = c.in_ok-display_name.ensures plain refl in
    let space = c.in_ok-write_str.ensures.writes name.plain refl in
    put_three g.W.Write.write_str_gives _ _ _ _ _ _ _ _ name space (c.display_version_set.ensures space.plain ok)
    (ap (λ n. g.I.Interner.name_text i n ++ (codes " " ++ g.I.Interner.version_set_text i c.args.version_set)) c.version_set_name-name.ensures)
