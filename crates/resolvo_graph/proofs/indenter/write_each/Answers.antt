use Rattle.std.proofs.Common.{refl}
use Rattle.std.proofs.lemmas.Grind.{put_two}
use Rattle.resolvo_graph.proofs.IndentLemmas.{by_sixteens}
use Rattle.resolvo_graph.proofs.indenter.write_each.Goals as goal

pub returns : goal.returns
returns g c plain ok =
    let sixteens = c.in_ok-write_sixteens.ensures plain refl in
    put_two g.W.Write.write_str_gives _ _ _ _ _ _ sixteens (c.write_rest.ensures sixteens.plain ok) (by_sixteens c.args.count c.args.order)
