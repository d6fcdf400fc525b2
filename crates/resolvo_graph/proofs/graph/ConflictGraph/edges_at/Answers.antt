use Rattle.std.proofs.Common.{ap, sym, reverse}
use Rattle.resolvo_graph.specs.Links.{is_at}
use Rattle.resolvo_graph.proofs.LinkLemmas.{from_newest}
use Rattle.resolvo_graph.proofs.graph.ConflictGraph.edges_at.Goals as goal

pub invariant_of-result : goal.invariant_of-result
invariant_of-result g c = (from_newest (is_at {S = g.row.S.Denot} c.args.side c.args.node) c.args.self.now.edges c.newest_at.result c.newest_at.ensures).1

pub returns : goal.returns
returns g c = ap reverse (sym (from_newest (is_at {S = g.row.S.Denot} c.args.side c.args.node) c.args.self.now.edges c.newest_at.result c.newest_at.ensures).0)
