use Rattle.std.proofs.Common.{◌∙◌, ap, length}
use Rattle.resolvo_graph.specs.Links.{is_at, link_on, links_of, newest_of}
use Rattle.resolvo_graph.proofs.graph.ConflictGraph.newest_at.Goals as goal

pub returns : goal.returns
returns g c = c.newest_on.ensures ∙ ap (λ ls. link_on c.args.side (links_of ls c.args.node.0)) c.deref.ensures.value ∙ c.self.invariant.2.newest_are c.args.side c.args.node.0 ∙ ap (λ v. newest_of (is_at c.args.side c.args.node) v.edges (length v.edges)) c.self.view_is
