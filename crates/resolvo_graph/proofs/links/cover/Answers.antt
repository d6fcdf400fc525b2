use Rattle.std.proofs.Common.{◌∙◌, ap}
use Rattle.resolvo_graph.specs.Links.{links_of}
use Rattle.resolvo_graph.proofs.LinkLemmas.{links_of-push}
use Rattle.resolvo_graph.proofs.links.cover.Goals as goal

pub loop-newest-preserved : goal.loop-newest-preserved
loop-newest-preserved c = λ n. ap (λ ls. links_of ls n) c.in_ok-push.ensures.items ∙ links_of-push c.loop-newest.newest.items n ∙ c.loop-newest.invariant n
