use Rattle.std.proofs.Common.{◌∙◌, ap}
use Rattle.std.specs.List.{dedup}
use Rattle.std.proofs.lemmas.List.Filters.{dedup_is}
use Rattle.resolvo_graph.specs.Tree.{same_set}
use Rattle.resolvo_graph.proofs.tree.admitted.Goals as goal

pub returns-clause-version_sets : goal.returns-clause-version_sets
returns-clause-version_sets g c = dedup_is same_set _ _ c.dedup.ensures.filtered ∙ ap (dedup same_set) c.in_ok-found.ensures.version_sets
