-- The steps of the walk.
use Rattle.std.specs.Prelude.{List, [], ◌∷◌, cond, map}
use Rattle.resolvo_graph.specs.declared.graph.NodeIndex.{NodeIndex}
use Rattle.resolvo_graph.specs.declared.walk.Step.{Step}
use Rattle.resolvo_graph.specs.declared.walk.Step.TheVariants.{Enter, Leave}
use Rattle.resolvo_graph.specs.Graph.{Graph, edges_of}
use Rattle.resolvo_graph.specs.Walk.{is_among}

-- the steps that entering a node pushes: leave it, then enter the targets of its edges
abbrev pub steps_into : {S : Type 0} → Graph S → List NodeIndex → NodeIndex → List Step
steps_into g seen n = cond (is_among seen n) [] (Leave n ∷ map (λ e. Enter e.target) (edges_of g n))
