use Rattle.std.proofs.Common.{◌∷◌, ◌++◌, [], List, ◌∙◌, ap}
use Rattle.resolvo_state.specs.Kinds.{Kind}
use Rattle.resolvo_state.specs.Kinds.{Root}
use Rattle.resolvo_state.proofs.StartLemmas.{begun_is}
use Rattle.resolvo_state.proofs.solver_state.SolverState.begin.Goals as goal

pub returns-clause-begun : goal.returns-clause-begun
returns-clause-begun g c = begun_is _ c.in_ok-search.ensures.begun c.new.ensures (c.in_ok-push.ensures.items ∙ ap (λ (xs : List (Kind g.row.N.Denot g.row.S.Denot)). xs ++ Root ∷ []) c.new-kinds.ensures.items)
