use Rattle.std.proofs.Common.{◌∙◌, ap, List, ◌++◌, ◌∷◌, []}
use Rattle.std.specs.Prelude.{slice_index_or}
use Rattle.resolvo_checker.specs.Kept.{Kept, Ready}
use Rattle.resolvo_checker.proofs.PieceLemmas.{on_ok_map}
use Rattle.resolvo_checker.proofs.clauses.Flat.repeat.Goals as goal

pub returns-clause-ok : goal.returns-clause-ok
returns-clause-ok c = on_ok_map c.repeat_piece.result c.repeat_piece.ensures.ok (λ e.
    e c.self.inside.literals.items c.self.inside.longs.items ∙ ap (λ (ks : List Kept). ks ++ slice_index_or ks c.args.n (Ready []) ∷ []) c.self.view_is)
