use Rattle.std.proofs.Common.{◌∙◌}
use Rattle.resolvo_checker.proofs.PieceLemmas.{err_map}
use Rattle.resolvo_checker.proofs.clauses.Flat.push.Goals as goal

pub returns-clause-err : goal.returns-clause-err
returns-clause-err c = err_map c.push_piece.result c.push_piece.ensures.err (λ e. e c.self.inside.longs.items ∙ c.self.view_is)
