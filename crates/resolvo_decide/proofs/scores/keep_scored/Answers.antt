use Rattle.std.proofs.Common.{rules}
use Rattle.std.proofs.lemmas.Fn.{filter_same}
use Rattle.resolvo_decide.proofs.scores.keep_scored.Goals as goal

pub returns : goal.returns
returns g c = filter_same _ _ _ (λ x b f' k. search rules) _ _ c.retain.ensures.filtered
