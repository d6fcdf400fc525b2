use Rattle.std.proofs.Common.{List, length, ap, ◌∙◌, ◌∷◌, []}
use Rattle.std.specs.Prelude.{slice_index_or}
use Rattle.std.proofs.lemmas.List.{length-append}
use Rattle.resolvo_checker.specs.Kept.{Kept, Ready}
use Rattle.resolvo_checker.proofs.check_step.repeat.Goals as goal

pub returns-clause-count : goal.returns-clause-count
returns-clause-count c = λ _.
    ap (λ (ks : List Kept). length ks) c.in_ok-repeat.ensures.ok
    ∙ length-append c.args.clauses.now.kept (slice_index_or c.args.clauses.now.kept c.args.earlier (Ready []) ∷ [])
