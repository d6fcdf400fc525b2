use Rattle.std.proofs.Common.{◌∙◌, ap, List, ◌++◌, ◌∷◌, []}
use Rattle.resolvo_report.specs.View.{step_of}
use Rattle.resolvo_checker.specs.Kept.{Kept, Deferred}
use Rattle.resolvo_checker.proofs.PieceLemmas.{on_ok_map}
use Rattle.resolvo_checker.proofs.clauses.Flat.defer.Goals as goal

pub invariant_of-self : goal.invariant_of-self
invariant_of-self c = c.push_long.ensures.inside c.self.inside.literals.items c.self.invariant

pub returns : goal.returns
returns c = on_ok_map c.push_long.result c.push_long.ensures.ok (λ e.
    e c.self.inside.literals.items c.self.invariant ∙ ap (λ (ks : List Kept). ks ++ Deferred (step_of c.args.step) ∷ []) c.self.view_is)
