use Rattle.std.proofs.Common.{◌∙◌, ap, List}
use Rattle.resolvo_checker.specs.declared.kept_clause.Kept.{Kept as CodeKept}
use Rattle.resolvo_checker.specs.declared.kept_clause.Long.{Long}
use Rattle.resolvo_checker.specs.Kept.{Kept, deferred_at}
use Rattle.resolvo_checker.specs.Pieces.{pieces}
use Rattle.resolvo_checker.proofs.clauses.Flat.deferred.Goals as goal

pub returns : goal.returns
returns c =
    c.step_at.ensures c.self.inside.literals.items
    ∙ ap (λ (ls : List Long). deferred_at (pieces c.self.inside.literals.items ls c.deref-2.result.now) c.args.n) c.deref.ensures.value
    ∙ ap (λ (ks : List CodeKept). deferred_at (pieces c.self.inside.literals.items c.self.inside.longs.items ks) c.args.n) c.deref-2.ensures.value
    ∙ ap (λ (ks : List Kept). deferred_at ks c.args.n) c.self.view_is
