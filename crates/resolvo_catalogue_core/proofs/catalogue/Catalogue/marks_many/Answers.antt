use Rattle.std.proofs.Common.{ℕ, Option, is_some, sym, ap, ◌∙◌}
use Rattle.std.specs.BTreeMap.{get_by_text}
use Rattle.resolvo_catalogue_core.proofs.CatalogueFacts.{kept}
use Rattle.resolvo_catalogue_core.proofs.ManyLemmas.{marked_as}
use Rattle.resolvo_catalogue_core.proofs.catalogue.Catalogue.marks_many.Goals as goal

pub returns-clause-none : goal.returns-clause-none
returns-clause-none c = λ none name.
    let t = c.self.inside.table in
    let lines = c.args.self.now in
    sym (marked_as (get_by_text t.many name) lines name ((kept t lines c.self.view_is c.self.invariant.0).many name)) ∙ ap (λ (o : Option ℕ). is_some o) (c.marks_many.ensures.none none name)

pub returns-clause-some : goal.returns-clause-some
returns-clause-some c = λ some.
    let t = c.self.inside.table in
    let lines = c.args.self.now in
    let x = c.marks_many.ensures.some some in
    (x.0, sym (marked_as (get_by_text t.many x.0) lines x.0 ((kept t lines c.self.view_is c.self.invariant.0).many x.0)) ∙ ap (λ (o : Option ℕ). is_some o) x.2)
