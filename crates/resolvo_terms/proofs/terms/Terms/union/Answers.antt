use Rattle.std.proofs.Common.{List, subst}
use Rattle.resolvo_pool_core.specs.declared.id.VersionSetId.{VersionSetId}
use Rattle.resolvo_terms.specs.Found.{HasMore}
use Rattle.resolvo_terms.proofs.FoundLemmas.{unions_more}
use Rattle.resolvo_terms.proofs.KeyedLemmas.{more_extends}
use Rattle.resolvo_terms.proofs.terms.Terms.union.Goals as goal

pub invariant_of-self-2 : goal.invariant_of-self-2
invariant_of-self-2 c =
    let more = subst (λ (l : List VersionSetId). HasMore c.self.inside.unions l c.intern.new.self) c.deref.ensures.value c.in_ok-id.ensures.more in
    (unions_more c.self.inside.version_sets.values.items c.self.inside.version_sets.index c.self.inside.unions c.self.inside.conditions.values.items c.self.inside.conditions.index c.self.invariant.0 c.args.members.items c.intern.new.self c.requires.several more, c.self.invariant.1)

pub returns-clause-grows : goal.returns-clause-grows
returns-clause-grows c = rw (← c.self.view_is) (record { names = λ k x e. e; words = λ k x e. e; version_sets = λ k x e. e; unions = more_extends c.self.inside.unions c.deref.result.now c.intern.new.self c.in_ok-id.ensures.more; conditions = λ k x e. e })
