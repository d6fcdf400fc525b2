use Rattle.resolvo_terms.specs.declared.terms.Numbers.{Numbers}
use Rattle.resolvo_terms.specs.Terms.{NameId}
use Rattle.resolvo_terms.proofs.FoundLemmas.{sets_more}
use Rattle.resolvo_terms.proofs.KeyedLemmas.{more_extends}
use Rattle.resolvo_terms.proofs.WholeLemmas.{wholes_stay}
use Rattle.resolvo_terms.proofs.terms.Terms.keyed_set.Goals as goal

pub returns-clause-grows : goal.returns-clause-grows
returns-clause-grows c =
    let s : NameId × Numbers = (c.args.name, record { 0 = c.args.span }) in
    rw (← c.self.view_is) (record { names = λ k x e. e; words = λ k x e. e; version_sets = more_extends c.self.inside.version_sets.values.items s c.intern.new.self.values.items c.in_ok-id.ensures.more; unions = λ k x e. e; conditions = λ k x e. e })

pub invariant_of-self-2 : goal.invariant_of-self-2
invariant_of-self-2 c =
    let s : NameId × Numbers = (c.args.name, record { 0 = c.args.span }) in
    let old = c.self.inside.version_sets.values.items in
    let news = c.intern.new.self.values.items in (
      sets_more old c.self.inside.version_sets.index c.self.inside.unions c.self.inside.conditions.values.items c.self.inside.conditions.index c.self.invariant.0 news c.intern.new.self.index c.in_ok-id.ensures.keyed,
      wholes_stay c.self.inside.wholes.items old news (more_extends old s news c.in_ok-id.ensures.more) c.self.invariant.1,
    )
