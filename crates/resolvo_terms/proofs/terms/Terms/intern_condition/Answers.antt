use Rattle.std.proofs.Common.{length, sym, subst}
use Rattle.resolvo_pool_core.specs.Provider.{OperandsBelow}
use Rattle.resolvo_terms.specs.Terms.{Terms}
use Rattle.resolvo_terms.proofs.FoundLemmas.{conditions_more}
use Rattle.resolvo_terms.proofs.KeyedLemmas.{more_extends}
use Rattle.resolvo_terms.proofs.terms.Terms.intern_condition.Goals as goal

pub invariant_of-self-2 : goal.invariant_of-self-2
invariant_of-self-2 c =
    let under = subst (λ (t : Terms). OperandsBelow c.args.condition (record { 0 = length t.conditions })) (sym c.self.view_is) c.requires in
    (conditions_more c.self.inside.version_sets.values.items c.self.inside.version_sets.index c.self.inside.unions c.self.inside.conditions.values.items c.self.inside.conditions.index c.self.invariant.0 c.args.condition c.intern.new.self.values.items c.intern.new.self.index under c.in_ok-id.ensures.more c.in_ok-id.ensures.keyed, c.self.invariant.1)

pub returns-clause-grows : goal.returns-clause-grows
returns-clause-grows c = rw (← c.self.view_is) (record { names = λ k x e. e; words = λ k x e. e; version_sets = λ k x e. e; unions = λ k x e. e; conditions = more_extends c.self.inside.conditions.values.items c.args.condition c.intern.new.self.values.items c.in_ok-id.ensures.more })
