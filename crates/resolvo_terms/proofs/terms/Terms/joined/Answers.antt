use Rattle.std.proofs.Common.{◌≡◌, ◌+◌, ◌≤◌, Some, subst}
use Rattle.std.specs.Prelude.{slice_get}
use Rattle.resolvo_text.specs.Parse.{joined}
use Rattle.resolvo_pool_core.specs.declared.condition.Condition.TheVariants.{Binary}
use Rattle.resolvo_terms.specs.Terms.{IsCondition, IsConditionOf}
use Rattle.resolvo_terms.specs.TermCounts.{term_count, ids_for_condition, ids_for_any_condition}
use Rattle.resolvo_terms.specs.Reads.{operator_of}
use Rattle.resolvo_terms.proofs.PartLemmas.{numbered_as, joined_by}
use Rattle.resolvo_terms.proofs.terms.Terms.joined.Goals as goal

pub returns-in-Some-clause-condition : goal.returns-in-Some-clause-condition
returns-in-Some-clause-condition c = λ b last h k.
    let t = c.args.self.now in
    let u = c.join.new.self in
    let left = c.in-Some.left in
    let first = subst (λ o. IsConditionOf t o b) c.in-Some.is h in
    numbered_as c.numbered.result c.join.result (λ x. slice_get u.conditions x.0 ≡ Some (Binary c.operator_of.result left c.args.right))
    (λ x. IsCondition u x (joined c.args.joint b last) × (term_count u + ids_for_any_condition b + ids_for_condition last ≤ term_count t + ids_for_condition (joined c.args.joint b last)))
    (λ x e. joined_by t u c.args.joint left c.args.right x b last c.join.ensures.grows c.join.ensures.few first k (subst (λ o. slice_get u.conditions x.0 ≡ Some (Binary o left c.args.right)) c.operator_of.ensures e))
    c.numbered.ensures.given c.join.ensures.joined
