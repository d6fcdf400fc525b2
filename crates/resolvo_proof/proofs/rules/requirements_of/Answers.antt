use Rattle.std.proofs.Common.{◌≡◌, ◌∙◌, ap, subst, List, ℕ}
use Rattle.std.specs.Prelude.{IfOk}
use Rattle.resolvo_proof.specs.Order.{conflict_order, requirements_in, rules_at}
use Rattle.resolvo_proof.proofs.rules.requirements_of.Goals as goal

pub returns-clause-named : goal.returns-clause-named
returns-clause-named g c =
    let places : c.as_slice.result.now ≡ conflict_order c.args.steps.now = c.as_slice.ensures.value ∙ c.in_ok-places.ensures.order in
    subst (λ (ps : List ℕ). IfOk c.requirements_at.result (λ v. v.items ≡ requirements_in (rules_at c.args.steps.now ps))) places c.requirements_at.ensures.named
