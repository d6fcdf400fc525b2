use Rattle.std.proofs.Common.{◌≡◌, ◌∙◌, ℕ, List, Some, None, sym, ap, subst}
use Rattle.std.specs.Prelude.{slice_get}
use Rattle.resolvo_pool_core.specs.declared.condition.Condition.{Condition}
use Rattle.resolvo_pool_core.specs.declared.condition.Condition.TheVariants.{Requirement}
use Rattle.resolvo_terms.specs.Terms.{Terms}
use Rattle.resolvo_terms.specs.Known.{condition_at}
use Rattle.resolvo_terms.proofs.FoundLemmas.{sound_there, sound_nowhere}
use Rattle.resolvo_terms.proofs.terms.Terms.meaning.Goals as goal

pub returns-in-Some : goal.returns-in-Some
returns-in-Some c =
    let at : slice_get c.self.inside.conditions.values.items c.args.condition.0 ≡ Some c.in-Some.meaning =
    ap (λ (xs : List Condition). slice_get xs c.args.condition.0) (sym c.deref.ensures.value) ∙ (ap (λ (n : ℕ). slice_get c.deref.result.now n) (sym c.to_index.ensures.index) ∙ sym c.in-Some.ensures) in
    subst (λ (t : Terms). c.in-Some.meaning ≡ condition_at t c.args.condition) c.self.view_is (sound_there c.self.inside.conditions.values.items c.self.invariant.0.below c.args.condition c.in-Some.meaning at)

pub returns-in-None : goal.returns-in-None
returns-in-None c =
    let none : slice_get c.self.inside.conditions.values.items c.args.condition.0 ≡ None =
    ap (λ (xs : List Condition). slice_get xs c.args.condition.0) (sym c.deref.ensures.value) ∙ (ap (λ (n : ℕ). slice_get c.deref.result.now n) (sym c.to_index.ensures.index) ∙ sym c.in-None.ensures) in
    subst (λ (t : Terms). Requirement (record { 0 = 0 }) ≡ condition_at t c.args.condition) c.self.view_is (sound_nowhere c.self.inside.conditions.values.items c.args.condition none)
