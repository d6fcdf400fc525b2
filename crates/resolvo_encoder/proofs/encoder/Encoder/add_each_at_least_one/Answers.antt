use Rattle.std.proofs.Common.{◌≡◌, ◌∷◌, [], List, ◌∙◌, ap, subst, sym}
use Rattle.resolvo_encoder.specs.declared.conditions.ConditionSet.{ConditionSet}
use Rattle.resolvo_encoder.specs.AtLeastOneClauses.{CaseLiterals}
use Rattle.resolvo_encoder.proofs.PlaceLemmas.{only_first}
use Rattle.resolvo_encoder.proofs.encoder.Encoder.add_each_at_least_one.Goals as goal

pub returns-then-sets-eq1-clause-at_least_one : goal.returns-then-sets-eq1-clause-at_least_one
returns-then-sets-eq1-clause-at_least_one g c =
    let set = c.index-sets-0.result in
    let these : c.args.sets.now ≡ set ∷ [] = only_first c.args.sets.now set c.if-sets-eq1.true ∙ ap (λ (x : ConditionSet _ _). x ∷ []) (sym c.index-sets-0.is) in
    subst (λ (xs : List (ConditionSet _ _)). CaseLiterals g.S.PartialEq.eq xs c.in_ok-literals.literals.items c.args.self.now c.conjunct_literals.new.self) (sym these) c.in_ok-literals.ensures.at_least_one
