use Rattle.std.proofs.Common.{◌≡◌, ◌+◌, ◌∷◌, ◌++◌, [], ◌∙◌, List, take, subst, sym, ap}
use Rattle.std.proofs.lemmas.List.{take_more, take_all}
use Rattle.resolvo_store_core.specs.Signed.{Signed}
use Rattle.resolvo_sat.specs.RuleClauses.{IsExact}
use Rattle.resolvo_encoder.specs.declared.conditions.ConditionSet.{ConditionSet}
use Rattle.resolvo_encoder.specs.AtLeastOneClauses.{CaseLiterals}
use Rattle.resolvo_encoder.proofs.CaseLiterals.{case_literals_none, case_literals_more}
use Rattle.resolvo_encoder.proofs.encoder.Encoder.join_literals.Goals as goal

pub loop-set-init : goal.loop-set-init
loop-set-init g c =
    let exact : IsExact g.S.PartialEq.eq = record { one = g.met.S.Exact.exact; own = g.met.S.Eq.laws.refl } in
    subst (λ (ls : List Signed). CaseLiterals g.S.PartialEq.eq [] ls c.args.self.now c.args.self.now) (sym c.new-literals.ensures.items) (case_literals_none g.S.PartialEq.eq exact c.args.self.now c.requires)

pub conjunct_literals-requires : goal.conjunct_literals-requires
conjunct_literals-requires g c = c.loop-set.invariant.built

pub loop-set-preserved : goal.loop-set-preserved
loop-set-preserved g c =
    let exact : IsExact g.S.PartialEq.eq = record { one = g.met.S.Exact.exact; own = g.met.S.Eq.laws.refl } in
    let more : take (c.loop-set.set-index + 1) c.args.sets.now ≡ take c.loop-set.set-index c.args.sets.now ++ c.set-item.result ∷ [] =
    take_more c.args.sets.now c.loop-set.set-index c.set-item.result c.loop-set-test.true ∙ ap (λ (x : ConditionSet _ _). take c.loop-set.set-index c.args.sets.now ++ x ∷ []) (sym c.set-item.is) in
    subst (λ (ls : List Signed). CaseLiterals g.S.PartialEq.eq (take (c.loop-set.set-index + 1) c.args.sets.now) ls c.args.self.now c.conjunct_literals.new.self) (sym c.in_ok-append.ensures.items)
    (subst (λ (xs : List (ConditionSet _ _)). CaseLiterals g.S.PartialEq.eq xs (c.loop-set.literals.items ++ c.in_ok-more.more.items) c.args.self.now c.conjunct_literals.new.self) (sym more)
    (case_literals_more g.S.PartialEq.eq exact (take c.loop-set.set-index c.args.sets.now) c.set-item.result c.loop-set.literals.items c.in_ok-more.more.items c.args.self.now c.loop-set.self c.conjunct_literals.new.self c.loop-set.invariant c.in_ok-more.ensures.at_least_one))

pub returns-clause-at_least_one : goal.returns-clause-at_least_one
returns-clause-at_least_one g c = subst (λ (xs : List (ConditionSet _ _)). CaseLiterals g.S.PartialEq.eq xs c.loop-set.literals.items c.args.self.now c.loop-set.self) (take_all c.loop-set.set-index c.args.sets.now c.loop-set-test.false) c.loop-set.invariant
