use Rattle.std.proofs.Common.{◌≡◌, ◌+◌, ◌∷◌, ◌++◌, [], ◌∙◌, List, take, subst, sym, ap}
use Rattle.std.proofs.lemmas.List.{take_more, take_all}
use Rattle.resolvo_sat.specs.RuleClauses.{IsExact, Rule}
use Rattle.resolvo_packages.specs.declared.package_source.ForbiddenSolvable.{ForbiddenSolvable}
use Rattle.resolvo_encoder.specs.ClauseRules.{EncodesRules, reason_of, forbid_rules}
use Rattle.resolvo_encoder.proofs.EncodesLemmas.{encodes_none, encodes_more}
use Rattle.resolvo_encoder.proofs.encoder.Encoder.forbid_each.Goals as goal

pub loop-one-init : goal.loop-one-init
loop-one-init g c =
    let exact : IsExact g.S.PartialEq.eq = record { one = g.met.S.Exact.exact; own = g.met.S.Eq.laws.refl } in
    encodes_none g.S.PartialEq.eq exact c.args.self.now c.requires

pub loop-one-preserved : goal.loop-one-preserved
loop-one-preserved g c =
    let exact : IsExact g.S.PartialEq.eq = record { one = g.met.S.Exact.exact; own = g.met.S.Eq.laws.refl } in
    let more : take (c.loop-one.one-index + 1) c.args.barred.now ≡ take c.loop-one.one-index c.args.barred.now ++ c.one-item.result ∷ [] =
    take_more c.args.barred.now c.loop-one.one-index c.one-item.result c.loop-one-test.true ∙ ap (λ (x : ForbiddenSolvable _). take c.loop-one.one-index c.args.barred.now ++ x ∷ []) (sym c.one-item.is) in
    subst (λ (xs : List (ForbiddenSolvable _)). EncodesRules g.S.PartialEq.eq (forbid_rules xs) c.args.self.now c.deny.new.self) (sym more)
    (encodes_more g.S.PartialEq.eq exact (λ (x : ForbiddenSolvable _). Rule.forbids (reason_of x.why) x.solvable) (take c.loop-one.one-index c.args.barred.now) c.one-item.result c.args.self.now c.loop-one.self c.deny.new.self c.loop-one.invariant (c.in_ok-deny.ensures.encodes (reason_of c.one-item.result.why) c.forbid_kind.ensures.rule))

pub returns-clause-encodes : goal.returns-clause-encodes
returns-clause-encodes g c = subst (λ (xs : List (ForbiddenSolvable _)). EncodesRules g.S.PartialEq.eq (forbid_rules xs) c.args.self.now c.loop-one.self) (take_all c.loop-one.one-index c.args.barred.now c.loop-one-test.false) c.loop-one.invariant
