use Rattle.std.proofs.Common.{refl}
use Rattle.resolvo_sat.specs.RuleClauses.{IsExact}
use Rattle.resolvo_encoder.proofs.CaseLiterals.{package_known, package_tracked}
use Rattle.resolvo_encoder.proofs.Parents.{prefix_contains}
use Rattle.resolvo_encoder.proofs.encoder.Encoder.record_at_least_one.Goals as goal

pub returns-then-contains-clause-at_least_one : goal.returns-then-contains-clause-at_least_one
returns-then-contains-clause-at_least_one g c =
    let exact : IsExact g.S.PartialEq.eq = record { one = g.met.S.Exact.exact; own = g.met.S.Eq.laws.refl } in
    package_known g.S.PartialEq.eq exact c.args.name c.args.self.now c.requires (c.contains.ensures.0 c.if-contains.true)

pub returns-clause-at_least_one : goal.returns-clause-at_least_one
returns-clause-at_least_one g c =
    let exact : IsExact g.S.PartialEq.eq = record { one = g.met.S.Exact.exact; own = g.met.S.Eq.laws.refl } in
    let added = c.in_ok-add_registered.ensures.added in
    package_tracked g.S.PartialEq.eq exact c.args.name added.list c.args.self.now c.add_registered.new.self _ added.those added.adds c.in_ok-add_value.ensures.only
    (λ n h. prefix_contains _ _ n c.in_ok-add_value.ensures.prefix h) c.in_ok-add_value.ensures.present refl
