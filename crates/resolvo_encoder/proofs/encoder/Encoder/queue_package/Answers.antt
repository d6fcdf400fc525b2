use Rattle.std.proofs.Common.{refl, sym}
use Rattle.resolvo_sat.specs.RuleClauses.{IsExact}
use Rattle.resolvo_encoder.proofs.CaseLiterals.{named_known, package_named}
use Rattle.resolvo_encoder.proofs.encoder.Encoder.queue_package.Goals as goal

pub returns-then-contains-clause-named : goal.returns-then-contains-clause-named
returns-then-contains-clause-named g c =
    let exact : IsExact g.S.PartialEq.eq = record { one = g.met.S.Exact.exact; own = g.met.S.Eq.laws.refl } in
    named_known g.S.PartialEq.eq exact c.args.name c.args.self.now c.requires (c.contains.ensures.0 c.if-contains.true)

pub returns-clause-named : goal.returns-clause-named
returns-clause-named g c =
    let exact : IsExact g.S.PartialEq.eq = record { one = g.met.S.Exact.exact; own = g.met.S.Eq.laws.refl } in
    package_named g.S.PartialEq.eq exact c.args.name c.args.self.now _ c.requires c.in_ok-add_key.ensures.prefix (c.in_ok-add_key.ensures.present (λ y e. sym (g.met.N.Exact.exact c.args.name y e))) refl
