use Rattle.std.proofs.Common.{refl}
use Rattle.resolvo_sat.specs.RuleClauses.{IsExact}
use Rattle.resolvo_encoder.proofs.CaseLiterals.{adds_known, adds_encoded}
use Rattle.resolvo_encoder.proofs.encoder.Encoder.add_at_least_one.Goals as goal

pub returns-then-contains-clause-added : goal.returns-then-contains-clause-added
returns-then-contains-clause-added g c =
    let exact : IsExact g.S.PartialEq.eq = record { one = g.met.S.Exact.exact; own = g.met.S.Eq.laws.refl } in
    adds_known g.S.PartialEq.eq exact c.args.one c.args.self.now c.requires (c.contains.ensures.0 c.if-contains.true)

pub returns-clause-added : goal.returns-clause-added
returns-clause-added g c =
    let exact : IsExact g.S.PartialEq.eq = record { one = g.met.S.Exact.exact; own = g.met.S.Eq.laws.refl } in
    adds_encoded g.S.PartialEq.eq exact c.args.one c.args.self.now c.encode_at_least_one.new.self _ c.in_ok-encode_at_least_one.ensures.encodes c.in_ok-add_value.ensures.only refl
