use Rattle.std.proofs.lemmas.Bool.{both_ways}
use Rattle.resolvo_sat.specs.RuleClauses.{IsExact}
use Rattle.resolvo_encoder.proofs.CaseLiterals.{admits_other}
use Rattle.resolvo_encoder.proofs.encoder.Encoder.add_if_recorded.Goals as goal

pub returns-else-contains-clause-admitted : goal.returns-else-contains-clause-admitted
returns-else-contains-clause-admitted g c =
    let exact : IsExact g.S.PartialEq.eq = record { one = g.met.S.Exact.exact; own = g.met.S.Eq.laws.refl } in
    admits_other g.S.PartialEq.eq exact c.args.one c.args.self.now c.requires
    (λ h. both_ways _ c.if-contains.false (c.contains.ensures.1 h))
