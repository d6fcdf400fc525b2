use Rattle.std.proofs.Common.{arith}
use Rattle.resolvo_sat.specs.RuleClauses.{IsExact}
use Rattle.resolvo_encoder.proofs.RecordLemmas.{soft_taken}
use Rattle.resolvo_encoder.proofs.encoder.Encoder.drop_soft.Goals as goal

pub returns : goal.returns
returns g c =
    let exact : IsExact g.S.PartialEq.eq = record { one = g.met.S.Exact.exact; own = g.met.S.Eq.laws.refl } in
    soft_taken g.S.PartialEq.eq exact c.args.self.now c.pop.new.self c.pop.result c.requires.built c.requires.untaken c.pop.ensures.items (λ long. c.pop.ensures.variant.1 (omega (arith, long)))
