use Rattle.resolvo_sat.specs.RuleClauses.{IsExact}
use Rattle.resolvo_encoder.proofs.RecordLemmas.{soft_registers}
use Rattle.resolvo_encoder.proofs.encoder.Encoder.register_soft.Goals as goal

pub register-requires : goal.register-requires
register-requires g c = record { coding = c.requires.coding; tied = c.requires.tied }

pub returns-clause-registered : goal.returns-clause-registered
returns-clause-registered g c =
    let exact : IsExact g.S.PartialEq.eq = record { one = g.met.S.Exact.exact; own = g.met.S.Eq.laws.refl } in
    soft_registers g.S.PartialEq.eq exact c.args.soft c.in_ok-variable.variable c.args.self.now c.register.new.self c.register.new.coding c.requires c.in_ok-variable.ensures.registered
