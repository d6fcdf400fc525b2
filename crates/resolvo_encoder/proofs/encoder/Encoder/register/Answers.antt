use Rattle.resolvo_sat.specs.RuleClauses.{IsExact}
use Rattle.resolvo_encoder.proofs.EnrollLemmas.{enrols}
use Rattle.resolvo_encoder.proofs.encoder.Encoder.register.Goals as goal

pub register_all-requires : goal.register_all-requires
register_all-requires g c = record { coding = c.requires.coding; tied = c.requires.tied }

pub returns-clause-enrolled : goal.returns-clause-enrolled
returns-clause-enrolled g c =
    let exact : IsExact g.S.PartialEq.eq = record { one = g.met.S.Exact.exact; own = g.met.S.Eq.laws.refl } in
    enrols g.S.PartialEq.eq exact c.args.offered.now c.in_ok-given.given.items c.args.self.now c.register_all.new.registry c.register_all.new.coding c.requires c.in_ok-given.ensures.registered
