use Rattle.resolvo_sat.specs.RuleClauses.{IsExact}
use Rattle.resolvo_encoder.proofs.EncodesLemmas.{gives_encodes}
use Rattle.resolvo_encoder.proofs.encoder.Encoder.give.Goals as goal

pub returns-clause-encodes : goal.returns-clause-encodes
returns-clause-encodes g c =
    let exact : IsExact g.S.PartialEq.eq = record { one = g.met.S.Exact.exact; own = g.met.S.Eq.laws.refl } in
    gives_encodes g.S.PartialEq.eq exact c.args.atom c.in_ok-variable.variable c.args.self.now c.variable.new.self c.requires c.in_ok-variable.ensures.given
