use Rattle.resolvo_sat.specs.RuleClauses.{IsExact}
use Rattle.resolvo_encoder.proofs.NeedLemmas.{begun_encodes}
use Rattle.resolvo_encoder.proofs.BuildLemmas.{built_begun}
use Rattle.resolvo_encoder.proofs.encoder.Encoder.begin.Goals as goal

pub returns-clause-encoding : goal.returns-clause-encoding
returns-clause-encoding g c = λ p root lawful.
    let exact : IsExact g.S.PartialEq.eq = record { one = g.met.S.Exact.exact; own = g.met.S.Eq.laws.refl } in
    begun_encodes g.S.PartialEq.eq exact p root lawful _ c.begun.ensures

pub returns-clause-built : goal.returns-clause-built
returns-clause-built g c = built_begun _ c.begun.ensures
