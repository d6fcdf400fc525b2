use Rattle.std.proofs.Common.{refl}
use Rattle.resolvo_sat.specs.RuleClauses.{IsExact}
use Rattle.resolvo_encoder.proofs.PlaceLemmas.{covers_end}
use Rattle.resolvo_encoder.proofs.encoder.Encoder.add_of_queued.Goals as goal

pub returns-clause-covered : goal.returns-clause-covered
returns-clause-covered g c =
    let exact : IsExact g.S.PartialEq.eq = record { one = g.met.S.Exact.exact; own = g.met.S.Eq.laws.refl } in
    let middle = c.add_of_each.new.self in
    covers_end g.S.PartialEq.eq exact c.args.self.now.recorded.queued.keys c.args.self.now middle (record middle.recorded { queued = c.clear.new.self }) refl c.in_ok-add_of_each.ensures.covered refl c.clear.ensures.empty
