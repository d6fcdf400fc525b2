use Rattle.std.proofs.Common.{ap, is_ok}
use Rattle.std.proofs.ResultArms.{chosen}
use Rattle.resolvo_sat.specs.RuleClauses.{IsExact}
use Rattle.resolvo_encoder.proofs.RecordLemmas.{chosen_recorded}
use Rattle.resolvo_encoder.proofs.encoder.Encoder.record_chosen.Goals as goal

pub returns-clause-recorded : goal.returns-clause-recorded
returns-clause-recorded g c =
    let exact : IsExact g.S.PartialEq.eq = record { one = g.met.S.Exact.exact; own = g.met.S.Eq.laws.refl } in
    chosen_recorded g.S.PartialEq.eq exact c.args.soft c.args.self.now c.push.new.self c.requires.built c.requires.chosen (chosen _ _ _ _ c.push.ensures.items (ap is_ok c.in_ok-push.was))
