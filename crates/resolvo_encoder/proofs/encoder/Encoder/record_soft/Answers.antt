use Rattle.std.proofs.Common.{ap, is_ok}
use Rattle.std.proofs.ResultArms.{chosen}
use Rattle.resolvo_sat.specs.RuleClauses.{IsExact}
use Rattle.resolvo_encoder.proofs.RecordLemmas.{soft_recorded}
use Rattle.resolvo_encoder.proofs.encoder.Encoder.record_soft.Goals as goal

pub returns-clause-recorded : goal.returns-clause-recorded
returns-clause-recorded g c =
    let exact : IsExact g.S.PartialEq.eq = record { one = g.met.S.Exact.exact; own = g.met.S.Eq.laws.refl } in
    soft_recorded g.S.PartialEq.eq exact c.args.soft c.args.many c.in_ok-variable.variable c.args.self.now c.mark.new.self c.register_soft.new.self c.push.new.self c.in_ok-mark.ensures.marks c.in_ok-variable.ensures.registered (chosen _ _ _ _ c.push.ensures.items (ap is_ok c.in_ok-push.was))

pub register_soft-requires : goal.register_soft-requires
register_soft-requires g c = c.in_ok-mark.ensures.marks.built
