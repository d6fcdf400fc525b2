use Rattle.std.proofs.Common.{length, refl}
use Rattle.resolvo_sat.specs.RuleClauses.{IsExact}
use Rattle.resolvo_encoder.specs.declared.encoder.Deferred.{Deferred}
use Rattle.resolvo_encoder.proofs.FireLemmas.{defer_keeps, deferred_last}
use Rattle.resolvo_encoder.proofs.encoder.Encoder.defer.Goals as goal

pub returns-clause-encoded : goal.returns-clause-encoded
returns-clause-encoded g c = λ p root e conjuncts listed case.
    let exact : IsExact g.S.PartialEq.eq = record { one = g.met.S.Exact.exact; own = g.met.S.Eq.laws.refl } in
    let d : Deferred _ = record { parent = c.args.parent; need = c.args.need; conjuncts = c.args.conjuncts } in (
      defer_keeps g.S.PartialEq.eq exact p root c.args.self.now c.push.new.self d e c.in_ok-push.ensures.items (record { conjuncts = conjuncts; listed = listed; case = case }),
      (length c.args.self.now.deferred.items, d, deferred_last c.args.self.now.deferred.items d c.push.new.self.items c.in_ok-push.ensures.items, refl, refl, refl),
    )
