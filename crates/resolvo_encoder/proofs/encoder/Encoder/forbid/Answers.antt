use Rattle.std.proofs.Common.{refl, subst, sym}
use Rattle.resolvo_state.specs.declared.registry.Registry.{Registry}
use Rattle.resolvo_state.specs.Registered.{IsMany}
use Rattle.resolvo_sat.specs.RuleClauses.{IsExact}
use Rattle.resolvo_encoder.specs.Encoded.{rules_of}
use Rattle.resolvo_encoder.proofs.EncodesLemmas.{forbids_are_rules, forbids_encoded, package_recorded}
use Rattle.resolvo_encoder.proofs.encoder.Encoder.forbid.Goals as goal

pub returns-clause-encoded : goal.returns-clause-encoded
returns-clause-encoded g c = λ p root lawful holds barred known.
    let exact : IsExact g.S.PartialEq.eq = record { one = g.met.S.Exact.exact; own = g.met.S.Eq.laws.refl } in
    let (middle, rules_of_new) = c.in_ok-forbid_each.ensures.encodes.encoding p root lawful holds (forbids_are_rules g.S.PartialEq.eq exact p root c.args.name c.args.barred.now barred) in
    let forbids = forbids_encoded g.S.PartialEq.eq exact p root c.args.name c.args.barred.now (rules_of c.forbid_each.new.self) barred rules_of_new in
    (package_recorded g.S.PartialEq.eq exact p root c.forbid_each.new.self _ c.args.name middle c.in_ok-add_value.ensures.only refl (λ marked. subst (λ (r : Registry _). IsMany r c.args.name) (sym c.in_ok-forbid_each.ensures.encodes.registry) (known marked)) forbids, forbids)
