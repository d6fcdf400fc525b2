use Rattle.std.proofs.Common.{refl}
use Rattle.resolvo_sat.specs.RuleClauses.{IsExact, Rule}
use Rattle.resolvo_encoder.specs.Encoded.{rules_of}
use Rattle.resolvo_encoder.proofs.EncodesLemmas.{outs_are_rules, outside_encoded, set_recorded}
use Rattle.resolvo_encoder.proofs.encoder.Encoder.leave_out.Goals as goal

pub returns-then-is_left_out-clause-encoded : goal.returns-then-is_left_out-clause-encoded
returns-then-is_left_out-clause-encoded g c = λ p root lawful holds outside parent limited.
    (holds, λ s h. holds.recorded.version_sets c.args.version_set s (c.is_left_out.ensures.0 c.if-is_left_out.true) h)

pub returns-clause-encoded : goal.returns-clause-encoded
returns-clause-encoded g c = λ p root lawful holds outside parent limited.
    let exact : IsExact g.S.PartialEq.eq = record { one = g.met.S.Exact.exact; own = g.met.S.Eq.laws.refl } in
    let (middle, rules_of_new) = c.in_ok-encode_outside.ensures.encodes.encoding p root lawful holds (outs_are_rules g.S.PartialEq.eq exact p root c.args.version_set c.args.outside.now outside parent limited) in
    let outs = outside_encoded g.S.PartialEq.eq exact p root c.args.version_set c.args.outside.now (λ x. Rule.is_out c.args.version_set x) (rules_of c.encode_outside.new.self) outside rules_of_new in
    (set_recorded g.S.PartialEq.eq exact p root c.encode_outside.new.self _ c.args.version_set middle c.in_ok-add_key.ensures.only refl outs, outs)
