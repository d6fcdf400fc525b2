use Rattle.std.proofs.Common.{inl, inr, sym, subst}
use Rattle.resolvo_sat.specs.RuleClauses.{IsExact, Rule, IsRule}
use Rattle.resolvo_sat.proofs.Lists.{contains_one, contains_only}
use Rattle.resolvo_state.proofs.Growth.{rules_grow}
use Rattle.resolvo_encoder.specs.Encoded.{rules_of}
use Rattle.resolvo_encoder.proofs.RequireLemmas.{extends_then}
use Rattle.resolvo_encoder.proofs.EncodesLemmas.{limits_are_rules, outside_encoded}
use Rattle.resolvo_encoder.proofs.encoder.Encoder.limit.Goals as goal

pub returns-then-outside-lt-GATED-clause-encoded : goal.returns-then-outside-lt-GATED-clause-encoded
returns-then-outside-lt-GATED-clause-encoded g c = λ p root lawful holds outside limited.
    let exact : IsExact g.S.PartialEq.eq = record { one = g.met.S.Exact.exact; own = g.met.S.Eq.laws.refl } in
    let (last, rules_of_new) = c.in_ok-limit_each.ensures.encodes.encoding p root lawful holds (limits_are_rules g.S.PartialEq.eq exact p root c.args.parent c.args.version_set c.args.outside.now outside limited) in
    (last, λ s h. inl (outside_encoded g.S.PartialEq.eq exact p root c.args.version_set c.args.outside.now (λ x. Rule.limits c.args.parent c.args.version_set x) (rules_of c.limit_each.new.self) outside rules_of_new s h))

pub returns-clause-encoded : goal.returns-clause-encoded
returns-clause-encoded g c = λ p root lawful holds outside limited.
    let rule = Rule.limits_outside c.args.parent c.args.version_set in
    let encodes = c.in_ok-limit_outside.ensures.encodes in
    let (middle, outs) = c.in_ok-leave_out.ensures.encoded p root lawful holds outside c.args.parent limited in
    let (last, rules_of_new) = encodes.encoding p root lawful middle (λ r h. subst (IsRule g.S.PartialEq.eq p root) (sym (contains_one r rule h)) limited) in
    (last, λ s h. inr (rules_of_new rule (contains_only rule), rules_grow c.leave_out.new.self.coding c.limit_outside.new.self.coding encodes.extends.grows (Rule.is_out c.args.version_set s) (outs s h)))

pub returns-clause-kept : goal.returns-clause-kept
returns-clause-kept g c = extends_then c.args.self.now c.leave_out.new.self c.limit_outside.new.self c.in_ok-leave_out.ensures.kept c.in_ok-limit_outside.ensures.encodes.extends
