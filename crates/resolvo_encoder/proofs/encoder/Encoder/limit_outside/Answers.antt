use Rattle.std.proofs.Common.{[], ◌∷◌, inr, sym, subst, false}
use Rattle.std.specs.Prelude.{Contains}
use Rattle.resolvo_store_core.specs.Signed.{Signed}
use Rattle.resolvo_store_core.specs.Clauses.{no}
use Rattle.resolvo_state.specs.Kinds.{Kind}
use Rattle.resolvo_sat.specs.RuleClauses.{IsExact, Rule, IsRule}
use Rattle.resolvo_sat.proofs.Lists.{contains_one, contains_only}
use Rattle.resolvo_encoder.specs.declared.encoder.EncodedOnce.{EncodedOnce}
use Rattle.resolvo_encoder.specs.ClauseRules.{EncodesPair}
use Rattle.resolvo_encoder.proofs.EncodesLemmas.{parent_variable_grows, encodes_then, outside_encodes}
use Rattle.resolvo_state.specs.declared.atom.ProofAtom.TheVariants.{Outside}
use Rattle.resolvo_sat.specs.State.{count_of}
use Rattle.resolvo_encoder.proofs.RangeLemmas.{atom_below, parent_below, atom_small, literal_below}
use Rattle.resolvo_encoder.proofs.encoder.Encoder.limit_outside.Goals as goal

pub returns-clause-encodes : goal.returns-clause-encodes
returns-clause-encodes g c =
    let exact : IsExact g.S.PartialEq.eq = record { one = g.met.S.Exact.exact; own = g.met.S.Eq.laws.refl } in
    let encodes = encodes_then g.S.PartialEq.eq exact [] [] c.args.self.now c.parent_variable.new.self c.give.new.self c.in_ok-first.ensures.encodes c.in_ok-second.ensures.encodes in
    let first = parent_variable_grows c.parent_variable.new.self c.give.new.self c.args.parent c.in_ok-first.first c.in_ok-second.ensures.encodes.extends c.in_ok-first.ensures.present in
    encodes_then g.S.PartialEq.eq exact [] (Rule.limits_outside c.args.parent c.args.version_set ∷ []) c.args.self.now c.give.new.self c.encode_pair.new.self encodes
    (outside_encodes g.S.PartialEq.eq exact c.args.parent c.args.version_set c.in_ok-first.first c.in_ok-second.second c.give.new.self c.encode_pair.new.self encodes.built first c.in_ok-second.ensures.present (subst (λ (x : Signed). EncodesPair (Kind.LimitsOutside c.args.parent c.args.version_set) (no c.in_ok-first.first) x c.give.new.self c.encode_pair.new.self) c.new.ensures c.in_ok-encode_pair.ensures.kind))

pub returns-clause-encoded : goal.returns-clause-encoded
returns-clause-encoded g c = λ p root lawful holds recorded limited.
    let rule = Rule.limits_outside c.args.parent c.args.version_set in
    let encodes = returns-clause-encodes g c in
    let (last, rules_of_new) = encodes.encoding p root lawful holds (λ r h. subst (IsRule g.S.PartialEq.eq p root) (sym (contains_one r rule h)) limited) in
    let kept : Contains c.encode_pair.new.self.recorded.version_sets.keys c.args.version_set = subst (λ (e : EncodedOnce _ _). Contains e.version_sets.keys c.args.version_set) (sym encodes.recorded) recorded in
    (last, λ s h. inr (rules_of_new rule (contains_only rule), last.recorded.version_sets c.args.version_set s kept h))

pub new-requires : goal.new-requires
new-requires g c = atom_small c.give.new.self c.in_ok-second.ensures.encodes.built c.in_ok-second.second (Outside c.args.version_set) c.in_ok-second.ensures.present

pub encode_pair-requires-clause-first : goal.encode_pair-requires-clause-first
encode_pair-requires-clause-first g c = parent_below c.give.new.self c.in_ok-second.ensures.encodes.built c.args.parent c.in_ok-first.first (parent_variable_grows c.parent_variable.new.self c.give.new.self c.args.parent c.in_ok-first.first c.in_ok-second.ensures.encodes.extends c.in_ok-first.ensures.present)

pub encode_pair-requires-clause-second : goal.encode_pair-requires-clause-second
encode_pair-requires-clause-second g c =
    literal_below (count_of c.give.new.self.coding.search) c.new.result c.in_ok-second.second false c.new.ensures (atom_below c.give.new.self c.in_ok-second.ensures.encodes.built c.in_ok-second.second (Outside c.args.version_set) c.in_ok-second.ensures.present)
