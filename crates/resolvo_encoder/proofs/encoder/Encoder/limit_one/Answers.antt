use Rattle.std.proofs.Common.{[], ◌∷◌, subst, false}
use Rattle.resolvo_store_core.specs.Signed.{Signed}
use Rattle.resolvo_store_core.specs.Clauses.{no}
use Rattle.resolvo_state.specs.Kinds.{Kind}
use Rattle.resolvo_sat.specs.RuleClauses.{IsExact, Rule}
use Rattle.resolvo_encoder.specs.ClauseRules.{EncodesPair}
use Rattle.resolvo_encoder.proofs.EncodesLemmas.{parent_variable_grows, encodes_then, limit_encodes}
use Rattle.resolvo_state.specs.declared.atom.ProofAtom.TheVariants.{Solvable}
use Rattle.resolvo_sat.specs.State.{count_of}
use Rattle.resolvo_encoder.proofs.RangeLemmas.{atom_below, parent_below, atom_small, literal_below}
use Rattle.resolvo_encoder.proofs.encoder.Encoder.limit_one.Goals as goal

pub returns-clause-encodes : goal.returns-clause-encodes
returns-clause-encodes g c =
    let exact : IsExact g.S.PartialEq.eq = record { one = g.met.S.Exact.exact; own = g.met.S.Eq.laws.refl } in
    let encodes = encodes_then g.S.PartialEq.eq exact [] [] c.args.self.now c.parent_variable.new.self c.give.new.self c.in_ok-first.ensures.encodes c.in_ok-second.ensures.encodes in
    let first = parent_variable_grows c.parent_variable.new.self c.give.new.self c.args.parent c.in_ok-first.first c.in_ok-second.ensures.encodes.extends c.in_ok-first.ensures.present in
    encodes_then g.S.PartialEq.eq exact [] (Rule.limits c.args.parent c.args.version_set c.args.barred ∷ []) c.args.self.now c.give.new.self c.encode_pair.new.self encodes
    (limit_encodes g.S.PartialEq.eq exact c.args.parent c.args.version_set c.args.barred c.in_ok-first.first c.in_ok-second.second c.give.new.self c.encode_pair.new.self encodes.built first c.in_ok-second.ensures.present (subst (λ (x : Signed). EncodesPair (Kind.Limits c.args.parent c.args.version_set c.args.barred) (no c.in_ok-first.first) x c.give.new.self c.encode_pair.new.self) c.new.ensures c.in_ok-encode_pair.ensures.kind))

pub new-requires : goal.new-requires
new-requires g c = atom_small c.give.new.self c.in_ok-second.ensures.encodes.built c.in_ok-second.second (Solvable c.args.barred) c.in_ok-second.ensures.present

pub encode_pair-requires-clause-first : goal.encode_pair-requires-clause-first
encode_pair-requires-clause-first g c = parent_below c.give.new.self c.in_ok-second.ensures.encodes.built c.args.parent c.in_ok-first.first (parent_variable_grows c.parent_variable.new.self c.give.new.self c.args.parent c.in_ok-first.first c.in_ok-second.ensures.encodes.extends c.in_ok-first.ensures.present)

pub encode_pair-requires-clause-second : goal.encode_pair-requires-clause-second
encode_pair-requires-clause-second g c =
    literal_below (count_of c.give.new.self.coding.search) c.new.result c.in_ok-second.second false c.new.ensures (atom_below c.give.new.self c.in_ok-second.ensures.encodes.built c.in_ok-second.second (Solvable c.args.barred) c.in_ok-second.ensures.present)
