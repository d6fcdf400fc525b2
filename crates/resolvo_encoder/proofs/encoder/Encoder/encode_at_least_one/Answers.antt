use Rattle.std.proofs.Common.{[], ◌∷◌, subst, true}
use Rattle.resolvo_store_core.specs.Signed.{Signed}
use Rattle.resolvo_store_core.specs.Clauses.{no}
use Rattle.resolvo_state.specs.Kinds.{Kind}
use Rattle.resolvo_sat.specs.RuleClauses.{IsExact, Rule}
use Rattle.resolvo_state.specs.declared.atom.ProofAtom.TheVariants.{Solvable, AtLeastOne}
use Rattle.resolvo_state.proofs.Growth.{represents_grow}
use Rattle.resolvo_encoder.specs.ClauseRules.{EncodesPair}
use Rattle.resolvo_encoder.proofs.EncodesLemmas.{encodes_then, at_least_one_encodes}
use Rattle.resolvo_sat.specs.State.{count_of}
use Rattle.resolvo_encoder.proofs.RangeLemmas.{atom_below, atom_small, literal_below}
use Rattle.resolvo_encoder.proofs.encoder.Encoder.encode_at_least_one.Goals as goal

pub returns-clause-encodes : goal.returns-clause-encodes
returns-clause-encodes g c =
    let exact : IsExact g.S.PartialEq.eq = record { one = g.met.S.Exact.exact; own = g.met.S.Eq.laws.refl } in
    let encodes = encodes_then g.S.PartialEq.eq exact [] [] c.args.self.now c.give.new.self c.give-2.new.self c.in_ok-first.ensures.encodes c.in_ok-second.ensures.encodes in
    let first = represents_grow c.give.new.self.coding c.give-2.new.self.coding c.in_ok-first.first (Solvable c.args.one.solvable) c.in_ok-second.ensures.encodes.extends.grows c.in_ok-first.ensures.present in
    encodes_then g.S.PartialEq.eq exact [] (Rule.is_there c.args.one.name c.args.one.solvable ∷ []) c.args.self.now c.give-2.new.self c.encode_pair.new.self encodes
    (at_least_one_encodes g.S.PartialEq.eq exact c.args.one.name c.args.one.solvable c.in_ok-first.first c.in_ok-second.second c.give-2.new.self c.encode_pair.new.self encodes.built first c.in_ok-second.ensures.present (subst (λ (x : Signed). EncodesPair (Kind.IsThere c.args.one.name c.args.one.solvable) (no c.in_ok-first.first) x c.give-2.new.self c.encode_pair.new.self) c.new.ensures c.in_ok-encode_pair.ensures.kind))

pub new-requires : goal.new-requires
new-requires g c = atom_small c.give-2.new.self c.in_ok-second.ensures.encodes.built c.in_ok-second.second (AtLeastOne c.args.one.name) c.in_ok-second.ensures.present

pub encode_pair-requires-clause-first : goal.encode_pair-requires-clause-first
encode_pair-requires-clause-first g c = atom_below c.give-2.new.self c.in_ok-second.ensures.encodes.built c.in_ok-first.first (Solvable c.args.one.solvable) (represents_grow c.give.new.self.coding c.give-2.new.self.coding c.in_ok-first.first (Solvable c.args.one.solvable) c.in_ok-second.ensures.encodes.extends.grows c.in_ok-first.ensures.present)

pub encode_pair-requires-clause-second : goal.encode_pair-requires-clause-second
encode_pair-requires-clause-second g c =
    literal_below (count_of c.give-2.new.self.coding.search) c.new.result c.in_ok-second.second true c.new.ensures (atom_below c.give-2.new.self c.in_ok-second.ensures.encodes.built c.in_ok-second.second (AtLeastOne c.args.one.name) c.in_ok-second.ensures.present)
