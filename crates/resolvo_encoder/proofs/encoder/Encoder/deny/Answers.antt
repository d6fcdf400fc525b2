use Rattle.std.proofs.Common.{[], ◌∷◌, subst, ◌<◌, None, inl, inr, false, sym}
use Rattle.resolvo_store_core.specs.Signed.{Signed}
use Rattle.resolvo_store_core.specs.Clauses.{no}
use Rattle.resolvo_sat.specs.RuleClauses.{IsExact, Rule}
use Rattle.resolvo_state.specs.StoredKinds.{plain_kind}
use Rattle.resolvo_encoder.specs.ClauseRules.{EncodesPair}
use Rattle.resolvo_encoder.proofs.EncodesLemmas.{encodes_then, forbid_encodes}
use Rattle.resolvo_state.specs.declared.atom.ProofAtom.TheVariants.{Solvable}
use Rattle.resolvo_sat.specs.State.{count_of}
use Rattle.resolvo_encoder.proofs.RangeLemmas.{atom_below, parent_below, atom_small, literal_below}
use Rattle.resolvo_pool_core.specs.declared.id.VariableId.{VariableId}
use Rattle.resolvo_encoder.proofs.encoder.Encoder.deny.Goals as goal

pub returns-clause-encodes : goal.returns-clause-encodes
returns-clause-encodes g c = λ w is.
    let exact : IsExact g.S.PartialEq.eq = record { one = g.met.S.Exact.exact; own = g.met.S.Eq.laws.refl } in
    let encodes = c.in_ok-variable.ensures.encodes in
    encodes_then g.S.PartialEq.eq exact [] (Rule.forbids w c.args.solvable ∷ []) c.args.self.now c.give.new.self c.encode_pair.new.self encodes
    (forbid_encodes g.S.PartialEq.eq exact (plain_kind c.args.kind) w c.args.solvable c.beside-first.result c.in_ok-variable.variable c.give.new.self c.encode_pair.new.self encodes.built is c.beside-first.ensures c.in_ok-variable.ensures.present
    (subst (λ (x : Signed). EncodesPair (plain_kind c.args.kind) (no c.beside-first.result) x c.give.new.self c.encode_pair.new.self) c.new.ensures c.in_ok-encode_pair.ensures.kind))

pub new-requires : goal.new-requires
new-requires g c = atom_small c.give.new.self c.in_ok-variable.ensures.encodes.built c.in_ok-variable.variable (Solvable c.args.solvable) c.in_ok-variable.ensures.present

pub encode_pair-requires-clause-first : goal.encode_pair-requires-clause-first
encode_pair-requires-clause-first g c =
    let new = c.give.new.self in
    let built = c.in_ok-variable.ensures.encodes.built in
    elim c.beside-first.ensures [
      | inl is ↦ subst (λ (x : VariableId). x.0 < count_of new.coding.search) (sym is) (atom_below new built c.in_ok-variable.variable (Solvable c.args.solvable) c.in_ok-variable.ensures.present)
      | inr is ↦ parent_below new built None c.beside-first.result is
    ]

pub encode_pair-requires-clause-second : goal.encode_pair-requires-clause-second
encode_pair-requires-clause-second g c =
    literal_below (count_of c.give.new.self.coding.search) c.new.result c.in_ok-variable.variable false c.new.ensures (atom_below c.give.new.self c.in_ok-variable.ensures.encodes.built c.in_ok-variable.variable (Solvable c.args.solvable) c.in_ok-variable.ensures.present)
