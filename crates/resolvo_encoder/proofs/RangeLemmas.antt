-- The variables of a clause's literals are in range.
use Rattle.std.proofs.Common.{◌≡◌, ◌<◌, ℕ, Bool, Option, None, Some, sym, ap, subst, arith}
use Rattle.resolvo_pool_core.specs.declared.id.VariableId.{VariableId}
use Rattle.resolvo_store_core.specs.Signed.{Signed}
use Rattle.resolvo_sat.specs.State.{count_of}
use Rattle.resolvo_state.specs.declared.atom.ProofAtom.{ProofAtom}
use Rattle.resolvo_state.specs.declared.atom.ProofAtom.TheVariants.{Solvable}
use Rattle.resolvo_state.specs.Atoms.{Represents}
use Rattle.resolvo_state.proofs.Growth.{represents_in_range}
use Rattle.resolvo_state.proofs.Origins.{count_is}
use Rattle.resolvo_encoder.specs.declared.encoder.Encoder.{Encoder}
use Rattle.resolvo_encoder.specs.Encoded.{IsParentVariable}
use Rattle.resolvo_encoder.specs.Steps.{IsBuilt}

module _ {N S : Type 0} (e : Encoder N S) (built : IsBuilt e) where
  pub atom_below : (v : VariableId) (a : ProofAtom N S) → Represents e.coding.atoms.keys v a → v.0 < count_of e.coding.search
  atom_below v a present = represents_in_range e.coding v a built.coding present

  pub parent_below : (parent : Option S) (v : VariableId) → IsParentVariable e.coding.atoms.keys parent v → v.0 < count_of e.coding.search
  parent_below None v is = let count = count_is e.coding built.coding in let none : v.0 ≡ 0 = ap (λ (x : VariableId). x.0) is in omega (arith, count, none)
  parent_below (Some s) v present = atom_below v (Solvable s) present

  pub atom_small : (v : VariableId) (a : ProofAtom N S) → Represents e.coding.atoms.keys v a → v.0 < 2147483648
  atom_small v a present =
      let below : v.0 < count_of e.coding.search = atom_below v a present in
      let small : count_of e.coding.search < 2147483648 = built.coding.ready.state.small in
      omega arith

-- the variable of a literal
pub literal_below : (count : ℕ) (l : Signed) (v : VariableId) (b : Bool) → l ≡ record { variable = v; positive = b } → v.0 < count → l.variable.0 < count
literal_below count l v b is below = subst (λ (x : Signed). x.variable.0 < count) (sym is) below
