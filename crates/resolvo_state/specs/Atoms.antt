-- The atoms of variables.
use Rattle.std.specs.Prelude.{◌≡◌, ℕ, zero, suc, List, [], ◌∷◌, Option, Some, None, slice_get}
use Rattle.resolvo_pool_core.specs.declared.id.VariableId.{VariableId}
use Rattle.resolvo_pool_core.specs.declared.requirement.Requirement.TheVariants.{Single}
use Rattle.resolvo_sat.specs.declared.state.VariableKind.{VariableKind}
use Rattle.resolvo_sat.specs.declared.state.VariableKind.TheVariants as Kinds
use Rattle.resolvo_sat.specs.RuleClauses.{Atom}
use Rattle.resolvo_state.specs.declared.atom.ProofAtom.{ProofAtom}
use Rattle.resolvo_state.specs.declared.atom.ProofAtom.TheVariants.{Solvable, AtLeastOne, Gate, Outside, Matches, Bit}

-- the atom of the value
abbrev pub atom_of : {N S : Type 0} → ProofAtom N S → Atom N S
atom_of (Solvable s) = Atom.solvable s
atom_of (AtLeastOne n) = Atom.any_of n
atom_of (Gate r) = Atom.gate r
atom_of (Outside v) = Atom.outside v
atom_of (Matches v) = Atom.matches v
atom_of (Bit n bit) = Atom.digit n bit

-- the variable's kind in the SAT core
abbrev pub kind_of : {N S : Type 0} → ProofAtom N S → VariableKind
kind_of (Solvable s) = Kinds.Solvable
kind_of (AtLeastOne n) = Kinds.Helper
kind_of (Gate r) = Kinds.Helper
kind_of (Outside v) = Kinds.Helper
kind_of (Matches v) = Kinds.Helper
kind_of (Bit n bit) = Kinds.Helper

-- an atom for variables without one
abbrev pub no_atom : {N S : Type 0} → Atom N S
no_atom = Atom.gate (Single (record { 0 = 0 }))

-- the atom of this place
abbrev pub atom_at : {N S : Type 0} → List (ProofAtom N S) → ℕ → Atom N S
atom_at [] k = no_atom
atom_at (a ∷ atoms) zero = atom_of a
atom_at (a ∷ atoms) (suc k) = atom_at atoms k

-- the atom that each variable represents: the root's none, the one after it the first
abbrev pub origin : {N S : Type 0} → List (ProofAtom N S) → ℕ → Atom N S
origin atoms zero = no_atom
origin atoms (suc k) = atom_at atoms k

-- the variable represents the atom
abbrev pub Represents : {N S : Type 0} → List (ProofAtom N S) → VariableId → ProofAtom N S → Type 0
Represents atoms v a = (k : ℕ) × (v.0 ≡ suc k) × (slice_get atoms k ≡ Some a)

-- the variable of the atom, or there is none
abbrev pub IsFound : {N S : Type 0} → List (ProofAtom N S) → ProofAtom N S → Option VariableId → Type 0
IsFound atoms a None = (k : ℕ) → slice_get atoms k ≡ Some a → ⊥
IsFound atoms a (Some v) = Represents atoms v a

-- the solvable of an atom
abbrev pub solvable_in : {N S : Type 0} → Option (ProofAtom N S) → Option S
solvable_in None = None
solvable_in (Some (Solvable s)) = Some s
solvable_in (Some (AtLeastOne n)) = None
solvable_in (Some (Gate r)) = None
solvable_in (Some (Outside v)) = None
solvable_in (Some (Matches v)) = None
solvable_in (Some (Bit n bit)) = None

-- the solvable that a variable represents
abbrev pub solvable_of : {N S : Type 0} → List (ProofAtom N S) → ℕ → Option S
solvable_of atoms zero = None
solvable_of atoms (suc k) = solvable_in (slice_get atoms k)

-- the place of the digit that an atom is
abbrev pub bit_in : {N S : Type 0} → Option (ProofAtom N S) → Option ℕ
bit_in None = None
bit_in (Some (Solvable s)) = None
bit_in (Some (AtLeastOne n)) = None
bit_in (Some (Gate r)) = None
bit_in (Some (Outside v)) = None
bit_in (Some (Matches v)) = None
bit_in (Some (Bit n bit)) = Some bit

-- the place of the digit that a variable represents
abbrev pub bit_of : {N S : Type 0} → List (ProofAtom N S) → ℕ → Option ℕ
bit_of atoms zero = None
bit_of atoms (suc k) = bit_in (slice_get atoms k)
