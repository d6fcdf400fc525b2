-- Which solvables are chosen.
use Rattle.std.specs.Prelude.{◌≡◌, true, cond, List, Option, None, Contains}
use Rattle.std.specs.List.{filter_map}
use Rattle.resolvo_store_core.specs.Signed.{Signed, has}
use Rattle.resolvo_store_core.specs.declared.decision.Entry.{Entry}
use Rattle.resolvo_sat.specs.RuleClauses.{Atom, plus}
use Rattle.resolvo_sat.specs.Numbered.{Means}
use Rattle.resolvo_state.specs.declared.atom.ProofAtom.{ProofAtom}
use Rattle.resolvo_state.specs.Atoms.{origin, solvable_of}

-- these are the solvables that the known literals choose
pub record AreChosen {N S : Type 0} (atoms : List (ProofAtom N S)) (known : List Signed) (chosen : List S) : Type 0 where
  pub each : (s : S) → Contains chosen s → (l : Signed) × (has known l ≡ true) × Means (origin atoms) l (plus (Atom.solvable s))
  pub all : (l : Signed) (s : S) → has known l ≡ true → Means (origin atoms) l (plus (Atom.solvable s)) → Contains chosen s

-- the solvable that an entry makes true, if it makes one true
abbrev pub choice_of : {N S : Type 0} → List (ProofAtom N S) → Entry → Option S
choice_of atoms e = cond e.decision.value (solvable_of atoms e.decision.variable.0) None

-- the solvables that these entries make true, in the order of the entries
abbrev pub choices : {N S : Type 0} → List (ProofAtom N S) → List Entry → List S
choices atoms entries = filter_map (choice_of atoms) entries
