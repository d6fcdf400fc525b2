-- The solver's state: the SAT core, the atoms of its variables, the rules of its clauses, and its steps.
use Rattle.std.specs.Prelude.{◌≡◌, ℕ, ◌<◌, true, List, [], ◌∷◌, ◌++◌, length, map, slice_get, Some}
use Rattle.resolvo_pool_core.specs.declared.id.ClauseId.{ClauseId}
use Rattle.resolvo_pool_core.specs.declared.id.VariableId.{VariableId}
use Rattle.resolvo_store_core.specs.Signed.{Signed, has}
use Rattle.resolvo_store_core.specs.AtMostOne.{IsPrefixOf}
use Rattle.resolvo_sat.specs.Clauses.{SatClause}
use Rattle.resolvo_sat.specs.declared.state.SatState.{SatState}
use Rattle.resolvo_sat.specs.declared.state.VariableKind.TheVariants as Kinds
use Rattle.resolvo_sat.specs.declared.propagate_and_learn.StepResult.{StepResult}
use Rattle.resolvo_sat.specs.Known.{clause_at}
use Rattle.resolvo_sat.specs.State.{IsState, AreApart, clauses_of, count_of}
use Rattle.resolvo_sat.specs.Propagation.{IsReady, AreCovered}
use Rattle.resolvo_sat.specs.Begin.{IsRootClause, root_entry}
use Rattle.resolvo_sat.specs.PropagateAndLearn.{IsProgress}
use Rattle.resolvo_state.specs.declared.atom.ProofAtom.{ProofAtom}
use Rattle.resolvo_state.specs.Kinds.{Kind}
use Rattle.resolvo_state.specs.Kinds.{Root, Learnt}
use Rattle.resolvo_state.specs.declared.solver_state.SolverState.{SolverState}
use Rattle.resolvo_state.specs.Atoms.{kind_of, Represents}
use Rattle.resolvo_state.specs.Keys.{AreOnce}
use Rattle.resolvo_state.specs.ClauseKinds.{kind_at}

-- What holds between calls. The core is ready. Each variable but the root's has an atom, no two the same. Each
-- clause has a rule. The root's clause is the first and names no other variable. A learnt clause has causes, no literal
-- beside its negation, and only literals of earlier clauses.
pub record IsCoding {N S : Type 0} (c : SolverState N S) : Type 0 where
  pub ready : IsReady c.search c.watching
  pub covered : AreCovered c.search c.watching
  pub variable_kinds : c.search.variables.items ≡ Kinds.Root ∷ map kind_of c.atoms.keys
  pub each : length c.kinds.items ≡ length c.search.clauses
  pub distinct : AreOnce c.atoms.keys
  pub learnt : (n : ℕ) (clause : SatClause) → kind_at c.kinds.items n ≡ Some Learnt → slice_get c.search.clauses n ≡ Some clause → 0 < length clause.causes
  pub apart : (n : ℕ) (clause : SatClause) → kind_at c.kinds.items n ≡ Some Learnt → slice_get c.search.clauses n ≡ Some clause → AreApart clause.literals
  pub drawn : (n : ℕ) (clause : SatClause) → kind_at c.kinds.items n ≡ Some Learnt → slice_get c.search.clauses n ≡ Some clause → (l : Signed) → has clause.literals l ≡ true → (m : ℕ) × (m < n) × (has (clause_at (clauses_of c.search) m) l ≡ true)
  pub first : kind_at c.kinds.items 0 ≡ Some Root
  pub rooted : (n : ℕ) → kind_at c.kinds.items n ≡ Some Root → n ≡ 0
  pub alone : (l : Signed) → has (clause_at (clauses_of c.search) 0) l ≡ true → l.variable.0 ≡ 0

-- No number is left for a variable, or none for a clause: the last one is given.
pub data LacksNumber {N S : Type 0} (c : SolverState N S) : Type 0 where
  variables : count_of c.search ≡ 2147483647 → LacksNumber c
  clauses : length c.search.clauses ≡ 4294967295 → LacksNumber c

-- Atoms, clauses and their kinds were appended.
pub record Grows {N S : Type 0} (old new : SolverState N S) : Type 0 where
  pub atoms : IsPrefixOf old.atoms.keys new.atoms.keys
  pub clauses : IsPrefixOf old.search.clauses new.search.clauses
  pub kinds : IsPrefixOf old.kinds.items new.kinds.items
  pub base_level : new.search.base_level ≡ old.search.base_level

-- the trail is unchanged
pub record SameTrail {N S : Type 0} (old new : SolverState N S) : Type 0 where
  pub tracker : new.search.tracker ≡ old.search.tracker

-- the root is true at level 1, and nothing else is there
pub record IsBegun {N S : Type 0} (c : SolverState N S) : Type 0 where
  pub coding : IsCoding c
  pub atoms : c.atoms.keys ≡ []
  pub kinds : c.kinds.items ≡ Root ∷ []
  pub clause : IsRootClause c.search.clauses
  pub trail : c.search.tracker.trail ≡ root_entry ∷ []
  pub base_level : c.search.base_level ≡ 1

-- The variable represents the atom. If one did before, nothing changed; else the atom was appended.
pub record Gives {N S : Type 0} (atom : ProofAtom N S) (v : VariableId) (old new : SolverState N S) : Type 0 where
  pub coding : IsCoding new
  pub present : Represents new.atoms.keys v atom
  pub same : (k : ℕ) → slice_get old.atoms.keys k ≡ Some atom → new ≡ old
  pub added : ((k : ℕ) → slice_get old.atoms.keys k ≡ Some atom → ⊥) → new.atoms.keys ≡ old.atoms.keys ++ atom ∷ []
  pub grows : Grows old new
  pub trail : SameTrail old new
  pub clauses : new.search.clauses ≡ old.search.clauses
  pub kinds : new.kinds ≡ old.kinds

-- A clause of these literals, which has no causes, was appended.
pub record AddsRule {N S : Type 0} (x : Kind N S) (spelled : List Signed) (id : ClauseId) (old new : SolverState N S) : Type 0 where
  pub coding : IsCoding new
  pub atoms : new.atoms ≡ old.atoms
  pub clause : SatClause
  pub literals : clause.literals ≡ spelled
  pub plain : clause.causes ≡ []
  pub number : id.0 ≡ length old.search.clauses
  pub added : new.search.clauses ≡ old.search.clauses ++ clause ∷ []
  pub kinds : new.kinds.items ≡ old.kinds.items ++ x ∷ []
  pub grows : Grows old new
  pub trail : SameTrail old new

-- A clause was appended that follows from its causes.
pub record AddsDenial {N S : Type 0} (denies : List Signed) (by : List ClauseId) (id : ClauseId) (old new : SolverState N S) : Type 0 where
  pub coding : IsCoding new
  pub atoms : new.atoms ≡ old.atoms
  pub variables : new.search.variables ≡ old.search.variables
  pub clause : SatClause
  pub literals : clause.literals ≡ denies
  pub causes : clause.causes ≡ by
  pub number : id.0 ≡ length old.search.clauses
  pub added : new.search.clauses ≡ old.search.clauses ++ clause ∷ []
  pub kinds : new.kinds.items ≡ old.kinds.items ++ Learnt ∷ []
  pub grows : Grows old new
  pub trail : SameTrail old new

-- the kinds that a step adds
abbrev pub learnt_by : {N S : Type 0} → StepResult → List (Kind N S)
learnt_by StepResult.Complete = []
learnt_by (StepResult.Learnt id) = Learnt ∷ []
learnt_by (StepResult.Refused r) = []

-- one step of the search
pub record Advances {N S : Type 0} (old new : SolverState N S) (p : StepResult) : Type 0 where
  pub coding : IsCoding new
  pub progress : IsProgress old.search old.watching new.search new.watching p
  pub atoms : new.atoms ≡ old.atoms
  pub kinds : new.kinds.items ≡ old.kinds.items ++ learnt_by p
  pub grows : Grows old new

-- variables with their atoms, and clauses with their rules, are unchanged
pub record KeepsClauses {N S : Type 0} (old new : SolverState N S) : Type 0 where
  pub coding : IsCoding new
  pub atoms : new.atoms ≡ old.atoms
  pub kinds : new.kinds ≡ old.kinds
  pub variables : new.search.variables ≡ old.search.variables
  pub clauses : new.search.clauses ≡ old.search.clauses

-- no jump goes below the level
pub record SetsBaseLevel (level : ℕ) (old new : SatState) : Type 0 where
  pub state : IsState new
  pub variables : new.variables ≡ old.variables
  pub clauses : new.clauses ≡ old.clauses
  pub tracker : new.tracker ≡ old.tracker
  pub base_level : new.base_level ≡ level
