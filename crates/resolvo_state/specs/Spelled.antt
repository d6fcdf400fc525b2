-- Clauses that encode rules have their literals.
use Rattle.std.specs.Prelude.{◌≡◌, ℕ, Bool, true, Some}
use Rattle.resolvo_pool_core.specs.RuleKeeping.{Packages}
use Rattle.resolvo_store_core.specs.Signed.{Signed, has}
use Rattle.resolvo_sat.specs.Known.{clause_at}
use Rattle.resolvo_sat.specs.State.{clauses_of}
use Rattle.resolvo_sat.specs.RuleClauses.{Atom, Rule, plus, literals_of}
use Rattle.resolvo_sat.specs.Numbered.{Means, Spells}
use Rattle.resolvo_state.specs.declared.solver_state.SolverState.{SolverState}
use Rattle.resolvo_state.specs.Atoms.{origin}
use Rattle.resolvo_state.specs.ClauseKinds.{rule_at}

module _ {N S : Type 0} (same : S → S → Bool) (p : Packages N S) where
  -- each clause that encodes a rule has the rule's literals
  abbrev pub Spelled : SolverState N S → Type 0
  Spelled c = (n : ℕ) (r : Rule N S) → rule_at c.kinds.items n ≡ Some r → Spells (origin c.atoms.keys) (clause_at (clauses_of c.search) n) (literals_of same p r)

-- the solvables that clauses may make true are registered
abbrev pub AreRegistered : {N S : Type 0} → (S → Type 0) → SolverState N S → Type 0
AreRegistered {N} {S} registered c = (n : ℕ) (l : Signed) (s : S) → has (clause_at (clauses_of c.search) n) l ≡ true → Means (origin c.atoms.keys) l (plus (Atom.solvable s)) → registered s
