-- What one pass over clauses refutes, for clauses over variables.
use Rattle.std.specs.Prelude.{ℕ, nat_eq, List, map}
use Rattle.resolvo_pool_core.specs.OnePass as Pass
use Rattle.resolvo_store_core.specs.Signed.{Signed}

-- the literal, with its variable's number as the atom
abbrev pub rup_literal : Signed → Pass.Literal ℕ
rup_literal l = record { atom = l.variable.0; positive = l.positive }

abbrev pub rup_clause : List Signed → List (Pass.Literal ℕ)
rup_clause c = map rup_literal c

-- one pass over the causes refutes whatever makes each literal false
abbrev pub Refutes : List Signed → List (List Signed) → Type 0
Refutes literals causes = Pass.RefutesFrom nat_eq (rup_clause literals) (map rup_clause causes)
