-- The models of numbered literals and clauses.
use Rattle.std.specs.Prelude.{ℕ, ◌-◌, List, map}
use Rattle.resolvo_pool_core.specs.OnePass.Rest.{broken, last, more}
use Rattle.resolvo_pool_core.specs.OnePass as pass
use Rattle.resolvo_checker.specs.declared.literal.Literal.{Literal}
use Rattle.resolvo_checker.specs.declared.literal.ClauseStatus.{ClauseStatus}
use Rattle.resolvo_checker.specs.declared.literal.ClauseStatus.TheVariants.{Falsified, Unit, Open}
use Rattle.resolvo_checker.specs.Kept.{Kept, literals_at}

abbrev pub literal_of : Literal → pass.Literal ℕ
literal_of l = record { atom = l.atom; positive = l.positive }

abbrev pub literals_of : List Literal → List (pass.Literal ℕ)
literals_of ls = map literal_of ls

abbrev pub status_of : ClauseStatus → pass.Rest ℕ
status_of Falsified = broken
status_of (Unit l) = last (literal_of l)
status_of Open = more

-- the n-th clause, n from 1
abbrev pub clause_at : List Kept → ℕ → List (pass.Literal ℕ)
clause_at clauses n = literals_of (literals_at clauses (n - 1))
