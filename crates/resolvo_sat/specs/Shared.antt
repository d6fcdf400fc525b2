-- Clauses that share their literals but the first with an earlier one.
use Rattle.std.specs.Prelude.{◌≡◌, ℕ, suc, ◌<◌, ◌==◌, cond, List, [], ◌∷◌, length, drop, map}
use Rattle.resolvo_store_core.specs.Signed.{Signed}
use Rattle.resolvo_sat.specs.Clauses.{SatClause, sat_clause, AreNumbered}
use Rattle.resolvo_sat.specs.Known.{clause_at}

-- the literals but the first that the clause of this number has of its own
abbrev pub rest_of : List SatClause → ℕ → List Signed
rest_of own n = drop 1 (clause_at (map (λ c. c.literals) own) n)

-- what the clause of this number shares, or nothing: the clauses that share, and those with which they do
abbrev pub shared_of : List SatClause → List ℕ → List ℕ → ℕ → List Signed
shared_of own [] sources n = []
shared_of own (c ∷ sharing) [] n = []
shared_of own (c ∷ sharing) (s ∷ sources) n = cond (c == n) (rest_of own s) (shared_of own sharing sources n)

-- a clause's own literals, and what it shares where it has a single one
abbrev pub with_shared : List Signed → List Signed → List Signed
with_shared [] more = []
with_shared (l ∷ []) more = l ∷ more
with_shared (l ∷ k ∷ ls) more = l ∷ k ∷ ls

-- the clauses from this number on, with what they share
abbrev pub clauses_sharing : (ℕ → List Signed) → ℕ → List SatClause → List SatClause
clauses_sharing shared n [] = []
clauses_sharing shared n (c ∷ own) = sat_clause (with_shared c.literals (shared n)) c.causes ∷ clauses_sharing shared (suc n) own

abbrev pub clauses_with : List SatClause → List ℕ → List ℕ → List SatClause
clauses_with own sharing sources = clauses_sharing (shared_of own sharing sources) 0 own

-- each number is below this one
abbrev pub AreBelow : ℕ → List ℕ → Type 0
AreBelow count [] = Unit {0}
AreBelow count (s ∷ sources) = (s < count) × AreBelow count sources

-- the clauses that share literals rise, and each has one of the clauses to share them with
pub record AreShared (own : List SatClause) (sharing sources : List ℕ) : Type 0 where
  pub numbered : AreNumbered (length own) 0 sharing
  pub paired : length sharing ≡ length sources
  pub below : AreBelow (length own) sources

-- the clause of this number has these literals but the first
abbrev pub IsSourceOf : List SatClause → List Signed → ℕ → Type 0
IsSourceOf own literals n = (n < length own) × (rest_of own n ≡ drop 1 literals)
