-- Clauses with their causes (antecedents), and how they lie one after the other in two lists.
use Rattle.std.specs.Prelude.{◌≡◌, ℕ, zero, suc, ◌<◌, ◌≤◌, ◌==◌, cond, List, [], ◌∷◌, length, slice_index_or, Option, Some, None}
use Rattle.std.specs.List.{slice_range}
use Rattle.resolvo_pool_core.specs.declared.id.ClauseId.{ClauseId}
use Rattle.resolvo_store_core.specs.Signed.{Signed}
use Rattle.resolvo_store_core.specs.declared.watched_literals.WatchedLiterals.{WatchedLiterals}

-- A clause: one of its literals is true. Where it has causes, it follows from these.
pub record SatClause : Type 0 where
  pub literals : List Signed
  pub causes : List ClauseId

abbrev pub sat_clause : List Signed → List ClauseId → SatClause
sat_clause literals causes = record { literals = literals; causes = causes }

-- a rule of two literals
abbrev pub pair_clause : WatchedLiterals → SatClause
pair_clause p = sat_clause (p.first ∷ p.second ∷ []) []

-- the causes of the clause of this number, or none
abbrev pub causes_at : List SatClause → ℕ → List ClauseId
causes_at [] n = []
causes_at (c ∷ cs) zero = c.causes
causes_at (c ∷ cs) (suc n) = causes_at cs n

-- the causes of the clause of this number, or none: the clauses that have some, and where their causes end; the first of these begin here
abbrev pub causes_of : List ClauseId → ℕ → List ℕ → List ℕ → ℕ → List ClauseId
causes_of causes b [] ends n = []
causes_of causes b (c ∷ caused) [] n = []
causes_of causes b (c ∷ caused) (e ∷ ends) n = cond (c == n) (slice_range causes b e) (causes_of causes e caused ends n)

-- the place of the number among these; or it is none of them
abbrev pub IsPlaceOf : List ℕ → ℕ → Option ℕ → Type 0
IsPlaceOf caused n None = (i : ℕ) → i < length caused → slice_index_or caused i 0 ≡ n → ⊥
IsPlaceOf caused n (Some i) = (i < length caused) × (slice_index_or caused i 0 ≡ n)

-- the clauses from this number on, with these causes, whose literals end so; the first of these begin here
abbrev pub clauses_from : (ℕ → List ClauseId) → List Signed → ℕ → ℕ → List ℕ → List SatClause
clauses_from causes literals n b [] = []
clauses_from causes literals n b (e ∷ ends) = sat_clause (slice_range literals b e) (causes n) ∷ clauses_from causes literals (suc n) e ends

abbrev pub clauses_in : List Signed → List ℕ → List ClauseId → List ℕ → List ℕ → List SatClause
clauses_in literals ends causes caused cause_ends = clauses_from (causes_of causes 0 caused cause_ends) literals 0 0 ends

-- the ends rise from this one up to that of a list of this length
abbrev pub AreRising : ℕ → ℕ → List ℕ → Type 0
AreRising long b [] = b ≡ long
AreRising long b (e ∷ ends) = (b ≤ e) × AreRising long e ends

-- the numbers rise, from this one on, and each is of one of so many clauses
abbrev pub AreNumbered : ℕ → ℕ → List ℕ → Type 0
AreNumbered count low [] = Unit {0}
AreNumbered count low (c ∷ caused) = (low ≤ c) × (c < count) × AreNumbered count (suc c) caused

-- the causes of these clauses, among so many, fill a list of this length
pub record AreCaused (count causes : ℕ) (caused cause_ends : List ℕ) : Type 0 where
  pub numbered : AreNumbered count 0 caused
  pub paired : length caused ≡ length cause_ends
  pub rising : AreRising causes 0 cause_ends

-- the clauses of these ends fill lists of these lengths
pub record AreEnds (literals : ℕ) (ends : List ℕ) (causes : ℕ) (caused cause_ends : List ℕ) : Type 0 where
  pub few : length ends ≤ 4294967295
  pub rising : AreRising literals 0 ends
  pub for_causes : AreCaused (length ends) causes caused cause_ends
