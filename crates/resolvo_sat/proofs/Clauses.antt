-- Lemmas on the clauses that are held.
use Rattle.std.proofs.Common.{◌≡◌, ℕ, zero, suc, List, [], ◌∷◌, length, Some, refl, ◌∙◌, ap}
use Rattle.std.specs.Prelude.{slice_get}
use Rattle.resolvo_pool_core.specs.declared.id.ClauseId.{ClauseId}
use Rattle.resolvo_store_core.specs.Signed.{Signed}
use Rattle.resolvo_sat.specs.Clauses.{SatClause, sat_clause}
use Rattle.resolvo_sat.specs.Known.{clause_at}
use Rattle.resolvo_sat.specs.State.{lists}

pub literals_at : (cs : List SatClause) (n : ℕ) (c : SatClause) → slice_get cs n ≡ Some c → clause_at (lists cs) n ≡ c.literals
literals_at [] n c h = cc
literals_at (d ∷ cs) zero c h = let same : d ≡ c = cc in ap (λ (x : SatClause). x.literals) same
literals_at (d ∷ cs) (suc n) c h = literals_at cs n c h

pub length-lists : (cs : List SatClause) → length (lists cs) ≡ length cs
length-lists [] = refl
length-lists (c ∷ cs) = ap suc (length-lists cs)

pub same_parts : (ls ms : List Signed) (cs ds : List ClauseId) → ls ≡ ms → cs ≡ ds → sat_clause ls cs ≡ sat_clause ms ds
same_parts ls ms cs ds literals causes = ap (λ (xs : List Signed). sat_clause xs cs) literals ∙ ap (λ (xs : List ClauseId). sat_clause ms xs) causes
