-- A solver's record of a conflict.
use Rattle.std.specs.Prelude.{◌≡◌, ℕ, suc, Bool, List, map, Option, Some, None, Contains}
use Rattle.resolvo_pool_core.specs.declared.id.ClauseId.{ClauseId}
use Rattle.resolvo_pool_core.specs.declared.requirement.Requirement.{Requirement}
use Rattle.resolvo_pool_core.specs.RuleKeeping.{Packages, is_in, meets}
use Rattle.resolvo_proof.specs.declared.step.ProofStep.{ProofStep}
use Rattle.resolvo_proof.specs.Order.{conflict_order, conflict_rules, requirements_in}
use Rattle.resolvo_proof.specs.Offered.{offered_by}
use Rattle.resolvo_proof.specs.declared.offers.Offers.{Offers}
use Rattle.resolvo.specs.declared.search.SearchResult.{SearchResult}
use Rattle.resolvo.specs.declared.search.SearchResult.TheVariants.{Chosen, Unsat}
use Rattle.resolvo.specs.declared.conflict.KeptConflict.{KeptConflict}

-- its clauses, and the offered candidates for the requirements of its rules
pub record Left (S : Type 0) : Type 0 where
  pub clauses : List ClauseId
  pub offers : Offers S

abbrev pub left_of : {S : Type 0} → KeptConflict S → Left S
left_of k = record { clauses = k.clauses.items; offers = k.offers }

-- the clause of the step at this place; the root's clause, which is the first one, is no step
abbrev pub clause_of_step : ℕ → ClauseId
clause_of_step place = let c : ClauseId = record { 0 = suc place } in c

-- The clauses of the conflict's rules, in its order: the causes of the last step, its last one
-- first. A learnt clause is replaced by its causes, and each is listed once.
abbrev pub conflict_clauses : {N S : Type 0} → List (ProofStep N S) → List ClauseId
conflict_clauses steps = map clause_of_step (conflict_order steps)

-- The list is exactly the solvables that meet the requirement, in an order in which they may be
-- tried.
pub record IsRightOffer {N S : Type 0} (same : S → S → Bool) (p : Packages N S) (orders : Requirement → List S → Type 0) (r : Requirement) (list : List S) : Type 0 where
  pub ordered : orders r list
  pub matches : (s : S) → is_in same p list s ≡ meets same p r s

-- such a list was offered for each requirement of the rules of the steps' conflict
abbrev pub AreOffers : {N S : Type 0} → (S → S → Bool) → Packages N S → (Requirement → List S → Type 0) → List (ProofStep N S) → Offers S → Type 0
AreOffers same p orders steps offers = (r : Requirement)
    → Contains (requirements_in (conflict_rules steps)) r
    → IsRightOffer same p orders r (offered_by offers r)

-- the record of a conflict: its clauses, which are returned too, and the offers; otherwise none
abbrev pub IsLeft : {N S : Type 0} → (S → S → Bool) → Packages N S → (Requirement → List S → Type 0) → SearchResult S → List (ProofStep N S) → List ClauseId → Option (KeptConflict S) → Type 0
IsLeft same p orders (Chosen v turns) steps ids left = left ≡ None
IsLeft {N} {S} same p orders (Unsat r) steps ids left = (k : KeptConflict S) × (left ≡ Some k)
    × (k.clauses.items ≡ ids) × (ids ≡ conflict_clauses steps)
    × AreOffers same p orders steps k.offers
