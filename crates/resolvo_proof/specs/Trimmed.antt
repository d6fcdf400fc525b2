-- Which steps of a proof lead to wanted ones, and what a proof is once the others are left out.
use Rattle.std.specs.Prelude.{◌≡◌, ◌↔◌, ℕ, suc, ◌<◌, ◌≤◌, ◌⊎◌, Bool, true, false, List, [], ◌∷◌, ◌++◌, length, map, slice_get, slice_index_or, Some, Contains}
use Rattle.std.specs.List.{AllZip}
use Rattle.std.proofs.Common.{Vec, Global}
use Rattle.resolvo_pool_core.specs.RuleKeeping.{Packages, Rules}
use Rattle.resolvo_sat.specs.RuleClauses.{Atom}
use Rattle.resolvo_proof.specs.Proof.{IsProof}
use Rattle.resolvo_proof.specs.declared.step.ProofStep.{ProofStep}
use Rattle.resolvo_proof.specs.declared.step.ProofStep.TheVariants.{Rule, Derived}

-- the step names the one at this place as a cause
abbrev pub Names : {N S : Type 0} → ProofStep N S → ℕ → Type 0
Names (Rule r) place = ⊥
Names (Derived literals causes) place = Contains causes.items place

-- a later step names the one at this place as a cause
abbrev pub IsNamedLater : {N S : Type 0} → List (ProofStep N S) → ℕ → Type 0
IsNamedLater {N} {S} steps place = (later : ℕ) × (step : ProofStep N S) × (place < later) × (slice_get steps later ≡ Some step) × Names step place

-- the step at this place is flagged
abbrev pub IsFlagged : List Bool → ℕ → Type 0
IsFlagged flags place = slice_get flags place ≡ Some true

-- The wanted steps are flagged, and so are those earlier ones that a flagged step from this place on names, and no others.
pub record AreLeadingFrom {N S : Type 0} (start : ℕ) (Wanted : ℕ → Type 0) (steps : List (ProofStep N S)) (flags : List Bool) : Type 0 where
  pub count : length flags ≡ length steps
  pub wanted : (place : ℕ) → Wanted place → place < length steps → IsFlagged flags place
  pub closed : (place cause : ℕ) (step : ProofStep N S) → start ≤ place → IsFlagged flags place → slice_get steps place ≡ Some step → Names step cause → cause < place → IsFlagged flags cause
  pub named : (place : ℕ) → IsFlagged flags place → Wanted place ⊎ ((later : ℕ) × (step : ProofStep N S) × (place < later) × IsFlagged flags later × (slice_get steps later ≡ Some step) × Names step place)

-- the steps that lead to the wanted ones are flagged
abbrev pub AreLeading : {N S : Type 0} → (ℕ → Type 0) → List (ProofStep N S) → List Bool → Type 0
AreLeading Wanted steps flags = AreLeadingFrom 0 Wanted steps flags

-- the steps before this place that are named are flagged too
abbrev pub Flags : (ℕ → Type 0) → ℕ → List Bool → List Bool → Type 0
Flags named place old new = (length new ≡ length old) × ((k : ℕ) → IsFlagged old k → IsFlagged new k) × ((k : ℕ) → named k → k < place → IsFlagged new k)
    × ((k : ℕ) → IsFlagged new k → IsFlagged old k ⊎ (named k × (k < place)))

-- the number of the step at this place, or the place where it has none
abbrev pub number_of : List ℕ → ℕ → ℕ
number_of numbers place = slice_index_or numbers place place

-- the step with the numbers of its causes
abbrev pub IsNumbered : {N S : Type 0} → List ℕ → ProofStep N S → ProofStep N S → Type 0
IsNumbered numbers (Rule r) new = new ≡ Rule r
IsNumbered numbers (Derived literals causes) new = (renumbered : Vec ℕ Global) × (new ≡ Derived literals renumbered) × (renumbered.items ≡ map (number_of numbers) causes.items)

-- the step is appended, with the numbers of its causes, where it leads to a wanted one
abbrev pub Keeps : {N S : Type 0} → Bool → List ℕ → ProofStep N S → List (ProofStep N S) → List (ProofStep N S) → Type 0
Keeps {N} {S} true numbers step old new = (numbered : ProofStep N S) × IsNumbered numbers step numbered × (new ≡ old ++ numbered ∷ [])
Keeps {N} {S} false numbers step old new = new ≡ old

-- The old step of this place, where these were kept: a rule as it was, a derived one with its causes renumbered.
abbrev pub IsRenumbered : {N S : Type 0} → List ℕ → ℕ → ProofStep N S → ProofStep N S → Type 0
IsRenumbered from place (Rule r) new = new ≡ Rule r
IsRenumbered from place (Derived literals causes) new = (renumbered : Vec ℕ Global) × (new ≡ Derived literals renumbered) × AllZip (λ cause number. cause < place → slice_get from number ≡ Some cause) causes.items renumbered.items

-- The kept steps, with the places that they had: in their order, the wanted ones are among them, and each is wanted or
-- named by a later one.
pub record IsTrimmedTo {N S : Type 0} (Wanted : ℕ → Type 0) (steps kept : List (ProofStep N S)) : Type 0 where
  pub from : List ℕ
  pub count : length kept ≡ length from
  pub rising : (k l a b : ℕ) → k < l → slice_get from k ≡ Some a → slice_get from l ≡ Some b → a < b
  pub each : (k place : ℕ) (step : ProofStep N S) → slice_get from k ≡ Some place → slice_get kept k ≡ Some step → (old : ProofStep N S) × (slice_get steps place ≡ Some old) × IsRenumbered from place old step
  pub wanted : (place : ℕ) → Wanted place → place < length steps → (k : ℕ) × (slice_get from k ≡ Some place)
  pub named : (k place : ℕ) → slice_get from k ≡ Some place → Wanted place ⊎ IsNamedLater kept k

-- of the last place alone
abbrev pub IsLast : {X : Type 0} → List X → ℕ → Type 0
IsLast xs place = suc place ≡ length xs

-- the kept steps are those that lead to the last one
abbrev pub IsTrimmed : {N S : Type 0} → List (ProofStep N S) → List (ProofStep N S) → Type 0
IsTrimmed steps kept = IsTrimmedTo (IsLast steps) steps kept

-- The kept steps are so, and the number of each old place is how many of them preceded it. A wanted step is at
-- its number, with its causes renumbered.
pub record IsTrimmedWith {N S : Type 0} (Wanted : ℕ → Type 0) (steps kept : List (ProofStep N S)) (numbers : List ℕ) : Type 0 where
  pub trimmed : IsTrimmedTo Wanted steps kept
  pub long : length numbers ≡ length steps
  pub before : (place number : ℕ) → slice_get numbers place ≡ Some number → (number ≤ length kept) × ((k had : ℕ) → slice_get trimmed.from k ≡ Some had → (k < number) ↔ (had < place))
  pub present : (place : ℕ) (old : ProofStep N S) → Wanted place → slice_get steps place ≡ Some old → (k : ℕ) × (step : ProofStep N S) × (slice_get numbers place ≡ Some k) × (slice_get kept k ≡ Some step) × IsRenumbered trimmed.from place old step

-- a later step names each but the last
abbrev pub AreNamed : {N S : Type 0} → List (ProofStep N S) → Type 0
AreNamed {N} {S} steps = (k : ℕ) → suc k < length steps → IsNamedLater steps k

-- a proof stays one
abbrev pub StaysProof : {N S : Type 0} → List (ProofStep N S) → List (ProofStep N S) → Type 0
StaysProof {N} {S} old new = (same_atom : Atom N S → Atom N S → Bool) (same : S → S → Bool) (p : Packages N S) (root : Rules) → IsProof same_atom same p root old → IsProof same_atom same p root new
