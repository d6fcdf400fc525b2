-- The turns of soft requirements, and the solvables that were chosen in each.
use Rattle.std.specs.Prelude.{◌≡◌, ℕ, suc, ◌-◌, ◌≤◌, ◌⊎◌, cond, Bool, true, false, take, reverse, List, [], ◌∷◌, ◌++◌, length, Option, Some, None, Contains}
use Rattle.indexmap.specs.IndexSet.{insert_all}
use Rattle.resolvo_pool_core.specs.RuleKeeping.{Packages, Rules, is_in, IsRuleKeeping}
use Rattle.resolvo_store_core.specs.AtMostOne.{IsPrefixOf}
use Rattle.resolvo_sat.specs.declared.analyze.FinalConflict.{FinalConflict}
use Rattle.resolvo_sat.specs.Analysis.{IsRefusal}
use Rattle.resolvo_sat.specs.SearchEnd.{IsAccepted}
use Rattle.resolvo_state.specs.Chosen.{choices}
use Rattle.resolvo_state.specs.declared.solver_state.SolverState.{SolverState}
use Rattle.resolvo_encoder.specs.TurnLevels.{AreAmongEncoded}
use Rattle.resolvo_encoder.specs.declared.encoder.Encoder.{Encoder}
use Rattle.resolvo_turn.specs.Turn.{in_turn}
use Rattle.resolvo.specs.Solution.{IsSolution, IsUnsolvable}
use Rattle.resolvo.specs.SoftTurns.{IsReasonOf}
use Rattle.resolvo.specs.declared.soft_requirements.SoftOutcome.{SoftOutcome}
use Rattle.resolvo.specs.declared.soft_requirements.SoftOutcome.TheVariants.{AlreadyChosen, Chosen, Refused, Unsat}
use Rattle.resolvo.specs.declared.turns.Turn.{Turn}
use Rattle.resolvo.specs.declared.turns.Turns.{Turns}

-- the accepted soft requirements after a turn
abbrev pub accepted_by : {S : Type 0} → List S → Turn S → List S
accepted_by accepted t = cond t.accepted (accepted ++ t.solvable ∷ []) accepted

-- after turns, the newest first
abbrev pub accepted_of : {S : Type 0} → List (Turn S) → List S
accepted_of [] = []
accepted_of (t ∷ earlier) = accepted_by (accepted_of earlier) t

-- how many solvables were chosen in the root's turn, where the others were chosen in these turns
abbrev pub first_of : {S : Type 0} → List S → List (Turn S) → ℕ
first_of chosen [] = length chosen
first_of chosen (t ∷ later) = t.begin

-- the soft requirement, or the choices before its turn
abbrev pub IsDeniable : {S : Type 0} → List S → Turn S → S → Type 0
IsDeniable chosen t s = (s ≡ t.solvable) ⊎ Contains (take t.begin chosen) s

-- the number of solvables that were chosen after these turns, the newest first, and before them so
-- many
abbrev pub end_of : {S : Type 0} → ℕ → List (Turn S) → ℕ
end_of first [] = first
end_of first (t ∷ earlier) = t.end

module _ {N S : Type 0} (same : S → S → Bool) (p : Packages N S) (root : Rules) (chosen : List S) where
  -- The turn is that of the soft requirement. The solvables chosen by its end keep all rules, but
  -- accepted soft requirements may be forbidden whose packages nobody names. They are what the root
  -- and the accepted ones reach. The soft requirement is accepted if it is among them. It is
  -- refused only if no rule-keeping set includes it with those chosen before the turn, and then
  -- nothing is chosen in it.
  pub record IsTurnOf (accepted : List S) (soft : S) (t : Turn S) : Type 0 where
    pub solvable : t.solvable ≡ soft
    pub grows : t.begin ≤ t.end
    pub within : t.end ≤ length chosen
    pub ended : IsAccepted same p root (accepted_by accepted t) (take t.end chosen)
    pub decided : t.accepted ≡ is_in same p (take t.end chosen) soft
    pub still : t.accepted ≡ false → t.end ≡ t.begin
    pub refused : t.accepted ≡ false → (set : List S) → IsRuleKeeping same p root set
        → ((s : S) → is_in same p (take t.begin chosen) s ≡ true → is_in same p set s ≡ true)
        → is_in same p set soft ≡ true → ⊥

  -- the turns of the soft requirements, both newest first; each begins where the one before it
  -- ended
  abbrev pub AreTurns : ℕ → List S → List (Turn S) → Type 0
  AreTurns first [] [] = Unit {0}
  AreTurns first [] (t ∷ earlier) = ⊥
  AreTurns first (w ∷ before) [] = ⊥
  AreTurns first (w ∷ before) (t ∷ earlier) = (t.begin ≡ end_of first earlier)
      × IsTurnOf (accepted_of earlier) w t × AreTurns first before earlier

  -- the turns of the soft requirements; each begins where the one before it ended, the first one
  -- after so many choices and these accepted ones
  abbrev pub AreInTurn : ℕ → List S → List S → List (Turn S) → Type 0
  AreInTurn begin accepted [] [] = Unit {0}
  AreInTurn begin accepted [] (t ∷ later) = ⊥
  AreInTurn begin accepted (w ∷ ws) [] = ⊥
  AreInTurn begin accepted (w ∷ ws) (t ∷ later) = (t.begin ≡ begin) × IsTurnOf accepted w t
      × AreInTurn t.end (accepted_by accepted t) ws later

  -- The first choices are a solution, in the root's turn; the others were chosen in the turns of
  -- the soft requirements.
  pub record AreSolvedByTurn (first : ℕ) (softs : List S) (decided : List (Turn S)) : Type 0 where
    pub solution : IsSolution same p root (take first chosen)
    pub within : first ≤ length chosen
    pub turns : AreTurns first (reverse softs) (reverse decided)
    pub whole : end_of first (reverse decided) ≡ length chosen

-- the solvables that the trail chooses, in its order
abbrev pub on_trail : {N S : Type 0} → Encoder N S → List S
on_trail e = choices e.coding.atoms.keys e.coding.search.tracker.trail

-- The choices of the trail, in its order; their rules and the root's are encoded, and the recorded
-- soft requirements are the accepted ones.
pub record AreAt {N S : Type 0} (e : Encoder N S) (t : Turns S) : Type 0 where
  pub chosen : t.chosen.keys ≡ on_trail e
  pub encoded : AreAmongEncoded e t.chosen.keys
  pub softs : e.recorded.softs.items ≡ accepted_of (reverse t.turns.items)

-- the choices are right, turn by turn
pub record AreRight {N S : Type 0} (same : S → S → Bool) (p : Packages N S) (root : Rules) (first : ℕ) (softs : List S) (t : Turns S) : Type 0 where
  pub wished : AreSolvedByTurn same p root t.chosen.keys first softs t.turns.items
  pub accepted : IsAccepted same p root (accepted_of (reverse t.turns.items)) t.chosen.keys

-- An accepted soft requirement has no step. The step of a refused one is that of a learnt clause,
-- which denies only the soft requirement and the choices before its turn.
pub record HasReason {N S : Type 0} (c : SolverState N S) (chosen : List S) (t : Turn S) : Type 0 where
  pub accepted : t.accepted ≡ true → t.step ≡ None
  pub refused : t.accepted ≡ false
      → (k : ℕ) × (t.step ≡ Some k) × IsReasonOf c (IsDeniable chosen t) (suc k)

-- each turn has its reason
abbrev pub HaveReasons : {N S : Type 0} → SolverState N S → Turns S → Type 0
HaveReasons {N} {S} c t = (turn : Turn S) → Contains t.turns.items turn
    → HasReason c t.chosen.keys turn

-- each turn accepted its soft requirement
abbrev pub AreAccepted : {S : Type 0} → List (Turn S) → Type 0
AreAccepted {S} turns = (t : Turn S) → Contains turns t → t.accepted ≡ true

-- whether the turn accepted its soft requirement
abbrev pub was_accepted : SoftOutcome → Bool
was_accepted AlreadyChosen = true
was_accepted Chosen = true
was_accepted (Refused clause) = false
was_accepted (Unsat r) = false

-- the proof's step of the clause that is the reason of a refusal
abbrev pub step_of : SoftOutcome → Option ℕ
step_of AlreadyChosen = None
step_of Chosen = None
step_of (Refused clause) = Some (clause.0 - 1)
step_of (Unsat r) = None

-- the fields of the turn, by its outcome
pub record IsTurnRecord {S : Type 0} (soft : S) (begin end_ : ℕ) (wished : SoftOutcome) (t : Turn S) : Type 0 where
  pub solvable : t.solvable ≡ soft
  pub begin_is : t.begin ≡ begin
  pub end_is : t.end ≡ end_
  pub accepted : t.accepted ≡ was_accepted wished
  pub step : t.step ≡ step_of wished

-- the turn is added after the others
pub record Records {S : Type 0} (soft : S) (begin : ℕ) (wished : SoftOutcome) (old new : Turns S) : Type 0 where
  pub turn : Turn S
  pub fields : IsTurnRecord soft begin (length old.chosen.keys) wished turn
  pub chosen : new.chosen ≡ old.chosen
  pub turns : new.turns.items ≡ old.turns.items ++ turn ∷ []

-- the choices are right after these soft requirements, and each turn has its reason; or the rules
-- can't all be kept
abbrev pub IsNextRight : {N S : Type 0} → (S → S → Bool) → Packages N S → Rules → ℕ → List S → Encoder N S → Turns S → Option FinalConflict → Type 0
IsNextRight same p root first softs e t None = AreRight same p root first softs t
    × HaveReasons e.coding t
IsNextRight same p root first softs e t (Some r) = IsUnsolvable same p root

-- the turns list the choices of the trail; or the problem is refuted
abbrev pub AreAtOrRefused : {N S : Type 0} → Encoder N S → Turns S → Option FinalConflict → Type 0
AreAtOrRefused e t None = AreAt e t
AreAtOrRefused e t (Some r) = IsRefusal e.coding.search r.literals.items r.causes.items
    × (r.literals.items ≡ [])

-- The turn is added after the others, and if its soft requirement was chosen in it, its choices are
-- listed. Or nothing changed, and this is the conflict of the problem.
abbrev pub RecordsOutcome : {N S : Type 0} → (S → S → Bool) → S → Encoder N S → Turns S → Turns S → SoftOutcome → Option FinalConflict → Type 0
RecordsOutcome same s e old new AlreadyChosen None = Records s (length old.chosen.keys) AlreadyChosen old new
RecordsOutcome same s e old new AlreadyChosen (Some q) = ⊥
RecordsOutcome {N} {S} same s e old new Chosen None = (m : Turns S)
    × IsPrefixOf old.chosen.keys m.chosen.keys
    × (m.chosen.keys ≡ insert_all same old.chosen.keys (in_turn e)) × (m.turns ≡ old.turns)
    × Records s (length old.chosen.keys) Chosen m new
RecordsOutcome same s e old new Chosen (Some q) = ⊥
RecordsOutcome same s e old new (Refused clause) None = Records s (length old.chosen.keys) (Refused clause) old new
RecordsOutcome same s e old new (Refused clause) (Some q) = ⊥
RecordsOutcome same s e old new (Unsat r) None = ⊥
RecordsOutcome same s e old new (Unsat r) (Some q) = (q ≡ r) × (new ≡ old)
