-- The turns of soft requirements.
use Rattle.std.proofs.Common.{◌≡◌, suc, ◌<◌, ◌≤◌, inl, inr, Bool, true, false, List, [], length, Some, refl, sym, ◌∙◌, ap, subst, arith}
use Rattle.std.specs.Prelude.{not, Contains}
use Rattle.resolvo_pool_core.specs.Ordered.{Ordered}
use Rattle.resolvo_pool_core.specs.declared.id.VariableId.{VariableId}
use Rattle.resolvo_pool_core.specs.declared.requirement.Requirement.{Requirement}
use Rattle.resolvo_pool_core.specs.declared.solver_id.SolvableIdOrRoot.TheVariants as Place
use Rattle.std.proofs.lemmas.Bool.{both_ways}
use Rattle.resolvo_pool_core.specs.RuleKeeping.{Packages, Rules, IsRuleKeeping}
use Rattle.resolvo_store_core.specs.AtMostOne.{IsPrefixOf}
use Rattle.resolvo_store_core.specs.declared.decision.Entry.{Entry}
use Rattle.resolvo_store_core.specs.Clauses.{yes, no, root as root_variable}
use Rattle.resolvo_store_core.specs.Signed.{Signed, negation, has}
use Rattle.resolvo_sat.specs.declared.analyze.FinalConflict.{FinalConflict}
use Rattle.resolvo_sat.specs.declared.state.SatState.{SatState}
use Rattle.resolvo_sat.specs.Analysis.{DeniesAssumption, IsDenial, IsRefusal}
use Rattle.resolvo_sat.proofs.Literals.{has-cons, negation-negation}
use Rattle.resolvo_sat.specs.Entries.{made_true, top_level}
use Rattle.resolvo_sat.specs.State.{count_of, history, clauses_of}
use Rattle.resolvo_sat.proofs.Trails.{known_in_range, level_le_last, root_level}
use Rattle.resolvo_sat.specs.RuleClauses.{IsExact}
use Rattle.resolvo_state.specs.declared.atom.ProofAtom.{ProofAtom}
use Rattle.resolvo_state.specs.declared.atom.ProofAtom.TheVariants.{Solvable}
use Rattle.resolvo_state.specs.declared.solver_state.SolverState.{SolverState}
use Rattle.resolvo_state.specs.Atoms.{Represents}
use Rattle.resolvo_state.specs.SolverState.{IsCoding}
use Rattle.resolvo_state.proofs.Origins.{count_is, represents_more, represents_other, represents_same, represents_some}
use Rattle.resolvo_encoder.specs.declared.encoder.Encoder.{Encoder}
use Rattle.resolvo_encoder.specs.Base.{base_of, IsBlamed, IsOpen, IsTaken}
use Rattle.resolvo_encoder.specs.Encoded.{IsEncoding}
use Rattle.resolvo_encoder.specs.Steps.{IsBuilt, AddsParent}
use Rattle.resolvo_encoder.specs.SoftRequirement.{turn_of, IsSoft, IsTrue}
use Rattle.resolvo_encoder.proofs.Bases.{turn_begun}
use Rattle.resolvo_encoder.proofs.BlameLemmas.{blame_refuses, empty_refuses, reason_blames, refusal_blames}
use Rattle.resolvo_turn.specs.Encoder.{IsInOrder, AddsParents}
use Rattle.resolvo_turn.specs.Turn.{AreTakenParents, IsRefusedBy}
use Rattle.resolvo.specs.SoftTurns.{AreTrueParents, IsDenied}
use Rattle.resolvo_encoder.specs.Progress.{GoesOn}
use Rattle.resolvo_encoder.proofs.PickLemmas.{ordered_stays}
use Rattle.resolvo_turn.proofs.AddLemmas.{all_then, goes_parents, needs_parents, parents_coding, parents_in_order, parents_needs}
use Rattle.resolvo_turn.proofs.EndLemmas.{contains_longer}

-- the root is true at the first level
pub above_root : {N S : Type 0} (e : Encoder N S) → IsBuilt e → 1 ≤ top_level (history e.coding.search)
above_root e built = level_le_last (count_of e.coding.search) (clauses_of e.coding.search) (history e.coding.search) (yes root_variable) 1 built.coding.ready.state.trail (root_level (history e.coding.search) built.coding.ready.state.rooted)

-- a turn begins
pub begun_turn : {N S : Type 0} (e begun : Encoder N S) → begun ≡ turn_of e → (v : VariableId) → IsBuilt e → IsSoft e v → has (made_true (history e.coding.search)) (yes v) ≡ false → IsOpen begun v × (base_of begun ≡ history e.coding.search)
begun_turn e begun is v built soft unchosen =
    let (o, base) = turn_begun e v soft (above_root e built) unchosen in
    (subst (λ (x : Encoder _ _). IsOpen x v) (sym is) o, ap (λ (x : Encoder _ _). base_of x) is ∙ base)

-- the encoding is still in order once the soft requirement is decided
opened_in_order : {N S : Type 0} (e opened : Encoder N S) → GoesOn (turn_of e) opened → (same : S → S → Bool) (p : Packages N S) (orders : Requirement → List S → Type 0) (root : Rules) → IsEncoding same p root opened → IsInOrder same p orders root e → IsInOrder same p orders root opened
opened_in_order e opened goes same p orders root holds order = record { encoding = holds; ordered = ordered_stays orders (turn_of e) opened goes.grows goes.rest.lists order.ordered }

module _ {N S : Type 0} (e opened first : Encoder N S) (goes : GoesOn (turn_of e) opened) (added : AddsParent opened first) where
  -- the soft requirement, which was decided, is a parent
  pub opened_turn : (v : VariableId) → IsOpen opened v → base_of opened ≡ history e.coding.search → IsOpen first v × (base_of first ≡ history e.coding.search)
  opened_turn v o base = (let (o', base') = (parents_needs opened first added).turn (Some v) o in (o', base' ∙ base))

  -- what was true before it is among the parents
  pub opened_taken : AreTrueParents e → base_of first ≡ history e.coding.search → AreTakenParents first
  opened_taken parents base s (u, represents, truth) =
      let atoms : first.coding.atoms.keys ≡ e.coding.atoms.keys = ap (λ (x : SolverState N S). x.atoms.keys) (parents_coding opened first added) ∙ ap (λ (a : Ordered (ProofAtom N S)). a.keys) goes.atoms in
      let before : Contains e.parents.keys (Place.Solvable s) = parents s (u, subst (λ (xs : List (ProofAtom N S)). Represents xs u (Solvable s)) atoms represents, subst (λ (h : List Entry). has (made_true h) (yes u) ≡ true) base truth) in
      contains_longer opened.parents.keys first.parents.keys (Place.Solvable s) added.prefix (subst (λ (ks : Ordered _). Contains ks.keys (Place.Solvable s)) (sym goes.rest.parents) before)

  pub opened_adds : (last : Encoder N S) → AddsParents first last → AddsParents (turn_of e) last
  opened_adds last adds = all_then (turn_of e) first last (all_then (turn_of e) opened first (goes_parents (turn_of e) opened goes) (needs_parents opened first (parents_needs opened first added))) adds

  pub opened_in_turn : (same : S → S → Bool) (p : Packages N S) (orders : Requirement → List S → Type 0) (root : Rules) → IsEncoding same p root opened → IsInOrder same p orders root e → IsInOrder same p orders root first
  opened_in_turn same p orders root holds order = parents_in_order same p orders root opened first (opened_in_order e opened goes same p orders root holds order) added

-- the origin of a variable that had a value then is the same now
pub present_before : {N S : Type 0} (a b : Encoder N S) → IsCoding a.coding → IsPrefixOf a.coding.atoms.keys b.coding.atoms.keys → (s : S) (l : Signed) → Represents b.coding.atoms.keys l.variable (Solvable s) → has (made_true (history a.coding.search)) l ≡ true → Represents a.coding.atoms.keys l.variable (Solvable s)
present_before a b coding prefix s l represents known =
    let u : VariableId = l.variable in
    let range : u.0 < count_of a.coding.search = known_in_range (count_of a.coding.search) (clauses_of a.coding.search) (history a.coding.search) l coding.ready.state.trail known in
    let count : count_of a.coding.search ≡ suc (length a.coding.atoms.keys) = count_is a.coding coding in
    let (k, x, place, at) = represents_some a.coding.atoms.keys u.0 (represents_other b.coding.atoms.keys u (Solvable s) represents) (omega arith) in
    let is : x ≡ Solvable s = represents_same b.coding.atoms.keys u x (Solvable s) (represents_more a.coding.atoms.keys b.coding.atoms.keys u x prefix (k, place, at)) represents in
    subst (λ y. Represents a.coding.atoms.keys u y) is (k, place, at)

pub true_before : {N S : Type 0} (a b : Encoder N S) → IsCoding a.coding → IsPrefixOf a.coding.atoms.keys b.coding.atoms.keys → (s : S) (u : VariableId) → Represents b.coding.atoms.keys u (Solvable s) → has (made_true (history a.coding.search)) (yes u) ≡ true → IsTrue a s
true_before a b coding prefix s u represents known = (u, present_before a b coding prefix s (yes u) represents known, known)

-- ---- a refused turn

-- a literal that denies an assumption is negative
denial_negative : (s : SatState) (l : Signed) → DeniesAssumption s l → l.positive ≡ false
denial_negative s l (d, older, represents, is, kept) = ap (λ (x : Signed). x.positive) (sym (negation-negation l) ∙ ap negation (sym is)) ∙ ap not kept.chosen

module _ {N S : Type 0} (e : Encoder N S) (v : VariableId) where
  -- a refused turn has a clause of denials
  pub refused_addable : (r : FinalConflict) → IsRefusedBy (Some v) e r → IsDenial e.coding.search r.literals.items r.causes.items
  refused_addable r (inl (refusal, has)) = record { derived = refusal.derived; caused = refusal.caused; from = refusal.from; negative = λ l h. denial_negative e.coding.search l (refusal.denies l h) }
  refused_addable r (inr (reason, low)) = record {
    derived = reason.derived;
    caused = reason.caused;
    from = reason.from;
    negative = λ l h. elim (reason.denies l h) [
      | inl itself ↦ elim (has-cons (no v) [] l itself) [ inl is ↦ ap (λ (x : Signed). x.positive) (sym is) | inr none ↦ absurd (both_ways false refl none) ]
      | inr kept ↦ denial_negative e.coding.search l kept
    ];
  }

  -- and without literals it refutes the root's turn
  pub refused_empty : (r : FinalConflict) → IsRefusedBy (Some v) e r → r.literals.items ≡ [] → IsRefusal e.coding.search r.literals.items r.causes.items
  refused_empty r (inl (refusal, has)) none = refusal
  refused_empty r (inr (reason, low)) none = record { derived = reason.derived; caused = reason.caused; from = reason.from; denies = λ l h. absurd (both_ways false refl (subst (λ (ls : List Signed). has ls l ≡ true) none h)) }

  module _ (same : S → S → Bool) (exact : IsExact same) (p : Packages N S) (root : Rules) (holds : IsEncoding same p root e) (same_name : N → N → Bool) (names : IsExact same_name) (o : IsOpen e v) where
    -- the soft requirement is refused by the choices before its turn
    pub refused_blamed : (r : FinalConflict) → IsRefusedBy (Some v) e r → IsBlamed e v r.literals.items r.causes.items
    refused_blamed r (inl (refusal, has)) = refusal_blames same exact p root e holds v r.literals.items r.causes.items o has refusal
    refused_blamed r (inr (reason, low)) = reason_blames same exact p root e holds v r.literals.items r.causes.items low reason

    -- where there are no literals, no solvables keep all rules
    pub refused_all : (r : FinalConflict) → IsRefusedBy (Some v) e r → r.literals.items ≡ [] → (set : List S) → IsRuleKeeping same p root set → ⊥
    refused_all r refused none set keeping = empty_refuses same exact p root e holds same_name names v r.literals.items r.causes.items (refused_blamed r refused) (ap (λ ls. length ls) none) set keeping

    -- the trail's choices before the turn
    pub taken_true : (before : Encoder N S) → IsCoding before.coding → IsPrefixOf before.coding.atoms.keys e.coding.atoms.keys → base_of e ≡ history before.coding.search → (t : S) → IsTaken e t → IsTrue before t
    taken_true before coding prefix base t (u, represents, truth) = true_before before e coding prefix t u represents (subst (λ (h : List Entry). has (made_true h) (yes u) ≡ true) base truth)

    -- no rule-keeping set includes the soft requirement with the earlier choices
    pub refused_denied : (before : Encoder N S) → IsCoding before.coding → IsPrefixOf before.coding.atoms.keys e.coding.atoms.keys → base_of e ≡ history before.coding.search → (s : S) → Represents e.coding.atoms.keys v (Solvable s)
        → (r : FinalConflict) → IsRefusedBy (Some v) e r → IsDenied same p root before s
    refused_denied before coding prefix base s represents r refused = λ set keeping holds_all held.
        blame_refuses same exact p root e holds same_name names v s r.literals.items r.causes.items (refused_blamed r refused) represents set keeping (λ t taken. holds_all t (taken_true before coding prefix base t taken)) held
