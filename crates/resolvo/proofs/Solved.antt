-- The result of a search holds, with its proof.
use Rattle.std.proofs.Common.{◌≡◌, inl, inr, ℕ, suc, ◌+◌, ◌<◌, ◌∷◌, [], Bool, true, false, List, length, Some, None, Result, Ok, Err, refl, sym, ◌∙◌, subst, arith}
use Rattle.std.specs.Prelude.{◌⊎◌, IfOk, slice_get}
use Rattle.resolvo_pool_core.specs.declared.requirement.Requirement.{Requirement}
use Rattle.resolvo_pool_core.specs.RuleKeeping.{Packages, Rules}
use Rattle.resolvo_encoder.specs.declared.encoder.Encoder.{Encoder}
use Rattle.resolvo_state.specs.declared.solver_state.SolverState.{SolverState}
use Rattle.resolvo_state.proofs.Positions.{get_old}
use Rattle.resolvo_encoder.specs.Conditions.{waiting_count}
use Rattle.resolvo_proof.specs.Written.{IsStepAt}
use Rattle.resolvo_proof.specs.declared.step.ProofRule.TheVariants.{Digit}
use Rattle.resolvo_proof.specs.declared.step.ProofStep.{ProofStep}
use Rattle.resolvo_proof.specs.declared.step.ProofStep.TheVariants.{Rule, Derived}
use Rattle.resolvo.specs.declared.search.SearchResult.{SearchResult}
use Rattle.resolvo.specs.declared.search.SearchResult.TheVariants.{Chosen, Unsat}
use Rattle.resolvo.specs.declared.prove.Solved.{Solved}
use Rattle.resolvo.specs.declared.prove.Steps.{Steps}
use Rattle.resolvo.specs.declared.prove.Steps.TheVariants.{All, Reasons}
use Rattle.resolvo.specs.Solve.{AreChosenOnce, AreStepsOf, Counts, CountsBy, HasSteps, HaveProofs, IsFound, IsListedIn, IsPreferred, IsSearch, Holds, IsSolved, NeedsNone, RefusesNothing}
use Rattle.resolvo.proofs.Reasons.{reason_proof}

-- the property of an answer by another one
pub with_given : {X E : Type 0} (r : Result X E) (G : Type 0) (P : X → Type 0) → IfOk r (λ v. G → P v) → G → IfOk r P
with_given (Ok v) G P h given = h given
with_given (Err e) G P h given = tt

-- nothing is listed twice
pub listed_once : {N S : Type 0} (e : Encoder N S) (f : SearchResult S) → IsListedIn e f → AreChosenOnce f
listed_once e (Chosen v turns) listed = listed.once
listed_once e (Unsat r) listed = tt

-- no steps are right ones, where nothing was refused
nothing_is_right : {N S : Type 0} (c : SolverState N S) (f : SearchResult S) → RefusesNothing f → AreStepsOf c f []
nothing_is_right c (Chosen v turns) all = record {
  proof = λ same_atom exact same p root spelled encoded place step at. absurd (let no_step : None ≡ Some step = at in cc);
  drawn = λ same p spelled n literals causes at. absurd (let no_step : None ≡ Some (Derived literals causes) = at in cc);
  signs = λ n literals causes at. absurd (let no_step : None ≡ Some (Derived literals causes) = at in cc);
  places = λ r package_of tied named m n s k l bit other at also. absurd (let no_step : None ≡ Some (Rule (Digit s k bit)) = at in cc);
  ends = tt;
  clauses = inr (all, refl);
}
nothing_is_right c (Unsat r) all = absurd all

-- and where none is needed
pub nothing_written : {N S : Type 0} (c : SolverState N S) (steps : Steps) (f : SearchResult S) (written : List (ProofStep N S)) → NeedsNone steps f → written ≡ [] → AreStepsOf c f written
nothing_written c steps f written (reasons, all) none = subst (λ (xs : List (ProofStep _ _)). AreStepsOf c f xs) (sym none) (nothing_is_right c f all)

-- so many steps, whatever is wanted
pub counts_by : {S : Type 0} (steps : Steps) (f : SearchResult S) (clauses count : ℕ) → Counts f clauses count → CountsBy steps f clauses count
counts_by All f clauses count h = h
counts_by Reasons (Chosen v turns) clauses count h = tt
counts_by Reasons (Unsat r) clauses count h = h

-- nothing is said of the count where no step is wanted
pub counts_none : {S : Type 0} (steps : Steps) (f : SearchResult S) (clauses count : ℕ) → NeedsNone steps f → CountsBy steps f clauses count
counts_none All f clauses count (is, all) = absurd (let other : All ≡ Reasons = is in cc)
counts_none Reasons (Chosen v turns) clauses count (is, all) = tt
counts_none Reasons (Unsat r) clauses count (is, all) = absurd all

-- the steps of an encoding's clauses
steps_counted : {N S : Type 0} (e : Encoder N S) (f : SearchResult S) (steps : List (ProofStep N S)) (clauses : ℕ) → clauses ≡ length e.coding.search.clauses → HasSteps e.coding f steps → (place : ℕ) (step : ProofStep N S) → suc place < clauses → slice_get steps place ≡ Some step → IsStepAt e.coding (suc place) step
steps_counted e (Chosen v turns) steps clauses is are place step low at = are.each place step at
steps_counted e (Unsat r) steps clauses is are place step low at =
    let count : length are.earlier + 1 ≡ length e.coding.search.clauses = are.clauses.count in
    are.clauses.each place step (get_old are.earlier (are.final ∷ []) place step (omega arith) (subst (λ (xs : List (ProofStep _ _)). slice_get xs place ≡ Some step) are.ends at))

-- the steps that are there
steps_placed : {N S : Type 0} (e : Encoder N S) (f : SearchResult S) (steps : List (ProofStep N S)) (clauses : ℕ) → clauses ≡ length e.coding.search.clauses → HasSteps e.coding f steps ⊎ (RefusesNothing f × (steps ≡ [])) → (place : ℕ) (step : ProofStep N S) → suc place < clauses → slice_get steps place ≡ Some step → IsStepAt e.coding (suc place) step
steps_placed e f steps clauses is (inl are) place step low at = steps_counted e f steps clauses is are place step low at
steps_placed e f steps clauses is (inr (all, none)) place step low at = absurd (let no_step : None ≡ Some step = subst (λ (xs : List (ProofStep _ _)). slice_get xs place ≡ Some step) none at in cc)

module _ {N S : Type 0} (same : S → S → Bool) (p : Packages N S) (orders : Requirement → List S → Type 0) (root : Rules) (softs : List S) where
  found_holds : (e : Encoder N S) (f : SearchResult S) → IsFound same p root softs e f → Holds same p root softs f
  found_holds e (Chosen v turns) h = h.0
  found_holds e (Unsat r) h = h.0

  -- each turn has its step
  found_proofs : (e : Encoder N S) (f : SearchResult S) (steps : List (ProofStep N S)) → HasSteps e.coding f steps ⊎ (RefusesNothing f × (steps ≡ [])) → IsFound same p root softs e f → HaveProofs steps f
  found_proofs e (Chosen v turns) steps (inl are) h = λ t there. reason_proof e.coding steps are v.items t (h.1 t there)
  found_proofs e (Chosen v turns) steps (inr (all, none)) h = λ t there. record {
    accepted = (h.1 t there).accepted;
    refused = λ no. absurd (let both : true ≡ false = sym (all t there) ∙ no in cc);
  }
  found_proofs e (Unsat r) steps are h = tt

  -- the result, with the steps of its clauses
  pub search_solved : (e : Encoder N S) (f : SearchResult S) (x : Solved N S) → IsSearch same p orders root softs e f → x.found ≡ f → AreStepsOf e.coding f x.proof.items
      → x.clause_count ≡ length e.coding.search.clauses → x.deferred_count ≡ waiting_count e → IsListedIn e f → IsSolved same p orders root softs x
  search_solved e f x search is steps count deferred listed = record {
    found = subst (λ (g : SearchResult S). Holds same p root softs g) (sym is) (found_holds e f search.found);
    proof = λ same_atom exact. steps.proof same_atom exact same p root search.encoding.spelled search.encoding.rule;
    drawn = steps.drawn same p search.encoding.spelled;
    signs = steps.signs;
    one_place = steps.places e.registry p.package_of search.encoding.tied search.encoding.named;
    preferred = subst (λ (g : SearchResult S). IsPreferred same p orders root g) (sym is) search.preferred;
    proofs = subst (λ (g : SearchResult S). HaveProofs x.proof.items g) (sym is) (found_proofs e f x.proof.items steps.clauses search.found);
    counted = (e, record { encoding = search.encoding; count = count; waiting = deferred; each = steps_placed e f x.proof.items x.clause_count count steps.clauses }, subst (λ (g : SearchResult S). IsListedIn e g) (sym is) listed);
  }
