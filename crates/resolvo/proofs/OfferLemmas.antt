-- The offers for the requirements of a conflict are right.
use Rattle.std.proofs.Common.{◌≡◌, ◌+◌, ◌<◌, ◌∷◌, inl, inr, ℕ, Bool, true, false, [], List, take, length, get_or, cond, Some, Result, Ok, Err, refl, sym, ◌∙◌, ap, subst}
use Rattle.std.specs.Prelude.{Contains}
use Rattle.std.proofs.lemmas.Bool.{both_ways, cases_Bool}
use Rattle.std.proofs.lemmas.List.{take_more}
use Rattle.resolvo_pool_core.specs.declared.requirement.Requirement.{Requirement}
use Rattle.resolvo_sat.proofs.Lists.{contains_one, contains_parts}
use Rattle.resolvo_sat.specs.RuleClauses.{same_requirement}
use Rattle.resolvo_sat.proofs.Members.{same_requirement_true, same_requirement-self}
use Rattle.resolvo_pool.specs.declared.cache.CacheFault.{CacheFault}
use Rattle.resolvo_pool.specs.Cached.{IsCancelledBy}
use Rattle.resolvo_pool.specs.Fault.{fault_of}
use Rattle.resolvo_pool_core.specs.declared.want.Want.{Want}
use Rattle.resolvo_pool_core.specs.declared.want.Want.TheVariants as want
use Rattle.std.specs.Result.{IfOk, IfErr, IsErrAnd}
use Rattle.resolvo_pool_core.specs.RuleKeeping.{Packages}
use Rattle.resolvo_packages.specs.PackageSource.{AreOffered, offered_solvables}
use Rattle.resolvo_packages.specs.declared.package_source.Offered.{Offered}
use Rattle.resolvo_graph.specs.Graph.{Graph}
use Rattle.resolvo_proof.specs.declared.step.ProofStep.{ProofStep}
use Rattle.resolvo_proof.specs.Truth.{IsTrueConflictGraph}
use Rattle.resolvo.specs.Conflicts.{Left, IsRightOffer}
use Rattle.resolvo.specs.Solver.{Kept, IsTrueOf}
use Rattle.resolvo_proof.specs.Offered.{was_offered, offered_by, IsOffered}
use Rattle.resolvo_proof.specs.declared.offers.Offers.{Offers}

-- no memory, or no ids, is no cancellation
pub want_stops : {C : Type 0} (may : C → Type 0) (w : Want) → IsCancelledBy may (fault_of w)
want_stops may want.Memory = tt
want_stops may want.Ids = tt

-- so a stop for want of them is none
pub want_ends : {X C : Type 0} (may : C → Type 0) (r : Result X (CacheFault C)) (w : Want) → IsErrAnd r (λ f. f ≡ fault_of w) → IfErr r (IsCancelledBy may)
want_ends may (Ok x) w h = tt
want_ends may (Err f) w h = subst (IsCancelledBy may) (sym h) (want_stops may w)

-- the offers of the answers are right, and of the answers before, which are the same
pub right_from : {A N S : Type 0} (same : S → S → Bool) (packages : A → Packages N S) (orders : A → Requirement → List S → Type 0) (old now : A) (q : Requirement) (items : List (Offered N S)) (list : List S) → now ≡ old → list ≡ offered_solvables items
    → AreOffered same (packages now) q items → orders now q (offered_solvables items) → IsRightOffer same (packages old) (orders old) q list
right_from same packages orders old now q items list matching is offered ordered =
    subst (IsRightOffer same (packages old) (orders old) q) (sym is) (subst (λ a. IsRightOffer same (packages a) (orders a) q (offered_solvables items)) matching (record { ordered = ordered; matches = offered.matches }))

-- each requirement so far is recorded
pub offered_more : {S : Type 0} (qs : List Requirement) (i : ℕ) (d : Requirement) (old new : Offers S) (candidates : List S) → i < length qs → IsOffered old (get_or qs i d) candidates new → ((r : Requirement) → Contains (take i qs) r → was_offered old r ≡ true)
    → (r : Requirement) → Contains (take (i + 1) qs) r → was_offered new r ≡ true
offered_more qs i d old new candidates low is recorded r h = elim (contains_parts r (take i qs) (get_or qs i d ∷ []) (subst (λ (xs : List Requirement). Contains xs r) (take_more qs i d low) h)) [
  | inl earlier ↦ elim (cases_Bool (same_requirement r (get_or qs i d))) [
    | inl e ↦ ap (was_offered new) (same_requirement_true r (get_or qs i d) e) ∙ is.recorded
    | inr e ↦ (is.others r (λ same. both_ways _ (subst (λ (x : Requirement). same_requirement r x ≡ false) (sym same) e) (same_requirement-self r))).0 ∙ recorded r earlier
  ]
  | inr now ↦ ap (was_offered new) (contains_one r (get_or qs i d) now) ∙ is.recorded
]

module _ {S : Type 0} (Q : Requirement → List S → Type 0) where
  -- earlier offers are kept, and the new offer is right
  pub right_more : (q : Requirement) (old new : Offers S) (candidates : List S) → IsOffered old q candidates new → Q q candidates → ((r : Requirement) → was_offered old r ≡ true → Q r (offered_by old r)) → (r : Requirement) → was_offered new r ≡ true → Q r (offered_by new r)
  right_more q old new candidates is this right r was = elim (cases_Bool (same_requirement r q)) [
    | inl e ↦ subst (λ (x : Requirement). Q x (offered_by new x)) (sym (same_requirement_true r q e)) (at_it (was_offered old q) refl)
    | inr e ↦ (
        let (kept, list) = is.others r (λ same. both_ways _ (subst (λ (x : Requirement). same_requirement r x ≡ false) (sym same) e) (same_requirement-self r)) in
        subst (Q r) (sym list) (right r (sym kept ∙ was)))
  ]
    where
      at_it : (b : Bool) → was_offered old q ≡ b → Q q (offered_by new q)
      at_it true e = subst (Q q) (sym (is.given ∙ ap (λ (x : Bool). cond x (offered_by old q) candidates) e)) (right q e)
      at_it false e = subst (Q q) (sym (is.given ∙ ap (λ (x : Bool). cond x (offered_by old q) candidates) e)) this

-- a true graph of the kept offers and steps
pub kept_true : {P N S : Type 0} (same : S → S → Bool) (name_of : S → N) (k : Kept P N S) (r : Result (Graph S) Want) (offers : Offers S) (steps : List (ProofStep N S)) → ((l : Left S) → k.conflict ≡ Some l → offers ≡ l.offers) → steps ≡ k.proof → IfOk r (IsTrueConflictGraph same name_of (offered_by offers) steps) → IfOk r (IsTrueOf same name_of k)
kept_true same name_of k (Err w) offers steps given is holds = tt
kept_true same name_of k (Ok g) offers steps given is holds = λ l at.
    subst (λ (o : Offers _). IsTrueConflictGraph same name_of (offered_by o) k.proof g) (given l at) (subst (λ (xs : List (ProofStep _ _)). IsTrueConflictGraph same name_of (offered_by offers) xs g) is holds)
