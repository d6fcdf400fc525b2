-- The steps of a coding name one place of each solvable.
use Rattle.std.proofs.Common.{◌≡◌, ℕ, suc, inl, inr, List, Some, sym, ◌∙◌, ap, subst}
use Rattle.std.specs.Prelude.{slice_get}
use Rattle.resolvo_pool_core.specs.declared.id.VariableId.{VariableId}
use Rattle.resolvo_pool_core.specs.declared.id.ClauseId.{ClauseId}
use Rattle.resolvo_store_core.specs.Signed.{Signed}
use Rattle.resolvo_store_core.specs.AtMostOne.{Tracking}
use Rattle.resolvo_state.specs.declared.atom.ProofAtom.TheVariants.{Solvable}
use Rattle.resolvo_state.specs.declared.solver_state.SolverState.{SolverState}
use Rattle.resolvo_state.specs.declared.registry.Registry.{Registry}
use Rattle.resolvo_state.specs.Kinds.{Kind}
use Rattle.resolvo_state.specs.SolverState.{IsCoding}
use Rattle.resolvo_state.specs.Registered.{IsPlaced, AreTied, IsTied, IsRegistered}
use Rattle.resolvo_state.proofs.Growth.{represents_once}
use Rattle.resolvo_state.proofs.Positions.{get_push}
use Rattle.resolvo_state.proofs.RegisterLemmas.{placed_registered}
use Rattle.resolvo_proof.specs.declared.step.ProofRule.{ProofRule}
use Rattle.resolvo_proof.specs.declared.step.ProofRule.TheVariants.{Digit}
use Rattle.resolvo_proof.specs.declared.step.ProofStep.{ProofStep}
use Rattle.resolvo_proof.specs.declared.step.ProofStep.TheVariants.{Rule, Derived}
use Rattle.resolvo_proof.specs.Places.{HaveOnePlace, AreNamedBy}
use Rattle.resolvo_proof.specs.Trimmed.{IsRenumbered, IsTrimmedTo}
use Rattle.resolvo_proof.specs.Written.{IsRuleOf, IsStepOf, IsStepAt, AreSteps, AreStepsThen}
use Rattle.resolvo_proof.proofs.NumberLemmas.{one_place}
use Rattle.resolvo_proof.proofs.Shortened.{was_at}

-- the clause of a step of a digit encodes it
digit_kind : {N S : Type 0} (x : Kind N S) (s : S) (k bit : ℕ) → IsRuleOf x (Some (Digit s k bit)) → (name : N) × (x ≡ Kind.Digit name s k bit)
digit_kind Kind.Root s k bit h = absurd cc
digit_kind (Kind.Needs parent need case) s k bit (copy, t, same) = absurd cc
digit_kind (Kind.Gated t r) s k bit h = absurd cc
digit_kind (Kind.Shared r) s k bit h = absurd cc
digit_kind (Kind.Limits parent v t) s k bit h = absurd cc
digit_kind (Kind.LimitsOutside parent v) s k bit h = absurd cc
digit_kind (Kind.IsOut v t) s k bit h = absurd cc
digit_kind (Kind.Locked locked t) s k bit h = absurd cc
digit_kind (Kind.Excluded t reason) s k bit h = absurd cc
digit_kind (Kind.Digit name t l other) s k bit h =
    let one : t ≡ s = cc in
    let at : l ≡ k = cc in
    let same : other ≡ bit = cc in
    (name, λ i. Kind.Digit name (one i) (at i) (same i))
digit_kind (Kind.IsThere n t) s k bit h = absurd cc
digit_kind (Kind.Matches v t) s k bit h = absurd cc
digit_kind Kind.Learnt s k bit h = absurd cc

rule_same : {N S : Type 0} (x : ProofRule N S) (y : ProofRule N S) → Rule x ≡ Rule y → x ≡ y
rule_same x y e = cc

module _ {N S : Type 0} (c : SolverState N S) (r : Registry N) (coding : IsCoding c) (tied : AreTied r c) (package_of : S → N) (named : AreNamedBy r c package_of) where
  -- the place in a step of a digit is the solvable's
  placed : (n : ℕ) (s : S) (k bit : ℕ) → IsStepAt c n (Rule (Digit s k bit)) → (name : N) × IsPlaced r c name k s
  placed n s k bit at = go at.writes
    where
      go : IsStepOf c.atoms.keys at.kinds at.clause (Rule (Digit s k bit)) → (name : N) × IsPlaced r c name k s
      go (inl (x, e, encoded)) =
          let (name, is) = digit_kind at.kinds s k bit (subst (λ (y : ProofRule N S). IsRuleOf at.kinds (Some y)) (sym (rule_same (Digit s k bit) x e)) encoded) in
          (name, tied.placed n name s k bit (at.kind_is ∙ ap Some is))
      go (inr (e, d)) = absurd (let both : Rule (Digit s k bit) ≡ Derived d.literals d.causes = d.derived in cc)

  registered : (name : N) (k : ℕ) (s : S) → IsPlaced r c name k s → IsRegistered r c name s
  registered name k s p = placed_registered r c name k s tied p

  -- a solvable is at one place
  at_one_place : (m n : N) (k l : ℕ) (s : S) → IsPlaced r c m k s → IsPlaced r c n l s → k ≡ l
  at_one_place m n k l s p q =
      let same : m ≡ n = named m s (registered m k s p) ∙ sym (named n s (registered n l s q)) in
      let number : p.number ≡ q.number = tied.once p.number q.number n (p.named ∙ ap Some same) q.named in
      let tracker : p.tracker ≡ q.tracker = one_place r.trackers.items p.number q.number p.tracker q.tracker number p.tracked q.tracked in
      let variable : p.variable ≡ q.variable = represents_once c p.variable q.variable (Solvable s) coding p.means q.means in
      let is : IsTied n q.tracker c = tied.tied q.number n q.tracker q.named q.tracked in
      is.once k l q.variable (subst (λ (t : Tracking VariableId). slice_get t.variables k ≡ Some q.variable) tracker (p.present ∙ ap Some variable)) q.present

  one_place_of_steps : (m n : ℕ) (s : S) (k l bit other : ℕ) → IsStepAt c m (Rule (Digit s k bit)) → IsStepAt c n (Rule (Digit s l other)) → k ≡ l
  one_place_of_steps m n s k l bit other a b = let (x, p) = placed m s k bit a in let (y, q) = placed n s l other b in at_one_place x y k l s p q

  pub steps_one_place : (steps : List (ProofStep N S)) → AreSteps c steps → HaveOnePlace steps
  steps_one_place steps are m n s k l bit other a b = one_place_of_steps (suc m) (suc n) s k l bit other (are.each m (Rule (Digit s k bit)) a) (are.each n (Rule (Digit s l other)) b)

  pub refusal_one_place : (literals : List Signed) (causes : List ClauseId) (steps : List (ProofStep N S)) → AreStepsThen c literals causes steps → HaveOnePlace steps
  refusal_one_place literals causes steps are m n s k l bit other a b = steps_one_place are.earlier are.clauses m n s k l bit other (early m s k bit a) (early n s l other b)
    where
      early : (i : ℕ) (t : S) (at low : ℕ) → slice_get steps i ≡ Some (Rule (Digit t at low)) → slice_get are.earlier i ≡ Some (Rule (Digit t at low))
      early i t at low h = elim (get_push are.earlier are.final (Rule (Digit t at low)) i (subst (λ (xs : List (ProofStep N S)). slice_get xs i ≡ Some (Rule (Digit t at low))) are.ends h)) [
        | inl old ↦ old
        | inr (e, is) ↦ absurd (let both : Rule (Digit t at low) ≡ Derived are.derivation.literals are.derivation.causes = is ∙ are.derivation.derived in cc)
      ]

-- trimmed steps name no other places
pub trimmed_one_place : {N S : Type 0} {Wanted : ℕ → Type 0} (steps kept : List (ProofStep N S)) → IsTrimmedTo Wanted steps kept → HaveOnePlace steps → HaveOnePlace kept
trimmed_one_place {N} {S} {Wanted} steps kept trimmed one m n s k l bit other a b = let (i, at) = old m s k bit a in let (j, there) = old n s l other b in one i j s k l bit other at there
  where
    rule_was : (from : List ℕ) (place : ℕ) (x : ProofStep N S) (t : S) (at low : ℕ) → IsRenumbered from place x (Rule (Digit t at low)) → x ≡ Rule (Digit t at low)
    rule_was from place (Rule y) t at low h = sym h
    rule_was from place (Derived literals causes) t at low (renumbered, is, zip) = absurd cc

    old : (i : ℕ) (t : S) (at low : ℕ) → slice_get kept i ≡ Some (Rule (Digit t at low)) → (place : ℕ) × (slice_get steps place ≡ Some (Rule (Digit t at low)))
    old i t at low h = let (place, x, here, there, is) = was_at steps kept trimmed i (Rule (Digit t at low)) h in (place, there ∙ ap Some (rule_was trimmed.from place x t at low is))
