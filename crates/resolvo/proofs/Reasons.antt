-- The step of a turn is the proof's step of its reason.
use Rattle.std.proofs.Common.{◌≡◌, ℕ, suc, ◌+◌, ◌<◌, inl, inr, true, false, List, length, Some, None, sym, ◌∙◌, ap, subst, arith}
use Rattle.std.specs.Prelude.{Contains, slice_get}
use Rattle.std.proofs.lemmas.Option.{same_Some, slice_get_within}
use Rattle.resolvo_store_core.specs.Signed.{Signed, has}
use Rattle.resolvo_sat.specs.Clauses.{SatClause}
use Rattle.resolvo_pool_core.specs.OnePass.{Literal}
use Rattle.resolvo_sat.specs.RuleClauses.{Atom}
use Rattle.resolvo_sat.specs.Numbered.{meanings, Means}
use Rattle.resolvo_sat.proofs.Lists.{contains_map}
use Rattle.resolvo_sat.proofs.Meanings.{meaning_from}
use Rattle.resolvo_state.specs.declared.atom.ProofAtom.TheVariants.{Solvable}
use Rattle.resolvo_state.specs.declared.solver_state.SolverState.{SolverState}
use Rattle.resolvo_state.specs.Kinds.{Kind}
use Rattle.resolvo_state.specs.Atoms.{origin}
use Rattle.resolvo_state.proofs.Origins.{atom_of_one, origin_represents}
use Rattle.resolvo_state.proofs.Positions.{get_below}
use Rattle.resolvo_proof.specs.declared.step.ProofLiteral.{ProofLiteral}
use Rattle.resolvo_proof.specs.declared.step.ProofStep.{ProofStep}
use Rattle.resolvo_proof.specs.Steps.{literal_in}
use Rattle.resolvo_proof.specs.Written.{AreSteps, IsDerivation, IsStepAt, IsStepOf, IsRuleOf}
use Rattle.resolvo.specs.declared.turns.Turn.{Turn}
use Rattle.resolvo.specs.SoftTurns.{DeniesOne, IsReasonOf}
use Rattle.resolvo.specs.Turns.{HasReason, IsDeniable}
use Rattle.resolvo.specs.Solve.{DeniesOnly, HasProof}

module _ {N S : Type 0} (c : SolverState N S) (steps : List (ProofStep N S)) (are : AreSteps c steps) where
  -- a literal denies a solvable if its meaning is that of one that does
  denies_one : (among : S → Type 0) (x : Signed) (l : ProofLiteral N S) → DeniesOne c among x → Means (origin c.atoms.keys) x (literal_in l) → (l.positive ≡ false) × ((s : S) × (l.atom ≡ Solvable s) × among s)
  denies_one among x l (inl root) (other, is) = absurd (let later : 0 < x.variable.0 = other in let first : x.variable.0 ≡ 0 = ap (λ (y : Signed). y.variable.0) root in omega arith)
  denies_one among x l (inr (s, u, no_u, present, inside)) (other, is) = (
    ap (λ (m : Literal (Atom N S)). m.positive) is ∙ ap (λ (y : Signed). y.positive) no_u,
    (s, atom_of_one l.atom (Solvable s) (ap (λ (m : Literal (Atom N S)). m.atom) is ∙ ap (λ (y : Signed). origin c.atoms.keys y.variable.0) no_u ∙ origin_represents c.atoms.keys u (Solvable s) present), inside),
  )

  -- a derived step of such a clause
  denies_only : (among : S → Type 0) (k : ℕ) (step : ProofStep N S) → slice_get steps k ≡ Some step → (held : SatClause) → ((l : Signed) → has held.literals l ≡ true → DeniesOne c among l) → IsDerivation c.atoms.keys held.literals held.causes step
      → DeniesOnly steps among k
  denies_only among k step at held denies d = record {
    literals = d.literals;
    causes = d.causes;
    derived = at ∙ ap Some d.derived;
    denies = λ l h. (
        let present : Contains (meanings (origin c.atoms.keys) held.literals) (literal_in l) = subst (λ ms. Contains ms (literal_in l)) d.means (contains_map literal_in l d.literals.items h) in
        let (x, known, means) = meaning_from (origin c.atoms.keys) held.literals (literal_in l) present in
        denies_one among x l (denies x known) means);
  }

  -- a learnt clause encodes no rule
  learnt_step : (x : Kind N S) (held : SatClause) (step : ProofStep N S) → x ≡ Kind.Learnt → IsStepOf c.atoms.keys x held step → IsDerivation c.atoms.keys held.literals held.causes step
  learnt_step x held step is (inl (r, rule, encodes)) = absurd (let none : Some r ≡ None = subst (λ (y : Kind N S). IsRuleOf y (Some r)) is encodes in cc)
  learnt_step x held step is (inr (learnt, derivation)) = derivation

  -- the step of a reason denies what it denies
  reason_step : (among : S → Type 0) (k : ℕ) → IsReasonOf c among (suc k) → DeniesOnly steps among k
  reason_step among k reason =
      let low : suc k < length c.search.clauses = slice_get_within c.search.clauses (suc k) reason.held reason.present in
      let count : length steps + 1 ≡ length c.search.clauses = are.count in
      let (step, at) = get_below steps k (omega arith) in
      let its : IsStepAt c (suc k) step = are.each k step at in
      let is : its.kinds ≡ Kind.Learnt = same_Some its.kinds Kind.Learnt (sym its.kind_is ∙ reason.learnt) in
      let held : its.clause ≡ reason.held = same_Some its.clause reason.held (sym its.present ∙ reason.present) in
      denies_only among k step at its.clause (λ l h. reason.denies l (subst (λ (x : SatClause). has x.literals l ≡ true) held h)) (learnt_step its.kinds its.clause step is its.writes)

  pub reason_proof : (chosen : List S) (t : Turn S) → HasReason c chosen t → HasProof steps chosen t
  reason_proof chosen t r = record {
    accepted = r.accepted;
    refused = λ so. (let (k, is, reason) = r.refused so in (k, is, reason_step (IsDeniable chosen t) k reason));
  }
