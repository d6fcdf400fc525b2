-- The literals of derived steps are in earlier steps, and an atom has one sign among them.
use Rattle.std.proofs.Common.{◌≡◌, ℕ, zero, suc, ◌+◌, ◌<◌, ◌⊎◌, inl, inr, Bool, true, false, not, List, [], ◌∷◌, map, length, Some, Vec, Global, refl, sym, ◌∙◌, ap, subst, arith}
use Rattle.std.specs.Prelude.{slice_get, Contains}
use Rattle.std.proofs.lemmas.Option.{slice_get_within}
use Rattle.resolvo_pool_core.specs.declared.id.ClauseId.{ClauseId}
use Rattle.resolvo_pool_core.specs.OnePass.{Literal}
use Rattle.resolvo_pool_core.specs.RuleKeeping.{Packages}
use Rattle.resolvo_store_core.specs.Signed.{Signed, negation, has}
use Rattle.resolvo_store_core.specs.Clauses.{no, root as root_variable}
use Rattle.resolvo_sat.specs.Known.{clause_at}
use Rattle.resolvo_sat.specs.State.{AreApart, clauses_of, count_of}
use Rattle.resolvo_sat.specs.Analysis.{IsRefusal}
use Rattle.resolvo_sat.specs.Steps.{AreInRange}
use Rattle.resolvo_sat.proofs.Literals.{has_later}
use Rattle.resolvo_sat.proofs.Apart.{false_apart}
use Rattle.resolvo_sat.specs.RuleClauses.{Atom}
use Rattle.resolvo_sat.specs.Numbered.{meaning, meanings, IsOnce}
use Rattle.resolvo_sat.proofs.Lists.{contains_none, contains_map}
use Rattle.resolvo_sat.proofs.Meanings.{meaning_from, clause_in_range as place_in_range}
use Rattle.resolvo_state.specs.declared.solver_state.SolverState.{SolverState}
use Rattle.resolvo_state.specs.Kinds.{Kind}
use Rattle.resolvo_state.specs.Atoms.{origin}
use Rattle.resolvo_state.specs.SolverState.{IsCoding}
use Rattle.resolvo_state.specs.Spelled.{Spelled}
use Rattle.resolvo_state.specs.ClauseKinds.{kind_at}
use Rattle.resolvo_state.proofs.Origins.{coding_once}
use Rattle.resolvo_state.proofs.Positions.{get_below, get_in_prefix, get_push}
use Rattle.resolvo_proof.specs.declared.step.ProofLiteral.{ProofLiteral}
use Rattle.resolvo_proof.specs.declared.step.ProofRule.{ProofRule}
use Rattle.resolvo_proof.specs.declared.step.ProofStep.{ProofStep}
use Rattle.resolvo_proof.specs.declared.step.ProofStep.TheVariants.{Rule, Derived}
use Rattle.resolvo_proof.specs.Steps.{literal_in, clause_at as step_at}
use Rattle.resolvo_proof.specs.Members.{HaveOneSign}
use Rattle.resolvo_proof.specs.Drawn.{AreDrawn, HaveOneSigns}
use Rattle.resolvo_proof.specs.Proof.{DenyRoot}
use Rattle.resolvo_proof.specs.Trimmed.{IsRenumbered, IsTrimmedTo}
use Rattle.resolvo_proof.specs.Written.{IsStepOf, IsStepAt, AreSteps, AreStepsThen}
use Rattle.resolvo_proof.proofs.Parts.{clause_in_range}
use Rattle.resolvo_proof.proofs.ProveLemmas.{kept_false, map_none, none_meant, refusal_in_range, spells_step, step_clause}
use Rattle.resolvo_proof.proofs.Shortened.{was_at}

not_rule : {N S : Type 0} (r : ProofRule N S) (literals : Vec (ProofLiteral N S) Global) (causes : Vec ℕ Global) → Derived literals causes ≡ Rule r → ⊥
not_rule r literals causes h = cc

same_literals : {N S : Type 0} (a b : Vec (ProofLiteral N S) Global) (x y : Vec ℕ Global) → Derived a x ≡ Derived b y → a ≡ b
same_literals a b x y h = cc

-- a literal of the other sign is the negation
opposite : (x y : Signed) → x.variable.0 ≡ y.variable.0 → y.positive ≡ not x.positive → y ≡ negation x
opposite x y same sign = let back = sym same in λ i. record { variable = record { 0 = back i }; positive = sign i }

-- in the meanings of distinct literals an atom has one sign
one_sign : {N S : Type 0} (of : ℕ → Atom N S) (count : ℕ) → IsOnce of count → (literals : List Signed) → AreInRange count literals → AreApart literals → HaveOneSign (meanings of literals)
one_sign {N} {S} of count once literals in_range apart l m a b same =
    let (x, h, (other, is)) = meaning_from of literals l a in
    let (y, k, (another, this)) = meaning_from of literals m b in
    let atoms : of x.variable.0 ≡ of y.variable.0 = ap (λ (z : Literal (Atom N S)). z.atom) (sym is) ∙ (same ∙ ap (λ (z : Literal (Atom N S)). z.atom) this) in
    let one : x.variable.0 ≡ y.variable.0 = once x.variable.0 y.variable.0 other (in_range x h) another (in_range y k) atoms in
    ap (λ (z : Literal (Atom N S)). z.positive) is ∙ (go x y h k one x.positive y.positive refl refl ∙ ap (λ (z : Literal (Atom N S)). z.positive) (sym this))
  where
    clash : (x y : Signed) → has literals x ≡ true → has literals y ≡ true → x.variable.0 ≡ y.variable.0 → y.positive ≡ not x.positive → ⊥
    clash x y h k one sign = apart x (has_later (no root_variable) literals x h) (has_later (no root_variable) literals (negation x) (subst (λ (z : Signed). has literals z ≡ true) (opposite x y one sign) k))

    go : (x y : Signed) → has literals x ≡ true → has literals y ≡ true → x.variable.0 ≡ y.variable.0 → (p q : Bool) → x.positive ≡ p → y.positive ≡ q → p ≡ q
    go x y h k one true true e f = refl
    go x y h k one false false e f = refl
    go x y h k one true false e f = absurd (clash x y h k one (f ∙ sym (ap not e)))
    go x y h k one false true e f = absurd (clash x y h k one (f ∙ sym (ap not e)))

module _ {N S : Type 0} (c : SolverState N S) (coding : IsCoding c) where
  -- a derived step of a clause has the meanings of a learnt one's literals
  learnt_at : (n : ℕ) (literals : Vec (ProofLiteral N S) Global) (causes : Vec ℕ Global) → (at : IsStepAt c n (Derived literals causes)) → (kind_at c.kinds.items n ≡ Some Kind.Learnt) × (map literal_in literals.items ≡ meanings (origin c.atoms.keys) at.clause.literals)
  learnt_at n literals causes at = go at.writes
    where
      go : IsStepOf c.atoms.keys at.kinds at.clause (Derived literals causes) → (kind_at c.kinds.items n ≡ Some Kind.Learnt) × (map literal_in literals.items ≡ meanings (origin c.atoms.keys) at.clause.literals)
      go (inl (r, e, encoded)) = absurd (not_rule r literals causes e)
      go (inr (e, d)) = (at.kind_is ∙ ap Some e, ap (λ (v : Vec (ProofLiteral N S) Global). map literal_in v.items) (same_literals literals d.literals causes d.causes d.derived) ∙ d.means)

  module _ (same : S → S → Bool) (p : Packages N S) (spelled : Spelled same p c) (steps : List (ProofStep N S)) (are : AreSteps c steps) where
    each : (k : ℕ) → suc k < length c.search.clauses → (x : ProofStep N S) × (slice_get steps k ≡ Some x) × IsStepAt c (suc k) x
    each k below =
        let count : length steps + 1 ≡ length c.search.clauses = are.count in
        let (x, there) = get_below steps k (omega arith) in
        (x, there, are.each k x there)

    -- a literal's meaning is in the clause's step, unless the literal is the root's
    in_earlier_step : (n : ℕ) (x : Signed) (m : ℕ) → m < suc n → 0 < x.variable.0 → has (clause_at (clauses_of c.search) m) x ≡ true → (k : ℕ) × (k < n) × Contains (step_at same p steps k) (meaning (origin c.atoms.keys) x)
    in_earlier_step n x zero below other h = (let z : x.variable.0 ≡ 0 = coding.alone x h in absurd (omega arith))
    in_earlier_step n x (suc k) below other h = elim ((spells_step same p c coding spelled steps each k (place_in_range (clauses_of c.search) (suc k) x h)).only x h) [
      | inl is ↦ (let z : x.variable.0 ≡ 0 = ap (λ (y : Signed). y.variable.0) is in absurd (omega arith))
      | inr (o, here) ↦ (k, omega arith, here)
    ]

    -- each literal of a derived step is in an earlier step
    pub steps_drawn : AreDrawn same p steps
    steps_drawn n literals causes here l a =
        let at = are.each n (Derived literals causes) here in
        let (learnt, means) = learnt_at (suc n) literals causes at in
        let (x, h, (other, is)) = meaning_from (origin c.atoms.keys) at.clause.literals (literal_in l) (subst (λ (xs : List (Literal (Atom N S))). Contains xs (literal_in l)) means (contains_map literal_in l literals.items a)) in
        let (m, below, there) = coding.drawn (suc n) at.clause learnt at.present x h in
        let (k, before, present) = in_earlier_step n x m below other there in
        (k, before, subst (Contains (step_at same p steps k)) (sym is) present)

  -- and an atom has one sign in it
  pub steps_signs : (steps : List (ProofStep N S)) → AreSteps c steps → HaveOneSigns steps
  steps_signs steps are n literals causes here =
      let at = are.each n (Derived literals causes) here in
      let (learnt, means) = learnt_at (suc n) literals causes at in
      subst (λ (xs : List (Literal (Atom N S))). HaveOneSign xs) (sym means)
      (one_sign (origin c.atoms.keys) (count_of c.search) (coding_once c coding) at.clause.literals (clause_in_range c coding (suc n) at.clause at.present) (coding.apart (suc n) at.clause learnt at.present))

  module _ (spelled : List Signed) (from : List ClauseId) (steps : List (ProofStep N S)) (are : AreStepsThen c spelled from steps) where
    -- a derived step is a clause's, or the refusal's
    derived_split : (n : ℕ) (literals : Vec (ProofLiteral N S) Global) (causes : Vec ℕ Global) → slice_get steps n ≡ Some (Derived literals causes) → (slice_get are.earlier n ≡ Some (Derived literals causes)) ⊎ (map literal_in literals.items ≡ meanings (origin c.atoms.keys) spelled)
    derived_split n literals causes here = elim (get_push are.earlier are.final (Derived literals causes) n (subst (λ (xs : List (ProofStep N S)). slice_get xs n ≡ Some (Derived literals causes)) are.ends here)) [
      | inl old ↦ inl old
      | inr (e, is) ↦ inr (ap (λ (v : Vec (ProofLiteral N S) Global). map literal_in v.items) (same_literals literals are.derivation.literals causes are.derivation.causes (is ∙ are.derivation.derived)) ∙ are.derivation.means)
    ]

    -- a step of a clause is found among all
    clause_stays : (same : S → S → Bool) (p : Packages N S) (m : ℕ) → m < length are.earlier → step_at same p are.earlier m ≡ step_at same p steps m
    clause_stays same p m below =
        let (x, at) = get_below are.earlier m below in
        step_clause same p are.earlier m x at ∙ sym (step_clause same p steps m x (subst (λ (xs : List (ProofStep N S)). slice_get xs m ≡ Some x) (sym are.ends) (get_in_prefix are.earlier (are.final ∷ []) m x at)))

    -- the literals are in earlier steps where the refusal denies the root alone
    pub refusal_drawn : DenyRoot spelled → (same : S → S → Bool) (p : Packages N S) → Spelled same p c → AreDrawn same p steps
    refusal_drawn deny same p spells n literals causes here l a = elim (derived_split n literals causes here) [
      | inl old ↦
          let (m, before, present) = steps_drawn same p spells are.earlier are.clauses n literals causes old l a in
          let within : n < length are.earlier = slice_get_within are.earlier n (Derived literals causes) old in
          (m, before, subst (λ (xs : List (Literal (Atom N S))). Contains xs (literal_in l)) (clause_stays same p m (omega arith)) present)
      | inr means ↦
          let none : literals.items ≡ [] = map_none literal_in literals.items (means ∙ none_meant (origin c.atoms.keys) spelled deny) in
          absurd (contains_none l (subst (λ (xs : List (ProofLiteral N S)). Contains xs l) none a))
    ]

    pub refusal_signs : IsRefusal c.search spelled from → HaveOneSigns steps
    refusal_signs refusal n literals causes here = elim (derived_split n literals causes here) [
      | inl old ↦ steps_signs are.earlier are.clauses n literals causes old
      | inr means ↦ subst (λ (xs : List (Literal (Atom N S))). HaveOneSign xs) (sym means)
          (one_sign (origin c.atoms.keys) (count_of c.search) (coding_once c coding) spelled (refusal_in_range c.search spelled from coding.ready.state refusal) (false_apart c.search spelled coding.ready.state (kept_false c.search spelled refusal.denies)))
    ]

-- trimmed steps add no sign of an atom
pub trimmed_signs : {N S : Type 0} {Wanted : ℕ → Type 0} (steps kept : List (ProofStep N S)) → IsTrimmedTo Wanted steps kept → HaveOneSigns steps → HaveOneSigns kept
trimmed_signs {N} {S} {Wanted} steps kept trimmed signs n literals causes here = let (place, x, at, there, is) = was_at steps kept trimmed n (Derived literals causes) here in go place x there is
  where
    go : (place : ℕ) (x : ProofStep N S) → slice_get steps place ≡ Some x → IsRenumbered trimmed.from place x (Derived literals causes) → HaveOneSign (map literal_in literals.items)
    go place (Rule r) there is = absurd (not_rule r literals causes is)
    go place (Derived old before) there (renumbered, is, zip) = subst (λ (v : Vec (ProofLiteral N S) Global). HaveOneSign (map literal_in v.items)) (sym (same_literals literals old causes renumbered is)) (signs place old before there)
