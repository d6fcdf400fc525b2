-- The steps that are written for a coding are a proof.
use Rattle.std.proofs.Common.{◌≡◌, ℕ, zero, suc, ◌+◌, ◌<◌, ◌≤◌, inl, inr, Bool, true, false, ◌==◌, List, [], ◌∷◌, ◌++◌, map, length, reverse, cond, Option, Some, None, refl, sym, ◌∙◌, ap, subst, arith}
use Rattle.std.specs.Prelude.{slice_get, Contains}
use Rattle.std.proofs.lemmas.List.{reverse-append, append_assoc}
use Rattle.std.proofs.lemmas.Option.{slice_get_within}
use Rattle.resolvo_pool_core.specs.declared.id.ClauseId.{ClauseId}
use Rattle.resolvo_pool_core.specs.declared.id.ConditionId.{ConditionId}
use Rattle.resolvo_pool_core.specs.OnePass.{Literal, one_pass, deny, nothing}
use Rattle.resolvo_pool_core.specs.RuleKeeping.{Packages, Rules}
use Rattle.resolvo_store_core.specs.Signed.{Signed, negation, has}
use Rattle.resolvo_store_core.specs.Clauses.{yes, no, root as root_variable}
use Rattle.resolvo_sat.specs.Clauses.{SatClause}
use Rattle.resolvo_sat.specs.declared.state.SatState.{SatState}
use Rattle.resolvo_sat.specs.Known.{clause_at}
use Rattle.resolvo_sat.specs.AnalyzeFinal.{Refutes}
use Rattle.resolvo_sat.specs.State.{lists, named, AllBelow, AreDerived, IsDerived, IsState, AreApart, clauses_of, count_of, history}
use Rattle.resolvo_sat.specs.Entries.{made_true}
use Rattle.resolvo_sat.specs.Analysis.{DenyAssumptions, IsRefusal}
use Rattle.resolvo_sat.specs.Steps.{AreInRange}
use Rattle.resolvo_sat.proofs.Clauses.{literals_at, length-lists}
use Rattle.resolvo_sat.proofs.Literals.{has_here, has_later}
use Rattle.resolvo_sat.proofs.Trails.{known_in_range, known_from_level, level_from_entry}
use Rattle.resolvo_sat.proofs.Apart.{false_apart}
use Rattle.resolvo_sat.specs.RuleClauses as Encoder
use Rattle.resolvo_sat.specs.RuleClauses.{Atom, IsExact, IsRule, literals_of}
use Rattle.resolvo_sat.specs.Numbered.{meaning, meanings, Spells}
use Rattle.resolvo_sat.proofs.Meanings.{meaning_in, meaning_from, root_or_other}
use Rattle.resolvo_state.specs.declared.solver_state.SolverState.{SolverState}
use Rattle.resolvo_state.specs.Kinds.{Kind}
use Rattle.resolvo_state.specs.Atoms.{origin}
use Rattle.resolvo_state.specs.SolverState.{IsCoding}
use Rattle.resolvo_state.specs.Spelled.{Spelled}
use Rattle.resolvo_state.specs.ClauseKinds.{kind_at, rule_of, rules_in}
use Rattle.resolvo_state.proofs.Origins.{coding_once}
use Rattle.resolvo_state.proofs.Positions.{get_in_prefix, get_push, get_below}
use Rattle.resolvo_state.proofs.Rules.{rule_at_kind}
use Rattle.resolvo_proof.specs.declared.step.ProofRule.{ProofRule}
use Rattle.resolvo_proof.specs.declared.step.ProofRule.TheVariants.{Needs, GateOf, Shared, Limit, Outside, Locked, Excluded, Digit, AtLeastOne, Matches}
use Rattle.resolvo_proof.specs.declared.step.ProofStep.{ProofStep}
use Rattle.resolvo_proof.specs.Steps.{literal_in, rule_under, clause_of, clause_at as step_at}
use Rattle.resolvo_proof.specs.Proof.{IsRefuted, IsStep, EndsEmpty, DenyRoot, Proves}
use Rattle.resolvo_proof.specs.Written.{places, IsRuleOf, IsDerivation, IsStepOf, IsStepAt, AreSteps, AreStepsThen}
use Rattle.resolvo_proof.proofs.Meant.{spelt, derived_meant, refuted_some, places_below}

some_is : {X : Type 0} (x y : X) → Some x ≡ Some y → x ≡ y
some_is x y h = cc

-- a list up to a place, and the rest
split_at : {X : Type 0} (xs : List X) (n : ℕ) (x : X) → slice_get xs n ≡ Some x → (prefix : List X) × (rest : List X) × (xs ≡ prefix ++ x ∷ rest) × (length prefix ≡ n)
split_at [] n x h = absurd cc
split_at (y ∷ xs) zero x h = ([], xs, ap (λ z. z ∷ xs) (some_is y x h), refl)
split_at (y ∷ xs) (suc n) x h = let (prefix, rest, e, long) = split_at xs n x h in (y ∷ prefix, rest, ap (λ zs. y ∷ zs) e, ap suc long)

derived_older : (newer older : List SatClause) → AreDerived (newer ++ older) → AreDerived older
derived_older [] older d = d
derived_older (c ∷ newer) older d = derived_older newer older d.1

clause_prefix : (cs ds : List SatClause) (n : ℕ) → n < length (lists cs) → clause_at (lists (cs ++ ds)) n ≡ clause_at (lists cs) n
clause_prefix [] ds n below = absurd (omega arith)
clause_prefix (c ∷ cs) ds zero below = refl
clause_prefix (c ∷ cs) ds (suc n) below = clause_prefix cs ds n (omega arith)

named_prefix : (cs ds : List SatClause) (causes : List ClauseId) → AllBelow (length (lists cs)) causes → named (lists (cs ++ ds)) causes ≡ named (lists cs) causes
named_prefix cs ds [] below = refl
named_prefix cs ds (c ∷ causes) below = ap (λ x. x ∷ named (lists (cs ++ ds)) causes) (clause_prefix cs ds c.0 below.0) ∙ ap (λ xs. clause_at (lists cs) c.0 ∷ xs) (named_prefix cs ds causes below.1)

below_more : (m n : ℕ) (causes : List ClauseId) → m ≤ n → AllBelow m causes → AllBelow n causes
below_more m n [] le below = tt
below_more m n (c ∷ causes) le below = ((let one : c.0 < m = below.0 in omega arith), below_more m n causes le below.1)

-- A clause with causes follows from them, and they are before it.
derived_at : (cs : List SatClause) (n : ℕ) (c : SatClause) → AreDerived (reverse cs) → slice_get cs n ≡ Some c → 0 < length c.causes → AllBelow n c.causes × Refutes (no root_variable ∷ c.literals) (named (lists cs) c.causes)
derived_at cs n c derived at some =
    let (prefix, rest, e, long) = split_at cs n c at in
    let newest : reverse cs ≡ reverse rest ++ (c ∷ reverse prefix) = ap reverse e ∙ reverse-append prefix (c ∷ rest) ∙ ap (λ xs. xs ++ reverse prefix) (reverse-append (c ∷ []) rest) ∙ append_assoc (reverse rest) (c ∷ []) (reverse prefix) in
    let d : IsDerived (lists (reverse (reverse prefix))) c.literals c.causes = (derived_older (reverse rest) (c ∷ reverse prefix) (subst AreDerived newest derived)).0 some in
    let own : IsDerived (lists prefix) c.literals c.causes = subst (λ xs. IsDerived (lists xs) c.literals c.causes) (Rattle.std.proofs.lemmas.List.reverse-reverse prefix) d in
    let same : named (lists cs) c.causes ≡ named (lists prefix) c.causes = ap (λ xs. named (lists xs) c.causes) e ∙ named_prefix prefix (c ∷ rest) c.causes own.in_range in
    (subst (λ k. AllBelow k c.causes) (length-lists prefix ∙ long) own.in_range, subst (Refutes (no root_variable ∷ c.literals)) (sym same) own.refuted)

-- a clause that denies choices of the trail is false on it
pub kept_false : (s : SatState) (literals : List Signed) → DenyAssumptions s literals → (l : Signed) → has literals l ≡ true → has (made_true (history s)) (negation l) ≡ true
kept_false s literals denies l h =
    let (e, older, on, is, kept) = denies l h in
    subst (λ x. has (made_true (history s)) x ≡ true) is (known_from_level (history s) _ e.level (level_from_entry (history s) e older on))

-- a refusal's literals are of variables that are there
pub refusal_in_range : (s : SatState) (literals : List Signed) (causes : List ClauseId) → IsState s → IsRefusal s literals causes → AreInRange (count_of s) literals
refusal_in_range s literals causes state refusal l h = known_in_range (count_of s) (clauses_of s) (history s) (negation l) state.trail (kept_false s literals refusal.denies l h)

-- distinct literals are spelled by their meanings
apart_spells : {N S : Type 0} (of : ℕ → Atom N S) (literals : List Signed) → AreApart literals → Spells of literals (meanings of literals)
apart_spells of literals apart = record {
  only = λ l h. elim (root_or_other l.variable.0) [
    | inl z ↦ inl (denied l h z l.positive refl)
    | inr o ↦ inr (o, meaning_in of literals l h o)
  ];
  each = λ m b. meaning_from of literals m b;
}
  where
    denied : (l : Signed) → has literals l ≡ true → l.variable.0 ≡ 0 → (b : Bool) → l.positive ≡ b → l ≡ no root_variable
    denied l h z false e = λ i. record { variable = record { 0 = z i }; positive = e i }
    denied l h z true e =
        let is : l ≡ yes root_variable = λ i. record { variable = record { 0 = z i }; positive = e i } in
        absurd (apart (yes root_variable) (has_later (no root_variable) literals (yes root_variable) (subst (λ x. has literals x ≡ true) is h)) (has_here (no root_variable) literals (no root_variable) refl))

-- literals that deny the root alone mean nothing
pub none_meant : {N S : Type 0} (of : ℕ → Atom N S) (literals : List Signed) → DenyRoot literals → meanings of literals ≡ []
none_meant of [] deny = refl
none_meant of (l ∷ ls) deny =
    ap (λ (x : Signed). cond (x.variable.0 == 0) (meanings of ls) (meaning of x ∷ meanings of ls)) (deny l (has_here l ls l refl))
    ∙ none_meant of ls (λ m h. deny m (has_later l ls m h))

pub map_none : {X Y : Type 0} (f : X → Y) (xs : List X) → map f xs ≡ [] → xs ≡ []
map_none f [] h = refl
map_none f (x ∷ xs) h = absurd cc

-- the rule of a step is the clause's, under some condition
rule_of_step : {N S : Type 0} (x : Kind N S) (r : ProofRule N S) → IsRuleOf x (Some r) → (condition : Option ConditionId) × (rule_of x ≡ Some (rule_under condition r))
rule_of_step Kind.Root r h = absurd cc
rule_of_step (Kind.Needs parent need case) r (copy, e, same) = (need.condition, ap (λ vs. Some (Encoder.Rule.needs parent need vs)) (sym same) ∙ sym (ap (λ y. Some (rule_under need.condition y)) (some_is r (Needs parent need.requirement copy) e)))
rule_of_step (Kind.Gated s q) r h = (None, sym (ap (λ y. Some (rule_under None y)) (some_is r (GateOf s q) h)))
rule_of_step (Kind.Shared q) r h = (None, sym (ap (λ y. Some (rule_under None y)) (some_is r (Shared q) h)))
rule_of_step (Kind.Limits parent v s) r h = (None, sym (ap (λ y. Some (rule_under None y)) (some_is r (Limit parent v (Some s)) h)))
rule_of_step (Kind.LimitsOutside parent v) r h = (None, sym (ap (λ y. Some (rule_under None y)) (some_is r (Limit parent v None) h)))
rule_of_step (Kind.IsOut v s) r h = (None, sym (ap (λ y. Some (rule_under None y)) (some_is r (Outside v s) h)))
rule_of_step (Kind.Locked locked s) r h = (None, sym (ap (λ y. Some (rule_under None y)) (some_is r (Locked locked s) h)))
rule_of_step (Kind.Excluded s reason) r h = (None, sym (ap (λ y. Some (rule_under None y)) (some_is r (Excluded s reason) h)))
rule_of_step (Kind.Digit n s place bit) r h = (None, sym (ap (λ y. Some (rule_under None y)) (some_is r (Digit s place bit) h)))
rule_of_step (Kind.IsThere n s) r h = (None, sym (ap (λ y. Some (rule_under None y)) (some_is r (AtLeastOne n s) h)))
rule_of_step (Kind.Matches v s) r h = (None, sym (ap (λ y. Some (rule_under None y)) (some_is r (Matches v s) h)))
rule_of_step Kind.Learnt r h = absurd cc

module _ {N S : Type 0} (same : S → S → Bool) (p : Packages N S) where
  -- the clause of a rule is the same under each condition
  pub under_any : (condition : Option ConditionId) (r : ProofRule N S) → literals_of same p (rule_under condition r) ≡ literals_of same p (rule_under None r)
  under_any condition (Needs parent q case) = refl
  under_any condition (GateOf s q) = refl
  under_any condition (Shared q) = refl
  under_any condition (Limit parent v None) = refl
  under_any condition (Limit parent v (Some s)) = refl
  under_any condition (Outside v s) = refl
  under_any condition (Locked locked s) = refl
  under_any condition (Excluded s reason) = refl
  under_any condition (Digit s place bit) = refl
  under_any condition (AtLeastOne n s) = refl
  under_any condition (Matches v s) = refl

  pub step_clause : (steps : List (ProofStep N S)) (place : ℕ) (step : ProofStep N S) → slice_get steps place ≡ Some step → step_at same p steps place ≡ clause_of same p step
  step_clause [] place step h = absurd cc
  step_clause (x ∷ steps) zero step h = ap (clause_of same p) (some_is x step h)
  step_clause (x ∷ steps) (suc place) step h = step_clause steps place step h

  module _ (c : SolverState N S) (coding : IsCoding c) (spelled : Spelled same p c) (steps : List (ProofStep N S)) (each : (place : ℕ) → suc place < length c.search.clauses → (step : ProofStep N S) × (slice_get steps place ≡ Some step) × IsStepAt c (suc place) step) where
    -- the step of a clause has the meanings of the clause's literals
    spells_clause : (n : ℕ) (step : ProofStep N S) → IsStepAt c n step → Spells (origin c.atoms.keys) (clause_at (clauses_of c.search) n) (clause_of same p step)
    spells_clause n step at = go at.writes
      where
        literals : clause_at (clauses_of c.search) n ≡ at.clause.literals
        literals = literals_at c.search.clauses n at.clause at.present

        go : IsStepOf c.atoms.keys at.kinds at.clause step → Spells (origin c.atoms.keys) (clause_at (clauses_of c.search) n) (clause_of same p step)
        go (inl (r, e, encoded)) =
            let (condition, is) = rule_of_step at.kinds r encoded in
            let own : Spells (origin c.atoms.keys) (clause_at (clauses_of c.search) n) (literals_of same p (rule_under condition r)) = spelled n (rule_under condition r) (rule_at_kind c.kinds.items n at.kinds at.kind_is ∙ is) in
            subst (λ (x : ProofStep N S). Spells (origin c.atoms.keys) (clause_at (clauses_of c.search) n) (clause_of same p x)) (sym e)
            (subst (λ (xs : List (Literal (Atom N S))). Spells (origin c.atoms.keys) (clause_at (clauses_of c.search) n) xs) (under_any condition r) own)
        go (inr (e, d)) =
            let a : AreApart at.clause.literals = coding.apart n at.clause (at.kind_is ∙ ap Some e) at.present in
            let own : Spells (origin c.atoms.keys) at.clause.literals (map literal_in d.literals.items) = subst (λ (xs : List (Literal (Atom N S))). Spells (origin c.atoms.keys) at.clause.literals xs) (sym d.means) (apart_spells (origin c.atoms.keys) at.clause.literals a) in
            subst (λ (x : ProofStep N S). Spells (origin c.atoms.keys) (clause_at (clauses_of c.search) n) (clause_of same p x)) (sym d.derived)
            (subst (λ (xs : List Signed). Spells (origin c.atoms.keys) xs (map literal_in d.literals.items)) (sym literals) own)

    pub spells_step : (n : ℕ) → suc n < length (clauses_of c.search) → Spells (origin c.atoms.keys) (clause_at (clauses_of c.search) (suc n)) (step_at same p steps n)
    spells_step n below =
        let long : length (clauses_of c.search) ≡ length c.search.clauses = length-lists c.search.clauses in
        let (step, at, is) = each n (omega arith) in
        subst (Spells (origin c.atoms.keys) (clause_at (clauses_of c.search) (suc n))) (sym (step_clause steps n step at)) (spells_clause (suc n) step is)

    module _ (same_atom : Atom N S → Atom N S → Bool) (exact : IsExact same_atom) (root : Rules) where
      -- what follows from clauses before this place's is refuted at it
      derivation_refuted : (place : ℕ) (literals : List Signed) (causes : List ClauseId) (step : ProofStep N S) → suc place ≤ length c.search.clauses → AllBelow (suc place) causes → Refutes (no root_variable ∷ literals) (named (clauses_of c.search) causes)
          → ((l : Signed) → has literals l ≡ true → l.variable.0 < count_of c.search) → AreApart literals → (d : IsDerivation c.atoms.keys literals causes step) → IsRefuted same_atom same p root steps place d.literals.items d.causes.items
      derivation_refuted place literals causes step long below refuted in_range separate d = record {
        some = refuted_some same_atom (deny same_atom nothing (map literal_in d.literals.items)) (step_at same p steps) d.causes.items goes;
        earlier = λ cause h. places_below place causes below cause (subst (λ xs. Contains xs cause) d.read h);
        refuted = goes;
      }
        where
          all : length (clauses_of c.search) ≡ length c.search.clauses
          all = length-lists c.search.clauses

          meant : one_pass same_atom (meanings (origin c.atoms.keys) literals) (map (step_at same p steps) (places causes)) ≡ true
          meant = derived_meant same_atom exact (origin c.atoms.keys) (count_of c.search) (coding_once c coding) (clauses_of c.search) (step_at same p steps) coding.covered.first
              (λ n small. spelt same_atom exact (origin c.atoms.keys) (count_of c.search) (coding_once c coding) (clause_at (clauses_of c.search) (suc n)) (step_at same p steps n) (coding.ready.state.in_range (suc n)) (spells_step n small))
              literals causes (below_more (suc place) (length (clauses_of c.search)) causes (let e : length (clauses_of c.search) ≡ length c.search.clauses = all in omega arith) below) refuted in_range separate

          goes : one_pass same_atom (map literal_in d.literals.items) (map (step_at same p steps) d.causes.items) ≡ true
          goes = subst (λ xs. one_pass same_atom (map literal_in d.literals.items) (map (step_at same p steps) xs) ≡ true) (sym d.read)
              (subst (λ xs. one_pass same_atom xs (map (step_at same p steps) (places causes)) ≡ true) (sym d.means) meant)

      -- the step of a clause is allowed at its place
      clause_step : ((r : Encoder.Rule N S) → rules_in c.kinds.items r → IsRule same p root r) → (place : ℕ) (step : ProofStep N S) → suc place < length c.search.clauses → IsStepAt c (suc place) step → IsStep same_atom same p root steps place step
      clause_step rule place step below at = go at.writes
        where
          go : IsStepOf c.atoms.keys at.kinds at.clause step → IsStep same_atom same p root steps place step
          go (inl (r, e, encoded)) =
              let (condition, is) = rule_of_step at.kinds r encoded in
              subst (IsStep same_atom same p root steps place) (sym e) (condition, rule (rule_under condition r) (suc place, rule_at_kind c.kinds.items (suc place) at.kinds at.kind_is ∙ is))
          go (inr (e, d)) =
              let learnt : kind_at c.kinds.items (suc place) ≡ Some Kind.Learnt = at.kind_is ∙ ap Some e in
              let (earlier, refuted) = derived_at c.search.clauses (suc place) at.clause coding.ready.state.derived at.present (coding.learnt (suc place) at.clause learnt at.present) in
              let in_range : (l : Signed) → has at.clause.literals l ≡ true → l.variable.0 < count_of c.search = λ l h. coding.ready.state.in_range (suc place) l (subst (λ xs. has xs l ≡ true) (sym (literals_at c.search.clauses (suc place) at.clause at.present)) h) in
              subst (IsStep same_atom same p root steps place) (sym d.derived)
              (derivation_refuted place at.clause.literals at.clause.causes step (omega arith) earlier refuted in_range (coding.apart (suc place) at.clause learnt at.present) d)

-- each clause after the root's has its step
has_step : {N S : Type 0} (c : SolverState N S) (steps more : List (ProofStep N S)) → AreSteps c steps → (place : ℕ) → suc place < length c.search.clauses → (step : ProofStep N S) × (slice_get (steps ++ more) place ≡ Some step) × IsStepAt c (suc place) step
has_step c steps more are place below =
    let count : length steps + 1 ≡ length c.search.clauses = are.count in
    let (step, at) = get_below steps place (omega arith) in
    (step, get_in_prefix steps more place step at, are.each place step at)

-- The steps of a coding's clauses are a proof.
pub steps_prove : {N S : Type 0} (c : SolverState N S) (steps : List (ProofStep N S)) → IsCoding c → AreSteps c steps → Proves c steps
steps_prove {N} {S} c steps coding are same_atom exact same p root spelled rule place step at =
    let within : place < length steps = slice_get_within steps place step at in
    let count : length steps + 1 ≡ length c.search.clauses = are.count in
    clause_step same p c coding spelled steps each same_atom exact root rule place step (omega arith) (are.each place step at)
  where
    each : (k : ℕ) → suc k < length c.search.clauses → (x : ProofStep N S) × (slice_get steps k ≡ Some x) × IsStepAt c (suc k) x
    each k below =
        let count : length steps + 1 ≡ length c.search.clauses = are.count in
        let (x, there) = get_below steps k (omega arith) in
        (x, there, are.each k x there)

-- So are they with a refusal's step after them.
pub refusal_proves : {N S : Type 0} (c : SolverState N S) (literals : List Signed) (causes : List ClauseId) (steps : List (ProofStep N S)) → IsCoding c → IsRefusal c.search literals causes → AreStepsThen c literals causes steps → Proves c steps
refusal_proves {N} {S} c literals causes steps coding refusal are same_atom exact same p root spelled rule place step at = elim (get_push are.earlier are.final step place (subst (λ xs. slice_get xs place ≡ Some step) are.ends at)) [
  | inl old ↦
      let within : place < length are.earlier = slice_get_within are.earlier place step old in
      let count : length are.earlier + 1 ≡ length c.search.clauses = are.clauses.count in
      clause_step same p c coding spelled steps each same_atom exact root rule place step (omega arith) (are.clauses.each place step old)
  | inr (e, is) ↦
      let count : length are.earlier + 1 ≡ length c.search.clauses = are.clauses.count in
      let all : length (clauses_of c.search) ≡ length c.search.clauses = length-lists c.search.clauses in
      let last : suc place ≡ length (clauses_of c.search) = omega arith in
      subst (IsStep same_atom same p root steps place) (sym (is ∙ are.derivation.derived))
      (derivation_refuted same p c coding spelled steps each same_atom exact root place literals causes are.final (omega arith) (subst (λ k. AllBelow k causes) (sym last) refusal.derived.in_range) refusal.derived.refuted
      (refusal_in_range c.search literals causes coding.ready.state refusal) (false_apart c.search literals coding.ready.state (kept_false c.search literals refusal.denies)) are.derivation)
]
  where
    each : (k : ℕ) → suc k < length c.search.clauses → (x : ProofStep N S) × (slice_get steps k ≡ Some x) × IsStepAt c (suc k) x
    each k below = subst (λ xs. (x : ProofStep N S) × (slice_get xs k ≡ Some x) × IsStepAt c (suc k) x) (sym are.ends) (has_step c are.earlier (are.final ∷ []) are.clauses k below)

-- a refusal that denies the root alone ends with the empty clause
pub ends_empty : {N S : Type 0} (c : SolverState N S) (literals : List Signed) (causes : List ClauseId) (steps : List (ProofStep N S)) → AreStepsThen c literals causes steps → DenyRoot literals → EndsEmpty steps
ends_empty c literals causes steps are deny = record {
  earlier = are.earlier;
  literals = are.derivation.literals;
  causes = are.derivation.causes;
  ends = are.ends ∙ ap (λ x. are.earlier ++ x ∷ []) are.derivation.derived;
  empty = map_none literal_in are.derivation.literals.items (are.derivation.means ∙ none_meant (origin c.atoms.keys) literals deny);
}
