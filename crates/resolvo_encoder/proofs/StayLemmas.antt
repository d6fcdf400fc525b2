-- The invariant of the encoding is kept by the search.
use Rattle.std.proofs.Common.{◌≡◌, ℕ, ◌+◌, ◌*◌, ◌-◌, ◌^◌, ◌<◌, ◌≤◌, inl, inr, Bool, true, List, [], ◌∷◌, ◌++◌, length, Some, None, Vec, Global, refl, sym, ◌∙◌, ap, subst, arith, reverse}
use Rattle.resolvo_pool_core.specs.Ordered.{Ordered}
use Rattle.resolvo_sat.specs.Analysis.{AreFromClauses}
use Rattle.std.specs.Prelude.{slice_get, Contains}
use Rattle.std.proofs.lemmas.List.{length-append}
use Rattle.resolvo_pool_core.specs.declared.id.ClauseId.{ClauseId}
use Rattle.resolvo_pool_core.specs.declared.id.VariableId.{VariableId}
use Rattle.resolvo_pool_core.specs.declared.requirement.Requirement.{Requirement}
use Rattle.resolvo_pool_core.specs.RuleKeeping.{Packages, Rules, IsLawful}
use Rattle.resolvo_store_core.specs.Signed.{Signed, has}
use Rattle.resolvo_store_core.specs.Clauses.{yes}
use Rattle.resolvo_store_core.specs.Lists.{has_candidates, candidates_in}
use Rattle.resolvo_store_core.specs.declared.pick.NeedClause.{NeedClause}
use Rattle.resolvo_sat.specs.declared.propagate_and_learn.StepResult.{StepResult}
use Rattle.resolvo_sat.specs.Clauses.{SatClause}
use Rattle.resolvo_sat.specs.declared.state.SatState.{SatState}
use Rattle.resolvo_sat.specs.declared.state.VariableKind.{VariableKind}
use Rattle.resolvo_sat.specs.declared.watch_lists.WatchLists.{WatchLists}
use Rattle.resolvo_sat.specs.PropagateAndLearn.{Completes, Improves, IsProgress, KeepsUpTo, weight_left}
use Rattle.resolvo_sat.specs.Entries.{weight, EndsWith}
use Rattle.resolvo_sat.specs.Known.{clause_at}
use Rattle.resolvo_sat.specs.Propagation.{Extends}
use Rattle.resolvo_sat.specs.State.{lists, count_of, history, clauses_of}
use Rattle.resolvo_sat.specs.Steps.{Chooses, Undoes}
use Rattle.resolvo_sat.proofs.Clauses.{length-lists}
use Rattle.resolvo_sat.proofs.ImproveLemmas.{extends_heavier, extends_earlier, choice_heavier, choice_earlier, undo_earlier, weight_falls}
use Rattle.resolvo_sat.proofs.StepLemmas.{lists-append, clause_at_end}
use Rattle.resolvo_decide.specs.declared.decide_queue.DecideQueue.{DecideQueue}
use Rattle.resolvo_decide.specs.Queue.{needs_of}
use Rattle.resolvo_sat.specs.RuleClauses.{IsExact, Atom, Rule, plus}
use Rattle.resolvo_sat.specs.SearchEnd.{HasClause}
use Rattle.resolvo_sat.specs.Numbered.{meaning, Means, known_of, AreCalledFor}
use Rattle.resolvo_state.specs.declared.atom.ProofAtom.{ProofAtom}
use Rattle.resolvo_state.specs.declared.atom.ProofAtom.TheVariants.{Solvable}
use Rattle.resolvo_state.specs.declared.solver_state.SolverState.{SolverState}
use Rattle.resolvo_state.specs.declared.registry.Registry.{Registry}
use Rattle.resolvo_state.specs.Kinds.{Kind}
use Rattle.resolvo_state.specs.Atoms.{origin, Represents}
use Rattle.resolvo_state.specs.SolverState.{IsCoding, Advances, KeepsClauses, learnt_by, AddsDenial}
use Rattle.resolvo_state.specs.Registered.{AreTied, IsTracked, IsRegistered}
use Rattle.resolvo_state.specs.Spelled.{AreRegistered}
use Rattle.resolvo_state.specs.ClauseKinds.{kind_at, rule_at}
use Rattle.resolvo_state.specs.StoredKinds.{KindList}
use Rattle.resolvo_state.proofs.KeepLemmas.{floored_kept}
use Rattle.resolvo_state.proofs.Growth.{grows_same, grows_then, trail_same, kind_grows, kind_split, rule_split, rules_split, spelled_grows, registered_grows, called_grows_trail, called_advances, called_undoes, called_chooses, called_extends}
use Rattle.resolvo_state.proofs.Positions.{prefix_equal, get_last}
use Rattle.resolvo_state.proofs.RegisterLemmas.{KeepsDigits, ties_grow}
use Rattle.resolvo_state.proofs.Rules.{rule_at_kind}
use Rattle.resolvo_encoder.specs.declared.encoder.Encoder.{Encoder}
use Rattle.resolvo_encoder.specs.Encoded.{IsChosenFor, IsEncoding, Registered}
use Rattle.resolvo_encoder.specs.Encoded as E
use Rattle.resolvo_encoder.specs.declared.encoder.EncodedOnce.{EncodedOnce}
use Rattle.resolvo_encoder.specs.Progress.{GoesOn, Syncs}
use Rattle.resolvo_encoder.specs.Steps.{SameButCoding}
use Rattle.resolvo_encoder.proofs.BuildLemmas.{synced, synced_grows}
use Rattle.resolvo_encoder.proofs.CarryLemmas.{split_at}
use Rattle.resolvo_encoder.proofs.PickLemmas.{chosen_grows}
use Rattle.resolvo_encoder.proofs.RequireLemmas.{candidate_grows, cases_keep, cased_stays, at_least_one_keeps, prefix_lists, queued_keeps, gates_keep, within_keeps, encoded_keeps, guard_grows, recorded_grows, marks_stay}

-- a learnt clause encodes no rule
nothing_encoded : {N S : Type 0} (old new : Encoder N S) → GoesOn old new → (n : ℕ) (r : Rule N S) → length old.coding.search.clauses ≤ n → n < length new.coding.search.clauses → rule_at new.coding.kinds.items n ≡ Some r → ⊥
nothing_encoded old new goes n r low high at = let none : None ≡ Some r = sym (rule_at_kind new.coding.kinds.items n Kind.Learnt (goes.learnt n low high)) ∙ at in absurd cc

-- nor any digit
pub digits_kept : {N S : Type 0} (old new : Encoder N S) → IsCoding old.coding → GoesOn old new → KeepsDigits old.coding new.coding
digits_kept old new coding goes n name s place bit h = elim (kind_split old.coding new.coding coding goes.coding goes.grows n (Kind.Digit name s place bit) h) [
  | inl a ↦ a
  | inr (low, high) ↦ let learnt : kind_at new.coding.kinds.items n ≡ Some Kind.Learnt = goes.learnt n low high in absurd cc
]

module _ {N S : Type 0} (same : S → S → Bool) (exact : IsExact same) (p : Packages N S) (root : Rules) (lawful : IsLawful p) where
  -- The invariant is kept where the solvables of positive literals are registered, and decisions
  -- are justified.
  stays : (old new : Encoder N S) → IsEncoding same p root old → GoesOn old new → AreRegistered (Registered same p root new) new.coding
      → AreCalledFor (origin new.coding.atoms.keys) (IsChosenFor same p new) (history new.coding.search) → IsEncoding same p root new
  stays old new e goes positive called = record {
    coding = goes.coding;
    tied = subst (λ (t : Registry N). AreTied t new.coding) (sym goes.rest.registry) (ties_grow old.registry old.coding new.coding goes.grows (digits_kept old new e.coding goes) e.tied);
    spelled = spelled_grows same p old.coding new.coding e.coding goes.coding goes.grows e.spelled (λ n r low high at. absurd (nothing_encoded old new goes n r low high at));
    rule = λ r present. e.rule r (rule_back r present);
    positive = positive;
    named = λ n s a. e.named n s (registered_back n s a);
    candidates = λ s a. e.candidates s (registered_back (p.package_of s) s a);
    listed = λ q c a. (let (s, fits, m) = e.listed q c (subst (λ ls. Contains (candidates_in ls q) c) goes.rest.lists a) in (s, candidate_grows same exact p root old new (p.package_of s) s c goes.grows tracked fits, m));
    offered = λ q s h m. (let (c, a, fits) = e.offered q s (subst (λ ls. has_candidates ls q ≡ true) goes.rest.lists h) m in (c, subst (λ ls. Contains (candidates_in ls q) c) (sym goes.rest.lists) a, candidate_grows same exact p root old new (p.package_of s) s c goes.grows tracked fits));
    fixed = λ r has. subst (λ ls. has_candidates ls r ≡ true) (sym goes.rest.lists) (e.fixed r (clause_back r has));
    queued = λ q a. queued_keeps same exact p root lawful old new e goes.grows (prefix_lists same exact p root lawful old new goes.rest.lists) q (subst (λ (qs : List NeedClause). Contains qs q) goes.rest.queue a);
    asked = λ n r at a. elim (rule_split old.coding new.coding e.coding goes.coding goes.grows n r at) [
      | inl b ↦ let (q, c, d) = e.asked n r b a in (q, subst (λ (qs : List NeedClause). Contains qs q) (sym goes.rest.queue) c, d)
      | inr (low, high) ↦ absurd (nothing_encoded old new goes n r low high at)
    ];
    gates = gates_keep same exact p root lawful old new e goes.grows goes.rest.gates;
    forbid = λ r has. guard_grows same exact p root old new r goes.grows (e.forbid r (subst (λ ls. has_candidates ls r ≡ true) goes.rest.lists has));
    recorded = recorded_grows same exact p root old new goes.grows goes.rest.recorded e.recorded;
    cases = cases_keep same exact p root old new e.cases goes.grows goes.rest.deferred goes.rest.fired goes.rest.recorded
        (λ parent need case v present h. cased_stays same exact p root old new e.cases goes.grows goes.rest.recorded tracked parent need case v (rule_back (Rule.needs parent need case) present) h)
        (at_least_one_keeps same exact p root lawful old new e.cases goes.grows goes.rest.recorded goes.rest.registry registered_back);
    marks = marks_stay same exact p root old new (ap (λ (t : Registry N). t.many) goes.rest.registry) (λ n a. subst (λ (x : EncodedOnce N S). Contains x.packages.keys n) goes.rest.recorded a) (λ n s a. inl (registered_back n s a)) e.marks;
    within = within_keeps same exact p root lawful old new e goes.rest.parents goes.rest.encoded;
    encoded = encoded_keeps same exact p root lawful old new e goes.grows goes.rest.parents goes.rest.encoded goes.rest.deferred;
    wished = λ s a. registered_still s (e.wished s (subst (λ (x : EncodedOnce N S). Contains x.softs.items s) goes.rest.recorded a));
    called = called;
  }
    where
      registered_still : (s : S) → Registered same p root old s → Registered same p root new s
      registered_still s (v, present, there) = (v, subst (λ (a : Ordered (ProofAtom N S)). Represents a.keys v (Solvable s)) (sym goes.atoms) present, subst (λ (t : Registry N). IsTracked t (p.package_of s) v) (sym goes.rest.registry) there)

      tracked : (m : N) (u : VariableId) → IsTracked old.registry m u → IsTracked new.registry m u
      tracked m u h = subst (λ (t : Registry N). IsTracked t m u) (sym goes.rest.registry) h

      registered_back : (n : N) (s : S) → IsRegistered new.registry new.coding n s → IsRegistered old.registry old.coding n s
      registered_back n s (v, present, there) = (v, subst (λ (a : Ordered (ProofAtom N S)). Represents a.keys v (Solvable s)) goes.atoms present, subst (λ (t : Registry N). IsTracked t n v) goes.rest.registry there)

      rule_back : (r : Rule N S) → E.rules_of new r → E.rules_of old r
      rule_back r present = elim (rules_split old.coding new.coding e.coding goes.coding goes.grows r present) [
        | inl a ↦ a
        | inr (n, low, high, at) ↦ absurd (nothing_encoded old new goes n r low high at)
      ]

      clause_back : (r : Requirement) → HasClause same p (E.rules_of new) r → HasClause same p (E.rules_of old) r
      clause_back r (inl (parent, need, case, present, is)) = inl (parent, need, case, rule_back (Rule.needs parent need case) present, is)
      clause_back r (inr present) = inr (rule_back (Rule.shared r) present)

  -- registered solvables are the same where only learnt clauses were added
  registered_on : (old new : Encoder N S) → GoesOn old new → (s : S) → Registered same p root old s → Registered same p root new s
  registered_on old new goes s (v, present, there) = (v, subst (λ (a : Ordered (ProofAtom N S)). Represents a.keys v (Solvable s)) (sym goes.atoms) present, subst (λ (t : Registry N). IsTracked t (p.package_of s) v) (sym goes.rest.registry) there)

  -- so are the solvables of positive literals, where each literal of an added clause is in an
  -- earlier one
  positive_on : (old new : Encoder N S) → IsEncoding same p root old → GoesOn old new
      → ((n : ℕ) (l : Signed) → length old.coding.search.clauses ≤ n → n < length new.coding.search.clauses → has (clause_at (clauses_of new.coding.search) n) l ≡ true → (k : ℕ) × (has (clause_at (clauses_of old.coding.search) k) l ≡ true))
      → AreRegistered (Registered same p root new) new.coding
  positive_on old new e goes from = registered_grows (Registered same p root old) (Registered same p root new) old.coding new.coding e.coding goes.coding goes.grows (registered_on old new goes) e.positive
      (λ n l s low high h means. (let (k, present) = from n l low high h in
      registered_on old new goes s (e.positive k l s present (subst (λ (a : Ordered (ProofAtom N S)). Means (origin a.keys) l (plus (Atom.solvable s))) goes.atoms means))))

-- ---- a step of the search

-- a step adds no variable
same_variables : (old new : SatState) (v w : WatchLists) (q : StepResult) → IsProgress old v new w q → new.variables ≡ old.variables
same_variables old new v w StepResult.Complete h = h.extends.same.variables
same_variables old new v w (StepResult.Learnt id) h = h.variables
same_variables old new v w (StepResult.Refused r) h = h.2.same.variables

-- a step keeps the trail before the turn
step_earlier : (old new : SatState) (v w : WatchLists) (q : StepResult) → IsProgress old v new w q → KeepsUpTo (old.base_level - 1) old new
step_earlier old new v w StepResult.Complete h = λ base low ends. extends_earlier old new base h.extends ends
step_earlier old new v w (StepResult.Learnt id) h = λ base low ends. h.earlier base (omega arith) ends
step_earlier old new v w (StepResult.Refused r) h = λ base low ends. extends_earlier old new base h.2 ends

module _ {N S : Type 0} (old : Encoder N S) (c : SolverState N S) where
  abbrev pub went : Encoder N S
  went = record old { coding = c }

  step_rest : SameButCoding old went
  step_rest = record { registry = refl; lists = refl; queue = refl; gates = refl; recorded = refl; parents = refl; encoded = refl; deferred = refl; fired = refl }

  step_learns : (q : StepResult) → IsCoding old.coding → Advances old.coding c q → (n : ℕ) → length old.coding.search.clauses ≤ n → n < length c.search.clauses → kind_at c.kinds.items n ≡ Some Kind.Learnt
  step_learns q before step n low high = go q step.progress step.kinds
    where
      go : (r : StepResult) → IsProgress old.coding.search old.coding.watching c.search c.watching r → c.kinds.items ≡ old.coding.kinds.items ++ learnt_by r → kind_at c.kinds.items n ≡ Some Kind.Learnt
      go StepResult.Complete h e = let long : length c.search.clauses ≡ length old.coding.search.clauses = ap (λ (cs : List SatClause). length cs) h.extends.same.clauses in absurd (omega arith)
      go (StepResult.Refused r) h e = let long : length c.search.clauses ≡ length old.coding.search.clauses = ap (λ (cs : List SatClause). length cs) h.2.same.clauses in absurd (omega arith)
      go (StepResult.Learnt id) h e =
          let long : length c.search.clauses ≡ length old.coding.search.clauses + 1 = ap (λ (cs : List SatClause). length cs) h.added ∙ length-append old.coding.search.clauses (h.clause ∷ []) in
          let each : length old.coding.kinds.items ≡ length old.coding.search.clauses = before.each in
          let place : length old.coding.kinds.items ≡ n = omega arith in
          subst (λ (k : ℕ). slice_get c.kinds.items k ≡ Some Kind.Learnt) place (subst (λ (xs : List (Kind N S)). slice_get xs (length old.coding.kinds.items) ≡ Some Kind.Learnt) (sym e) (get_last old.coding.kinds.items Kind.Learnt))

  pub step_goes : (q : StepResult) → IsCoding old.coding → Advances old.coding c q → GoesOn old went
  step_goes q before step = record {
    rest = step_rest;
    coding = step.coding;
    atoms = step.atoms;
    variables = same_variables old.coding.search c.search old.coding.watching c.watching q step.progress;
    grows = step.grows;
    earlier = step_earlier old.coding.search c.search old.coding.watching c.watching q step.progress;
    learnt = step_learns q before step;
  }

  -- each literal of a learnt clause is in an earlier one
  step_from : (q : StepResult) → IsProgress old.coding.search old.coding.watching c.search c.watching q → (n : ℕ) (l : Signed) → length old.coding.search.clauses ≤ n → n < length c.search.clauses
      → has (clause_at (clauses_of c.search) n) l ≡ true → (k : ℕ) × (has (clause_at (clauses_of old.coding.search) k) l ≡ true)
  step_from StepResult.Complete h n l low high present = let long : length c.search.clauses ≡ length old.coding.search.clauses = ap (λ (cs : List SatClause). length cs) h.extends.same.clauses in absurd (omega arith)
  step_from (StepResult.Refused r) h n l low high present = let long : length c.search.clauses ≡ length old.coding.search.clauses = ap (λ (cs : List SatClause). length cs) h.2.same.clauses in absurd (omega arith)
  step_from (StepResult.Learnt id) h n l low high present =
      let long : length c.search.clauses ≡ length old.coding.search.clauses + 1 = ap (λ (cs : List SatClause). length cs) h.added ∙ length-append old.coding.search.clauses (h.clause ∷ []) in
      let all : length (lists old.coding.search.clauses) ≡ length old.coding.search.clauses = length-lists old.coding.search.clauses in
      let place : n ≡ length (lists old.coding.search.clauses) = omega arith in
      let added : clauses_of c.search ≡ lists old.coding.search.clauses ++ h.clause.literals ∷ [] = ap (λ (cs : List SatClause). lists cs) h.added ∙ lists-append old.coding.search.clauses (h.clause ∷ []) in
      let here : clause_at (clauses_of c.search) n ≡ h.clause.literals = ap (λ (cs : List (List Signed)). clause_at cs n) added ∙ ap (λ (k : ℕ). clause_at (lists old.coding.search.clauses ++ h.clause.literals ∷ []) k) place ∙ clause_at_end (lists old.coding.search.clauses) h.clause.literals in
      h.from l (subst (λ (ls : List Signed). has ls l ≡ true) here present)

  -- where clauses, variables, origins and kinds are unchanged
  pub kept_goes : KeepsClauses old.coding c → c.search.base_level ≡ old.coding.search.base_level → KeepsUpTo (old.coding.search.base_level - 1) old.coding.search c.search → GoesOn old went
  kept_goes kept base_level earlier = record {
    rest = step_rest;
    coding = kept.coding;
    atoms = kept.atoms;
    variables = kept.variables;
    grows = record {
      atoms = prefix_equal old.coding.atoms.keys c.atoms.keys (ap (λ (a : Ordered (ProofAtom N S)). a.keys) kept.atoms);
      clauses = prefix_equal old.coding.search.clauses c.search.clauses kept.clauses;
      kinds = prefix_equal old.coding.kinds.items c.kinds.items (ap (λ (xs : KindList N S). xs.items) kept.kinds);
      base_level = base_level;
    };
    earlier = earlier;
    learnt = λ n low high. (let long : length c.search.clauses ≡ length old.coding.search.clauses = ap (λ (cs : List SatClause). length cs) kept.clauses in absurd (omega arith));
  }

  -- the clause of a final conflict was added
  pub refusal_goes : (denies : List Signed) (by : List ClauseId) (id : ClauseId) → IsCoding old.coding → AddsDenial denies by id old.coding c → GoesOn old went
  refusal_goes denies by id before forbids = record {
    rest = step_rest;
    coding = forbids.coding;
    atoms = forbids.atoms;
    variables = forbids.variables;
    grows = forbids.grows;
    earlier = λ base low ends. subst (λ t. EndsWith base (reverse t.trail)) (sym forbids.trail.tracker) ends;
    learnt = λ n low high.
        let long : length c.search.clauses ≡ length old.coding.search.clauses + 1 = ap (λ (cs : List SatClause). length cs) forbids.added ∙ length-append old.coding.search.clauses (forbids.clause ∷ []) in
        let each : length old.coding.kinds.items ≡ length old.coding.search.clauses = before.each in
        let place : length old.coding.kinds.items ≡ n = omega arith in
        subst (λ (k : ℕ). slice_get c.kinds.items k ≡ Some Kind.Learnt) place (subst (λ (xs : List (Kind N S)). slice_get xs (length old.coding.kinds.items) ≡ Some Kind.Learnt) (sym forbids.kinds) (get_last old.coding.kinds.items Kind.Learnt));
  }

  -- each of its literals is in an earlier clause
  refusal_from : (denies : List Signed) (by : List ClauseId) (id : ClauseId) → AddsDenial denies by id old.coding c → AreFromClauses old.coding.search denies → (n : ℕ) (l : Signed) → length old.coding.search.clauses ≤ n → n < length c.search.clauses
      → has (clause_at (clauses_of c.search) n) l ≡ true → (k : ℕ) × (has (clause_at (clauses_of old.coding.search) k) l ≡ true)
  refusal_from denies by id forbids from n l low high present =
      let long : length c.search.clauses ≡ length old.coding.search.clauses + 1 = ap (λ (cs : List SatClause). length cs) forbids.added ∙ length-append old.coding.search.clauses (forbids.clause ∷ []) in
      let all : length (lists old.coding.search.clauses) ≡ length old.coding.search.clauses = length-lists old.coding.search.clauses in
      let place : n ≡ length (lists old.coding.search.clauses) = omega arith in
      let added : clauses_of c.search ≡ lists old.coding.search.clauses ++ forbids.clause.literals ∷ [] = ap (λ (cs : List SatClause). lists cs) forbids.added ∙ lists-append old.coding.search.clauses (forbids.clause ∷ []) in
      let here : clause_at (clauses_of c.search) n ≡ forbids.clause.literals = ap (λ (cs : List (List Signed)). clause_at cs n) added ∙ ap (λ (k : ℕ). clause_at (lists old.coding.search.clauses ++ forbids.clause.literals ∷ []) k) place ∙ clause_at_end (lists old.coding.search.clauses) forbids.clause.literals in
      from l (subst (λ (ls : List Signed). has ls l ≡ true) (here ∙ forbids.literals) present)

  pub choice_goes : (v : VariableId) (clause : ClauseId) → Chooses v clause old.coding.search c.search → KeepsClauses old.coding c → GoesOn old went
  choice_goes v clause chosen kept = kept_goes kept chosen.same.base_level (λ base low ends. choice_earlier old.coding.search c.search v clause base chosen ends)

  -- undoing the turn's entries keeps the trail before it
  pub undo_goes : (level : ℕ) → old.coding.search.base_level - 1 ≤ level → Undoes level old.coding.search c.search → KeepsClauses old.coding c → GoesOn old went
  undo_goes level low undoes kept = kept_goes kept undoes.same.base_level (λ base under ends. undo_earlier old.coding.search c.search level base undoes (omega arith) ends)

  -- propagation alone
  pub run_goes : Extends old.coding.search c.search → KeepsClauses old.coding c → GoesOn old went
  run_goes extends kept = kept_goes kept extends.same.base_level (λ base low ends. extends_earlier old.coding.search c.search base extends ends)

  module _ (same : S → S → Bool) (exact : IsExact same) (p : Packages N S) (root : Rules) (lawful : IsLawful p) where
    -- a step of the search keeps the invariant
    pub step_keeps : (q : StepResult) → Advances old.coding c q → IsEncoding same p root old → IsEncoding same p root went
    step_keeps q step e =
        let goes = step_goes q e.coding step in
        stays same exact p root lawful old went e goes (positive_on same exact p root lawful old went e goes (step_from q step.progress)) (called_advances (IsChosenFor same p old) (IsChosenFor same p went) (chosen_grows old went goes.grows (λ r h. refl) refl same p) old.coding c q step e.called)

    -- so does the clause of a final conflict
    pub refusal_keeps : (denies : List Signed) (by : List ClauseId) (id : ClauseId) → AddsDenial denies by id old.coding c → AreFromClauses old.coding.search denies → IsEncoding same p root old → IsEncoding same p root went
    refusal_keeps denies by id forbids from e =
        let goes = refusal_goes denies by id e.coding forbids in
        stays same exact p root lawful old went e goes (positive_on same exact p root lawful old went e goes (refusal_from denies by id forbids from))
        (called_grows_trail (IsChosenFor same p old) (IsChosenFor same p went) (chosen_grows old went goes.grows (λ r h. refl) refl same p) old.coding c e.coding goes.grows forbids.trail e.called)

    -- so does a justified decision
    pub choice_keeps : (v : VariableId) (clause : ClauseId) → Chooses v clause old.coding.search c.search → KeepsClauses old.coding c
        → IsChosenFor same p old (known_of (origin old.coding.atoms.keys) (history old.coding.search)) (meaning (origin old.coding.atoms.keys) (yes v)) → IsEncoding same p root old → IsEncoding same p root went
    choice_keeps v clause chosen kept now e =
        let goes = choice_goes v clause chosen kept in
        stays same exact p root lawful old went e goes
        (positive_on same exact p root lawful old went e goes (λ n l low high present. (let long : length c.search.clauses ≡ length old.coding.search.clauses = ap (λ (cs : List SatClause). length cs) kept.clauses in absurd (omega arith))))
        (called_chooses (IsChosenFor same p old) (IsChosenFor same p went) (chosen_grows old went goes.grows (λ r h. refl) refl same p) old.coding c v clause chosen kept now e.called)

    -- so does undoing entries
    pub undo_keeps : (level : ℕ) → old.coding.search.base_level - 1 ≤ level → Undoes level old.coding.search c.search → KeepsClauses old.coding c → IsEncoding same p root old → IsEncoding same p root went
    undo_keeps level low undoes kept e =
        let goes = undo_goes level low undoes kept in
        stays same exact p root lawful old went e goes
        (positive_on same exact p root lawful old went e goes (λ n l low high present. (let long : length c.search.clauses ≡ length old.coding.search.clauses = ap (λ (cs : List SatClause). length cs) kept.clauses in absurd (omega arith))))
        (called_undoes (IsChosenFor same p old) (IsChosenFor same p went) (chosen_grows old went goes.grows (λ r h. refl) refl same p) old.coding c level undoes kept e.called)

    -- so does propagation alone
    pub run_keeps : Extends old.coding.search c.search → KeepsClauses old.coding c → IsEncoding same p root old → IsEncoding same p root went
    run_keeps extends kept e =
        let goes = run_goes extends kept in
        stays same exact p root lawful old went e goes
        (positive_on same exact p root lawful old went e goes (λ n l low high present. (let long : length c.search.clauses ≡ length old.coding.search.clauses = ap (λ (cs : List SatClause). length cs) kept.clauses in absurd (omega arith))))
        (called_extends (IsChosenFor same p old) (IsChosenFor same p went) (chosen_grows old went goes.grows (λ r h. refl) refl same p) old.coding c extends kept e.called)

-- ---- the queue is brought up to date with the trail

module _ {N S : Type 0} (e : Encoder N S) (q : DecideQueue N) (floor : ℕ) (needs : needs_of q ≡ needs_of e.queue) where
  sync_goes : IsCoding e.coding → GoesOn e (synced e q floor)
  sync_goes coding = record {
    rest = record { registry = refl; lists = refl; queue = needs; gates = refl; recorded = refl; parents = refl; encoded = refl; deferred = refl; fired = refl };
    coding = (floored_kept e.coding floor coding).coding;
    atoms = refl;
    variables = refl;
    grows = synced_grows e q floor;
    earlier = λ base low ends. ends;
    learnt = λ n low high. absurd (omega arith);
  }

  sync_keeps : (same : S → S → Bool) → IsExact same → (p : Packages N S) (root : Rules) → IsLawful p → IsEncoding same p root e → IsEncoding same p root (synced e q floor)
  sync_keeps same exact p root lawful h =
      let new : Encoder N S = synced e q floor in
      let goes = sync_goes h.coding in
      stays same exact p root lawful e new h goes (positive_on same exact p root lawful e new h goes (λ n l low high present. absurd (omega arith)))
      (called_grows_trail (IsChosenFor same p e) (IsChosenFor same p new) (chosen_grows e new goes.grows (λ r k. refl) refl same p) e.coding e.coding h.coding (grows_same e.coding) (trail_same e.coding) h.called)

module _ {N S : Type 0} (old new : Encoder N S) (syncs : Syncs old new) where
  pub synced_goes : IsCoding old.coding → GoesOn old new
  synced_goes coding = subst (λ (x : Encoder N S). GoesOn old x) (sym syncs.rest) (sync_goes old new.queue syncs.floor syncs.queue coding)

  pub synced_keeps : (same : S → S → Bool) → IsExact same → (p : Packages N S) (root : Rules) → IsLawful p → IsEncoding same p root old → IsEncoding same p root new
  synced_keeps same exact p root lawful h = subst (λ (x : Encoder N S). IsEncoding same p root x) (sym syncs.rest) (sync_keeps old new.queue syncs.floor syncs.queue same exact p root lawful h)

-- ---- the trail gains weight

same_count : (s t : SatState) → t.variables ≡ s.variables → count_of t ≡ count_of s
same_count s t same = ap (λ (v : Vec VariableKind Global). length v.items) same

pub learnt_heavier : (id : ClauseId) (s t : SatState) (w : WatchLists) → Improves id s t w → (weight_left t < weight_left s) × (id.0 < length t.clauses)
learnt_heavier id s t w h =
    let long : length t.clauses ≡ length s.clauses + 1 = ap (λ (cs : List SatClause). length cs) h.added ∙ length-append s.clauses (h.clause ∷ []) in
    let number : id.0 ≡ length s.clauses = h.number in
    (weight_falls s t h.ready.state (same_count s t h.variables) h.heavier, omega arith)

pub choice_gains : (v : VariableId) (clause : ClauseId) (s t : SatState) → Chooses v clause s t → weight_left t < weight_left s
choice_gains v clause s t chosen = weight_falls s t chosen.state (same_count s t chosen.same.variables) (choice_heavier s t v clause chosen)

-- assignments leave no more weight to gain
pub complete_gains : (s t : SatState) (w : WatchLists) → Completes s t w → weight_left t ≤ weight_left s
complete_gains s t w h =
    let count : count_of t ≡ count_of s = same_count s t h.extends.same.variables in
    let more : weight (count_of s) (history s) ≤ weight (count_of s) (history t) = extends_heavier s t (count_of s) h.extends in
    let is : weight_left t ≡ count_of s * (count_of s + 1) ^ (count_of s + 1) - weight (count_of s) (history t) = ap (λ (n : ℕ). n * (n + 1) ^ (n + 1) - weight n (history t)) count in
    omega arith

-- ---- one step after another

pub goes_none : {N S : Type 0} (e : Encoder N S) → IsCoding e.coding → GoesOn e e
goes_none e coding = record {
  rest = record { registry = refl; lists = refl; queue = refl; gates = refl; recorded = refl; parents = refl; encoded = refl; deferred = refl; fired = refl };
  coding = coding;
  atoms = refl;
  variables = refl;
  grows = grows_same e.coding;
  earlier = λ base low ends. ends;
  learnt = λ n low high. absurd (omega arith);
}

pub goes_then : {N S : Type 0} (a b c : Encoder N S) → GoesOn a b → GoesOn b c → GoesOn a c
goes_then a b c f g = record {
  rest = record { registry = g.rest.registry ∙ f.rest.registry; lists = g.rest.lists ∙ f.rest.lists; queue = g.rest.queue ∙ f.rest.queue; gates = g.rest.gates ∙ f.rest.gates; recorded = g.rest.recorded ∙ f.rest.recorded; parents = g.rest.parents ∙ f.rest.parents; encoded = g.rest.encoded ∙ f.rest.encoded; deferred = g.rest.deferred ∙ f.rest.deferred; fired = g.rest.fired ∙ f.rest.fired };
  coding = g.coding;
  atoms = g.atoms ∙ f.atoms;
  variables = g.variables ∙ f.variables;
  grows = grows_then a.coding b.coding c.coding f.grows g.grows;
  earlier = λ base low ends. g.earlier base (let same : b.coding.search.base_level ≡ a.coding.search.base_level = f.grows.base_level in omega arith) (f.earlier base low ends);
  learnt = λ n low high. elim (split_at n (length b.coding.search.clauses)) [
    | inl below ↦ kind_grows b.coding c.coding g.grows n Kind.Learnt (f.learnt n low below)
    | inr past ↦ g.learnt n past high
  ];
}
