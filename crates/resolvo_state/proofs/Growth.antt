-- The invariant as variables and clauses are added, and the search continues.
use Rattle.std.proofs.Common.{◌≡◌, ℕ, suc, ◌<◌, ◌≤◌, ◌⊎◌, inl, inr, Bool, true, ltb, List, ◌∷◌, length, Option, Some, None, reverse, refl, sym, ◌∙◌, ap, subst, arith}
use Rattle.std.specs.Prelude.{slice_get, Contains}
use Rattle.std.proofs.lemmas.Bool.{ltb-true, ltb-false, cases_Bool}
use Rattle.std.proofs.lemmas.Option.{slice_get_within}
use Rattle.resolvo_pool_core.specs.Ordered.{Ordered}
use Rattle.resolvo_pool_core.specs.declared.id.ClauseId.{ClauseId}
use Rattle.resolvo_pool_core.specs.declared.id.VariableId.{VariableId}
use Rattle.resolvo_pool_core.specs.OnePass.{Literal}
use Rattle.resolvo_pool_core.specs.RuleKeeping.{Packages}
use Rattle.resolvo_store_core.specs.Trail.{Tracked}
use Rattle.resolvo_store_core.specs.Signed.{Signed, has}
use Rattle.resolvo_store_core.specs.Clauses.{yes, root as root_variable}
use Rattle.resolvo_store_core.specs.declared.decision.Entry.{Entry}
use Rattle.resolvo_sat.specs.Clauses.{SatClause}
use Rattle.resolvo_sat.specs.declared.propagate_and_learn.StepResult.{StepResult}
use Rattle.resolvo_sat.specs.Known.{clause_at}
use Rattle.resolvo_sat.specs.Entries.{literal_of}
use Rattle.resolvo_sat.specs.State.{lists, clauses_of, count_of, history}
use Rattle.resolvo_sat.specs.Steps.{Chooses, Undoes, KeepsChoices, choice_entry}
use Rattle.resolvo_sat.specs.PropagateAndLearn.{IsProgress}
use Rattle.resolvo_sat.specs.Propagation.{Extends}
use Rattle.resolvo_sat.proofs.JumpLemmas.{undone_on}
use Rattle.resolvo_sat.proofs.Clauses.{length-lists, literals_at}
use Rattle.resolvo_sat.proofs.StepLemmas.{lists-append, reverse_push}
use Rattle.resolvo_sat.specs.RuleClauses.{Atom, Rule, plus, literals_of, IsForbidden}
use Rattle.resolvo_sat.specs.Numbered.{meaning, Means, known_of, Spells, AreCalledFor, IsAccounted, AreCoded}
use Rattle.resolvo_sat.proofs.GrowLemmas.{clause_stays, called_kept, called_choice, called_grows, spells_agree}
use Rattle.resolvo_sat.proofs.Meanings.{clause_in_range}
use Rattle.resolvo_state.specs.declared.atom.ProofAtom.{ProofAtom}
use Rattle.resolvo_state.specs.Kinds.{Kind}
use Rattle.resolvo_state.specs.Kinds.{Root, Needs, Gated, Shared, Limits, LimitsOutside, IsOut, Locked, Excluded, Digit, IsThere, Matches, Learnt}
use Rattle.resolvo_state.specs.declared.solver_state.SolverState.{SolverState}
use Rattle.resolvo_state.specs.Atoms.{origin, Represents}
use Rattle.resolvo_state.specs.ClauseKinds.{rule_of, kind_at, rule_at, rules_in}
use Rattle.resolvo_state.specs.SolverState.{IsCoding, Grows, SameTrail, Advances, KeepsClauses}
use Rattle.resolvo_state.specs.declared.atom.ProofAtom.TheVariants.{Bit}
use Rattle.resolvo_state.specs.Registered.{AreDigits}
use Rattle.resolvo_state.specs.Spelled.{Spelled, AreRegistered}
use Rattle.resolvo_state.proofs.Positions.{prefix_get, get_old, get_below, contains_get, prefix_same, prefix_then}
use Rattle.resolvo_state.proofs.Origins.{count_is, coding_once, represents_below, represents_more, origin_prefix, one_variable}
use Rattle.resolvo_state.proofs.Rules.{rule_at_kind, kind_of_rule, rules_prefix}

pub grows_same : {N S : Type 0} (c : SolverState N S) → Grows c c
grows_same c = record { atoms = prefix_same c.atoms.keys; clauses = prefix_same c.search.clauses; kinds = prefix_same c.kinds.items; base_level = refl }

pub grows_then : {N S : Type 0} (a b c : SolverState N S) → Grows a b → Grows b c → Grows a c
grows_then a b c f g = record {
  atoms = prefix_then a.atoms.keys b.atoms.keys c.atoms.keys f.atoms g.atoms;
  clauses = prefix_then a.search.clauses b.search.clauses c.search.clauses f.clauses g.clauses;
  kinds = prefix_then a.kinds.items b.kinds.items c.kinds.items f.kinds g.kinds;
  base_level = g.base_level ∙ f.base_level;
}

pub trail_same : {N S : Type 0} (c : SolverState N S) → SameTrail c c
trail_same c = record { tracker = refl }

pub trail_then : {N S : Type 0} (a b c : SolverState N S) → SameTrail a b → SameTrail b c → SameTrail a c
trail_then a b c f g = record { tracker = g.tracker ∙ f.tracker }

-- variables, and what they represent, stay
pub represents_grow : {N S : Type 0} (old new : SolverState N S) (v : VariableId) (a : ProofAtom N S) → Grows old new → Represents old.atoms.keys v a → Represents new.atoms.keys v a
represents_grow old new v a grows present = represents_more old.atoms.keys new.atoms.keys v a grows.atoms present

pub digits_grow : {N S : Type 0} (name : N) (old new : SolverState N S) (vs : List VariableId) → Grows old new → AreDigits name old.atoms.keys vs → AreDigits name new.atoms.keys vs
digits_grow name old new vs grows are i v h = represents_grow old new v (Bit name i) grows (are i v h)

-- an atom has one variable
pub represents_once : {N S : Type 0} (c : SolverState N S) (u v : VariableId) (a : ProofAtom N S) → IsCoding c → Represents c.atoms.keys u a → Represents c.atoms.keys v a → u ≡ v
represents_once c u v a coding f g = one_variable c.atoms.keys u v a coding.distinct f g

-- rules stay encoded
pub rules_grow : {N S : Type 0} (old new : SolverState N S) → Grows old new → (r : Rule N S) → rules_in old.kinds.items r → rules_in new.kinds.items r
rules_grow old new grows r h = rules_prefix old.kinds.items new.kinds.items r grows.kinds h

-- a forbidden solvable stays forbidden
pub forbid_grows : {N S : Type 0} (old new : SolverState N S) → Grows old new → (s : S) → IsForbidden (rules_in old.kinds.items) s → IsForbidden (rules_in new.kinds.items) s
forbid_grows old new grows s (w, h) = (w, rules_grow old new grows (Rule.forbids w s) h)

pub kind_grows : {N S : Type 0} (old new : SolverState N S) → Grows old new → (n : ℕ) (x : Kind N S) → kind_at old.kinds.items n ≡ Some x → kind_at new.kinds.items n ≡ Some x
kind_grows old new grows n x h = prefix_get old.kinds.items new.kinds.items n x grows.kinds h

-- the number is below the other, or it is not
pub below_or_not : (n k : ℕ) → (n < k) ⊎ (k ≤ n)
below_or_not n k = elim (cases_Bool (ltb n k)) [ inl e ↦ inl (ltb-true n k e) | inr e ↦ let h = ltb-false n k e in inr (omega (arith, h)) ]

-- a kind is of an old clause or of a new one
pub kind_split : {N S : Type 0} (old new : SolverState N S) → IsCoding old → IsCoding new → Grows old new → (n : ℕ) (x : Kind N S) → kind_at new.kinds.items n ≡ Some x
    → (kind_at old.kinds.items n ≡ Some x) ⊎ ((length old.search.clauses ≤ n) × (n < length new.search.clauses))
kind_split {N} {S} old new before after grows n x h = elim (below_or_not n (length old.kinds.items)) [
  | inl below ↦ let (more, e) = grows.kinds in inl (get_old old.kinds.items more n x below (subst (λ (xs : List (Kind N S)). slice_get xs n ≡ Some x) e h))
  | inr past ↦
      let within : n < length new.kinds.items = slice_get_within new.kinds.items n x h in
      let a : length old.kinds.items ≡ length old.search.clauses = before.each in
      let b : length new.kinds.items ≡ length new.search.clauses = after.each in
      inr (omega arith, omega arith)
]

pub rule_split : {N S : Type 0} (old new : SolverState N S) → IsCoding old → IsCoding new → Grows old new → (n : ℕ) (r : Rule N S) → rule_at new.kinds.items n ≡ Some r
    → (rule_at old.kinds.items n ≡ Some r) ⊎ ((length old.search.clauses ≤ n) × (n < length new.search.clauses))
rule_split old new before after grows n r h =
    let (x, at, is) = kind_of_rule new.kinds.items n r h in
    elim (kind_split old new before after grows n x at) [ inl a ↦ inl (rule_at_kind old.kinds.items n x a ∙ is) | inr a ↦ inr a ]

-- a rule is of an old clause or of a new one
pub rules_split : {N S : Type 0} (old new : SolverState N S) → IsCoding old → IsCoding new → Grows old new → (r : Rule N S) → rules_in new.kinds.items r
    → rules_in old.kinds.items r ⊎ ((n : ℕ) × (length old.search.clauses ≤ n) × (n < length new.search.clauses) × (rule_at new.kinds.items n ≡ Some r))
rules_split old new before after grows r (n, h) = elim (rule_split old new before after grows n r h) [ inl a ↦ inl (n, a) | inr (a, b) ↦ inr (n, a, b, h) ]

-- the old clauses are at their places
pub clause_grows : {N S : Type 0} (old new : SolverState N S) → Grows old new → (n : ℕ) → n < length old.search.clauses → clause_at (clauses_of new.search) n ≡ clause_at (clauses_of old.search) n
clause_grows old new grows n below =
    let (more, e) = grows.clauses in
    let long : length (lists old.search.clauses) ≡ length old.search.clauses = length-lists old.search.clauses in
    ap (λ (cs : List SatClause). clause_at (lists cs) n) e ∙ ap (λ (ls : List (List Signed)). clause_at ls n) (lists-append old.search.clauses more) ∙ clause_stays (lists old.search.clauses) (lists more) n (omega arith)

-- the old variables represent the same atoms
pub origin_grows : {N S : Type 0} (old new : SolverState N S) → IsCoding old → Grows old new → (n : ℕ) → 0 < n → n < count_of old.search → origin old.atoms.keys n ≡ origin new.atoms.keys n
origin_grows old new coding grows n a b = let c : count_of old.search ≡ suc (length old.atoms.keys) = count_is old coding in origin_prefix old.atoms.keys new.atoms.keys n grows.atoms a (omega arith)

-- a clause that encodes a rule is one of the search's
rule_within : {N S : Type 0} (c : SolverState N S) (n : ℕ) (r : Rule N S) → IsCoding c → rule_at c.kinds.items n ≡ Some r → n < length c.search.clauses
rule_within c n r coding h =
    let (x, at, is) = kind_of_rule c.kinds.items n r h in
    let within : n < length c.kinds.items = slice_get_within c.kinds.items n x at in
    let long : length c.kinds.items ≡ length c.search.clauses = coding.each in
    omega arith

-- Where the new clauses have the literals of the rules that they encode, all have.
pub spelled_grows : {N S : Type 0} (same : S → S → Bool) (p : Packages N S) (old new : SolverState N S) → IsCoding old → IsCoding new → Grows old new → Spelled same p old
    → ((n : ℕ) (r : Rule N S) → length old.search.clauses ≤ n → n < length new.search.clauses → rule_at new.kinds.items n ≡ Some r → Spells (origin new.atoms.keys) (clause_at (clauses_of new.search) n) (literals_of same p r))
    → Spelled same p new
spelled_grows same p old new before after grows spelled of_new n r h = elim (rule_split old new before after grows n r h) [
  | inr (a, b) ↦ of_new n r a b h
  | inl a ↦
      subst (λ (clause : List Signed). Spells (origin new.atoms.keys) clause (literals_of same p r)) (sym (clause_grows old new grows n (rule_within old n r before a)))
      (spells_agree (origin old.atoms.keys) (origin new.atoms.keys) (count_of old.search) (origin_grows old new before grows) (clause_at (clauses_of old.search) n) (literals_of same p r) (before.ready.state.in_range n) (spelled n r a))
]

-- Where the solvables that the new clauses may make true are registered, all are.
pub registered_grows : {N S : Type 0} (registered wider : S → Type 0) (old new : SolverState N S) → IsCoding old → IsCoding new → Grows old new → ((s : S) → registered s → wider s) → AreRegistered registered old
    → ((n : ℕ) (l : Signed) (s : S) → length old.search.clauses ≤ n → n < length new.search.clauses → has (clause_at (clauses_of new.search) n) l ≡ true → Means (origin new.atoms.keys) l (plus (Atom.solvable s)) → wider s)
    → AreRegistered wider new
registered_grows {N} {S} registered wider old new before after grows more all of_new n l s h (other, e) = elim (below_or_not n (length old.search.clauses)) [
  | inl below ↦
      let there : has (clause_at (clauses_of old.search) n) l ≡ true = subst (λ (clause : List Signed). has clause l ≡ true) (clause_grows old new grows n below) h in
      let same : origin old.atoms.keys l.variable.0 ≡ origin new.atoms.keys l.variable.0 = origin_grows old new before grows l.variable.0 other (before.ready.state.in_range n l there) in
      more s (all n l s there (other, e ∙ ap (λ (x : Atom N S). let m : Literal (Atom N S) = record { atom = x; positive = l.positive } in m) (sym same)))
  | inr past ↦
      let long : length (lists new.search.clauses) ≡ length new.search.clauses = length-lists new.search.clauses in
      let within : n < length (lists new.search.clauses) = clause_in_range (lists new.search.clauses) n l h in
      of_new n l s past (omega arith) h (other, e)
]

-- a reason for a choice under one meaning is a reason under the other
module _ {N S : Type 0} (choice wider : List (Literal (Atom N S)) → Literal (Atom N S) → Type 0) (more : (known : List (Literal (Atom N S))) (l : Literal (Atom N S)) → choice known l → wider known l) (old new : SolverState N S) where
  -- the trail's choices keep their reasons where atoms are added
  pub called_grows_trail : IsCoding old → Grows old new → SameTrail old new → AreCalledFor (origin old.atoms.keys) choice (history old.search) → AreCalledFor (origin new.atoms.keys) wider (history new.search)
  called_grows_trail coding grows trail called =
      subst (λ (t : List Entry). AreCalledFor (origin new.atoms.keys) wider t) (sym (ap (λ (t : Tracked). reverse t.trail) trail.tracker))
      (called_grows (origin old.atoms.keys) (origin new.atoms.keys) (count_of old.search) (origin_grows old new coding grows) choice wider (clauses_of old.search) (history old.search) coding.ready.state.trail more called)

  -- so does a trail that only lost choices, over the same variables
  called_loses : new.atoms ≡ old.atoms → KeepsChoices (history old.search) (history new.search) → AreCalledFor (origin old.atoms.keys) choice (history old.search) → AreCalledFor (origin new.atoms.keys) wider (history new.search)
  called_loses atoms keeps called =
      subst (λ (a : Ordered (ProofAtom N S)). AreCalledFor (origin a.keys) wider (history new.search)) (sym atoms)
      (called_kept (origin old.atoms.keys) wider (history old.search) (history new.search) keeps (λ e older present is other. more (known_of (origin old.atoms.keys) older) (meaning (origin old.atoms.keys) (literal_of e)) (called e older present is other)))

  -- a step of the search leaves the trail's choices called for
  pub called_advances : (progress : StepResult) → Advances old new progress → AreCalledFor (origin old.atoms.keys) choice (history old.search) → AreCalledFor (origin new.atoms.keys) wider (history new.search)
  called_advances progress advances called = called_loses advances.atoms (keeps progress advances.progress) called
    where
      keeps : (q : StepResult) → IsProgress old.search old.watching new.search new.watching q → KeepsChoices (history old.search) (history new.search)
      keeps StepResult.Complete h = h.extends.choices
      keeps (StepResult.Learnt id) h = h.choices
      keeps (StepResult.Refused r) h = h.2.choices

  -- entries that are undone leave the other choices called for
  pub called_undoes : (level : ℕ) → Undoes level old.search new.search → KeepsClauses old new → AreCalledFor (origin old.atoms.keys) choice (history old.search) → AreCalledFor (origin new.atoms.keys) wider (history new.search)
  called_undoes level undoes kept called = called_loses kept.atoms (λ e older present is. undone_on level (history old.search) (history new.search) e older undoes.undone present) called

  -- so does propagation
  pub called_extends : Extends old.search new.search → KeepsClauses old new → AreCalledFor (origin old.atoms.keys) choice (history old.search) → AreCalledFor (origin new.atoms.keys) wider (history new.search)
  called_extends extends kept called = called_loses kept.atoms extends.choices called

  -- one choice more, which is called for
  pub called_chooses : (v : VariableId) (clause : ClauseId) → Chooses v clause old.search new.search → KeepsClauses old new
      → choice (known_of (origin old.atoms.keys) (history old.search)) (meaning (origin old.atoms.keys) (yes v)) → AreCalledFor (origin old.atoms.keys) choice (history old.search) → AreCalledFor (origin new.atoms.keys) wider (history new.search)
  called_chooses v clause chooses kept now called =
      subst (λ (a : Ordered (ProofAtom N S)). AreCalledFor (origin a.keys) wider (history new.search)) (sym kept.atoms)
      (subst (λ (h : List Entry). AreCalledFor (origin old.atoms.keys) wider h) (sym pushed)
      (λ e older present is other. more (known_of (origin old.atoms.keys) older) (meaning (origin old.atoms.keys) (literal_of e))
      (called_choice (origin old.atoms.keys) choice (choice_entry v clause (history old.search)) (history old.search) now called e older present is other)))
    where
      pushed : history new.search ≡ choice_entry v clause (history old.search) ∷ history old.search
      pushed = ap reverse chooses.pushed ∙ reverse_push old.search.tracker.trail (choice_entry v clause (history old.search))

-- a clause that encodes no rule is the root's or a learnt one
no_rule : {N S : Type 0} (x : Kind N S) → rule_of x ≡ None → (x ≡ Root) ⊎ (x ≡ Learnt)
no_rule Root h = inl refl
no_rule (Needs parent need case) h = absurd cc
no_rule (Gated s r) h = absurd cc
no_rule (Shared r) h = absurd cc
no_rule (Limits parent v s) h = absurd cc
no_rule (LimitsOutside parent v) h = absurd cc
no_rule (IsOut v s) h = absurd cc
no_rule (Locked locked s) h = absurd cc
no_rule (Excluded s reason) h = absurd cc
no_rule (Digit n s place bit) h = absurd cc
no_rule (IsThere n s) h = absurd cc
no_rule (Matches v s) h = absurd cc
no_rule Learnt h = inr refl

-- Each clause that encodes a rule has its literals, and makes registered solvables true alone: then
-- all is coded.
pub coding_coded : {N S : Type 0} (same : S → S → Bool) (p : Packages N S) (registered : S → Type 0) (c : SolverState N S) → IsCoding c → Spelled same p c → AreRegistered registered c
    → AreCoded (origin c.atoms.keys) same p (rules_in c.kinds.items) registered (count_of c.search) c.search.clauses
coding_coded {N} {S} same p registered c coding spelled positive = record {
  once = coding_once c coding;
  in_range = coding.ready.state.in_range;
  derived = coding.ready.state.derived;
  accounted = accounted;
  spelled = λ r (n, h). (n, rule_within c n r coding h, spelled n r h);
  positive = positive;
}
  where
    account : (clause : SatClause) (n : ℕ) → slice_get c.search.clauses n ≡ Some clause → (x : Kind N S) → kind_at c.kinds.items n ≡ Some x → (o : Option (Rule N S)) → rule_of x ≡ o → IsAccounted (origin c.atoms.keys) same p (rules_in c.kinds.items) clause
    account clause n at x kind_is (Some r) is =
        let added_rule : rule_at c.kinds.items n ≡ Some r = rule_at_kind c.kinds.items n x kind_is ∙ is in
        inr (inr (r, (n, added_rule), subst (λ (literals : List Signed). Spells (origin c.atoms.keys) literals (literals_of same p r)) (literals_at c.search.clauses n clause at) (spelled n r added_rule)))
    account clause n at x kind_is None is = elim (no_rule x is) [
      | inr e ↦ inl (coding.learnt n clause (kind_is ∙ ap Some e) at)
      | inl e ↦
          let z : n ≡ 0 = coding.rooted n (kind_is ∙ ap Some e) in
          let here : clause_at (clauses_of c.search) 0 ≡ clause.literals = literals_at c.search.clauses 0 clause (subst (λ k. slice_get c.search.clauses k ≡ Some clause) z at) in
          inr (inl (subst (λ (literals : List Signed). has literals (yes root_variable) ≡ true) here coding.covered.first))
    ]

    accounted : (clause : SatClause) → Contains c.search.clauses clause → IsAccounted (origin c.atoms.keys) same p (rules_in c.kinds.items) clause
    accounted clause h =
        let (n, at) = contains_get c.search.clauses clause h in
        let within : n < length c.search.clauses = slice_get_within c.search.clauses n clause at in
        let long : length c.kinds.items ≡ length c.search.clauses = coding.each in
        let (x, kind_is) = get_below c.kinds.items n (omega arith) in
        account clause n at x kind_is (rule_of x) refl

-- a variable that represents an atom is one of the search's
pub represents_in_range : {N S : Type 0} (c : SolverState N S) (v : VariableId) (a : ProofAtom N S) → IsCoding c → Represents c.atoms.keys v a → v.0 < count_of c.search
represents_in_range c v a coding present = let count : count_of c.search ≡ suc (length c.atoms.keys) = count_is c coding in let below : v.0 < suc (length c.atoms.keys) = represents_below c.atoms.keys v a present in omega arith
