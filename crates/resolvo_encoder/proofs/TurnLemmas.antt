-- The end of a turn over the encoding of a problem.
use Rattle.std.proofs.Common.{◌≡◌, ℕ, suc, ◌<◌, ◌≤◌, ◌⊎◌, inl, inr, Bool, true, false, List, [], ◌∷◌, ◌++◌, length, Option, Some, None, refl, sym, ◌∙◌, ap, subst, arith}
use Rattle.std.specs.Prelude.{Contains}
use Rattle.std.proofs.lemmas.Bool.{both_ways, cases_Bool, and_from}
use Rattle.std.proofs.lemmas.Option.{slice_get_within}
use Rattle.resolvo_pool_core.specs.declared.id.ClauseId.{ClauseId}
use Rattle.resolvo_pool_core.specs.declared.id.DenseId.{DenseId}
use Rattle.resolvo_pool_core.specs.declared.id.DisjunctionTag.{DisjunctionTag}
use Rattle.resolvo_pool_core.specs.declared.id.VersionSetId.{VersionSetId}
use Rattle.resolvo_pool_core.specs.declared.requirement.ConditionalRequirement.{ConditionalRequirement}
use Rattle.resolvo_pool_core.specs.declared.requirement.Requirement.{Requirement}
use Rattle.resolvo_pool_core.specs.declared.solver_id.SolvableIdOrRoot.TheVariants as Place
use Rattle.resolvo_pool_core.specs.RuleKeeping.{Packages, Rules, IsLawful, is_in, is_member, meets, IsRuleKeeping, IsReached, is_many, is_outside}
use Rattle.resolvo_pool_core.specs.OnePass.{Literal, negate}
use Rattle.resolvo_pool_core.specs.Text.{alternatives_of}
use Rattle.resolvo_pool_core.specs.declared.id.VariableId.{VariableId}
use Rattle.resolvo_store_core.specs.Signed.{Signed, negation, has, value_under, is_false}
use Rattle.resolvo_store_core.specs.Clauses.{yes, no, root as root_variable}
use Rattle.resolvo_store_core.specs.Lists.{named_by, candidates_in, condition_in}
use Rattle.resolvo_store_core.specs.Pick.{is_eligible_by, offer_by}
use Rattle.resolvo_store_core.specs.declared.pick.NeedClause.{NeedClause}
use Rattle.resolvo_store_core.specs.declared.lists.Candidate.{Candidate}
use Rattle.resolvo_sat.specs.Known.{clause_at}
use Rattle.resolvo_store_core.specs.declared.decision.Entry.{Entry}
use Rattle.resolvo_sat.specs.Analysis.{IsRefusal}
use Rattle.resolvo_sat.specs.Entries.{literal_of, made_true, top_level, IsOnTrail, IsTrail, IsRooted}
use Rattle.resolvo_sat.specs.Propagation.{IsQuiet}
use Rattle.resolvo_sat.specs.State.{history, count_of, clauses_of}
use Rattle.resolvo_sat.proofs.Trails.{consistent, known_in_range, level_steps, root_known}
use Rattle.resolvo_sat.proofs.Literals.{negation-negation}
use Rattle.resolvo_sat.specs.RuleClauses.{IsExact, Atom, Rule, plus, minus, case_holds, parent_literals, case_literals, candidate_literals, literals_of, AgreeWith}
use Rattle.resolvo_sat.specs.SearchEnd as Ending
use Rattle.resolvo_sat.specs.First.{ArePreferred, IsFirstPick}
use Rattle.resolvo_sat.specs.Numbered.{meaning, Means, known_of, IsTurnEnd}
use Rattle.resolvo_sat.proofs.Lists.{contains_none, contains_one, contains_only, contains_cases, contains_parts}
use Rattle.resolvo_sat.proofs.Meanings.{found}
use Rattle.resolvo_sat.proofs.Turns.{turn_accepted, turn_keeps_rules, turn_prefers, turn_refused}
use Rattle.resolvo_sat.proofs.Members.{candidate_from, in_contained, contained_in}
use Rattle.resolvo_state.specs.declared.atom.ProofAtom.{ProofAtom}
use Rattle.resolvo_state.specs.declared.atom.ProofAtom.TheVariants.{Solvable, Gate}
use Rattle.resolvo_state.specs.Kinds.{Kind}
use Rattle.resolvo_state.specs.Atoms.{atom_of, origin, Represents}
use Rattle.resolvo_state.specs.ClauseKinds.{rule_of, rule_at, kind_at}
use Rattle.resolvo_state.specs.SolverState.{IsCoding}
use Rattle.resolvo_state.specs.Chosen.{AreChosen}
use Rattle.resolvo_state.proofs.Rules.{kind_of_rule}
use Rattle.resolvo_state.proofs.Origins.{count_is, coding_once, means_atom, means_solvable, solvable_means}
use Rattle.resolvo_state.proofs.Growth.{represents_once, represents_in_range, coding_coded}
use Rattle.resolvo_state.proofs.RegisterLemmas.{by_digits}
use Rattle.resolvo_state.specs.Registered.{IsRegistered}
use Rattle.resolvo_encoder.specs.Encoded.{IsParentVariable, IsCandidate, AreOrdered, IsCondition, IsQueuedFor, IsRequiresRule, IsParentEncoded, IsEncoding, Registered, IsChosenFor, HasOrder}
use Rattle.resolvo_encoder.specs.Cases.{IsDeferred}
use Rattle.resolvo_encoder.specs.Conditions.{AreSpent}
use Rattle.resolvo_encoder.specs.Encoded as E
use Rattle.resolvo_encoder.specs.TurnLevels.{AreValues, IsDecided, AreAmongEncoded}
use Rattle.resolvo_encoder.proofs.Digits.{digit_found, digits_agree}
use Rattle.resolvo_encoder.proofs.PickLemmas.{taken_ordered}
use Rattle.resolvo_encoder.proofs.ConditionLemmas.{has_all}
use Rattle.resolvo_encoder.proofs.DecideLemmas.{nothing_offered, known_false, known_parent, value_known, open_or_known, has_clause, choices_called}
use Rattle.resolvo_encoder.specs.declared.encoder.Encoder.{Encoder}

-- levels begin at 1, the root's level, or above it
first_level : (count : ℕ) (cs : List (List Signed)) (h : List Entry) (d : Entry) (older : List Entry) → IsTrail count cs h → IsRooted h → IsOnTrail h d older → (1 ≤ d.level) × ((literal_of d ≡ yes root_variable) ⊎ (1 ≤ top_level older))
first_level count cs [] d older t r s = absurd s
first_level count cs (e ∷ []) d older t (is, level) (inl (same, rest)) = let one : e.level ≡ d.level = ap (λ (x : Entry). x.level) same in (omega arith, inl (ap literal_of (sym same) ∙ is))
first_level count cs (e ∷ []) d older t r (inr none) = absurd none
first_level count cs (e ∷ f ∷ more) d older t r (inl (same, rest)) =
    let below : 1 ≤ f.level = (first_level count cs (f ∷ more) f more t.1 r (inl (refl, refl))).0 in
    let step : f.level ≤ e.level = (level_steps count cs e (f ∷ more) t.0).0 in
    let one : e.level ≡ d.level = ap (λ (x : Entry). x.level) same in
    (omega arith, inr (subst (λ (es : List Entry). 1 ≤ top_level es) rest below))
first_level count cs (e ∷ f ∷ more) d older t r (inr s) = first_level count cs (f ∷ more) d older t.1 r s

-- a final conflict at the first level denies the root alone
pub root_denied : {N S : Type 0} (e : Encoder N S) → IsCoding e.coding → e.coding.search.base_level ≡ 1 → (literals : List Signed) (causes : List ClauseId) → IsRefusal e.coding.search literals causes → (l : Signed) → has literals l ≡ true → l ≡ no root_variable
root_denied e coding first literals causes refusal l h =
    let (d, older, present, is, kept) = refusal.denies l h in
    let (low, which) = first_level (count_of e.coding.search) (clauses_of e.coding.search) (history e.coding.search) d older coding.ready.state.trail coding.ready.state.rooted present in
    let base_level : d.level ≤ e.coding.search.base_level = kept.low in
    elim which [
      | inl z ↦ sym (negation-negation l) ∙ ap negation (sym is ∙ z)
      | inr high ↦ elim kept.begins [
        | inl (before, kind) ↦ absurd (omega arith)
        | inr choice ↦ (let opens : d.level ≡ suc (top_level older) = choice.opens in absurd (omega arith))
      ]
    ]

module _ {N S : Type 0} (same : S → S → Bool) (exact : IsExact same) (p : Packages N S) (root : Rules) (lawful : IsLawful p) (e : Encoder N S) where
  -- The properties of the clauses that don't depend on the trail.
  pub register : IsEncoding same p root e → E.IsWhole e → Ending.AreRegistered same p (E.rules_of e) root (Registered same p root e) e.recorded.softs.items
  register holds placed = record {
    rule = holds.rule;
    soft = λ s h. holds.wished s (in_contained same exact p e.recorded.softs.items s h);
    candidate = λ r s has fits. (let (c, present, is) = holds.offered r s (holds.fixed r has) fits in (c.literal.variable, is.present, is.tracked));
    out = λ parent need case v s present h unmarked outside. (of_unmarked v unmarked (holds.cases.cased parent need case v present h)).1 s outside;
    candidates = holds.candidates;
    by_digits = λ s t a b named free. by_digits e.registry e.coding (p.package_of s) s t holds.tied placed.solvables (λ m. both_ways _ free (holds.marks.right (p.package_of s) m)) a (subst (λ (n : N). IsRegistered e.registry e.coding n t) (sym named) b);
    there = λ parent need case v s present h registered named unmarked. there (p.set_package v) s unmarked (of_unmarked v unmarked (holds.cases.cased parent need case v present h)).0 (subst (λ (n : N). IsRegistered e.registry e.coding n s) named registered);
    held = λ parent need case v s present h marked matching. holds.recorded.matches v s (of_marked v marked (holds.cases.cased parent need case v present h)) matching;
    forbid = λ r v s has h barred. holds.forbid r (holds.fixed r has) v s h barred;
  }
    where
      -- an encoded version set of a package that isn't marked, and of one that is
      of_unmarked : (v : VersionSetId) → is_many p (p.set_package v) ≡ false → E.IsSetEncoded same p e v → E.IsNamed e.recorded (p.set_package v) × ((s : S) → is_outside same p v s ≡ true → IsRegistered e.registry e.coding (p.package_of s) s)
      of_unmarked v unmarked (inl (free, named, out)) = (named, out)
      of_unmarked v unmarked (inr (marked, held)) = absurd (both_ways _ unmarked marked)

      of_marked : (v : VersionSetId) → is_many p (p.set_package v) ≡ true → E.IsSetEncoded same p e v → Contains e.recorded.matches.keys v
      of_marked v marked (inl (free, named, out)) = absurd (both_ways _ free marked)
      of_marked v marked (inr (is, held)) = held

      -- where nothing waits, the registered solvables of the packages of cases have at-least-one clauses
      there : (n : N) (s : S) → is_many p n ≡ false → E.IsNamed e.recorded n → IsRegistered e.registry e.coding n s → E.rules_of e (Rule.is_there n s)
      there n s unmarked (inl named) registered = elim (holds.cases.at_least_one n s named registered) [
        | inl rule ↦ rule
        | inr (inl (v, present, queued)) ↦ absurd (placed.solvables n v queued)
        | inr (inr marked) ↦ absurd (both_ways _ unmarked (holds.marks.right n marked))
      ]
      there n s unmarked (inr waits) registered = absurd (placed.packages n waits)

  -- a clause that encodes a rule is one of the clauses
  rule_within : IsEncoding same p root e → (n : ℕ) (r : Rule N S) → rule_at e.coding.kinds.items n ≡ Some r → n < length e.coding.search.clauses
  rule_within holds n r h =
      let (x, at, is) = kind_of_rule e.coding.kinds.items n r h in
      let within : n < length e.coding.kinds.items = slice_get_within e.coding.kinds.items n x at in
      let long : length e.coding.kinds.items ≡ length e.coding.search.clauses = holds.coding.each in
      omega arith

  -- a quiet clause has a literal that isn't false
  unfallen : IsEncoding same p root e → (clause : List Signed) → IsQuiet (made_true (history e.coding.search)) clause → (l : Signed) × (has clause l ≡ true) × (has (made_true (history e.coding.search)) (negation l) ≡ false)
  unfallen holds clause (inr (l, m, a, b, differ, c, d)) = (l, a, c)
  unfallen holds clause (inl (l, a, b)) = (
    l,
    a,
    elim (cases_Bool (has (made_true (history e.coding.search)) (negation l))) [
      | inl c ↦ absurd (consistent (count_of e.coding.search) (clauses_of e.coding.search) (history e.coding.search) l holds.coding.ready.state.trail b c)
      | inr c ↦ c
    ],
  )

  -- a literal of the search is false where its negation's meaning is known
  denied : IsEncoding same p root e → (l : Signed) (n : ℕ) (m : Literal (Atom N S)) → has (clause_at (clauses_of e.coding.search) n) l ≡ true → 0 < l.variable.0 → meaning (origin e.coding.atoms.keys) l ≡ m
      → Contains (known_of (origin e.coding.atoms.keys) (history e.coding.search)) (negate m) → has (made_true (history e.coding.search)) (negation l) ≡ true
  denied holds l n m present other is h = found (origin e.coding.atoms.keys) (count_of e.coding.search) (coding_once e.coding holds.coding) (made_true (history e.coding.search)) (negation l)
      (λ x a. known_in_range (count_of e.coding.search) (clauses_of e.coding.search) (history e.coding.search) x holds.coding.ready.state.trail a)
      other (holds.coding.ready.state.in_range n l present) (subst (λ (x : Literal (Atom N S)). Contains (known_of (origin e.coding.atoms.keys) (history e.coding.search)) (negate x)) (sym is) h)

  -- A literal of a requires clause that isn't false means a chosen match of the requirement.
  asking_candidate : IsEncoding same p root e → (n : ℕ) (r : Requirement) (k : Ending.IsAsked same p (E.rules_of e) (known_of (origin e.coding.atoms.keys) (history e.coding.search)) r) (l : Signed)
      → rule_at e.coding.kinds.items n ≡ Some (Ending.asking same p (E.rules_of e) (known_of (origin e.coding.atoms.keys) (history e.coding.search)) r k)
      → has (clause_at (clauses_of e.coding.search) n) l ≡ true → has (made_true (history e.coding.search)) (negation l) ≡ false
      → (s : S) × (meets same p r s ≡ true) × Means (origin e.coding.atoms.keys) l (plus (Atom.solvable s))
  asking_candidate holds n r k l at present open_still = elim ((holds.spelled n (Ending.asking same p (E.rules_of e) (known_of (origin e.coding.atoms.keys) (history e.coding.search)) r k) at).only l present) [
    | inl z ↦ absurd (both_ways _ open_still (subst (λ (x : Signed). has (made_true (history e.coding.search)) (negation x) ≡ true) (sym z) (root_known (history e.coding.search) holds.coding.ready.state.rooted)))
    | inr (other, c) ↦ go other k c
  ]
    where
      candidate : 0 < l.variable.0 → (q : Requirement) → r ≡ q → Contains (candidate_literals same p (alternatives_of p.members_of q)) (meaning (origin e.coding.atoms.keys) l) → (s : S) × (meets same p r s ≡ true) × Means (origin e.coding.atoms.keys) l (plus (Atom.solvable s))
      candidate other q is b =
          let (s, i, h) = candidate_from same exact p (alternatives_of p.members_of q) (meaning (origin e.coding.atoms.keys) l) b in
          (s, subst (λ x. meets same p x s ≡ true) (sym is) h, (other, sym i))

      not_denied : 0 < l.variable.0 → (m : Literal (Atom N S)) → meaning (origin e.coding.atoms.keys) l ≡ m → Contains (known_of (origin e.coding.atoms.keys) (history e.coding.search)) (negate m) → ⊥
      not_denied other m is h = both_ways _ open_still (denied holds l n m present other is h)

      parent : 0 < l.variable.0 → (who : Option S) → Ending.IsTrueParent (known_of (origin e.coding.atoms.keys) (history e.coding.search)) who → Contains (parent_literals who) (meaning (origin e.coding.atoms.keys) l) → ⊥
      parent other None t a = contains_none (meaning (origin e.coding.atoms.keys) l) a
      parent other (Some s) t a = not_denied other (minus (Atom.solvable s)) (contains_one (meaning (origin e.coding.atoms.keys) l) (minus (Atom.solvable s)) a) t

      go : 0 < l.variable.0 → (k : Ending.IsAsked same p (E.rules_of e) (known_of (origin e.coding.atoms.keys) (history e.coding.search)) r)
          → Contains (literals_of same p (Ending.asking same p (E.rules_of e) (known_of (origin e.coding.atoms.keys) (history e.coding.search)) r k)) (meaning (origin e.coding.atoms.keys) l)
          → (s : S) × (meets same p r s ≡ true) × Means (origin e.coding.atoms.keys) l (plus (Atom.solvable s))
      go other (inl k) b = elim (contains_parts (meaning (origin e.coding.atoms.keys) l) (parent_literals k.parent) (case_literals same p k.case ++ candidate_literals same p (alternatives_of p.members_of k.need.requirement)) b) [
        | inl c ↦ absurd (parent other k.parent k.chosen c)
        | inr c ↦ elim (contains_parts (meaning (origin e.coding.atoms.keys) l) (case_literals same p k.case) (candidate_literals same p (alternatives_of p.members_of k.need.requirement)) c) [
          | inl d ↦ absurd (not_denied other (meaning (origin e.coding.atoms.keys) l) refl (k.holds (meaning (origin e.coding.atoms.keys) l) d))
          | inr d ↦ candidate other k.need.requirement k.asks d
        ]
      ]
      go other (inr k) b = elim (contains_cases (meaning (origin e.coding.atoms.keys) l) (minus (Atom.gate r)) (candidate_literals same p (alternatives_of p.members_of r)) b) [
        | inl c ↦ absurd (not_denied other (minus (Atom.gate r)) c k.opened)
        | inr c ↦ candidate other r refl c
      ]

  -- a variable is true where its origin is known
  atom_found : IsEncoding same p root e → (v : VariableId) (a : ProofAtom N S) → Represents e.coding.atoms.keys v a → Contains (known_of (origin e.coding.atoms.keys) (history e.coding.search)) (plus (atom_of a)) → has (made_true (history e.coding.search)) (yes v) ≡ true
  atom_found holds v a present t =
      let means : Means (origin e.coding.atoms.keys) (yes v) (plus (atom_of a)) = means_atom e.coding.atoms.keys (yes v) a present in
      found (origin e.coding.atoms.keys) (count_of e.coding.search) (coding_once e.coding holds.coding) (made_true (history e.coding.search)) (yes v)
      (λ x b. known_in_range (count_of e.coding.search) (clauses_of e.coding.search) (history e.coding.search) x holds.coding.ready.state.trail b)
      means.0 (represents_in_range e.coding v a holds.coding present) (subst (Contains (known_of (origin e.coding.atoms.keys) (history e.coding.search))) means.1 t)

  parent_found : IsEncoding same p root e → (parent : Option S) (v : VariableId) → IsParentVariable e.coding.atoms.keys parent v → Ending.IsTrueParent (known_of (origin e.coding.atoms.keys) (history e.coding.search)) parent → has (made_true (history e.coding.search)) (yes v) ≡ true
  parent_found holds None v is t = subst (λ (w : VariableId). has (made_true (history e.coding.search)) (yes w) ≡ true) (sym is) (root_known (history e.coding.search) holds.coding.ready.state.rooted)
  parent_found holds (Some s) v present t = atom_found holds v (Solvable s) present t

  -- where the literals of a case are false, so are those of its condition
  condition_fell : IsEncoding same p root e → (condition : Option (DenseId DisjunctionTag ℕ)) (case : List VersionSetId) → IsCondition same p e.lists e.coding.atoms.keys condition case
      → Ending.AreFalse (known_of (origin e.coding.atoms.keys) (history e.coding.search)) (case_literals same p case) → (l : Signed) → has (condition_in e.lists condition) l ≡ true → has (made_true (history e.coding.search)) (negation l) ≡ true
  condition_fell holds condition case h fell l a = elim (h.spells.only l a) [
    | inl z ↦ subst (λ (x : Signed). has (made_true (history e.coding.search)) (negation x) ≡ true) (sym z) (root_known (history e.coding.search) holds.coding.ready.state.rooted)
    | inr (other, c) ↦ found (origin e.coding.atoms.keys) (count_of e.coding.search) (coding_once e.coding holds.coding) (made_true (history e.coding.search)) (negation l)
        (λ x b. known_in_range (count_of e.coding.search) (clauses_of e.coding.search) (history e.coding.search) x holds.coding.ready.state.trail b)
        other (subst (λ n. l.variable.0 < n) (sym (count_is e.coding holds.coding)) (h.in_range l a)) (fell (meaning (origin e.coding.atoms.keys) l) c)
  ]

  -- the queue's clause for a requirement has a true parent, and its condition's literals are false
  record IsAsking (r : Requirement) (q : NeedClause) : Type 0 where
    requirement : q.requirement ≡ r
    condition : (l : Signed) → has (condition_in e.lists q.condition) l ≡ true → has (made_true (history e.coding.search)) (negation l) ≡ true
    parent : has (made_true (history e.coding.search)) (yes q.parent) ≡ true

  queue_fits : IsEncoding same p root e → (r : Requirement) (k : Ending.IsAsked same p (E.rules_of e) (known_of (origin e.coding.atoms.keys) (history e.coding.search)) r) (q : NeedClause) (x : Kind N S) → IsQueuedFor same p e.lists e.coding.atoms.keys (Some x) q
      → rule_of x ≡ Some (Ending.asking same p (E.rules_of e) (known_of (origin e.coding.atoms.keys) (history e.coding.search)) r k) → IsAsking r q
  queue_fits holds r (inl k) q (Kind.Needs parent need case) (is, conditioned, present) kind_is =
      let wanted : need ≡ k.need = cc in
      let who : parent ≡ k.parent = cc in
      let which : case ≡ k.case = cc in
      record {
        requirement = is ∙ ap (λ (n : ConditionalRequirement). n.requirement) wanted ∙ sym k.asks;
        condition = condition_fell holds q.condition case conditioned (subst (λ vs. Ending.AreFalse (known_of (origin e.coding.atoms.keys) (history e.coding.search)) (case_literals same p vs)) (sym which) k.holds);
        parent = parent_found holds k.parent q.parent (subst (λ (o : Option S). IsParentVariable e.coding.atoms.keys o q.parent) who present) k.chosen;
      }
  queue_fits holds r (inr k) q (Kind.Shared w) (is, free, present) kind_is =
      let one : w ≡ r = cc in
      record { requirement = is ∙ one; condition = λ l h. absurd (both_ways false refl (subst (λ c. has (condition_in e.lists c) l ≡ true) free h)); parent = atom_found holds q.parent (Gate r) (subst (λ y. Represents e.coding.atoms.keys q.parent (Gate y)) one present) k.opened }
  queue_fits holds r (inr k) q (Kind.Needs parent need case) h kind_is = absurd cc
  queue_fits holds r (inl k) q (Kind.Shared w) h kind_is = absurd cc
  queue_fits holds r k q Kind.Root h kind_is = absurd h
  queue_fits holds r k q (Kind.Gated s w) h kind_is = absurd h
  queue_fits holds r k q (Kind.Limits parent v s) h kind_is = absurd h
  queue_fits holds r k q (Kind.LimitsOutside parent v) h kind_is = absurd h
  queue_fits holds r k q (Kind.IsOut v s) h kind_is = absurd h
  queue_fits holds r k q (Kind.Locked locked s) h kind_is = absurd h
  queue_fits holds r k q (Kind.Excluded s why) h kind_is = absurd h
  queue_fits holds r k q (Kind.Digit n s place bit) h kind_is = absurd h
  queue_fits holds r k q (Kind.IsThere n s) h kind_is = absurd h
  queue_fits holds r k q (Kind.Matches v s) h kind_is = absurd h
  queue_fits holds r k q Kind.Learnt h kind_is = absurd h

  rule_encoded : (r : Requirement) (k : Ending.IsAsked same p (E.rules_of e) (known_of (origin e.coding.atoms.keys) (history e.coding.search)) r) → E.rules_of e (Ending.asking same p (E.rules_of e) (known_of (origin e.coding.atoms.keys) (history e.coding.search)) r k)
  rule_encoded r (inl k) = k.present
  rule_encoded r (inr k) = k.present

  rule_asks : (r : Requirement) (k : Ending.IsAsked same p (E.rules_of e) (known_of (origin e.coding.atoms.keys) (history e.coding.search)) r) → IsRequiresRule (Ending.asking same p (E.rules_of e) (known_of (origin e.coding.atoms.keys) (history e.coding.search)) r k)
  rule_asks r (inl k) = tt
  rule_asks r (inr k) = tt

  -- the candidate of a solvable has the solvable's literal
  candidate_is : IsEncoding same p root e → (name : N) (s : S) (c : Candidate N) (l : Signed) → IsCandidate e name s c → Means (origin e.coding.atoms.keys) l (plus (Atom.solvable s)) → c.literal ≡ l
  candidate_is holds name s c l fits means =
      let (positive, present) = means_solvable e.coding.atoms.keys l s means in
      let variable : c.literal.variable ≡ l.variable = represents_once e.coding c.literal.variable l.variable (Solvable s) holds.coding fits.present present in
      let sign : c.literal.positive ≡ l.positive = fits.positive ∙ sym positive in
      λ i. record { variable = variable i; positive = sign i }

  -- where nothing is left to decide, a requires clause with a candidate that isn't false has a true
  -- one
  true_candidate : IsEncoding same p root e → (values : ℕ → Option Bool) (score : N → ℕ) → AreValues values (made_true (history e.coding.search)) → (r : Requirement) (q : NeedClause) (c : Candidate N) → IsAsking r q
      → offer_by (named_by e.lists) values score q ≡ None → Contains (candidates_in e.lists r) c → has (made_true (history e.coding.search)) (negation c.literal) ≡ false
      → (d : Candidate N) × Contains (candidates_in e.lists r) d × (has (made_true (history e.coding.search)) d.literal ≡ true)
  true_candidate holds values score agree r q c asking nothing present unfalse = elim (open_or_known values (made_true (history e.coding.search)) agree c.literal unfalse) [
    | inr known ↦ (c, present, known)
    | inl undecided ↦
        let eligible : is_eligible_by (named_by e.lists) values q ≡ true = and_from _ _ (known_parent values (made_true (history e.coding.search)) agree q.parent asking.parent) (has_all (λ l. is_false (value_under values l)) (condition_in e.lists q.condition) (λ l a. known_false values (made_true (history e.coding.search)) agree l (asking.condition l a))) in
        let (d, listed, is) = nothing_offered (named_by e.lists) values score q c nothing eligible (subst (λ y. Contains (candidates_in e.lists y) c) (sym asking.requirement) present) undecided in
        (d, subst (λ y. Contains (candidates_in e.lists y) d) asking.requirement listed, value_known values (made_true (history e.coding.search)) agree d.literal is)
  ]

  -- Requirements are met, where the clauses are quiet and nothing is left to decide.
  pub met : IsEncoding same p root e → (values : ℕ → Option Bool) (score : N → ℕ) → AreValues values (made_true (history e.coding.search))
      → ((n : ℕ) → n < length e.coding.search.clauses → IsQuiet (made_true (history e.coding.search)) (clause_at (clauses_of e.coding.search) n)) → IsDecided e values score
      → (r : Requirement) → Ending.IsAsked same p (E.rules_of e) (known_of (origin e.coding.atoms.keys) (history e.coding.search)) r
      → (s : S) × (meets same p r s ≡ true) × ((l : Signed) × (has (made_true (history e.coding.search)) l ≡ true) × Means (origin e.coding.atoms.keys) l (plus (Atom.solvable s)))
  met holds values score agree quiet decided r k =
      let (n, at) = rule_encoded r k in
      let (q, queued, number) = holds.asked n _ at (rule_asks r k) in
      let (x, kind_is, states) = kind_of_rule e.coding.kinds.items n _ at in
      let asking : IsAsking r q = queue_fits holds r k q x (subst (λ o. IsQueuedFor same p e.lists e.coding.atoms.keys o q) (ap (kind_at e.coding.kinds.items) number ∙ kind_is) (holds.queued q queued)) states in
      let (l, present, unfalse) = unfallen holds (clause_at (clauses_of e.coding.search) n) (quiet n (rule_within holds n _ at)) in
      let (s, fits, means) = asking_candidate holds n r k l at present unfalse in
      let (c, listed, is) = holds.offered r s (holds.fixed r (has_clause same p root e r k)) fits in
      let literal : c.literal ≡ l = candidate_is holds (p.package_of s) s c l is means in
      let (d, there, known) = true_candidate holds values score agree r q c asking (decided q queued) listed (subst (λ (y : Signed). has (made_true (history e.coding.search)) (negation y) ≡ false) (sym literal) unfalse) in
      let (t, one, suits) = holds.listed r d there in
      (t, suits, (d.literal, known, solvable_means e.coding.atoms.keys d.literal t one.positive one.present))

  -- The requirements, constraints, locks and exclusions of the root and of the members are encoded:
  -- a deferred case that holds in the members has fired.
  members_encoded : IsEncoding same p root e → AreSpent same e → (members : List S) → AreChosen e.coding.atoms.keys (made_true (history e.coding.search)) members → AreAmongEncoded e members → Ending.AreEncoded same p (E.rules_of e) root members
  members_encoded holds spent members chosen among = record {
    need = λ parent need case member listed one truth. elim ((encoded parent member).needs need case listed one) [ inl a ↦ a | inr waits ↦ fired parent need case waits truth ];
    limit = λ parent v s member listed outside. (encoded parent member).limits v listed s outside;
    forbid = λ parent v s member listed barred. (encoded parent member).guarded v listed v s (contains_only v) barred;
    unknown = λ s member unknown. (encoded (Some s) member).unknown s refl unknown;
  }
    where
      encoded : (parent : Option S) → is_member same p root members parent ≡ true → IsParentEncoded same p e root parent
      encoded None member = let (i, below, at) = among.root in holds.encoded i Place.Root below at
      encoded (Some s) member = let (i, below, at) = among.each s (in_contained same exact p members s member) in holds.encoded i (Place.Solvable s) below at

      fired : (parent : Option S) (need : ConditionalRequirement) (case : List VersionSetId) → IsDeferred e parent need case → case_holds same p members case ≡ true → Ending.IsNeedEncoded same p (E.rules_of e) parent need case
      fired parent need case (i, d, at, who, wanted, which) truth = elim (spent i (slice_get_within e.deferred.items i d at)) [
        | inl h ↦ subst (λ x. Ending.IsNeedEncoded same p (E.rules_of e) x need case) who
            (subst (λ x. Ending.IsNeedEncoded same p (E.rules_of e) d.parent x case) wanted (subst (λ x. Ending.IsNeedEncoded same p (E.rules_of e) d.parent d.need x) which (holds.cases.fired i d h at)))
        | inr h ↦ absurd (both_ways _ (h p root lawful holds d at members chosen) (subst (λ x. case_holds same p members x ≡ true) (sym which) truth))
      ]

  -- The turn has ended where the clauses are quiet and nothing is left to decide. The root and the
  -- chosen solvables are encoded, and no deferred case holds.
  pub turn_ended : IsEncoding same p root e → AreSpent same e → (values : ℕ → Option Bool) (score : N → ℕ) → AreValues values (made_true (history e.coding.search))
      → ((n : ℕ) → n < length e.coding.search.clauses → IsQuiet (made_true (history e.coding.search)) (clause_at (clauses_of e.coding.search) n)) → IsDecided e values score → E.IsWhole e
      → (members : List S) → AreChosen e.coding.atoms.keys (made_true (history e.coding.search)) members → AreAmongEncoded e members
      → IsTurnEnd (origin e.coding.atoms.keys) same p (E.rules_of e) root (Registered same p root e) e.recorded.softs.items (count_of e.coding.search) e.coding.search.clauses (history e.coding.search) members
  turn_ended holds spent values score agree quiet decided placed members chosen among = record {
    lawful = lawful;
    coded = coding_coded same p (Registered same p root e) e.coding holds.coding holds.spelled holds.positive;
    trail = holds.coding.ready.state.trail;
    rooted = holds.coding.ready.state.rooted;
    choices = choices_called same p root e exact holds;
    quiet = quiet;
    true_on_trail = λ s h. chosen.each s (in_contained same exact p members s h);
    chosen = λ l s h means. contained_in same exact p members s (chosen.all l s h means);
    met = λ r k. (let (s, fits, (l, h, means)) = met holds values score agree quiet decided r k in inr (s, fits, contained_in same exact p members s (chosen.all l s h means)));
    register = register holds placed;
    encoded = members_encoded holds spent members chosen among;
  }

  -- The chosen solvables keep all rules, except locks and exclusions of soft requirements whose
  -- packages nobody names. They are those that the root and the chosen soft requirements reach.
  pub turn_accepts : (same_name : N → N → Bool) → IsExact same_name → IsEncoding same p root e → AreSpent same e → (values : ℕ → Option Bool) (score : N → ℕ) → AreValues values (made_true (history e.coding.search))
      → ((n : ℕ) → n < length e.coding.search.clauses → IsQuiet (made_true (history e.coding.search)) (clause_at (clauses_of e.coding.search) n)) → IsDecided e values score → E.IsWhole e
      → (members : List S) → AreChosen e.coding.atoms.keys (made_true (history e.coding.search)) members → AreAmongEncoded e members → Ending.IsAccepted same p root e.recorded.softs.items members
  turn_accepts same_name names holds spent values score agree quiet decided placed members chosen among =
      turn_accepted same exact same_name names p root (origin e.coding.atoms.keys) (E.rules_of e) (Registered same p root e) e.recorded.softs.items (count_of e.coding.search) e.coding.search.clauses (history e.coding.search) members
      (turn_ended holds spent values score agree quiet decided placed members chosen among)

  -- the end of a turn before the first soft requirement
  ended_alone : (members : List S) → e.recorded.softs.items ≡ [] → IsTurnEnd (origin e.coding.atoms.keys) same p (E.rules_of e) root (Registered same p root e) e.recorded.softs.items (count_of e.coding.search) e.coding.search.clauses (history e.coding.search) members
      → IsTurnEnd (origin e.coding.atoms.keys) same p (E.rules_of e) root (Registered same p root e) [] (count_of e.coding.search) e.coding.search.clauses (history e.coding.search) members
  ended_alone members alone t = subst (λ (ws : List S). IsTurnEnd (origin e.coding.atoms.keys) same p (E.rules_of e) root (Registered same p root e) ws (count_of e.coding.search) e.coding.search.clauses (history e.coding.search) members) alone t

  -- before the first soft requirement each decision was a first pick
  picked_alone : e.recorded.softs.items ≡ [] → (known : List (Literal (Atom N S))) (l : Literal (Atom N S)) → IsChosenFor same p e known l → IsFirstPick same p (HasOrder e) (E.rules_of e) known l
  picked_alone alone known l (inl w) = absurd (both_ways false refl (subst (λ (ws : List S). is_in same p ws w.solvable ≡ true) alone w.wished))
  picked_alone alone known l (inr k) = k

  -- Before the first soft requirement the chosen solvables keep all rules, and are those that the
  -- root reaches.
  pub turn_keeps : (same_name : N → N → Bool) → IsExact same_name → IsEncoding same p root e → AreSpent same e → (values : ℕ → Option Bool) (score : N → ℕ) → AreValues values (made_true (history e.coding.search))
      → ((n : ℕ) → n < length e.coding.search.clauses → IsQuiet (made_true (history e.coding.search)) (clause_at (clauses_of e.coding.search) n)) → IsDecided e values score → E.IsWhole e
      → (members : List S) → AreChosen e.coding.atoms.keys (made_true (history e.coding.search)) members → AreAmongEncoded e members → e.recorded.softs.items ≡ []
      → IsRuleKeeping same p root members × ((s : S) → is_in same p members s ≡ true → IsReached same p root [] members s) × ((s : S) → IsReached same p root [] members s → is_in same p members s ≡ true)
  turn_keeps same_name names holds spent values score agree quiet decided placed members chosen among alone =
      let ended = ended_alone members alone (turn_ended holds spent values score agree quiet decided placed members chosen among) in
      let accepted = turn_accepted same exact same_name names p root (origin e.coding.atoms.keys) (E.rules_of e) (Registered same p root e) [] (count_of e.coding.search) e.coding.search.clauses (history e.coding.search) members ended in
      (turn_keeps_rules same exact same_name names p root (origin e.coding.atoms.keys) (E.rules_of e) (Registered same p root e) (count_of e.coding.search) e.coding.search.clauses (history e.coding.search) members ended, accepted.reached, accepted.inside)

  -- Before the first soft requirement they were chosen in the order of preference.
  pub turn_preferred : (same_name : N → N → Bool) → IsExact same_name → IsEncoding same p root e → AreSpent same e → (orders : Requirement → List S → Type 0) → AreOrdered orders e → (values : ℕ → Option Bool) (score : N → ℕ) → AreValues values (made_true (history e.coding.search))
      → ((n : ℕ) → n < length e.coding.search.clauses → IsQuiet (made_true (history e.coding.search)) (clause_at (clauses_of e.coding.search) n)) → IsDecided e values score → E.IsWhole e
      → (members : List S) → AreChosen e.coding.atoms.keys (made_true (history e.coding.search)) members → AreAmongEncoded e members → e.recorded.softs.items ≡ [] → ArePreferred same p orders root members
  turn_preferred same_name names holds spent orders ordered values score agree quiet decided placed members chosen among alone =
      turn_prefers same exact same_name names p root (origin e.coding.atoms.keys) (E.rules_of e) (Registered same p root e) orders (digit_found same e.coding.kinds.items) (count_of e.coding.search) e.coding.search.clauses (history e.coding.search) members
      (ended_alone members alone (turn_ended holds spent values score agree quiet decided placed members chosen among)) (λ x older present is other. taken_ordered orders e same p ordered _ _ (picked_alone alone _ _ (holds.called x older present is other))) (digits_agree same exact p root e holds)

  -- A clause that denies decisions of the first level alone, by clauses that agree with the digits
  -- of places, excludes each rule-keeping set.
  refused_by : (same_name : N → N → Bool) → IsExact same_name → IsEncoding same p root e → e.coding.search.base_level ≡ 1 → (literals : List Signed) (causes : List ClauseId) → IsRefusal e.coding.search literals causes
      → (bits : S → ℕ → Bool) → AgreeWith (E.rules_of e) bits → (chosen : List S) → IsRuleKeeping same p root chosen → ⊥
  refused_by same_name names holds first literals causes refusal bits agree chosen keeping =
      turn_refused same exact same_name names p root (origin e.coding.atoms.keys) (E.rules_of e) (Registered same p root e) (count_of e.coding.search) e.coding.search.clauses literals causes bits [] chosen
      (coding_coded same p (Registered same p root e) e.coding holds.coding holds.spelled holds.positive) holds.rule agree refusal.derived (λ l h. inl (root_denied e holds.coding first literals causes refusal l h)) keeping (λ s h. absurd (both_ways false refl h))

  -- A clause that denies decisions of the first level alone excludes each rule-keeping set.
  pub refused : (same_name : N → N → Bool) → IsExact same_name → IsEncoding same p root e → e.coding.search.base_level ≡ 1 → (literals : List Signed) (causes : List ClauseId) → IsRefusal e.coding.search literals causes
      → (chosen : List S) → IsRuleKeeping same p root chosen → ⊥
  refused same_name names holds first literals causes refusal chosen keeping =
      refused_by same_name names holds first literals causes refusal (digit_found same e.coding.kinds.items) (digits_agree same exact p root e holds) chosen keeping
