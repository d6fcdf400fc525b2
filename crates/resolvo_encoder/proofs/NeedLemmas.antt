-- The clause of a requirement, of a gate, or from a solvable to a gate keeps the invariant.
use Rattle.std.proofs.Common.{◌≡◌, ℕ, zero, suc, ◌+◌, ◌<◌, ◌≤◌, ◌⊎◌, inl, inr, Bool, true, false, not, ◌&&◌, List, [], ◌∷◌, ◌++◌, length, reverse, is_some, Option, Some, None, refl, sym, ◌∙◌, ap, subst, arith, length-append}
use Rattle.std.specs.Prelude.{Contains, slice_get}
use Rattle.std.proofs.lemmas.Bool.{both_ways}
use Rattle.resolvo_pool_core.specs.declared.id.ClauseId.{ClauseId}
use Rattle.resolvo_pool_core.specs.declared.id.ConditionId.{ConditionId}
use Rattle.resolvo_pool_core.specs.declared.id.DenseId.{DenseId}
use Rattle.resolvo_pool_core.specs.declared.id.DisjunctionTag.{DisjunctionTag}
use Rattle.resolvo_pool_core.specs.declared.id.VariableId.{VariableId}
use Rattle.resolvo_pool_core.specs.declared.id.VersionSetId.{VersionSetId}
use Rattle.resolvo_pool_core.specs.declared.requirement.ConditionalRequirement.{ConditionalRequirement}
use Rattle.resolvo_pool_core.specs.declared.requirement.Requirement.{Requirement}
use Rattle.resolvo_pool_core.specs.ByRequirement.{slot_of, PutsAt}
use Rattle.resolvo_pool_core.specs.OnePass.{Literal}
use Rattle.resolvo_pool_core.specs.Text.{alternatives_of}
use Rattle.resolvo_pool_core.specs.RuleKeeping.{Packages, Rules, IsLawful, is_outside, rules_of, rules_for, is_many}
use Rattle.resolvo_store_core.specs.Signed.{Signed, has}
use Rattle.resolvo_store_core.specs.Clauses.{yes, no, root as root_variable, candidate_literals as literals_in}
use Rattle.resolvo_store_core.specs.AtMostOne.{IsPrefixOf}
use Rattle.resolvo_store_core.specs.declared.lists.FixedLists.{FixedLists}
use Rattle.resolvo_store_core.specs.Lists.{has_candidates, candidates_in, condition_in, list_or_none}
use Rattle.resolvo_store_core.specs.declared.pick.NeedClause.{NeedClause}
use Rattle.resolvo_store_core.specs.declared.lists.Candidate.{Candidate}
use Rattle.resolvo_decide.specs.Queue.{needs_of}
use Rattle.resolvo_sat.specs.Clauses.{SatClause}
use Rattle.resolvo_sat.specs.Known.{clause_at}
use Rattle.resolvo_sat.specs.State.{lists, clauses_of, history}
use Rattle.resolvo_store_core.specs.declared.decision.Entry.{Entry}
use Rattle.resolvo_sat.specs.Entries.{IsOnTrail}
use Rattle.resolvo_sat.specs.Begin.{IsRootClause, root_entry}
use Rattle.resolvo_sat.proofs.Literals.{has-cons, has-append, has_here, has_later}
use Rattle.resolvo_sat.proofs.Clauses.{literals_at}
use Rattle.resolvo_sat.specs.RuleClauses.{IsExact, Atom, Rule, plus, minus, IsRule, literals_of, parent_literals, case_literals, candidate_literals, cases_under, has_plain_need, has_condition, same_requirement}
use Rattle.resolvo_sat.specs.SearchEnd.{HasClause}
use Rattle.resolvo_sat.specs.Numbered.{meaning, Means, Spells}
use Rattle.resolvo_sat.proofs.Lists.{contains_none, contains_cases, contains_first, contains_later, contains_left, contains_right, contains_one, contains_only, contains_parts, contained_any}
use Rattle.resolvo_sat.proofs.Members.{in_case, candidate_in, candidate_from, same_requirement-self, IsSetLiteral}
use Rattle.resolvo_state.specs.declared.atom.ProofAtom.{ProofAtom}
use Rattle.resolvo_state.specs.declared.atom.ProofAtom.TheVariants.{Solvable, Gate}
use Rattle.resolvo_state.specs.Kinds.{Kind}
use Rattle.resolvo_state.specs.declared.solver_state.SolverState.{SolverState}
use Rattle.resolvo_state.specs.declared.registry.Registry.{Registry}
use Rattle.resolvo_state.specs.Atoms.{origin, Represents}
use Rattle.resolvo_state.specs.ClauseKinds.{rule_of, kind_at, rule_at}
use Rattle.resolvo_state.specs.SolverState.{IsCoding, AddsRule, Gives}
use Rattle.resolvo_state.specs.declared.registry.Member.{Member}
use Rattle.resolvo_state.specs.Registered.{member, AreTied, IsTracked}
use Rattle.resolvo_encoder.specs.Encoded.{IsParentVariable, IsCandidate, IsQueuedFor, IsRequiresRule, Registered, IsEncoding}
use Rattle.resolvo_encoder.specs.Encoded as E
use Rattle.resolvo_encoder.specs.ClauseRules.{IsRestraint}
use Rattle.resolvo_encoder.proofs.Denials.{makes_none, asks_none, not_digit, pair_spells}
use Rattle.resolvo_encoder.specs.Steps.{EncodesNeed, IsNeed, Needs, NeedsDirectly, SameButCoding, Extends, IsBegunEncoding}
use Rattle.resolvo_encoder.specs.declared.encoder.Deferred.{Deferred}
use Rattle.resolvo_encoder.specs.declared.encoder.Encoder.{Encoder}
use Rattle.resolvo_encoder.specs.declared.encoder.EncodedOnce.{EncodedOnce}
use Rattle.resolvo_state.proofs.Positions.{get_last, get_contains}
use Rattle.resolvo_state.proofs.Origins.{means_solvable, solvable_means, means_atom, solvable_represents}
use Rattle.resolvo_state.proofs.Rules.{rule_at_kind}
use Rattle.resolvo_state.proofs.Growth.{grows_same, rule_split, rules_split}
use Rattle.resolvo_state.proofs.RegisterLemmas.{digits_same, digits_more, ties_grow, nothing_tied}
use Rattle.resolvo_encoder.proofs.ConditionLemmas.{queued_grows, spells_join}
use Rattle.resolvo_encoder.proofs.RequireLemmas.{AddedClause, Carries, carried, candidate_grows, registered_stays, cases_keep, cased_stays, at_least_one_keeps, registered_before, prefix_lists, queued_keeps, within_keeps, encoded_keeps, gates_keep, put_at, put_other, NoneAsks, kept_carries, recorded_grows, some_one, set_stays, marks_stay, guards_keep}

-- the requirement of a rule's requires clause
abbrev requirement_in : {N S : Type 0} → Requirement → Rule N S → Requirement
requirement_in r (Rule.needs parent need case) = need.requirement
requirement_in r (Rule.gated s q) = r
requirement_in r (Rule.shared q) = q
requirement_in r (Rule.limits parent v s) = r
requirement_in r (Rule.limits_outside parent v) = r
requirement_in r (Rule.is_out v s) = r
requirement_in r (Rule.forbids w s) = r
requirement_in r (Rule.has_digit s bit b) = r
requirement_in r (Rule.is_there n s) = r
requirement_in r (Rule.matches w s) = r

-- a literal of candidates is that of one candidate
pub literal_in : {N : Type 0} (cs : List (Candidate N)) (l : Signed) → has (literals_in cs) l ≡ true → (c : Candidate N) × Contains cs c × (c.literal ≡ l)
literal_in [] l h = absurd (both_ways false refl h)
literal_in (c ∷ cs) l h = elim (has-cons c.literal (literals_in cs) l h) [
  | inl e ↦ (c, contains_first c c cs refl, e)
  | inr a ↦ let (d, b, e) = literal_in cs l a in (d, contains_later d c cs b, e)
]

pub in_literals : {N : Type 0} (cs : List (Candidate N)) (c : Candidate N) → Contains cs c → has (literals_in cs) c.literal ≡ true
in_literals [] c h = absurd (contains_none c h)
in_literals (d ∷ cs) c h = elim (contains_cases c d cs h) [
  | inl e ↦ has_here d.literal (literals_in cs) c.literal (ap (λ (x : Candidate _). x.literal) (sym e))
  | inr a ↦ has_later d.literal (literals_in cs) c.literal (in_literals cs c a)
]

-- an atom is of one solvable
one_solvable : {N S : Type 0} (t u : S) → (let a : Atom N S = Atom.solvable t in a) ≡ Atom.solvable u → t ≡ u
one_solvable t u e = cc

module _ {N S : Type 0} (same : S → S → Bool) (exact : IsExact same) (p : Packages N S) (root : Rules) (lawful : IsLawful p) where
  -- the candidates' literals mean that a match of the requirement is chosen
  candidates_spell : (e : Encoder N S) → IsEncoding same p root e → (r : Requirement) → has_candidates e.lists r ≡ true → Spells (origin e.coding.atoms.keys) (literals_in (candidates_in e.lists r)) (candidate_literals same p (alternatives_of p.members_of r))
  candidates_spell e holds r has_list = record {
    only = λ l a.
        let (c, present, is) = literal_in (candidates_in e.lists r) l a in
        let (s, fits, m) = holds.listed r c present in
        let means : Means (origin e.coding.atoms.keys) l (plus (Atom.solvable s)) = subst (λ (x : Signed). Means (origin e.coding.atoms.keys) x (plus (Atom.solvable s))) is (solvable_means e.coding.atoms.keys c.literal s fits.positive fits.present) in
        inr (means.0, subst (Contains (candidate_literals same p (alternatives_of p.members_of r))) means.1 (candidate_in same exact p (alternatives_of p.members_of r) s m));
    each = λ m a.
        let (s, is, match) = candidate_from same exact p (alternatives_of p.members_of r) m a in
        let (c, present, fits) = holds.offered r s has_list match in
        (c.literal, in_literals (candidates_in e.lists r) c present, subst (Means (origin e.coding.atoms.keys) c.literal) (sym is) (solvable_means e.coding.atoms.keys c.literal s fits.positive fits.present));
  }

  -- the first literal of a parent's clause denies the parent's variable
  parent_spells : (atoms : List (ProofAtom N S)) (parent : Option S) (v : VariableId) → IsParentVariable atoms parent v → Spells (origin atoms) (no v ∷ []) (parent_literals parent)
  parent_spells atoms parent v is = record {
    only = λ l h. elim (has-cons (no v) [] l h) [ inl i ↦ head parent is l (sym i) | inr a ↦ absurd (both_ways false refl a) ];
    each = λ m h. (no v, has_here (no v) [] (no v) refl, back parent is m h);
  }
    where
      head : (parent : Option S) → IsParentVariable atoms parent v → (l : Signed) → l ≡ no v → (l ≡ no root_variable) ⊎ ((0 < l.variable.0) × Contains (parent_literals parent) (meaning (origin atoms) l))
      head None h l i = inl (i ∙ ap no h)
      head (Some s) h l i =
          let means : Means (origin atoms) l (minus (Atom.solvable s)) = subst (λ (x : Signed). Means (origin atoms) x (minus (Atom.solvable s))) (sym i) (means_atom atoms (no v) (Solvable s) h) in
          inr (means.0, contains_first (meaning (origin atoms) l) (minus (Atom.solvable s)) [] means.1)

      back : (parent : Option S) → IsParentVariable atoms parent v → (m : Literal (Atom N S)) → Contains (parent_literals parent) m → Means (origin atoms) (no v) m
      back None h m a = absurd (contains_none m a)
      back (Some s) h m a = subst (Means (origin atoms) (no v)) (sym (contains_one m (minus (Atom.solvable s)) a)) (means_atom atoms (no v) (Solvable s) h)

  -- the same for a gate
  gate_spells : (atoms : List (ProofAtom N S)) (r : Requirement) (v : VariableId) → Represents atoms v (Gate r) → Spells (origin atoms) (no v ∷ []) (minus (Atom.gate r) ∷ [])
  gate_spells atoms r v present = record {
    only = λ l h. elim (has-cons (no v) [] l h) [
      | inl i ↦ (let means : Means (origin atoms) l (minus (Atom.gate r)) = subst (λ (x : Signed). Means (origin atoms) x (minus (Atom.gate r))) i gate in inr (means.0, contains_first (meaning (origin atoms) l) (minus (Atom.gate r)) [] means.1))
      | inr a ↦ absurd (both_ways false refl a)
    ];
    each = λ m h. (no v, has_here (no v) [] (no v) refl, subst (Means (origin atoms) (no v)) (sym (contains_one m (minus (Atom.gate r)) h)) gate);
  }
    where
      gate : Means (origin atoms) (no v) (minus (Atom.gate r))
      gate = means_atom atoms (no v) (Gate r) present

  -- the literals of a requires clause
  abbrev need_literals : Encoder N S → VariableId → Option (DenseId DisjunctionTag ℕ) → Requirement → List Signed
  need_literals e v condition r = no v ∷ (condition_in e.lists condition ++ literals_in (candidates_in e.lists r))

  -- a requires clause encodes a rule, with its literals
  need_rule : (e : Encoder N S) → IsEncoding same p root e → (x : Kind N S) (v : VariableId) (condition : Option (DenseId DisjunctionTag ℕ)) (r : Requirement) → has_candidates e.lists r ≡ true → IsNeed same p root e.lists e.coding.atoms.keys x v condition r → (q : Rule N S) → rule_of x ≡ Some q
      → IsRule same p root q × Spells (origin e.coding.atoms.keys) (need_literals e v condition r) (literals_of same p q)
  need_rule e holds (Kind.Needs parent need case) v condition r has_list (is, present, conditioned, listed, cased, matched) q one =
      let rule : Rule.needs parent need case ≡ q = some_one (Rule.needs parent need case) q one in
      subst (λ (y : Rule N S). IsRule same p root y × Spells (origin e.coding.atoms.keys) (need_literals e v condition r) (literals_of same p y)) rule (
        (listed, cased, matched),
        subst (λ y. Spells (origin e.coding.atoms.keys) (need_literals e v condition r) (parent_literals parent ++ (case_literals same p case ++ candidate_literals same p (alternatives_of p.members_of y)))) (sym is)
            (spells_join (origin e.coding.atoms.keys) (no v ∷ []) (condition_in e.lists condition ++ literals_in (candidates_in e.lists r)) (parent_literals parent) (case_literals same p case ++ candidate_literals same p (alternatives_of p.members_of r))
            (parent_spells e.coding.atoms.keys parent v present)
            (spells_join (origin e.coding.atoms.keys) (condition_in e.lists condition) (literals_in (candidates_in e.lists r)) (case_literals same p case) (candidate_literals same p (alternatives_of p.members_of r)) conditioned.spells (candidates_spell e holds r has_list))),
      )
  need_rule e holds (Kind.Shared w) v condition r has_list (is, free, present, asked) q one =
      let rule : Rule.shared w ≡ q = some_one (Rule.shared w) q one in
      subst (λ (y : Rule N S). IsRule same p root y × Spells (origin e.coding.atoms.keys) (need_literals e v condition r) (literals_of same p y)) rule
      (subst (λ y. IsRule same p root (Rule.shared y) × Spells (origin e.coding.atoms.keys) (need_literals e v condition r) (literals_of same p (Rule.shared y))) (sym is) (
        subst (λ y. IsRule same p root (Rule.shared y)) is asked,
        subst (λ c. Spells (origin e.coding.atoms.keys) (need_literals e v c r) (literals_of same p (Rule.shared r))) (sym free)
            (spells_join (origin e.coding.atoms.keys) (no v ∷ []) (literals_in (candidates_in e.lists r)) (minus (Atom.gate r) ∷ []) (candidate_literals same p (alternatives_of p.members_of r))
            (gate_spells e.coding.atoms.keys r v (subst (λ y. Represents e.coding.atoms.keys v (Gate y)) is present)) (candidates_spell e holds r has_list)),
      ))
  need_rule e holds Kind.Root v condition r has_list h q one = absurd h
  need_rule e holds (Kind.Gated s w) v condition r has_list h q one = absurd h
  need_rule e holds (Kind.Limits parent w s) v condition r has_list h q one = absurd h
  need_rule e holds (Kind.LimitsOutside parent w) v condition r has_list h q one = absurd h
  need_rule e holds (Kind.IsOut w s) v condition r has_list h q one = absurd h
  need_rule e holds (Kind.Locked locked s) v condition r has_list h q one = absurd h
  need_rule e holds (Kind.Excluded s why) v condition r has_list h q one = absurd h
  need_rule e holds (Kind.Digit n s place bit) v condition r has_list h q one = absurd h
  need_rule e holds (Kind.IsThere n s) v condition r has_list h q one = absurd h
  need_rule e holds (Kind.Matches w s) v condition r has_list h q one = absurd h
  need_rule e holds Kind.Learnt v condition r has_list h q one = absurd h

  -- the entry of the decision queue for a requires clause
  need_queued : (ls : FixedLists N) (atoms : List (ProofAtom N S)) (x : Kind N S) (v : VariableId) (condition : Option (DenseId DisjunctionTag ℕ)) (r : Requirement) (number : ClauseId) → IsNeed same p root ls atoms x v condition r → IsQueuedFor same p ls atoms (Some x) (record { parent = v; requirement = r; condition = condition; clause = number })
  need_queued ls atoms (Kind.Needs parent need case) v condition r number (is, present, conditioned, listed, cased, matched) = (sym is, conditioned, present)
  need_queued ls atoms (Kind.Shared w) v condition r number (is, free, present, asked) = (sym is, free, present)
  need_queued ls atoms Kind.Root v condition r number h = absurd h
  need_queued ls atoms (Kind.Gated s w) v condition r number h = absurd h
  need_queued ls atoms (Kind.Limits parent w s) v condition r number h = absurd h
  need_queued ls atoms (Kind.LimitsOutside parent w) v condition r number h = absurd h
  need_queued ls atoms (Kind.IsOut w s) v condition r number h = absurd h
  need_queued ls atoms (Kind.Locked locked s) v condition r number h = absurd h
  need_queued ls atoms (Kind.Excluded s why) v condition r number h = absurd h
  need_queued ls atoms (Kind.Digit n s place bit) v condition r number h = absurd h
  need_queued ls atoms (Kind.IsThere n s) v condition r number h = absurd h
  need_queued ls atoms (Kind.Matches w s) v condition r number h = absurd h
  need_queued ls atoms Kind.Learnt v condition r number h = absurd h

  -- a positive literal of a version set of a case is that of a solvable outside it, and its package isn't marked
  outside_set : (atoms : List (ProofAtom N S)) (w : VersionSetId) (l : Signed) (s : S) → IsSetLiteral same exact p w (meaning (origin atoms) l) → Means (origin atoms) l (plus (Atom.solvable s)) → (is_many p (p.set_package w) ≡ false) × (is_outside same p w s ≡ true)
  outside_set atoms w l s (inl (marked, is_held)) m = absurd (both_ways false refl (ap (λ (y : Literal (Atom N S)). y.positive) (sym is_held) ∙ (means_solvable atoms l s m).0))
  outside_set atoms w l s (inr (free, inl is_any)) m = absurd (both_ways false refl (ap (λ (y : Literal (Atom N S)). y.positive) (sym is_any) ∙ (means_solvable atoms l s m).0))
  outside_set atoms w l s (inr (free, inr (t, one, out))) m = (free, subst (λ y. is_outside same p w y ≡ true) (one_solvable t s (ap (λ (y : Literal (Atom N S)). y.atom) (sym one ∙ sym m.1))) out)

  -- a positive literal of a condition is that of a solvable outside a version set of the case
  need_condition : (ls : FixedLists N) (atoms : List (ProofAtom N S)) (x : Kind N S) (v : VariableId) (condition : Option (DenseId DisjunctionTag ℕ)) (r : Requirement) → IsNeed same p root ls atoms x v condition r
      → (l : Signed) (s : S) → has (condition_in ls condition) l ≡ true → Means (origin atoms) l (plus (Atom.solvable s))
      → (parent : Option S) × (need : ConditionalRequirement) × (case : List VersionSetId) × (w : VersionSetId) × (rule_of x ≡ Some (Rule.needs parent need case)) × Contains case w × (is_many p (p.set_package w) ≡ false) × (is_outside same p w s ≡ true)
  need_condition ls atoms (Kind.Needs parent need case) v condition r (is, present, conditioned, listed, cased, matched) l s h m = elim (conditioned.spells.only l h) [
    | inl z ↦ absurd (both_ways false refl (ap (λ (y : Signed). y.positive) (sym z) ∙ (means_solvable atoms l s m).0))
    | inr (other, c) ↦
        let (w, there, which) = in_case same exact p case (meaning (origin atoms) l) c in
        let (free, out) = outside_set atoms w l s which m in
        (parent, need, case, w, refl, there, free, out)
  ]
  need_condition ls atoms (Kind.Shared w) v condition r (is, free, present, asked) l s h m = absurd (both_ways false refl (subst (λ c. has (condition_in ls c) l ≡ true) free h))
  need_condition ls atoms Kind.Root v condition r need l s h m = absurd need
  need_condition ls atoms (Kind.Gated t w) v condition r need l s h m = absurd need
  need_condition ls atoms (Kind.Limits parent w t) v condition r need l s h m = absurd need
  need_condition ls atoms (Kind.LimitsOutside parent w) v condition r need l s h m = absurd need
  need_condition ls atoms (Kind.IsOut w t) v condition r need l s h m = absurd need
  need_condition ls atoms (Kind.Locked locked t) v condition r need l s h m = absurd need
  need_condition ls atoms (Kind.Excluded t why) v condition r need l s h m = absurd need
  need_condition ls atoms (Kind.Digit n t place bit) v condition r need l s h m = absurd need
  need_condition ls atoms (Kind.IsThere n t) v condition r need l s h m = absurd need
  need_condition ls atoms (Kind.Matches w t) v condition r need l s h m = absurd need
  need_condition ls atoms Kind.Learnt v condition r need l s h m = absurd need

  -- the requirement of a need's rule
  asks_need : (ls : FixedLists N) (atoms : List (ProofAtom N S)) (x : Kind N S) (v : VariableId) (condition : Option (DenseId DisjunctionTag ℕ)) (r : Requirement) → IsNeed same p root ls atoms x v condition r → (q : Requirement) → HasClause same p (λ rule. rule_of x ≡ Some rule) q → q ≡ r
  asks_need ls atoms (Kind.Needs parent need case) v condition r (is, present, conditioned, listed, cased, matched) q (inl (other, wanted, vs, e, f)) = f ∙ sym (ap (requirement_in r) (some_one (Rule.needs parent need case) (Rule.needs other wanted vs) e)) ∙ is
  asks_need ls atoms (Kind.Needs parent need case) v condition r h q (inr e) = absurd cc
  asks_need ls atoms (Kind.Shared w) v condition r h q (inl (other, wanted, vs, e, f)) = absurd cc
  asks_need ls atoms (Kind.Shared w) v condition r (is, free, present, asked) q (inr e) = sym (ap (requirement_in r) (some_one (Rule.shared w) (Rule.shared q) e)) ∙ is
  asks_need ls atoms Kind.Root v condition r h q a = absurd h
  asks_need ls atoms (Kind.Gated s w) v condition r h q a = absurd h
  asks_need ls atoms (Kind.Limits parent w s) v condition r h q a = absurd h
  asks_need ls atoms (Kind.LimitsOutside parent w) v condition r h q a = absurd h
  asks_need ls atoms (Kind.IsOut w s) v condition r h q a = absurd h
  asks_need ls atoms (Kind.Locked locked s) v condition r h q a = absurd h
  asks_need ls atoms (Kind.Excluded s why) v condition r h q a = absurd h
  asks_need ls atoms (Kind.Digit n s place bit) v condition r h q a = absurd h
  asks_need ls atoms (Kind.IsThere n s) v condition r h q a = absurd h
  asks_need ls atoms (Kind.Matches w s) v condition r h q a = absurd h
  asks_need ls atoms Kind.Learnt v condition r h q a = absurd h

  -- the place, the literals and the kind of an added clause
  module _ (x : Kind N S) (literals : List Signed) (id : ClauseId) (old new : SolverState N S) (before : IsCoding old) (states : AddsRule x literals id old new) where
    pub added_at : (n : ℕ) → length old.search.clauses ≤ n → n < length new.search.clauses → n ≡ length old.search.clauses
    added_at n low high =
        let long : length new.search.clauses ≡ length old.search.clauses + 1 = ap length states.added ∙ length-append old.search.clauses (states.clause ∷ []) in
        omega arith

    pub added_literals : clause_at (clauses_of new.search) (length old.search.clauses) ≡ literals
    added_literals =
        literals_at new.search.clauses (length old.search.clauses) states.clause (subst (λ (cs : List SatClause). slice_get cs (length old.search.clauses) ≡ Some states.clause) (sym states.added) (get_last old.search.clauses states.clause))
        ∙ states.literals

    pub added_kind : kind_at new.kinds.items (length old.search.clauses) ≡ Some x
    added_kind =
        subst (λ n. slice_get new.kinds.items n ≡ Some x) before.each
        (subst (λ (xs : List (Kind N S)). slice_get xs (length old.kinds.items) ≡ Some x) (sym states.kinds) (get_last old.kinds.items x))

  -- the precondition of a case's clause: its version sets are encoded
  abbrev pub IsReady : Encoder N S → Kind N S → Type 0
  IsReady e x = (parent : Option S) (need : ConditionalRequirement) (case : List VersionSetId) (w : VersionSetId) → rule_of x ≡ Some (Rule.needs parent need case) → Contains case w
      → E.IsSetEncoded same p e w

  -- of a package that isn't marked, the candidates outside an encoded version set are registered
  set_outside : (e : Encoder N S) (w : VersionSetId) → is_many p (p.set_package w) ≡ false → E.IsSetEncoded same p e w → (s : S) → is_outside same p w s ≡ true → Registered same p root e s
  set_outside e w free (inl (unmarked, named, out)) s o = out s o
  set_outside e w free (inr (marked, held)) s o = absurd (both_ways _ free marked)

  -- The clause of a requirement, or of a gate, was added.
  pub need_keeps : (x : Kind N S) (v : VariableId) (condition : Option (DenseId DisjunctionTag ℕ)) (r : Requirement) (old new : Encoder N S) → IsEncoding same p root old → has_candidates old.lists r ≡ true
      → IsNeed same p root old.lists old.coding.atoms.keys x v condition r → IsReady old x → EncodesNeed x v condition r old new → IsEncoding same p root new × ((q : Rule N S) → rule_of x ≡ Some q → E.rules_of new q)
  need_keeps x v condition r old new e has_list need ready new_clause = (carried same exact p root old new e carries, λ q is. (length old.coding.search.clauses, rule_at_kind new.coding.kinds.items (length old.coding.search.clauses) x kind_here ∙ is))
    where
      literals : List Signed
      literals = need_literals old v condition r

      number : new_clause.number.0 ≡ length old.coding.search.clauses
      number = new_clause.states.number

      kind_here : kind_at new.coding.kinds.items (length old.coding.search.clauses) ≡ Some x
      kind_here = added_kind x literals new_clause.number old.coding new.coding e.coding new_clause.states

      literals_here : clause_at (clauses_of new.coding.search) (length old.coding.search.clauses) ≡ literals
      literals_here = added_literals x literals new_clause.number old.coding new.coding e.coding new_clause.states

      place : (n : ℕ) → length old.coding.search.clauses ≤ n → n < length new.coding.search.clauses → n ≡ length old.coding.search.clauses
      place = added_at x literals new_clause.number old.coding new.coding e.coding new_clause.states

      atoms : new.coding.atoms.keys ≡ old.coding.atoms.keys
      atoms = ap (λ a. a.keys) new_clause.states.atoms

      tracked : (m : N) (u : VariableId) → IsTracked old.registry m u → IsTracked new.registry m u
      tracked m u h = subst (λ t. IsTracked t m u) (sym new_clause.registry) h

      candidate : (n : N) (s : S) (c : Candidate N) → IsCandidate old n s c → IsCandidate new n s c
      candidate n s c h = candidate_grows same exact p root old new n s c new_clause.states.grows tracked h

      positive : (l : Signed) (s : S) → has literals l ≡ true → Means (origin new.coding.atoms.keys) l (plus (Atom.solvable s)) → Registered same p root new s
      positive l s h m = elim (has-cons (no v) (condition_in old.lists condition ++ literals_in (candidates_in old.lists r)) l h) [
        | inl is ↦ absurd (both_ways false refl (ap (λ (y : Signed). y.positive) is ∙ (means_solvable new.coding.atoms.keys l s m).0))
        | inr a ↦ elim (has-append (condition_in old.lists condition) (literals_in (candidates_in old.lists r)) l a) [
          | inl b ↦ (let (parent, wanted, case, w, states, there, free, out) = need_condition old.lists old.coding.atoms.keys x v condition r need l s b (subst (λ ks. Means (origin ks) l (plus (Atom.solvable s))) atoms m) in
              registered_stays same exact p root old new (p.package_of s) s new_clause.states.grows tracked (set_outside old w free (ready parent wanted case w states there) s out))
          | inr b ↦ chosen l s b m
        ]
      ]
        where
          chosen : (l : Signed) (s : S) → has (literals_in (candidates_in old.lists r)) l ≡ true → Means (origin new.coding.atoms.keys) l (plus (Atom.solvable s)) → Registered same p root new s
          chosen l s a m =
              let (c, present, one) = literal_in (candidates_in old.lists r) l a in
              let (t, fits, meets_it) = e.listed r c present in
              let fits_new = candidate (p.package_of t) t c fits in
              let here : Represents new.coding.atoms.keys c.literal.variable (Solvable s) = subst (λ (y : Signed). Represents new.coding.atoms.keys y.variable (Solvable s)) (sym one) (means_solvable new.coding.atoms.keys l s m).1 in
              let same_solvable : t ≡ s = some_one t s (sym (solvable_represents new.coding.atoms.keys c.literal.variable t fits_new.present) ∙ solvable_represents new.coding.atoms.keys c.literal.variable s here) in
              subst (λ y. Registered same p root new y) same_solvable (c.literal.variable, fits_new.present, fits_new.tracked)

      right : AddedClause same exact p root new (length old.coding.search.clauses)
      right = record {
        kinds = x;
        at = kind_here;
        rule = λ q is. (let (rule, spells) = need_rule old e x v condition r has_list need q is in (rule, subst (λ (cl : List Signed). Spells (origin new.coding.atoms.keys) cl (literals_of same p q)) (sym literals_here) (subst (λ ks. Spells (origin ks) literals (literals_of same p q)) (sym atoms) spells)));
        positive = λ l s h m. positive l s (subst (λ (cl : List Signed). has cl l ≡ true) literals_here h) m;
      }

      lists_same : (q : Requirement) → has_candidates old.lists q ≡ true → has_candidates new.lists q ≡ true
      lists_same q h = subst (λ ls. has_candidates ls q ≡ true) (sym new_clause.lists) h

      same_rule : (n : ℕ) (q : Rule N S) → length old.coding.search.clauses ≤ n → n < length new.coding.search.clauses → rule_at new.coding.kinds.items n ≡ Some q → rule_of x ≡ Some q
      same_rule n q low high at = sym (rule_at_kind new.coding.kinds.items (length old.coding.search.clauses) x kind_here) ∙ subst (λ k. rule_at new.coding.kinds.items k ≡ Some q) (place n low high) at

      fixed : (q : Requirement) → HasClause same p (E.rules_of new) q → has_candidates new.lists q ≡ true
      fixed q (inl (parent, wanted, vs, present, is)) = elim (rules_split old.coding new.coding e.coding new_clause.states.coding new_clause.states.grows (Rule.needs parent wanted vs) present) [
        | inl a ↦ lists_same q (e.fixed q (inl (parent, wanted, vs, a, is)))
        | inr (n, low, high, at) ↦ lists_same q (subst (λ y. has_candidates old.lists y ≡ true) (sym (asks_need old.lists old.coding.atoms.keys x v condition r need q (inl (parent, wanted, vs, same_rule n (Rule.needs parent wanted vs) low high at, is)))) has_list)
      ]
      fixed q (inr present) = elim (rules_split old.coding new.coding e.coding new_clause.states.coding new_clause.states.grows (Rule.shared q) present) [
        | inl a ↦ lists_same q (e.fixed q (inr a))
        | inr (n, low, high, at) ↦ lists_same q (subst (λ y. has_candidates old.lists y ≡ true) (sym (asks_need old.lists old.coding.atoms.keys x v condition r need q (inr (same_rule n (Rule.shared q) low high at)))) has_list)
      ]

      next : NeedClause
      next = record { parent = v; requirement = r; condition = condition; clause = new_clause.number }

      lists_prefix : IsPrefixOf old.lists.disjunctions new.lists.disjunctions
      lists_prefix = prefix_lists same exact p root lawful old new new_clause.lists

      next_queued : IsQueuedFor same p new.lists new.coding.atoms.keys (Some x) next
      next_queued = queued_grows same p old.lists new.lists old.coding new.coding lists_prefix new_clause.states.grows (Some x) next (need_queued old.lists old.coding.atoms.keys x v condition r new_clause.number need)

      queued : (q : NeedClause) → Contains (needs_of new.queue) q → IsQueuedFor same p new.lists new.coding.atoms.keys (kind_at new.coding.kinds.items q.clause.0) q
      queued q h = elim (contains_parts q (needs_of old.queue) (next ∷ []) (subst (λ qs. Contains qs q) new_clause.queue h)) [
        | inl a ↦ queued_keeps same exact p root lawful old new e new_clause.states.grows lists_prefix q a
        | inr a ↦ subst (λ y. IsQueuedFor same p new.lists new.coding.atoms.keys (kind_at new.coding.kinds.items y.clause.0) y) (sym (contains_one q next a))
            (subst (λ (o : Option (Kind N S)). IsQueuedFor same p new.lists new.coding.atoms.keys o next) (sym (ap (λ n. kind_at new.coding.kinds.items n) number ∙ kind_here)) next_queued)
      ]

      cased : (parent : Option S) (wanted : ConditionalRequirement) (case : List VersionSetId) (w : VersionSetId) → E.rules_of new (Rule.needs parent wanted case) → Contains case w
          → E.IsSetEncoded same p new w
      cased parent wanted case w present h = elim (rules_split old.coding new.coding e.coding new_clause.states.coding new_clause.states.grows (Rule.needs parent wanted case) present) [
        | inl a ↦ cased_stays same exact p root old new e.cases new_clause.states.grows new_clause.recorded tracked parent wanted case w a h
        | inr (n, low, high, at) ↦ set_stays same exact p root old new w new_clause.states.grows (λ m a. subst (λ (y : EncodedOnce N S). E.IsNamed y m) (sym new_clause.recorded) a) (λ v a. subst (λ (y : EncodedOnce N S). Contains y.matches.keys v) (sym new_clause.recorded) a)
            tracked (ready parent wanted case w (same_rule n (Rule.needs parent wanted case) low high at) h)
      ]

      no_digit : (m : N) (t : S) (at bit : ℕ) → x ≡ Kind.Digit m t at bit → ⊥
      no_digit m t at bit is = subst (λ (y : Kind N S). IsNeed same p root old.lists old.coding.atoms.keys y v condition r) is need

      carries : Carries same exact p root old new
      carries = record {
        coding = new_clause.states.coding;
        grows = new_clause.states.grows;
        trail = new_clause.states.trail;
        tied = subst (λ t. AreTied t new.coding) (sym new_clause.registry) (ties_grow old.registry old.coding new.coding new_clause.states.grows (digits_more x old.coding new.coding new_clause.states.kinds no_digit) e.tied);
        keeps = tracked;
        registered = λ n s (u, present, there). inl (u, subst (λ ks. Represents ks u (Solvable s)) atoms present, subst (λ t. IsTracked t n u) new_clause.registry there);
        new_clause = λ n low high. subst (λ k. AddedClause same exact p root new k) (sym (place n low high)) right;
        lists = λ q h. ap (λ ls. slot_of ls.candidates q) new_clause.lists;
        listed = λ q c a. (let (s, fits, m) = e.listed q c (subst (λ ls. Contains (candidates_in ls q) c) new_clause.lists a) in (s, candidate (p.package_of s) s c fits, m));
        offered = λ q s h m. (let (c, a, fits) = e.offered q s (subst (λ ls. has_candidates ls q ≡ true) new_clause.lists h) m in (c, subst (λ ls. Contains (candidates_in ls q) c) (sym new_clause.lists) a, candidate (p.package_of s) s c fits));
        fixed = fixed;
        queued = queued;
        asked = λ n q at a. elim (rule_split old.coding new.coding e.coding new_clause.states.coding new_clause.states.grows n q at) [
          | inl b ↦ (let (y, c, d) = e.asked n q b a in (y, subst (λ qs. Contains qs y) (sym new_clause.queue) (contains_left y (needs_of old.queue) (next ∷ []) c), d))
          | inr (low, high) ↦ (next, subst (λ qs. Contains qs next) (sym new_clause.queue) (contains_right next (needs_of old.queue) (next ∷ []) (contains_only next)), number ∙ sym (place n low high))
        ];
        gates = gates_keep same exact p root lawful old new e new_clause.states.grows new_clause.gates;
        forbid = guards_keep same exact p root lawful old new e new_clause.states.grows new_clause.lists;
        recorded = recorded_grows same exact p root old new new_clause.states.grows new_clause.recorded e.recorded;
        softs = ap (λ (x : EncodedOnce N S). x.softs.items) new_clause.recorded;
        cases = cases_keep same exact p root old new e.cases new_clause.states.grows new_clause.deferred new_clause.fired new_clause.recorded cased (at_least_one_keeps same exact p root lawful old new e.cases new_clause.states.grows new_clause.recorded new_clause.registry (registered_before same exact p root lawful old new e.tied new_clause.states.grows new_clause.registry));
        marks = marks_stay same exact p root old new (ap (λ (t : Registry N). t.many) new_clause.registry) (λ n a. subst (λ (x : EncodedOnce N S). Contains x.packages.keys n) new_clause.recorded a) (λ n s a. inl (registered_before same exact p root lawful old new e.tied new_clause.states.grows new_clause.registry n s a)) e.marks;
        within = within_keeps same exact p root lawful old new e new_clause.parents new_clause.encoded;
        encoded = encoded_keeps same exact p root lawful old new e new_clause.states.grows new_clause.parents new_clause.encoded new_clause.deferred;
      }

  -- a requirement without condition is encoded for the empty case
  plain_need : (e : Encoder N S) (parent : Option S) (need : ConditionalRequirement) (v : VariableId) → Needs same p root parent need → IsParentVariable e.coding.atoms.keys parent v
      → IsNeed same p root e.lists e.coding.atoms.keys (Kind.Needs parent need []) v None need.requirement
  plain_need e parent need v needs present = (
    refl,
    present,
    record {
      there = tt;
      in_range = λ l h. absurd (both_ways false refl h);
      spells = record { only = λ l h. absurd (both_ways false refl h); each = λ m h. absurd (contains_none m h) };
    },
    needs.listed,
    subst (λ c. Contains (cases_under p.condition_of c) []) (sym needs.free) (contains_only []),
    λ w h. absurd (contains_none w h),
  )

  -- the clause of a parent's requirement without condition was added
  pub needed_keeps : (parent : Option S) (need : ConditionalRequirement) (v : VariableId) (old new : Encoder N S) → IsEncoding same p root old → has_candidates old.lists need.requirement ≡ true
      → IsParentVariable old.coding.atoms.keys parent v → Needs same p root parent need → NeedsDirectly parent need.requirement v old new → IsEncoding same p root new × E.rules_of new (Rule.needs parent need [])
  needed_keeps parent need v old new e has_list present needs new_clause =
      let (keeps, rules) = need_keeps (Kind.Needs parent need []) v None need.requirement old new e has_list (plain_need old parent need v needs present) ready free_clause in
      (keeps, rules (Rule.needs parent need []) refl)
    where
      free_clause : EncodesNeed (Kind.Needs parent need []) v None need.requirement old new
      free_clause = subst (λ (c : Option ConditionId). EncodesNeed (Kind.Needs parent (record { condition = c; requirement = need.requirement }) []) v None need.requirement old new) (sym needs.free) new_clause

      ready : IsReady old (Kind.Needs parent need [])
      ready who wanted vs w states h = let which : [] ≡ vs = cc in absurd (contains_none w (subst (λ xs. Contains xs w) (sym which) h))

  -- the clause of a gate has no case
  pub shared_ready : (e : Encoder N S) (r : Requirement) → IsReady e (Kind.Shared r)
  shared_ready e r who wanted vs w states h = absurd cc

  -- A clause that encodes a rule was added, with the rule's literals. None of these is a positive
  -- literal of a solvable, and the rule isn't one of a requires clause or a digit.
  pub clause_keeps : (x : Kind N S) (rule : Rule N S) (literals : List Signed) (id : ClauseId) (old new : Encoder N S) → IsEncoding same p root old → rule_of x ≡ Some rule → IsRestraint rule → IsRule same p root rule
      → Spells (origin old.coding.atoms.keys) literals (literals_of same p rule) → AddsRule x literals id old.coding new.coding → SameButCoding old new → IsEncoding same p root new × E.rules_of new rule
  clause_keeps x rule literals id old new e encodes_rule denial is_rule spells states rest = (carried same exact p root old new e carries, (length old.coding.search.clauses, rule_here))
    where
      kind_here : kind_at new.coding.kinds.items (length old.coding.search.clauses) ≡ Some x
      kind_here = added_kind x literals id old.coding new.coding e.coding states

      rule_here : rule_at new.coding.kinds.items (length old.coding.search.clauses) ≡ Some rule
      rule_here = rule_at_kind new.coding.kinds.items (length old.coding.search.clauses) x kind_here ∙ encodes_rule

      literals_here : clause_at (clauses_of new.coding.search) (length old.coding.search.clauses) ≡ literals
      literals_here = added_literals x literals id old.coding new.coding e.coding states

      place : (n : ℕ) → length old.coding.search.clauses ≤ n → n < length new.coding.search.clauses → n ≡ length old.coding.search.clauses
      place = added_at x literals id old.coding new.coding e.coding states

      atoms : new.coding.atoms.keys ≡ old.coding.atoms.keys
      atoms = ap (λ a. a.keys) states.atoms

      spells_new : Spells (origin new.coding.atoms.keys) literals (literals_of same p rule)
      spells_new = subst (λ ks. Spells (origin ks) literals (literals_of same p rule)) (sym atoms) spells

      no_solvable : (l : Signed) (t : S) → has literals l ≡ true → Means (origin new.coding.atoms.keys) l (plus (Atom.solvable t)) → ⊥
      no_solvable l t h m = elim (spells_new.only l h) [
        | inl z ↦ both_ways false refl (ap (λ (y : Signed). y.positive) (sym z) ∙ (means_solvable new.coding.atoms.keys l t m).0)
        | inr (z, c) ↦ makes_none same p rule denial t (subst (Contains (literals_of same p rule)) (sym m.1) c)
      ]

      right : AddedClause same exact p root new (length old.coding.search.clauses)
      right = record {
        kinds = x;
        at = kind_here;
        rule = λ q is. (let one : rule ≡ q = some_one rule q (sym encodes_rule ∙ is) in
            subst (λ (y : Rule N S). IsRule same p root y × Spells (origin new.coding.atoms.keys) (clause_at (clauses_of new.coding.search) (length old.coding.search.clauses)) (literals_of same p y)) one
            (is_rule, subst (λ (cl : List Signed). Spells (origin new.coding.atoms.keys) cl (literals_of same p rule)) (sym literals_here) spells_new));
        positive = λ l t h m. absurd (no_solvable l t (subst (λ (cl : List Signed). has cl l ≡ true) literals_here h) m);
      }

      none : NoneAsks same exact p root lawful old new
      none n q low high at a =
          let one : rule ≡ q = some_one rule q (sym rule_here ∙ subst (λ k. rule_at new.coding.kinds.items k ≡ Some q) (place n low high) at) in
          asks_none rule denial (subst IsRequiresRule (sym one) a)

      carries : Carries same exact p root old new
      carries = kept_carries same exact p root lawful old new e states.coding states.grows states.trail rest (λ n low high. subst (λ k. AddedClause same exact p root new k) (sym (place n low high)) right) none
          (digits_more x old.coding new.coding states.kinds (not_digit x rule encodes_rule denial))

  -- a requirement that some solvable has without condition may have a gate
  pub needed_asks : (s : S) (need : ConditionalRequirement) → Contains (rules_for same p root (Some s)).requirements need → need.condition ≡ None → has_plain_need (rules_of (p.dependencies_of s)).requirements need.requirement ≡ true
  needed_asks s need listed free =
      contained_any (λ (n : ConditionalRequirement). not (has_condition n.condition) && same_requirement need.requirement n.requirement) need (rules_of (p.dependencies_of s)).requirements listed
      (ap (λ c. not (has_condition c) && same_requirement need.requirement need.requirement) free ∙ same_requirement-self need.requirement)

  -- the clause from a solvable to a gate was added
  pub gated_keeps : (s : S) (v gate : VariableId) (need : ConditionalRequirement) (id : ClauseId) (old new : Encoder N S) → IsEncoding same p root old
      → Contains (rules_for same p root (Some s)).requirements need → need.condition ≡ None → Represents old.coding.atoms.keys v (Solvable s) → Represents old.coding.atoms.keys gate (Gate need.requirement)
      → AddsRule (Kind.Gated s need.requirement) (no v ∷ yes gate ∷ []) id old.coding new.coding → SameButCoding old new
      → IsEncoding same p root new × E.rules_of new (Rule.gated s need.requirement)
  gated_keeps s v gate need id old new e listed free present opens states rest =
      clause_keeps (Kind.Gated s need.requirement) (Rule.gated s need.requirement) (no v ∷ yes gate ∷ []) id old new e refl tt (needed_asks s need listed free)
      (pair_spells (origin old.coding.atoms.keys) (no v) (yes gate) (no v ∷ yes gate ∷ []) (minus (Atom.solvable s) ∷ []) (plus (Atom.gate need.requirement) ∷ []) (inl refl)
      (inr (minus (Atom.solvable s), refl, means_atom old.coding.atoms.keys (no v) (Solvable s) present)) (inr (plus (Atom.gate need.requirement), refl, means_atom old.coding.atoms.keys (yes gate) (Gate need.requirement) opens)))
      states rest

  -- a variable was added, or nothing
  pub gives_keeps : (a : ProofAtom N S) (v : VariableId) (old new : Encoder N S) → IsEncoding same p root old → Gives a v old.coding new.coding → SameButCoding old new → IsEncoding same p root new
  gives_keeps a v old new e gives rest = carried same exact p root old new e
      (kept_carries same exact p root lawful old new e gives.coding gives.grows gives.trail rest (λ n low high. absurd (nothing n low high)) (λ n q low high at b. nothing n low high) (digits_same old.coding new.coding gives.kinds))
    where
      nothing : (n : ℕ) → length old.coding.search.clauses ≤ n → n < length new.coding.search.clauses → ⊥
      nothing n low high = let same_length : length new.coding.search.clauses ≡ length old.coding.search.clauses = ap length gives.clauses in omega arith

  -- a gate is recorded, whose clause was added
  pub gate_recorded : (old new : Encoder N S) (r : Requirement) (v : VariableId) → IsEncoding same p root old → Represents old.coding.atoms.keys v (Gate r) → E.rules_of old (Rule.shared r)
      → PutsAt old.gates new.gates r v → new ≡ record old { gates = new.gates } → IsEncoding same p root new
  gate_recorded old new r v e present rule puts is = subst (λ (x : Encoder N S). IsEncoding same p root x) (sym is) (record {
    coding = e.coding;
    tied = e.tied;
    spelled = e.spelled;
    rule = e.rule;
    positive = e.positive;
    named = e.named;
    candidates = e.candidates;
    listed = λ q c a. (let (s, fits, m) = e.listed q c a in (s, record { positive = fits.positive; present = fits.present; tracked = fits.tracked }, m));
    offered = λ q s h m. (let (c, a, fits) = e.offered q s h m in (c, a, record { positive = fits.positive; present = fits.present; tracked = fits.tracked }));
    fixed = e.fixed;
    queued = e.queued;
    asked = e.asked;
    forbid = e.forbid;
    recorded = record { packages = e.recorded.packages; version_sets = e.recorded.version_sets; matches = e.recorded.matches };
    marks = record { right = e.marks.right; registered = e.marks.registered; recorded = e.marks.recorded };
    cases = cases_keep same exact p root old (record old { gates = new.gates }) e.cases (grows_same old.coding) refl refl refl e.cases.cased e.cases.at_least_one;
    gates = λ q u at. elim (put_other old.gates new.gates r q v puts) [
      | inl same_one ↦ (let one : v ≡ u = some_one v u (sym (ap (slot_of new.gates) same_one ∙ put_at old.gates new.gates r v puts) ∙ at) in
          (subst (λ y. Represents old.coding.atoms.keys u (Gate y)) (sym same_one) (subst (λ w. Represents old.coding.atoms.keys w (Gate r)) one present), subst (λ y. E.rules_of old (Rule.shared y)) (sym same_one) rule))
      | inr stays ↦ e.gates q u (sym stays ∙ at)
    ];
    within = e.within;
    encoded = encoded_keeps same exact p root lawful old (record old { gates = new.gates }) e (grows_same old.coding) refl refl refl;
    wished = e.wished;
    called = e.called;
  })

  -- The first encoding satisfies the invariant for any packages.
  pub begun_encodes : (e : Encoder N S) → IsBegunEncoding e → IsEncoding same p root e
  begun_encodes e b = record {
    coding = b.coding.coding;
    tied = nothing_tied e.registry e.coding b.registry b.coding.kinds;
    spelled = λ n r h. absurd (no_rule n r h);
    rule = λ r (n, h). absurd (no_rule n r h);
    positive = λ n l s h (other, m). absurd (rootless n l h other);
    named = λ n s (v, present, tracked). absurd (no_tracker v tracked);
    candidates = λ s (v, present, tracked). absurd (no_tracker v tracked);
    listed = λ r c h. absurd (contains_none c (subst (λ o. Contains (list_or_none o) c) (b.lists.candidates r) h));
    offered = λ r s h m. absurd (both_ways false refl (sym (ap is_some (b.lists.candidates r)) ∙ h));
    fixed = λ r h. absurd (elim h [ inl (parent, need, case, (n, at), is) ↦ no_rule n (Rule.needs parent need case) at | inr (n, at) ↦ no_rule n (Rule.shared r) at ]);
    queued = λ q h. absurd (contains_none q (subst (λ qs. Contains qs q) b.queue.registered h));
    asked = λ n r h a. absurd (no_rule n r h);
    gates = λ r v at. absurd (none_some v (sym (b.gates r) ∙ at));
    within = (let none : e.encoded ≡ 0 = b.encoded in omega arith);
    forbid = λ r h. absurd (both_ways false refl (sym (ap is_some (b.lists.candidates r)) ∙ h));
    recorded = record {
      packages = λ n s a barred. absurd (contains_none n (subst (λ (ks : List N). Contains ks n) b.packages a));
      version_sets = λ v s a outside. absurd (contains_none v (subst (λ (ks : List VersionSetId). Contains ks v) b.version_sets a));
      matches = λ v s a matching. absurd (contains_none v (subst (λ (ks : List VersionSetId). Contains ks v) b.matches a));
    };
    marks = record {
      right = λ n a. absurd (contains_none n (subst (λ (ks : List N). Contains ks n) b.registry.many a));
      registered = λ n s (v, present, tracked) m. absurd (no_tracker v tracked);
      recorded = λ n a m. absurd (contains_none n (subst (λ (ks : List N). Contains ks n) b.packages a));
    };
    cases = record {
      waiting = λ i d at. absurd (no_deferred i d at);
      places = λ i h. absurd (contains_none i (subst (λ (ks : List ℕ). Contains ks i) b.fired h));
      fired = λ i d h at. absurd (no_deferred i d at);
      cased = λ parent need case v (n, at) h. absurd (no_rule n (Rule.needs parent need case) at);
      at_least_one = λ n s h a. absurd (contains_none n (subst (λ (ks : List N). Contains ks n) b.at_least_one h));
      there = λ s h. absurd (contains_none s (subst (λ (ks : List S). Contains ks s) b.there h));
    };
    encoded = λ i parent below at. (let none : e.encoded ≡ 0 = b.encoded in absurd (omega arith));
    wished = λ s h. absurd (contains_none s (subst (λ (ks : List S). Contains ks s) b.softs h));
    called = λ x older present is other. absurd (no_choice x older present other);
  }
    where
      none_some : (v : VariableId) → None ≡ Some v → ⊥
      none_some v h = absurd cc

      no_deferred : (i : ℕ) (d : Deferred S) → slice_get e.deferred.items i ≡ Some d → ⊥
      no_deferred i d at = contains_none d (subst (λ (ds : List (Deferred S)). Contains ds d) b.deferred (get_contains e.deferred.items i d at))

      no_rule : (n : ℕ) (r : Rule N S) → rule_at e.coding.kinds.items n ≡ Some r → ⊥
      no_rule n r h = go n (subst (λ (xs : List (Kind N S)). rule_at xs n ≡ Some r) b.coding.kinds h)
        where
          go : (k : ℕ) → rule_at (Kind.Root ∷ []) k ≡ Some r → ⊥
          go zero f = absurd cc
          go (suc k) f = absurd cc

      no_tracker : {m : N} (v : VariableId) → IsTracked e.registry m v → ⊥
      no_tracker {m} v t = contains_none (member m v) (subst (λ (xs : List (Member N)). Contains xs (member m v)) b.registry.members t)

      rootless : (n : ℕ) (l : Signed) → has (clause_at (clauses_of e.coding.search) n) l ≡ true → 0 < l.variable.0 → ⊥
      rootless n l h other = go e.coding.search.clauses b.coding.clause n h
        where
          go : (cs : List SatClause) → IsRootClause cs → (k : ℕ) → has (clause_at (lists cs) k) l ≡ true → ⊥
          go [] r k f = absurd r
          go (c ∷ d ∷ cs) r k f = absurd r
          go (c ∷ []) (is, none) zero f = elim (has-cons (yes root_variable) [] l (subst (λ (x : List Signed). has x l ≡ true) is f)) [
            | inl i ↦ let z : l.variable.0 ≡ 0 = ap (λ (y : Signed). y.variable.0) (sym i) in omega arith
            | inr g ↦ both_ways false refl g
          ]
          go (c ∷ []) r (suc k) f = both_ways false refl f

      no_choice : (x : Entry) (older : List Entry) → IsOnTrail (history e.coding.search) x older → 0 < x.decision.variable.0 → ⊥
      no_choice x older present other = go (subst (λ (t : List Entry). IsOnTrail (reverse t) x older) b.coding.trail present)
        where
          go : IsOnTrail (root_entry ∷ []) x older → ⊥
          go (inl (is, rest)) = let z : x.decision.variable.0 ≡ 0 = ap (λ (y : Entry). y.decision.variable.0) (sym is) in omega arith
          go (inr f) = f

pub need_extends : {N S : Type 0} (x : Kind N S) (v : VariableId) (condition : Option (DenseId DisjunctionTag ℕ)) (r : Requirement) (old new : Encoder N S) → EncodesNeed x v condition r old new → Extends old new
need_extends {N = N} {S = S} x v condition r old new s = record { grows = s.states.grows; trail = s.states.trail; softs = ap (λ (x : EncodedOnce N S). x.softs.items) s.recorded; parents = s.parents; encoded = s.encoded; deferred = s.deferred; fired = s.fired }
