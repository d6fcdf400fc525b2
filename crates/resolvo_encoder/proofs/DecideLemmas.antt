-- The next decision is one of the queue's clauses', and justified.
use Rattle.std.proofs.Common.{◌≡◌, ℕ, ◌⊎◌, inl, inr, Bool, true, false, not, cond, List, [], ◌∷◌, Option, Some, None, option_map, find, reverse, ◌++◌, refl, sym, ◌∙◌, ap, subst}
use Rattle.std.specs.Prelude.{Contains}
use Rattle.std.specs.List.{list_any}
use Rattle.std.proofs.Math.Bool.{beq}
use Rattle.std.proofs.lemmas.Bool.{both_ways, cases_Bool, and_parts}
use Rattle.resolvo_pool_core.specs.declared.id.DenseId.{DenseId}
use Rattle.resolvo_pool_core.specs.declared.id.DisjunctionTag.{DisjunctionTag}
use Rattle.resolvo_pool_core.specs.declared.id.VersionSetId.{VersionSetId}
use Rattle.resolvo_pool_core.specs.OnePass.{Literal, negate}
use Rattle.resolvo_pool_core.specs.declared.requirement.Requirement.{Requirement}
use Rattle.resolvo_pool_core.specs.RuleKeeping.{Packages, Rules, meets}
use Rattle.resolvo_store_core.specs.Signed.{Signed, negation, has, value_under, is_true, is_false, is_open}
use Rattle.resolvo_store_core.specs.Clauses.{yes, no}
use Rattle.resolvo_store_core.specs.Lists.{Named, named_by, candidates_in, condition_in}
use Rattle.resolvo_store_core.specs.Pick.{beats, later, is_eligible_by, decision_for, offer_of, offer_by, pick_after_by, pick_by}
use Rattle.resolvo_store_core.specs.declared.lists.Candidate.{Candidate}
use Rattle.resolvo_store_core.specs.declared.pick.NeedClause.{NeedClause}
use Rattle.resolvo_store_core.specs.declared.pick.NextDecision.{NextDecision}
use Rattle.resolvo_pool_core.specs.declared.id.VariableId.{VariableId}
use Rattle.resolvo_decide.specs.Queue.{needs_of}
use Rattle.resolvo_sat.specs.Known.{IsUndecided}
use Rattle.resolvo_pool_core.specs.Slots.{at}
use Rattle.resolvo_store_core.specs.Trail.{assigned}
use Rattle.resolvo_store_core.specs.Values.{value_at}
use Rattle.resolvo_store_core.specs.declared.decision.Entry.{Entry}
use Rattle.resolvo_store_core.specs.declared.decision_map.Assignment.{Assignment}
use Rattle.resolvo_sat.specs.Entries.{made_true, IsTrail}
use Rattle.resolvo_sat.proofs.Values.{true_is}
use Rattle.resolvo_sat.specs.State.{history}
use Rattle.resolvo_sat.specs.RuleClauses.{IsExact, Atom, Rule, plus, minus, case_literals}
use Rattle.resolvo_sat.specs.SearchEnd.{AreFalse, IsTrueParent, HasClause, IsAsked, IsCalledFor}
use Rattle.resolvo_sat.specs.First.{IsFirstPick}
use Rattle.resolvo_sat.specs.Numbered.{meaning, Means, known_of, AreCalledFor}
use Rattle.resolvo_sat.proofs.FirstLemmas.{first_called_for}
use Rattle.resolvo_sat.proofs.Lists.{contains_none, contains_first, contains_later, contains_left, contains_right, contains_cases, any_contained, none_contained}
use Rattle.resolvo_sat.proofs.Meanings.{meaning_in}
use Rattle.resolvo_state.specs.declared.atom.ProofAtom.{ProofAtom}
use Rattle.resolvo_state.specs.declared.atom.ProofAtom.TheVariants.{Solvable, Gate}
use Rattle.resolvo_state.specs.Kinds.{Kind}
use Rattle.resolvo_state.specs.Atoms.{atom_of, origin, Represents}
use Rattle.resolvo_state.specs.ClauseKinds.{kind_at}
use Rattle.resolvo_state.proofs.Rules.{rule_at_kind}
use Rattle.resolvo_state.proofs.Origins.{means_atom, solvable_means, solvable_represents}
use Rattle.resolvo_encoder.specs.Encoded.{IsParentVariable, IsCondition, AreCandidates, HasOrder, IsQueuedFor, IsEncoding}
use Rattle.resolvo_encoder.specs.Encoded as E
use Rattle.resolvo_encoder.specs.TurnLevels.{AreValues}
use Rattle.resolvo_encoder.proofs.ConditionLemmas.{all_has}
use Rattle.resolvo_encoder.proofs.PickLemmas.{candidate_of, found_first, listed_at, some_same}
use Rattle.resolvo_encoder.specs.declared.encoder.Encoder.{Encoder}

-- ---- the clause of a decision

-- the later of two is one of them
later_one : (best next : Option NextDecision) (d : NextDecision) → later best next ≡ Some d → (best ≡ Some d) ⊎ (next ≡ Some d)
later_one None next d h = inr h
later_one (Some b) None d h = inl h
later_one (Some b) (Some n) d h = go (beats n b) h
  where
    go : (t : Bool) → cond t (Some n) (Some b) ≡ Some d → (Some b ≡ Some d) ⊎ (Some n ≡ Some d)
    go true e = inr e
    go false e = inl e

later_none : (best next : Option NextDecision) → later best next ≡ None → (best ≡ None) × (next ≡ None)
later_none None next h = (refl, h)
later_none (Some b) None h = absurd cc
later_none (Some b) (Some n) h = go (beats n b) h
  where
    go : (t : Bool) → cond t (Some n) (Some b) ≡ None → (Some b ≡ None) × (Some n ≡ None)
    go true e = absurd cc
    go false e = absurd cc

module _ {N : Type 0} (names : Named N) (values : ℕ → Option Bool) (score : N → ℕ) where
  picked_after : (best : Option NextDecision) (rs : List NeedClause) (d : NextDecision) → pick_after_by names values score best rs ≡ Some d
      → (best ≡ Some d) ⊎ ((q : NeedClause) × Contains rs q × (offer_by names values score q ≡ Some d))
  picked_after best [] d h = inl h
  picked_after best (r ∷ rs) d h = elim (picked_after (later best (offer_by names values score r)) rs d h) [
    | inr (q, a, e) ↦ inr (q, contains_later q r rs a, e)
    | inl e ↦ elim (later_one best (offer_by names values score r) d e) [ inl a ↦ inl a | inr a ↦ inr (r, contains_first r r rs refl, a) ]
  ]

  none_after : (best : Option NextDecision) (rs : List NeedClause) → pick_after_by names values score best rs ≡ None
      → (best ≡ None) × ((q : NeedClause) → Contains rs q → offer_by names values score q ≡ None)
  none_after best [] h = (h, λ q a. absurd (contains_none q a))
  none_after best (r ∷ rs) h =
      let (first, rest) = none_after (later best (offer_by names values score r)) rs h in
      let (old, here) = later_none best (offer_by names values score r) first in
      (old, λ q a. elim (contains_cases q r rs a) [ inl e ↦ ap (offer_by names values score) e ∙ here | inr b ↦ rest q b ])

  -- a decision is one of some clause of the queue
  pub picked : (rs : List NeedClause) (d : NextDecision) → pick_by names values score rs ≡ Some d → (q : NeedClause) × Contains rs q × (offer_by names values score q ≡ Some d)
  picked rs d h = elim (picked_after None rs d h) [ inl e ↦ absurd cc | inr a ↦ a ]

  -- without a decision no clause of the queue has anything to decide
  pub none_picked : (rs : List NeedClause) → pick_by names values score rs ≡ None → (q : NeedClause) → Contains rs q → offer_by names values score q ≡ None
  none_picked rs h = (none_after None rs h).1

-- ---- the decision of a clause

map_some : {X Y : Type 0} (f : X → Y) (o : Option X) (y : Y) → option_map f o ≡ Some y → (x : X) × (o ≡ Some x) × (f x ≡ y)
map_some f None y h = absurd cc
map_some f (Some x) y h = (x, refl, cc)

module _ {N : Type 0} (names : Named N) (values : ℕ → Option Bool) (score : N → ℕ) where
  -- the decision is for the first undecided one of the candidates, of which none before it is true
  pub record IsForFirst (cs : List (Candidate N)) (d : NextDecision) : Type 0 where
    pub candidate : Candidate N
    pub before : List (Candidate N)
    pub after : List (Candidate N)
    pub splits : cs ≡ before ++ candidate ∷ after
    pub undecided : is_open (value_under values candidate.literal) ≡ true
    pub passed : (c : Candidate N) → Contains before c → (is_open (value_under values c.literal) ≡ false) × (is_true (value_under values c.literal) ≡ false)
    pub is : candidate.literal.variable ≡ d.candidate

  offer_opens : (q : NeedClause) (d : NextDecision) (cs : List (Candidate N)) → offer_of names values score q cs ≡ Some d → IsForFirst cs d
  offer_opens q d cs h = go (list_any (λ c. is_true (value_under values c.literal)) cs) refl h
    where
      go : (b : Bool) → list_any (λ c. is_true (value_under values c.literal)) cs ≡ b → cond b None (option_map (decision_for names values score q cs) (find (λ c. is_open (value_under values c.literal)) cs)) ≡ Some d → IsForFirst cs d
      go true none e = absurd cc
      go false none e =
          let (c, at, is) = map_some (decision_for names values score q cs) (find (λ c. is_open (value_under values c.literal)) cs) d e in
          let (before, after, splits, opens, passed) = found_first (λ (x : Candidate N). is_open (value_under values x.literal)) cs c at in
          record {
            candidate = c;
            before = before;
            after = after;
            splits = splits;
            undecided = opens;
            passed = λ x a. (passed x a, none_contained (λ (y : Candidate N). is_true (value_under values y.literal)) x cs (subst (λ ys. Contains ys x) (sym splits) (contains_left x before (c ∷ after) a)) none);
            is = ap (λ (x : NextDecision). x.candidate) is;
          }

  -- a clause that has something to decide is eligible, and the decision is for the first of its undecided candidates
  pub offers : (q : NeedClause) (d : NextDecision) → offer_by names values score q ≡ Some d → (is_eligible_by names values q ≡ true) × IsForFirst (names.candidates q.requirement) d
  offers q d h = go (is_eligible_by names values q) refl h
    where
      go : (b : Bool) → is_eligible_by names values q ≡ b → cond b (offer_of names values score q (names.candidates q.requirement)) None ≡ Some d → (is_eligible_by names values q ≡ true) × IsForFirst (names.candidates q.requirement) d
      go true e i = (e, offer_opens q d (names.candidates q.requirement) i)
      go false e i = absurd cc

  pub for_listed : (cs : List (Candidate N)) (d : NextDecision) → (o : IsForFirst cs d) → Contains cs o.candidate
  for_listed cs d o = subst (λ ys. Contains ys o.candidate) (sym o.splits) (contains_right o.candidate o.before (o.candidate ∷ o.after) (contains_first o.candidate o.candidate o.after refl))

not_found : {X : Type 0} (f : X → Bool) (xs : List X) (x : X) → find f xs ≡ None → Contains xs x → f x ≡ false
not_found f [] x h a = absurd (contains_none x a)
not_found {X} f (y ∷ ys) x h a = go (f y) refl h (not_found f ys x)
  where
    go : (b : Bool) → f y ≡ b → cond b (Some y) (find f ys) ≡ None → (find f ys ≡ None → Contains ys x → f x ≡ false) → f x ≡ false
    go true e i rest = absurd cc
    go false e i rest = elim (contains_cases x y ys a) [ inl s ↦ ap f s ∙ e | inr b ↦ rest i b ]

map_none : {X Y : Type 0} (f : X → Y) (o : Option X) → option_map f o ≡ None → o ≡ None
map_none f None h = refl
map_none f (Some x) h = absurd cc

module _ {N : Type 0} (names : Named N) (values : ℕ → Option Bool) (score : N → ℕ) where
  -- where an eligible clause with an undecided candidate has nothing to decide, a candidate is true
  pub nothing_offered : (q : NeedClause) (c : Candidate N) → offer_by names values score q ≡ None → is_eligible_by names values q ≡ true → Contains (names.candidates q.requirement) c → is_open (value_under values c.literal) ≡ true
      → (d : Candidate N) × Contains (names.candidates q.requirement) d × (is_true (value_under values d.literal) ≡ true)
  nothing_offered q c h eligible present undecided = go (list_any (λ d. is_true (value_under values d.literal)) (names.candidates q.requirement)) refl (all (is_eligible_by names values q) h eligible)
    where
      all : (b : Bool) → cond b (offer_of names values score q (names.candidates q.requirement)) None ≡ None → b ≡ true → offer_of names values score q (names.candidates q.requirement) ≡ None
      all true e i = e
      all false e i = absurd (both_ways false refl i)

      go : (b : Bool) → list_any (λ d. is_true (value_under values d.literal)) (names.candidates q.requirement) ≡ b
          → cond b None (option_map (decision_for names values score q (names.candidates q.requirement)) (find (λ d. is_open (value_under values d.literal)) (names.candidates q.requirement))) ≡ None
          → (d : Candidate N) × Contains (names.candidates q.requirement) d × (is_true (value_under values d.literal) ≡ true)
      go true e i = any_contained (λ (d : Candidate N). is_true (value_under values d.literal)) (names.candidates q.requirement) e
      go false e i =
          let none = map_none (decision_for names values score q (names.candidates q.requirement)) (find (λ d. is_open (value_under values d.literal)) (names.candidates q.requirement)) i in
          absurd (both_ways _ (not_found (λ (d : Candidate N). is_open (value_under values d.literal)) (names.candidates q.requirement) c none present) undecided)

-- ---- values and literals

beq_true : (a b : Bool) → beq a b ≡ true → a ≡ b
beq_true true true h = refl
beq_true true false h = sym h
beq_true false true h = h
beq_true false false h = refl

beq_self : (a : Bool) → beq a a ≡ true
beq_self true = refl
beq_self false = refl

one_or_other : (a b : Bool) → (a ≡ b) ⊎ (a ≡ not b)
one_or_other true true = inl refl
one_or_other true false = inr refl
one_or_other false true = inr refl
one_or_other false false = inl refl

module _ (values : ℕ → Option Bool) (known : List Signed) (agree : AreValues values known) where
  pub known_value : (l : Signed) → has known l ≡ true → is_true (value_under values l) ≡ true
  known_value l h = ap (λ (o : Option Bool). is_true (option_map (λ v. beq v l.positive) o)) (agree.valued l h) ∙ beq_self l.positive

  pub value_known : (l : Signed) → is_true (value_under values l) ≡ true → has known l ≡ true
  value_known l h = go (values l.variable.0) refl h
    where
      go : (o : Option Bool) → values l.variable.0 ≡ o → is_true (option_map (λ v. beq v l.positive) o) ≡ true → has known l ≡ true
      go None e i = absurd (both_ways false refl i)
      go (Some b) e i = agree.made l (e ∙ ap Some (beq_true b l.positive i))

  pub false_known : (l : Signed) → is_false (value_under values l) ≡ true → has known (negation l) ≡ true
  false_known l h = go (values l.variable.0) refl h
    where
      go : (o : Option Bool) → values l.variable.0 ≡ o → is_false (option_map (λ v. beq v l.positive) o) ≡ true → has known (negation l) ≡ true
      go None e i = absurd (both_ways false refl i)
      go (Some b) e i = elim (one_or_other b l.positive) [
        | inl s ↦ absurd (both_ways _ (ap (λ (x : Bool). is_false (Some (beq x l.positive))) s ∙ ap (λ (x : Bool). is_false (Some x)) (beq_self l.positive)) i)
        | inr s ↦ agree.made (negation l) (e ∙ ap Some s)
      ]

  pub known_false : (l : Signed) → has known (negation l) ≡ true → is_false (value_under values l) ≡ true
  known_false l h = ap (λ (o : Option Bool). is_false (option_map (λ v. beq v l.positive) o)) (agree.valued (negation l) h) ∙ differs l.positive
    where
      differs : (b : Bool) → is_false (Some (beq (not b) b)) ≡ true
      differs true = refl
      differs false = refl

  pub known_parent : (v : VariableId) → has known (yes v) ≡ true → is_true (values v.0) ≡ true
  known_parent v h = ap is_true (agree.valued (yes v) h)

  pub parent_known : (v : VariableId) → is_true (values v.0) ≡ true → has known (yes v) ≡ true
  parent_known v h = go (values v.0) refl h
    where
      go : (o : Option Bool) → values v.0 ≡ o → is_true o ≡ true → has known (yes v) ≡ true
      go None e i = absurd (both_ways false refl i)
      go (Some b) e i = agree.made (yes v) (e ∙ ap Some i)

  pub open_undecided : (l : Signed) → is_open (value_under values l) ≡ true → IsUndecided known l
  open_undecided l h = go (values l.variable.0) refl h
    where
      unless : (m : Signed) → values m.variable.0 ≡ None → has known m ≡ false
      unless m none = elim (cases_Bool (has known m)) [ inl e ↦ (let some : values m.variable.0 ≡ Some m.positive = agree.valued m e in absurd cc) | inr e ↦ e ]

      go : (o : Option Bool) → values l.variable.0 ≡ o → is_open (option_map (λ v. beq v l.positive) o) ≡ true → IsUndecided known l
      go None e i = record { not_true = unless l e; not_false = unless (negation l) e }
      go (Some b) e i = absurd (both_ways false refl i)

  -- a literal that is not false is undecided or true
  pub open_or_known : (l : Signed) → has known (negation l) ≡ false → (is_open (value_under values l) ≡ true) ⊎ (has known l ≡ true)
  open_or_known l h = go (values l.variable.0) refl
    where
      go : (o : Option Bool) → values l.variable.0 ≡ o → (is_open (value_under values l) ≡ true) ⊎ (has known l ≡ true)
      go None e = inl (ap (λ (x : Option Bool). is_open (option_map (λ v. beq v l.positive) x)) e)
      go (Some b) e = elim (one_or_other b l.positive) [
        | inl s ↦ inr (agree.made l (e ∙ ap Some s))
        | inr s ↦ absurd (both_ways _ h (agree.made (negation l) (e ∙ ap Some s)))
      ]

  -- a literal that is neither undecided nor true is false
  pub passed_known : (l : Signed) → is_open (value_under values l) ≡ false → is_true (value_under values l) ≡ false → has known (negation l) ≡ true
  passed_known l decided untrue = elim (cases_Bool (has known (negation l))) [
    | inl e ↦ e
    | inr e ↦ absurd (elim (open_or_known l e) [ inl o ↦ both_ways _ decided o | inr k ↦ both_ways _ untrue (known_value l k) ])
  ]

-- the values in the map of a trail are those that its literals make true
pub trail_values : (count : ℕ) (cs : List (List Signed)) (es : List Entry) (map : List (Option Assignment)) → IsTrail count cs (reverse es) → ((v : ℕ) → at map v ≡ assigned es v) → AreValues (value_at map) (made_true (reverse es))
trail_values count cs es map t mapped = record {
  valued = λ l h. valued l (value_at map l.variable.0) refl (true_is count cs es map l t mapped ∙ h);
  made = λ l h. sym (true_is count cs es map l t mapped) ∙ ap (λ (o : Option Bool). is_true (option_map (λ v. beq v l.positive) o)) h ∙ beq_self l.positive;
}
  where
    valued : (l : Signed) (o : Option Bool) → value_at map l.variable.0 ≡ o → is_true (value_under (value_at map) l) ≡ true → value_at map l.variable.0 ≡ Some l.positive
    valued l None is h = absurd (both_ways false refl (sym (ap (λ (o : Option Bool). is_true (option_map (λ v. beq v l.positive) o)) is) ∙ h))
    valued l (Some b) is h = is ∙ ap Some (beq_true b l.positive (sym (ap (λ (o : Option Bool). is_true (option_map (λ v. beq v l.positive) o)) is) ∙ h))

-- ---- the reason of a decision

module _ {N S : Type 0} (same : S → S → Bool) (p : Packages N S) (root : Rules) (e : Encoder N S) where
  -- a variable's origin is known where the variable is true
  pub atom_known : (v : VariableId) (a : ProofAtom N S) → Represents e.coding.atoms.keys v a → has (made_true (history e.coding.search)) (yes v) ≡ true → Contains (known_of (origin e.coding.atoms.keys) (history e.coding.search)) (plus (atom_of a))
  atom_known v a present t =
      let means : Means (origin e.coding.atoms.keys) (yes v) (plus (atom_of a)) = means_atom e.coding.atoms.keys (yes v) a present in
      subst (Contains (known_of (origin e.coding.atoms.keys) (history e.coding.search))) (sym means.1) (meaning_in (origin e.coding.atoms.keys) (made_true (history e.coding.search)) (yes v) t means.0)

  parent_true : (parent : Option S) (v : VariableId) → IsParentVariable e.coding.atoms.keys parent v → has (made_true (history e.coding.search)) (yes v) ≡ true → IsTrueParent (known_of (origin e.coding.atoms.keys) (history e.coding.search)) parent
  parent_true None v h t = tt
  parent_true (Some s) v h t = atom_known v (Solvable s) h t

  -- where a condition's literals are false, so are those of its case
  case_false : (condition : Option (DenseId DisjunctionTag ℕ)) (case : List VersionSetId) → IsCondition same p e.lists e.coding.atoms.keys condition case → ((l : Signed) → has (condition_in e.lists condition) l ≡ true → has (made_true (history e.coding.search)) (negation l) ≡ true)
      → AreFalse (known_of (origin e.coding.atoms.keys) (history e.coding.search)) (case_literals same p case)
  case_false condition case h fell m a =
      let (l, present, means) = h.spells.each m a in
      subst (λ (x : Literal (Atom N S)). Contains (known_of (origin e.coding.atoms.keys) (history e.coding.search)) (negate x)) (sym means.1) (meaning_in (origin e.coding.atoms.keys) (made_true (history e.coding.search)) (negation l) (fell l present) means.0)

  -- A clause of the queue encodes a requirement of a chosen parent, where its parent is true and
  -- its condition's literals are false.
  queue_asks : (q : NeedClause) (x : Option (Kind N S)) → kind_at e.coding.kinds.items q.clause.0 ≡ x → IsQueuedFor same p e.lists e.coding.atoms.keys x q → has (made_true (history e.coding.search)) (yes q.parent) ≡ true
      → ((l : Signed) → has (condition_in e.lists q.condition) l ≡ true → has (made_true (history e.coding.search)) (negation l) ≡ true)
      → IsAsked same p (E.rules_of e) (known_of (origin e.coding.atoms.keys) (history e.coding.search)) q.requirement
  queue_asks q (Some (Kind.Needs parent need case)) at (is, conditioned, present) t fell = inl (record {
    parent = parent;
    need = need;
    case = case;
    present = (q.clause.0, rule_at_kind e.coding.kinds.items q.clause.0 (Kind.Needs parent need case) at);
    chosen = parent_true parent q.parent present t;
    holds = case_false q.condition case conditioned fell;
    asks = is;
  })
  queue_asks q (Some (Kind.Shared r)) at (is, free, present) t fell = inr (record {
    present = subst (λ y. E.rules_of e (Rule.shared y)) (sym is) (q.clause.0, rule_at_kind e.coding.kinds.items q.clause.0 (Kind.Shared r) at);
    opened = subst (λ y. Contains (known_of (origin e.coding.atoms.keys) (history e.coding.search)) (plus (Atom.gate y))) (sym is) (atom_known q.parent (Gate r) present t);
  })
  queue_asks q None at h t fell = absurd h
  queue_asks q (Some Kind.Root) at h t fell = absurd h
  queue_asks q (Some (Kind.Gated s r)) at h t fell = absurd h
  queue_asks q (Some (Kind.Limits parent v s)) at h t fell = absurd h
  queue_asks q (Some (Kind.LimitsOutside parent v)) at h t fell = absurd h
  queue_asks q (Some (Kind.IsOut v s)) at h t fell = absurd h
  queue_asks q (Some (Kind.Locked locked s)) at h t fell = absurd h
  queue_asks q (Some (Kind.Excluded s why)) at h t fell = absurd h
  queue_asks q (Some (Kind.Digit n s place bit)) at h t fell = absurd h
  queue_asks q (Some (Kind.IsThere n s)) at h t fell = absurd h
  queue_asks q (Some (Kind.Matches w s)) at h t fell = absurd h
  queue_asks q (Some Kind.Learnt) at h t fell = absurd h

  -- a requirement of a chosen parent has a requires clause
  pub has_clause : (r : Requirement) → IsAsked same p (E.rules_of e) (known_of (origin e.coding.atoms.keys) (history e.coding.search)) r → HasClause same p (E.rules_of e) r
  has_clause r (inl k) = inl (k.parent, k.need, k.case, k.present, k.asks)
  has_clause r (inr k) = inr k.present

  -- a false candidate's solvable is denied
  candidate_fell : (c : Candidate N) (s : S) → c.literal.positive ≡ true → Represents e.coding.atoms.keys c.literal.variable (Solvable s) → has (made_true (history e.coding.search)) (negation c.literal) ≡ true
      → Contains (known_of (origin e.coding.atoms.keys) (history e.coding.search)) (minus (Atom.solvable s))
  candidate_fell c s positive present h =
      let denied : negation c.literal ≡ no c.literal.variable = λ i. record { variable = c.literal.variable; positive = not (positive i) } in
      let means : Means (origin e.coding.atoms.keys) (no c.literal.variable) (minus (Atom.solvable s)) = means_atom e.coding.atoms.keys (no c.literal.variable) (Solvable s) present in
      subst (Contains (known_of (origin e.coding.atoms.keys) (history e.coding.search))) (sym means.1)
      (meaning_in (origin e.coding.atoms.keys) (made_true (history e.coding.search)) (no c.literal.variable) (subst (λ (x : Signed). has (made_true (history e.coding.search)) x ≡ true) denied h) means.0)

  -- The next decision is justified: it is the first candidate that isn't false, of a requirement of
  -- a chosen parent.
  pub choice_taken : IsEncoding same p root e → (values : ℕ → Option Bool) (score : N → ℕ) (d : NextDecision) → AreValues values (made_true (history e.coding.search)) → pick_by (named_by e.lists) values score (needs_of e.queue) ≡ Some d
      → IsFirstPick same p (HasOrder e) (E.rules_of e) (known_of (origin e.coding.atoms.keys) (history e.coding.search)) (meaning (origin e.coding.atoms.keys) (yes d.candidate))
  choice_taken holds values score d agree h =
      let (q, present, offered) = picked (named_by e.lists) values score (needs_of e.queue) d h in
      let (eligible, offer) = offers (named_by e.lists) values score q d offered in
      let c = offer.candidate in
      let (s, fits, meets_it) = holds.listed q.requirement c (for_listed (named_by e.lists) values score (candidates_in e.lists q.requirement) d offer) in
      let parent : has (made_true (history e.coding.search)) (yes q.parent) ≡ true = parent_known values (made_true (history e.coding.search)) agree q.parent (and_parts (is_true (values q.parent.0)) _ eligible).0 in
      let fell : (l : Signed) → has (condition_in e.lists q.condition) l ≡ true → has (made_true (history e.coding.search)) (negation l) ≡ true =
      λ l a. false_known values (made_true (history e.coding.search)) agree l (all_has (λ (x : Signed). is_false (value_under values x)) (condition_in e.lists q.condition) l (and_parts (is_true (values q.parent.0)) _ eligible).1 a) in
      let asked = queue_asks q (kind_at e.coding.kinds.items q.clause.0) refl (holds.queued q present) parent fell in
      let literal : c.literal ≡ yes d.candidate = λ i. record { variable = offer.is i; positive = fits.positive i } in
      let means : Means (origin e.coding.atoms.keys) (yes d.candidate) (plus (Atom.solvable s)) = subst (λ (x : Signed). Means (origin e.coding.atoms.keys) x (plus (Atom.solvable s))) literal (solvable_means e.coding.atoms.keys c.literal s fits.positive fits.present) in
      let (prefix, back, sooner, whole) = listed_at e.coding.atoms.keys offer.before offer.after c s
      (λ x a. each q.requirement x (subst (λ ys. Contains ys x) (sym offer.splits) (contains_left x offer.before (c ∷ offer.after) a)))
      (λ x a. each q.requirement x (subst (λ ys. Contains ys x) (sym offer.splits) (contains_right x offer.before (c ∷ offer.after) (contains_later x c offer.after a))))
      fits.positive fits.present in
      record {
        requirement = q.requirement;
        asked = asked;
        solvable = s;
        is = sym means.1;
        first = record {
          list = prefix ++ s ∷ back;
          ordered = (holds.fixed q.requirement (has_clause q.requirement asked), subst (λ cs. AreCandidates e.coding.atoms.keys cs (prefix ++ s ∷ back)) (sym offer.splits) whole);
          before = prefix;
          after = back;
          splits = refl;
          fell = λ t a.
              let (x, there, positive, known) = candidate_of e.coding.atoms.keys offer.before prefix t sooner a in
              let (decided, untrue) = offer.passed x there in
              candidate_fell x t positive known (passed_known values (made_true (history e.coding.search)) agree x.literal decided untrue);
        };
      }
    where
      each : (r : Requirement) (x : Candidate N) → Contains (candidates_in e.lists r) x → (t : S) × (x.literal.positive ≡ true) × Represents e.coding.atoms.keys x.literal.variable (Solvable t)
      each r x a = let (t, fits, m) = holds.listed r x a in (t, fits.positive, fits.present)

  -- each decision of the trail is for a match of a requirement of a chosen parent
  pub choices_called : IsExact same → IsEncoding same p root e → AreCalledFor (origin e.coding.atoms.keys) (IsCalledFor same p (E.rules_of e) e.recorded.softs.items) (history e.coding.search)
  choices_called exact holds x older present is other = elim (holds.called x older present is other) [
    | inl soft ↦ inl soft
    | inr pick ↦ first_called_for same exact p (HasOrder e) (E.rules_of e) e.recorded.softs.items _ _ matches pick
  ]
    where
      matches : (r : Requirement) (list : List S) (s : S) → HasOrder e r list → Contains list s → meets same p r s ≡ true
      matches r list s (has, are) a =
          let (c, there, positive, known) = candidate_of e.coding.atoms.keys (candidates_in e.lists r) list s are a in
          let (t, fits, m) = holds.listed r c there in
          let one : t ≡ s = some_same t s (sym (solvable_represents e.coding.atoms.keys c.literal.variable t fits.present) ∙ solvable_represents e.coding.atoms.keys c.literal.variable s known) in
          subst (λ y. meets same p r y ≡ true) one m
