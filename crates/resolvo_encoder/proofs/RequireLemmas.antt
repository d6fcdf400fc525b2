-- Each step of encoding keeps the invariant.
use Rattle.std.proofs.Common.{◌≡◌, ℕ, ◌<◌, ◌≤◌, ◌⊎◌, inl, inr, Bool, true, false, List, [], ◌∷◌, length, Option, Some, None, refl, sym, ◌∙◌, ap, subst, arith, Vec, Global, ◌==◌, eqb-true, eq-eqb, unwrap_or, is_some}
use Rattle.std.specs.Prelude.{Contains, slice_get, MatchOption}
use Rattle.std.specs.List.{AllByRecursion}
use Rattle.std.proofs.lemmas.Bool.{both_ways, cases_Bool, and_parts}
use Rattle.resolvo_pool_core.specs.declared.id.VariableId.{VariableId}
use Rattle.resolvo_pool_core.specs.declared.id.VersionSetId.{VersionSetId}
use Rattle.resolvo_pool_core.specs.declared.requirement.ConditionalRequirement.{ConditionalRequirement}
use Rattle.resolvo_pool_core.specs.declared.requirement.Requirement.{Requirement}
use Rattle.resolvo_pool_core.specs.declared.solver_id.SolvableIdOrRoot.{SolvableIdOrRoot}
use Rattle.resolvo_pool_core.specs.declared.requirement.Requirement.TheVariants.{Single, Union}
use Rattle.resolvo_pool_core.specs.ByRequirement.{slot_of, PutsAt}
use Rattle.resolvo_pool_core.specs.Slots.{at}
use Rattle.resolvo_pool_core.specs.OnePass.{Literal}
use Rattle.resolvo_pool_core.specs.Provider.{listed}
use Rattle.resolvo_pool_core.specs.Text.{solvable_of, alternatives_of}
use Rattle.resolvo_pool_core.specs.RuleKeeping.{Packages, Rules, IsLawful, is_in, is_match, meets, is_many}
use Rattle.resolvo_store_core.specs.AtMostOne.{IsPrefixOf, digit}
use Rattle.resolvo_store_core.specs.Signed.{Signed, has}
use Rattle.resolvo_store_core.specs.Lists.{has_candidates, candidates_in, FixesCandidates}
use Rattle.resolvo_store_core.specs.declared.pick.NeedClause.{NeedClause}
use Rattle.resolvo_store_core.specs.declared.lists.Candidate.{Candidate}
use Rattle.resolvo_store_core.specs.declared.lists.FixedLists.{FixedLists}
use Rattle.resolvo_decide.specs.Queue.{needs_of}
use Rattle.resolvo_sat.specs.Known.{clause_at}
use Rattle.resolvo_sat.specs.State.{clauses_of}
use Rattle.resolvo_sat.specs.RuleClauses.{IsExact, Atom, Rule, plus, minus, IsRule, literals_of}
use Rattle.resolvo_sat.specs.SearchEnd.{IsNeedEncoded, HasClause}
use Rattle.resolvo_sat.specs.Numbered.{meaning, Means, Spells}
use Rattle.resolvo_sat.proofs.Lists.{contains_none, contains_cases, contains_one, contains_map, map_contains}
use Rattle.resolvo_sat.proofs.Members.{candidate_named, in_contained, contained_in}
use Rattle.resolvo_sat.proofs.Lists.{any_contained}
use Rattle.resolvo_packages.specs.declared.package_source.Offered.{Offered}
use Rattle.resolvo_packages.specs.PackageSource.{offered_solvables, AreOffered}
use Rattle.resolvo_state.specs.declared.atom.ProofAtom.TheVariants.{Solvable, Gate}
use Rattle.resolvo_state.specs.Kinds.{Kind}
use Rattle.resolvo_state.specs.declared.solver_state.SolverState.{SolverState}
use Rattle.resolvo_state.specs.declared.registry.Registry.{Registry}
use Rattle.resolvo_state.specs.Atoms.{origin, Represents}
use Rattle.resolvo_state.specs.ClauseKinds.{rule_of, kind_at, rule_at}
use Rattle.resolvo_state.specs.SolverState.{IsCoding, Grows, SameTrail}
use Rattle.resolvo_state.specs.Registered.{AreTied, IsTracked, IsQueued, IsMany, IsRegistered, IsDigitClause, digit_literals}
use Rattle.resolvo_encoder.specs.Cases.{case_of, IsDeferred}
use Rattle.resolvo_encoder.specs.Encoded.{IsCandidate, IsQueuedFor, IsRequiresRule, IsGuarded, IsLimitEncoded, IsRecorded, IsMarkKnown, AreMarked, IsSetEncoded, IsCaseEncoded, IsParentEncoded, Registered, AreCased, IsEncoding, IsChosenFor}
use Rattle.resolvo_encoder.specs.Encoded as E
use Rattle.resolvo_encoder.specs.Steps.{RegistersAll, KeepsLists, SameButCoding, Extends}
use Rattle.resolvo_encoder.specs.declared.encoder.Deferred.{Deferred}
use Rattle.resolvo_encoder.specs.declared.encoder.Encoder.{Encoder}
use Rattle.resolvo_encoder.specs.declared.encoder.EncodedOnce.{EncodedOnce}
use Rattle.resolvo_encoder.proofs.ConditionLemmas.{queued_grows}
use Rattle.resolvo_encoder.proofs.PickLemmas.{chosen_grows}
use Rattle.resolvo_state.proofs.Origins.{solvable_represents}
use Rattle.resolvo_state.proofs.Positions.{prefix_get, prefix_equal}
use Rattle.resolvo_state.proofs.RegisterLemmas.{KeepsDigits, ties_grow}
use Rattle.resolvo_state.proofs.Rules.{rule_at_kind}
use Rattle.resolvo_state.proofs.Growth.{grows_same, grows_then, represents_grow, rules_grow, forbid_grows, kind_grows, rule_split, rules_split, spelled_grows, registered_grows, called_grows_trail, trail_same, trail_then}

module _ {N S : Type 0} (same : S → S → Bool) (exact : IsExact same) (p : Packages N S) (root : Rules) where
  -- the added clause of this number is right
  pub record AddedClause (new : Encoder N S) (n : ℕ) : Type 0 where
    pub kinds : Kind N S
    pub at : kind_at new.coding.kinds.items n ≡ Some kinds
    pub rule : (r : Rule N S) → rule_of kinds ≡ Some r → IsRule same p root r × Spells (origin new.coding.atoms.keys) (clause_at (clauses_of new.coding.search) n) (literals_of same p r)
    pub positive : (l : Signed) (s : S) → has (clause_at (clauses_of new.coding.search) n) l ≡ true → Means (origin new.coding.atoms.keys) l (plus (Atom.solvable s)) → Registered same p root new s

  -- The invariant is kept where each added clause is right, and so are the lists, the queue and the
  -- parents.
  pub record Carries (old new : Encoder N S) : Type 0 where
    pub coding : IsCoding new.coding
    pub grows : Grows old.coding new.coding
    pub trail : SameTrail old.coding new.coding
    pub tied : AreTied new.registry new.coding
    pub keeps : (m : N) (u : VariableId) → IsTracked old.registry m u → IsTracked new.registry m u
    pub registered : (n : N) (s : S) → IsRegistered new.registry new.coding n s → IsRegistered old.registry old.coding n s ⊎ ((n ≡ p.package_of s) × (is_in same p (listed (p.candidates_of (p.package_of s))) s ≡ true))
    pub new_clause : (n : ℕ) → length old.coding.search.clauses ≤ n → n < length new.coding.search.clauses → AddedClause new n
    pub lists : KeepsLists old new
    pub listed : (r : Requirement) (c : Candidate N) → Contains (candidates_in new.lists r) c → (s : S) × IsCandidate new (p.package_of s) s c × (meets same p r s ≡ true)
    pub offered : (r : Requirement) (s : S) → has_candidates new.lists r ≡ true → meets same p r s ≡ true → (c : Candidate N) × Contains (candidates_in new.lists r) c × IsCandidate new (p.package_of s) s c
    pub fixed : (r : Requirement) → HasClause same p (E.rules_of new) r → has_candidates new.lists r ≡ true
    pub queued : (q : NeedClause) → Contains (needs_of new.queue) q → IsQueuedFor same p new.lists new.coding.atoms.keys (kind_at new.coding.kinds.items q.clause.0) q
    pub asked : (n : ℕ) (r : Rule N S) → rule_at new.coding.kinds.items n ≡ Some r → IsRequiresRule r → (q : NeedClause) × Contains (needs_of new.queue) q × (q.clause.0 ≡ n)
    pub gates : (r : Requirement) (v : VariableId) → slot_of new.gates r ≡ Some v → Represents new.coding.atoms.keys v (Gate r) × E.rules_of new (Rule.shared r)
    pub within : new.encoded ≤ length new.parents.keys
    pub forbid : (r : Requirement) → has_candidates new.lists r ≡ true → IsGuarded same p (E.rules_of new) r
    pub recorded : IsRecorded same p (E.rules_of new) new.recorded
    pub softs : new.recorded.softs.items ≡ old.recorded.softs.items
    pub cases : AreCased same p root new
    pub marks : AreMarked same p new
    pub encoded : (i : ℕ) (parent : SolvableIdOrRoot S) → i < new.encoded → slice_get new.parents.keys i ≡ Some parent → IsParentEncoded same p new root (solvable_of parent)

  pub carried : (old new : Encoder N S) → IsEncoding same p root old → Carries old new → IsEncoding same p root new
  carried old new e h = record {
    coding = h.coding;
    tied = h.tied;
    spelled = spelled_grows same p old.coding new.coding e.coding h.coding h.grows e.spelled (λ n r low high at. (spelled_at n r low high at).1);
    rule = λ r present. elim (rules_split old.coding new.coding e.coding h.coding h.grows r present) [
      | inl a ↦ e.rule r a
      | inr (n, low, high, at) ↦ (spelled_at n r low high at).0
    ];
    positive = registered_grows (Registered same p root old) (Registered same p root new) old.coding new.coding e.coding h.coding h.grows stays e.positive (λ n l s low high a b. (h.new_clause n low high).positive l s a b);
    named = λ n s a. elim (h.registered n s a) [ inl b ↦ e.named n s b | inr (b, c) ↦ b ];
    candidates = λ s a. elim (h.registered (p.package_of s) s a) [ inl b ↦ e.candidates s b | inr (b, c) ↦ c ];
    listed = h.listed;
    offered = h.offered;
    fixed = h.fixed;
    queued = h.queued;
    asked = h.asked;
    gates = h.gates;
    forbid = h.forbid;
    recorded = h.recorded;
    cases = h.cases;
    marks = h.marks;
    within = h.within;
    encoded = h.encoded;
    wished = λ s a. stays s (e.wished s (subst (λ (ws : List S). Contains ws s) h.softs a));
    called = called_grows_trail (IsChosenFor same p old) (IsChosenFor same p new) (chosen_grows old new h.grows h.lists h.softs same p) old.coding new.coding e.coding h.grows h.trail e.called;
  }
    where
      spelled_at : (n : ℕ) (r : Rule N S) → length old.coding.search.clauses ≤ n → n < length new.coding.search.clauses → rule_at new.coding.kinds.items n ≡ Some r
          → IsRule same p root r × Spells (origin new.coding.atoms.keys) (clause_at (clauses_of new.coding.search) n) (literals_of same p r)
      spelled_at n r low high at =
          let new_clause = h.new_clause n low high in
          new_clause.rule r (sym (rule_at_kind new.coding.kinds.items n new_clause.kinds new_clause.at) ∙ at)

      stays : (s : S) → Registered same p root old s → Registered same p root new s
      stays s (v, present, tracked) = (v, represents_grow old.coding new.coding v (Solvable s) h.grows present, h.keeps (p.package_of s) v tracked)

  pub candidate_grows : (old new : Encoder N S) (n : N) (s : S) (c : Candidate N) → Grows old.coding new.coding → ((m : N) (u : VariableId) → IsTracked old.registry m u → IsTracked new.registry m u) → IsCandidate old n s c → IsCandidate new n s c
  candidate_grows old new n s c grows keeps h = record { positive = h.positive; present = represents_grow old.coding new.coding c.literal.variable (Solvable s) grows h.present; tracked = keeps n c.literal.variable h.tracked }

  -- an encoded requirement remains encoded
  pub need_grows : (old new : Encoder N S) (parent : Option S) (need : ConditionalRequirement) (case : List VersionSetId) → Grows old.coding new.coding → IsNeedEncoded same p (E.rules_of old) parent need case → IsNeedEncoded same p (E.rules_of new) parent need case
  need_grows old new parent need case grows (inl a) = inl (rules_grow old.coding new.coding grows (Rule.needs parent need case) a)
  need_grows old new parent need case grows (inr (inl (s, e, a, b))) = inr (inl (s, e, rules_grow old.coding new.coding grows (Rule.gated s need.requirement) a, rules_grow old.coding new.coding grows (Rule.shared need.requirement) b))
  need_grows old new parent need case grows (inr (inr a)) = inr (inr a)

  -- locks and exclusions of a requirement's packages remain encoded
  pub guard_grows : (old new : Encoder N S) (r : Requirement) → Grows old.coding new.coding → IsGuarded same p (E.rules_of old) r → IsGuarded same p (E.rules_of new) r
  guard_grows old new r grows h v s a barred = forbid_grows old.coding new.coding grows s (h v s a barred)

  -- an encoded constraint remains encoded
  pub limit_grows : (old new : Encoder N S) (parent : Option S) (v : VersionSetId) → Grows old.coding new.coding → IsLimitEncoded same p (E.rules_of old) parent v → IsLimitEncoded same p (E.rules_of new) parent v
  limit_grows old new parent v grows h s outside = elim (h s outside) [
    | inl a ↦ inl (rules_grow old.coding new.coding grows (Rule.limits parent v s) a)
    | inr (a, b) ↦ inr (rules_grow old.coding new.coding grows (Rule.limits_outside parent v) a, rules_grow old.coding new.coding grows (Rule.is_out v s) b)
  ]

  -- a deferred case remains deferred, or is encoded
  pub deferred_grows : (old new : Encoder N S) (parent : Option S) (need : ConditionalRequirement) (case : List VersionSetId) → IsPrefixOf old.deferred.items new.deferred.items → IsDeferred old parent need case → IsDeferred new parent need case
  deferred_grows old new parent need case prefix (i, d, at, a, b, c) = (i, d, prefix_get old.deferred.items new.deferred.items i d prefix at, a, b, c)

  -- a case that is encoded or deferred remains so
  pub case_grows : (old new : Encoder N S) (parent : Option S) (need : ConditionalRequirement) (case : List VersionSetId) → Grows old.coding new.coding → IsPrefixOf old.deferred.items new.deferred.items → IsCaseEncoded same p old parent need case → IsCaseEncoded same p new parent need case
  case_grows old new parent need case grows prefix (inl a) = inl (need_grows old new parent need case grows a)
  case_grows old new parent need case grows prefix (inr a) = inr (deferred_grows old new parent need case prefix a)

  -- an encoded parent remains encoded
  pub parent_grows : (old new : Encoder N S) (parent : Option S) → Grows old.coding new.coding → IsPrefixOf old.deferred.items new.deferred.items → IsParentEncoded same p old root parent → IsParentEncoded same p new root parent
  parent_grows old new parent grows prefix h = record {
    needs = λ need case a b. case_grows old new parent need case grows prefix (h.needs need case a b);
    limits = λ v a. limit_grows old new parent v grows (h.limits v a);
    guarded = λ v a. guard_grows old new (Single v) grows (h.guarded v a);
    unknown = λ s is a. forbid_grows old.coding new.coding grows s (h.unknown s is a);
  }

  -- recorded packages and version sets remain encoded
  pub recorded_grows : (old new : Encoder N S) → Grows old.coding new.coding → new.recorded ≡ old.recorded → IsRecorded same p (E.rules_of old) old.recorded → IsRecorded same p (E.rules_of new) new.recorded
  recorded_grows old new grows recorded h = record {
    packages = λ n s a barred. forbid_grows old.coding new.coding grows s (h.packages n s (subst (λ (x : EncodedOnce N S). Contains x.packages.keys n) recorded a) barred);
    version_sets = λ v s a outside. rules_grow old.coding new.coding grows (Rule.is_out v s) (h.version_sets v s (subst (λ (x : EncodedOnce N S). Contains x.version_sets.keys v) recorded a) outside);
    matches = λ v s a match_s. rules_grow old.coding new.coding grows (Rule.matches v s) (h.matches v s (subst (λ (x : EncodedOnce N S). Contains x.matches.keys v) recorded a) match_s);
  }

  -- the marks remain right where they are the same, and the solvables that are registered now were so, or
  -- their packages' marks are known
  pub marks_stay : (old new : Encoder N S) → new.registry.many ≡ old.registry.many → ((n : N) → Contains new.recorded.packages.keys n → Contains old.recorded.packages.keys n)
      → ((n : N) (s : S) → IsRegistered new.registry new.coding n s → IsRegistered old.registry old.coding n s ⊎ IsMarkKnown same p old n) → AreMarked same p old → AreMarked same p new
  marks_stay old new many packages registered h = record {
    right = λ n a. h.right n (subst (λ ns. Contains ns.keys n) many a);
    registered = λ n s a m. subst (λ ns. Contains ns.keys n) (sym many) (elim (registered n s a) [ inl b ↦ h.registered n s b m | inr k ↦ k m ]);
    recorded = λ n a m. subst (λ ns. Contains ns.keys n) (sym many) (h.recorded n (packages n a) m);
  }

  -- a registered solvable remains registered
  pub registered_stays : (old new : Encoder N S) (n : N) (s : S) → Grows old.coding new.coding → ((m : N) (u : VariableId) → IsTracked old.registry m u → IsTracked new.registry m u) → IsRegistered old.registry old.coding n s → IsRegistered new.registry new.coding n s
  registered_stays old new n s grows keeps (v, present, tracked) = (v, represents_grow old.coding new.coding v (Solvable s) grows present, keeps n v tracked)

  -- The deferred cases and the fired ones are unchanged.
  pub cases_keep : (old new : Encoder N S) → AreCased same p root old → Grows old.coding new.coding → new.deferred ≡ old.deferred → new.fired ≡ old.fired → new.recorded ≡ old.recorded
      → ((parent : Option S) (need : ConditionalRequirement) (case : List VersionSetId) (v : VersionSetId) → E.rules_of new (Rule.needs parent need case) → Contains case v → IsSetEncoded same p new v)
      → ((n : N) (s : S) → Contains new.recorded.at_least_one.keys n → IsRegistered new.registry new.coding n s → E.rules_of new (Rule.is_there n s) ⊎ E.IsPending new n s) → AreCased same p root new
  cases_keep old new e grows deferred fired recorded cased at_least_one = record {
    waiting = λ i d at. e.waiting i d (subst (λ (ds : Vec (Deferred S) Global). slice_get ds.items i ≡ Some d) deferred at);
    places = λ i h. subst (λ (ds : Vec (Deferred S) Global). i < length ds.items) (sym deferred) (e.places i (subst (λ ks. Contains ks.keys i) fired h));
    fired = λ i d h at. need_grows old new d.parent d.need (case_of d.conjuncts.items) grows (e.fired i d (subst (λ ks. Contains ks.keys i) fired h) (subst (λ (ds : Vec (Deferred S) Global). slice_get ds.items i ≡ Some d) deferred at));
    cased = cased;
    at_least_one = at_least_one;
    there = λ s h. rules_grow old.coding new.coding grows (Rule.is_there (p.package_of s) s) (e.there s (subst (λ (x : EncodedOnce N S). Contains x.there.keys s) recorded h));
  }

  -- an encoded version set of a case remains so
  pub set_stays : (old new : Encoder N S) (v : VersionSetId) → Grows old.coding new.coding → ((n : N) → E.IsNamed old.recorded n → E.IsNamed new.recorded n) → ((w : VersionSetId) → Contains old.recorded.matches.keys w → Contains new.recorded.matches.keys w)
      → ((m : N) (u : VariableId) → IsTracked old.registry m u → IsTracked new.registry m u) → IsSetEncoded same p old v → IsSetEncoded same p new v
  set_stays old new v grows named matches keeps (inl (unmarked, name, out)) = inl (unmarked, named (p.set_package v) name, λ s o. registered_stays old new (p.package_of s) s grows keeps (out s o))
  set_stays old new v grows named matches keeps (inr (marked, there)) = inr (marked, matches v there)

  -- the version sets of an encoded case remain encoded
  pub cased_stays : (old new : Encoder N S) → AreCased same p root old → Grows old.coding new.coding → new.recorded ≡ old.recorded → ((m : N) (u : VariableId) → IsTracked old.registry m u → IsTracked new.registry m u)
      → (parent : Option S) (need : ConditionalRequirement) (case : List VersionSetId) (v : VersionSetId) → E.rules_of old (Rule.needs parent need case) → Contains case v
      → IsSetEncoded same p new v
  cased_stays old new e grows recorded keeps parent need case v present h = set_stays old new v grows (λ n a. subst (λ (x : EncodedOnce N S). E.IsNamed x n) (sym recorded) a)
      (λ w a. subst (λ (x : EncodedOnce N S). Contains x.matches.keys w) (sym recorded) a) keeps (e.cased parent need case v present h)

-- the value of a map by requirement where it was put
pub put_at : {V : Type 0} (m n : List (Option V) × List (Option V)) (r : Requirement) (x : V) → PutsAt m n r x → slot_of n r ≡ Some x
put_at m n (Single v) x f = f.0.0
put_at m n (Union u) x f = f.0.0

-- another requirement keeps its value
pub put_other : {V : Type 0} (m n : List (Option V) × List (Option V)) (r q : Requirement) (x : V) → PutsAt m n r x → (q ≡ r) ⊎ (slot_of n q ≡ slot_of m q)
put_other m n (Single v) (Single w) x f = elim (cases_Bool (w.0 == v.0)) [
  | inl e ↦ inl (ap (λ k. Single (record { 0 = k })) (eqb-true w.0 v.0 e))
  | inr e ↦ inr (f.0.1 w.0 (λ i. both_ways (w.0 == v.0) e (eq-eqb w.0 v.0 i)))
]
put_other {V} m n (Single v) (Union u) x f = inr (ap (λ (xs : List (Option V)). at xs u.0) f.1)
put_other {V} m n (Union u) (Single w) x f = inr (ap (λ (xs : List (Option V)). at xs w.0) f.1)
put_other m n (Union u) (Union w) x f = elim (cases_Bool (w.0 == u.0)) [
  | inl e ↦ inl (ap (λ k. Union (record { 0 = k })) (eqb-true w.0 u.0 e))
  | inr e ↦ inr (f.0.1 w.0 (λ i. both_ways (w.0 == u.0) e (eq-eqb w.0 u.0 i)))
]

-- the candidates of a requirement that received them
pub fix_at : {N : Type 0} (r : Requirement) (given : List (Candidate N)) (old new : FixedLists N) → FixesCandidates r given old new → slot_of new.candidates r ≡ Some given
fix_at r given old new f = put_at old.candidates new.candidates r given f.put

-- another requirement keeps its candidates
pub fix_other : {N : Type 0} (r q : Requirement) (given : List (Candidate N)) (old new : FixedLists N) → FixesCandidates r given old new → (q ≡ r) ⊎ (slot_of new.candidates q ≡ slot_of old.candidates q)
fix_other r q given old new f = put_other old.candidates new.candidates r q given f.put

pub each_of : {X : Type 0} (P : X → Type 0) (xs : List X) (x : X) → AllByRecursion P xs → Contains xs x → P x
each_of P [] x h c = absurd (contains_none x c)
each_of P (y ∷ ys) x (h, hs) c = elim (contains_cases x y ys c) [ inl e ↦ subst P (sym e) h | inr d ↦ each_of P ys x hs d ]

pub some_one : {X : Type 0} (x y : X) → Some x ≡ Some y → x ≡ y
some_one x y e = ap (λ o. unwrap_or o x) e

module _ {N S : Type 0} (same : S → S → Bool) (exact : IsExact same) (p : Packages N S) (root : Rules) (lawful : IsLawful p) where
  -- a match of a requirement is a candidate of its package
  pub meets_listed : (r : Requirement) (s : S) → meets same p r s ≡ true → is_in same p (listed (p.candidates_of (p.package_of s))) s ≡ true
  meets_listed r s h =
      let (v, present, match) = any_contained (λ w. is_match same p w s) (alternatives_of p.members_of r) h in
      let there = (and_parts _ _ match).0 in
      subst (λ n. is_in same p (listed (p.candidates_of n)) s ≡ true) (sym (candidate_named same exact p lawful (p.set_package v) s there)) there

  pub offer_named : (r : Requirement) (offered : List (Offered N S)) (o : Offered N S) → AreOffered same p r offered → Contains offered o → o.name ≡ p.package_of o.solvable
  offer_named r offered o h c = each_of (λ (x : Offered N S). x.name ≡ p.package_of x.solvable) offered o h.named c

  pub offer_meets : (r : Requirement) (offered : List (Offered N S)) (o : Offered N S) → AreOffered same p r offered → Contains offered o → meets same p r o.solvable ≡ true
  offer_meets r offered o h c = sym (h.matches o.solvable) ∙ contained_in same exact p (offered_solvables offered) o.solvable (contains_map (λ (x : Offered N S). x.solvable) o offered c)

  pub meets_offer : (r : Requirement) (offered : List (Offered N S)) (s : S) → AreOffered same p r offered → meets same p r s ≡ true → (o : Offered N S) × Contains offered o × (s ≡ o.solvable)
  meets_offer r offered s h m = map_contains (λ (x : Offered N S). x.solvable) s offered (in_contained same exact p (offered_solvables offered) s (h.matches s ∙ m))

  -- a registered solvable was registered before, or is offered
  pub registered_split : (offered : List (Offered N S)) (given : List (Candidate N)) (r t : Registry N) (old new : SolverState N S) → AreTied r old → RegistersAll offered given r old t new
      → (n : N) (s : S) → IsRegistered t new n s → IsRegistered r old n s ⊎ ((o : Offered N S) × Contains offered o × (n ≡ o.name) × (o.solvable ≡ s) × ((v : VariableId) × Represents new.atoms.keys v (Solvable s) × IsQueued t n v))
  registered_split offered given r t old new tied all n s (v, present, tracked) = elim (all.only n v tracked) [
    | inl k ↦
        let (x, before) = tied.solvables n v k in
        let one : x ≡ s = some_one x s (sym (solvable_represents new.atoms.keys v x (represents_grow old new v (Solvable x) all.grows before)) ∙ solvable_represents new.atoms.keys v s present) in
        inl (v, subst (λ y. Represents old.atoms.keys v (Solvable y)) one before, k)
    | inr (o, c, e, f, queued) ↦ inr (o, c, e, some_one o.solvable s (sym (solvable_represents new.atoms.keys v o.solvable f) ∙ solvable_represents new.atoms.keys v s present), (v, present, queued))
  ]

  pub queued_keeps : (old new : Encoder N S) → IsEncoding same p root old → Grows old.coding new.coding → IsPrefixOf old.lists.disjunctions new.lists.disjunctions → (q : NeedClause) → Contains (needs_of old.queue) q → IsQueuedFor same p new.lists new.coding.atoms.keys (kind_at new.coding.kinds.items q.clause.0) q
  queued_keeps old new e grows prefix q c = go (kind_at old.coding.kinds.items q.clause.0) refl (e.queued q c)
    where
      go : (x : Option (Kind N S)) → kind_at old.coding.kinds.items q.clause.0 ≡ x → IsQueuedFor same p old.lists old.coding.atoms.keys (kind_at old.coding.kinds.items q.clause.0) q → IsQueuedFor same p new.lists new.coding.atoms.keys (kind_at new.coding.kinds.items q.clause.0) q
      go None at h = absurd (subst (λ y. IsQueuedFor same p old.lists old.coding.atoms.keys y q) at h)
      go (Some y) at h = subst (λ z. IsQueuedFor same p new.lists new.coding.atoms.keys z q) (sym (kind_grows old.coding new.coding grows q.clause.0 y at))
          (queued_grows same p old.lists new.lists old.coding new.coding prefix grows (Some y) q (subst (λ z. IsQueuedFor same p old.lists old.coding.atoms.keys z q) at h))

  -- conditions are unchanged where the lists are
  pub prefix_lists : (old new : Encoder N S) → new.lists ≡ old.lists → IsPrefixOf old.lists.disjunctions new.lists.disjunctions
  prefix_lists old new lists = prefix_equal old.lists.disjunctions new.lists.disjunctions (ap (λ (ls : FixedLists N). ls.disjunctions) lists)

  pub gates_keep : (old new : Encoder N S) → IsEncoding same p root old → Grows old.coding new.coding → new.gates ≡ old.gates
      → (r : Requirement) (v : VariableId) → slot_of new.gates r ≡ Some v → Represents new.coding.atoms.keys v (Gate r) × E.rules_of new (Rule.shared r)
  gates_keep old new e grows gates r v at =
      let (present, rule) = e.gates r v (sym (ap (λ gs. slot_of gs r) gates) ∙ at) in
      (represents_grow old.coding new.coding v (Gate r) grows present, rules_grow old.coding new.coding grows (Rule.shared r) rule)

  -- no added clause is a requires clause
  abbrev pub NoneAsks : Encoder N S → Encoder N S → Type 0
  NoneAsks old new = (n : ℕ) (r : Rule N S) → length old.coding.search.clauses ≤ n → n < length new.coding.search.clauses → rule_at new.coding.kinds.items n ≡ Some r → IsRequiresRule r → ⊥

  pub fixed_keeps : (old new : Encoder N S) → IsEncoding same p root old → IsCoding new.coding → Grows old.coding new.coding → ((r : Requirement) → has_candidates old.lists r ≡ true → has_candidates new.lists r ≡ true) → NoneAsks old new
      → (r : Requirement) → HasClause same p (E.rules_of new) r → has_candidates new.lists r ≡ true
  fixed_keeps old new e coding grows has none r (inl (parent, need, case, present, is)) = elim (rules_split old.coding new.coding e.coding coding grows (Rule.needs parent need case) present) [
    | inl a ↦ has r (e.fixed r (inl (parent, need, case, a, is)))
    | inr (n, low, high, at) ↦ absurd (none n (Rule.needs parent need case) low high at tt)
  ]
  fixed_keeps old new e coding grows has none r (inr present) = elim (rules_split old.coding new.coding e.coding coding grows (Rule.shared r) present) [
    | inl a ↦ has r (e.fixed r (inr a))
    | inr (n, low, high, at) ↦ absurd (none n (Rule.shared r) low high at tt)
  ]

  pub asked_keeps : (old new : Encoder N S) → IsEncoding same p root old → IsCoding new.coding → Grows old.coding new.coding → needs_of new.queue ≡ needs_of old.queue → NoneAsks old new
      → (n : ℕ) (r : Rule N S) → rule_at new.coding.kinds.items n ≡ Some r → IsRequiresRule r → (q : NeedClause) × Contains (needs_of new.queue) q × (q.clause.0 ≡ n)
  asked_keeps old new e coding grows queue none n r at a = elim (rule_split old.coding new.coding e.coding coding grows n r at) [
    | inl b ↦ let (q, c, d) = e.asked n r b a in (q, subst (λ qs. Contains qs q) (sym queue) c, d)
    | inr (low, high) ↦ absurd (none n r low high at a)
  ]

  pub within_keeps : (old new : Encoder N S) → IsEncoding same p root old → new.parents ≡ old.parents → new.encoded ≡ old.encoded → new.encoded ≤ length new.parents.keys
  within_keeps old new e parents encoded = subst (λ n. n ≤ length new.parents.keys) (sym encoded) (subst (λ ps. old.encoded ≤ length ps.keys) (sym parents) e.within)

  pub encoded_keeps : (old new : Encoder N S) → IsEncoding same p root old → Grows old.coding new.coding → new.parents ≡ old.parents → new.encoded ≡ old.encoded → new.deferred ≡ old.deferred
      → (i : ℕ) (parent : SolvableIdOrRoot S) → i < new.encoded → slice_get new.parents.keys i ≡ Some parent → IsParentEncoded same p new root (solvable_of parent)
  encoded_keeps old new e grows parents encoded deferred i parent below at =
      parent_grows same exact p root old new (solvable_of parent) grows (prefix_equal old.deferred.items new.deferred.items (ap (λ (ds : Vec (Deferred S) Global). ds.items) deferred))
      (e.encoded i parent (subst (λ n. i < n) encoded below) (sym (ap (λ ps. slice_get ps.keys i) parents) ∙ at))

  -- no clause of a case was added
  pub cased_keeps : (old new : Encoder N S) → IsEncoding same p root old → IsCoding new.coding → Grows old.coding new.coding → new.recorded ≡ old.recorded → ((m : N) (u : VariableId) → IsTracked old.registry m u → IsTracked new.registry m u) → NoneAsks old new
      → (parent : Option S) (need : ConditionalRequirement) (case : List VersionSetId) (v : VersionSetId) → E.rules_of new (Rule.needs parent need case) → Contains case v
      → IsSetEncoded same p new v
  cased_keeps old new e coding grows recorded keeps none parent need case v present h = elim (rules_split old.coding new.coding e.coding coding grows (Rule.needs parent need case) present) [
    | inl a ↦ cased_stays same exact p root old new e.cases grows recorded keeps parent need case v a h
    | inr (n, low, high, at) ↦ absurd (none n (Rule.needs parent need case) low high at tt)
  ]

  -- what waits still does, where the registry is unchanged
  pub waiting_stays : (old new : Encoder N S) → Grows old.coding new.coding → new.registry ≡ old.registry → (n : N) (s : S) → E.IsWaiting old n s → E.IsWaiting new n s
  waiting_stays old new grows registry n s (v, present, queued) = (v, represents_grow old.coding new.coding v (Solvable s) grows present, subst (λ (t : Registry N). IsQueued t n v) (sym registry) queued)

  pub pending_stays : (old new : Encoder N S) → Grows old.coding new.coding → new.registry ≡ old.registry → (n : N) (s : S) → E.IsPending old n s → E.IsPending new n s
  pending_stays old new grows registry n s (inl waits) = inl (waiting_stays old new grows registry n s waits)
  pending_stays old new grows registry n s (inr marked) = inr (subst (λ (t : Registry N). IsMany t n) (sym registry) marked)

  -- no solvable was registered
  pub at_least_one_keeps : (old new : Encoder N S) → AreCased same p root old → Grows old.coding new.coding → new.recorded ≡ old.recorded → new.registry ≡ old.registry → ((n : N) (s : S) → IsRegistered new.registry new.coding n s → IsRegistered old.registry old.coding n s)
      → (n : N) (s : S) → Contains new.recorded.at_least_one.keys n → IsRegistered new.registry new.coding n s → E.rules_of new (Rule.is_there n s) ⊎ E.IsPending new n s
  at_least_one_keeps old new e grows recorded registry back n s h a = elim (e.at_least_one n s (subst (λ (x : EncodedOnce N S). Contains x.at_least_one.keys n) recorded h) (back n s a)) [
    | inl rule ↦ inl (rules_grow old.coding new.coding grows (Rule.is_there n s) rule)
    | inr waits ↦ inr (pending_stays old new grows registry n s waits)
  ]

  -- registered solvables were so before, where the registry is unchanged
  pub registered_before : (old new : Encoder N S) → AreTied old.registry old.coding → Grows old.coding new.coding → new.registry ≡ old.registry → (n : N) (s : S) → IsRegistered new.registry new.coding n s → IsRegistered old.registry old.coding n s
  registered_before old new tied grows registry n s (u, present, there) =
      let k = subst (λ (t : Registry N). IsTracked t n u) registry there in
      let (x, before) = tied.solvables n u k in
      let one : x ≡ s = some_one x s (sym (solvable_represents new.coding.atoms.keys u x (represents_grow old.coding new.coding u (Solvable x) grows before)) ∙ solvable_represents new.coding.atoms.keys u s present) in
      (u, subst (λ y. Represents old.coding.atoms.keys u (Solvable y)) one before, k)

  -- a requirement with candidates stays guarded, where the lists are unchanged
  pub guards_keep : (old new : Encoder N S) → IsEncoding same p root old → Grows old.coding new.coding → new.lists ≡ old.lists → (r : Requirement) → has_candidates new.lists r ≡ true → IsGuarded same p (E.rules_of new) r
  guards_keep old new e grows lists r has = guard_grows same exact p root old new r grows (e.forbid r (subst (λ ls. has_candidates ls r ≡ true) lists has))

  -- where registered solvables, lists, queue and parents are unchanged, and each added clause is
  -- right
  pub kept_carries : (old new : Encoder N S) → IsEncoding same p root old → IsCoding new.coding → Grows old.coding new.coding → SameTrail old.coding new.coding → SameButCoding old new
      → ((n : ℕ) → length old.coding.search.clauses ≤ n → n < length new.coding.search.clauses → AddedClause same exact p root new n) → NoneAsks old new → KeepsDigits old.coding new.coding → Carries same exact p root old new
  kept_carries old new e coding grows trail rest new_clause none kept = record {
    coding = coding;
    grows = grows;
    trail = trail;
    tied = subst (λ t. AreTied t new.coding) (sym rest.registry) (ties_grow old.registry old.coding new.coding grows kept e.tied);
    keeps = tracked;
    registered = λ n s a. (let (u, present, there) = back n s a in inl (u, present, there));
    new_clause = new_clause;
    lists = λ q h. ap (λ ls. slot_of ls.candidates q) rest.lists;
    listed = λ q c a. (let (s, fits, m) = e.listed q c (subst (λ ls. Contains (candidates_in ls q) c) rest.lists a) in (s, candidate_grows same exact p root old new (p.package_of s) s c grows tracked fits, m));
    offered = λ q s h m. (let (c, a, fits) = e.offered q s (subst (λ ls. has_candidates ls q ≡ true) rest.lists h) m in (c, subst (λ ls. Contains (candidates_in ls q) c) (sym rest.lists) a, candidate_grows same exact p root old new (p.package_of s) s c grows tracked fits));
    fixed = fixed_keeps old new e coding grows (λ q h. subst (λ ls. has_candidates ls q ≡ true) (sym rest.lists) h) none;
    queued = λ q a. queued_keeps old new e grows (prefix_lists old new rest.lists) q (subst (λ qs. Contains qs q) rest.queue a);
    asked = asked_keeps old new e coding grows rest.queue none;
    gates = gates_keep old new e grows rest.gates;
    forbid = guards_keep old new e grows rest.lists;
    recorded = recorded_grows same exact p root old new grows rest.recorded e.recorded;
    softs = ap (λ (x : EncodedOnce N S). x.softs.items) rest.recorded;
    cases = cases_keep same exact p root old new e.cases grows rest.deferred rest.fired rest.recorded (cased_keeps old new e coding grows rest.recorded tracked none) (at_least_one_keeps old new e.cases grows rest.recorded rest.registry back);
    marks = marks_stay same exact p root old new (ap (λ (t : Registry N). t.many) rest.registry) (λ n a. subst (λ (x : EncodedOnce N S). Contains x.packages.keys n) rest.recorded a) (λ n s a. inl (back n s a)) e.marks;
    within = within_keeps old new e rest.parents rest.encoded;
    encoded = encoded_keeps old new e grows rest.parents rest.encoded rest.deferred;
  }
    where
      tracked : (m : N) (u : VariableId) → IsTracked old.registry m u → IsTracked new.registry m u
      tracked m u h = subst (λ t. IsTracked t m u) (sym rest.registry) h

      back : (n : N) (s : S) → IsRegistered new.registry new.coding n s → IsRegistered old.registry old.coding n s
      back = registered_before old new e.tied grows rest.registry

  -- an added clause of a digit is right
  pub digit_added : (old new : Encoder N S) (name : N) (n : ℕ) → (d : IsDigitClause new.registry new.coding name n) → name ≡ p.package_of d.solvable → is_in same p (listed (p.candidates_of (p.package_of d.solvable))) d.solvable ≡ true → is_many p name ≡ false → AddedClause same exact p root new n
  digit_added old new name n d e candidate unmarked = record {
    kinds = Kind.Digit name d.solvable d.place d.bit;
    at = d.kinds;
    rule = λ r is.
        let one : Rule.has_digit d.solvable d.bit (digit d.place d.bit) ≡ r = some_one (Rule.has_digit d.solvable d.bit (digit d.place d.bit)) r is in
        subst (λ (x : Rule N S). IsRule same p root x × Spells (origin new.coding.atoms.keys) (clause_at (clauses_of new.coding.search) n) (literals_of same p x)) one
        ((candidate, d.few, subst (λ m. is_many p m ≡ false) e unmarked), subst (λ m. Spells (origin new.coding.atoms.keys) (clause_at (clauses_of new.coding.search) n) (digit_literals m d.solvable d.bit (digit d.place d.bit))) e d.spells);
    positive = λ l s a (other, m). absurd (elim (d.spells.only l a) [
      | inl z ↦ (let same_variable : l.variable.0 ≡ 0 = ap (λ (x : Signed). x.variable.0) z in omega arith)
      | inr (z, c) ↦ elim (contains_cases (meaning (origin new.coding.atoms.keys) l) (minus (Atom.solvable d.solvable)) (digit_literal ∷ []) c) [
        | inl i ↦ both_ways false refl (ap (λ (x : Literal (Atom N S)). x.positive) (sym i) ∙ ap (λ (x : Literal (Atom N S)). x.positive) (sym m))
        | inr j ↦ solvable_no_digit s name d.bit (ap (λ (x : Literal (Atom N S)). x.atom) m ∙ ap (λ (x : Literal (Atom N S)). x.atom) (contains_one (meaning (origin new.coding.atoms.keys) l) digit_literal j))
      ]
    ]);
  }
    where
      digit_literal : Literal (Atom N S)
      digit_literal = record { atom = Atom.digit name d.bit; positive = digit d.place d.bit }

      solvable_no_digit : (s : S) (m : N) (bit : ℕ) → Atom.solvable s ≡ Atom.digit m bit → ⊥
      solvable_no_digit s m bit e = cc

-- two steps make one
pub extends_then : {N S : Type 0} (a b c : Encoder N S) → Extends a b → Extends b c → Extends a c
extends_then a b c f g = record { grows = grows_then a.coding b.coding c.coding f.grows g.grows; trail = trail_then a.coding b.coding c.coding f.trail g.trail; softs = g.softs ∙ f.softs; parents = g.parents ∙ f.parents; encoded = g.encoded ∙ f.encoded; deferred = g.deferred ∙ f.deferred; fired = g.fired ∙ f.fired }

pub extends_same : {N S : Type 0} (e : Encoder N S) → Extends e e
extends_same e = record { grows = grows_same e.coding; trail = trail_same e.coding; softs = refl; parents = refl; encoded = refl; deferred = refl; fired = refl }

-- a property of an answer that is none
pub where_none : {X : Type 0} (o : Option X) (P : Type 0) (Q : X → Type 0) → MatchOption o P Q → is_some o ≡ false → P
where_none None P Q h none = h
where_none (Some x) P Q h none = absurd (both_ways true none refl)
