-- Cases are deferred, and those that hold are encoded.
use Rattle.std.proofs.Common.{◌≡◌, ℕ, suc, ◌+◌, ◌<◌, ◌≤◌, ◌⊎◌, inl, inr, Bool, true, false, List, [], ◌∷◌, ◌++◌, length, get_or, Option, Some, Vec, Global, is_some, refl, sym, ◌∙◌, ap, subst, arith, length-append}
use Rattle.resolvo_encoder.specs.declared.encoder.EncodedOnce.{EncodedOnce}
use Rattle.std.specs.Prelude.{Contains, slice_get}
use Rattle.std.proofs.lemmas.Bool.{cases_Bool}
use Rattle.std.proofs.lemmas.Option.{slice_get-get_or}
use Rattle.resolvo_pool_core.specs.ByRequirement.{slot_of}
use Rattle.resolvo_pool_core.specs.declared.id.DenseId.{DenseId}
use Rattle.resolvo_pool_core.specs.declared.id.DisjunctionTag.{DisjunctionTag}
use Rattle.resolvo_pool_core.specs.declared.id.VariableId.{VariableId}
use Rattle.resolvo_pool_core.specs.declared.id.VersionSetId.{VersionSetId}
use Rattle.resolvo_pool_core.specs.declared.requirement.ConditionalRequirement.{ConditionalRequirement}
use Rattle.resolvo_pool_core.specs.declared.requirement.Requirement.{Requirement}
use Rattle.resolvo_pool_core.specs.Text.{solvable_of}
use Rattle.resolvo_pool_core.specs.RuleKeeping.{Packages, Rules, IsLawful, is_match, is_met, rules_for, is_many}
use Rattle.resolvo_store_core.specs.Signed.{Signed, has}
use Rattle.resolvo_store_core.specs.Clauses.{yes, no, candidate_literals as literals_in}
use Rattle.resolvo_store_core.specs.Deferred.{version_set_of, candidates_of}
use Rattle.resolvo_store_core.specs.Lists.{has_candidates, candidates_in, condition_in, list_or_none, FixesDisjunction}
use Rattle.resolvo_store_core.specs.declared.conditions.DeferredConjunct.{DeferredConjunct}
use Rattle.resolvo_store_core.specs.declared.lists.FixedLists.{FixedLists}
use Rattle.resolvo_sat.specs.Entries.{made_true}
use Rattle.resolvo_sat.specs.State.{history, count_of}
use Rattle.resolvo_sat.specs.Steps.{AreInRange}
use Rattle.resolvo_packages.specs.declared.package_source.Offered.{Offered}
use Rattle.resolvo_packages.specs.PackageSource.{offered_solvables, AreOffered}
use Rattle.resolvo_sat.specs.RuleClauses.{IsExact, Rule, case_holds, case_literals, cases_for, AreMatched}
use Rattle.resolvo_sat.specs.Numbered.{Spells}
use Rattle.resolvo_sat.specs.SearchEnd.{IsNeedEncoded}
use Rattle.resolvo_sat.proofs.Lists.{contains_none, contains_one, contains_parts, all_contained, any_contained, contains_map}
use Rattle.resolvo_sat.proofs.Members.{in_contained, contained_in}
use Rattle.resolvo_state.specs.Kinds.{Kind}
use Rattle.resolvo_state.specs.Atoms.{origin}
use Rattle.resolvo_state.proofs.Growth.{grows_same}
use Rattle.resolvo_state.proofs.Origins.{count_is, means_solvable}
use Rattle.resolvo_state.proofs.Positions.{prefix_same, prefix_long, get_last, get_old, get_push}
use Rattle.resolvo_encoder.specs.Cases.{case_of, sets_case, IsMatching, IsSet, AreSets, IsCaseOf}
use Rattle.resolvo_encoder.specs.Conditions.{IsOneChosen, IsSpent}
use Rattle.resolvo_encoder.specs.Encoded.{IsParentVariable, IsCondition, IsEncoding, IsPrepared}
use Rattle.resolvo_encoder.specs.Encoded as E
use Rattle.resolvo_encoder.specs.AtLeastOneClauses.{AreCaseLiterals, CaseLiterals}
use Rattle.resolvo_encoder.specs.ClauseRules.{EncodesRules}
use Rattle.resolvo_encoder.specs.Steps.{IsBuilt, Extends, AddsCandidates, Fixes, EncodesNeed}
use Rattle.resolvo_encoder.specs.declared.conditions.ConditionSet.{ConditionSet}
use Rattle.resolvo_encoder.specs.declared.encoder.Deferred.{Deferred}
use Rattle.resolvo_encoder.specs.declared.encoder.Encoder.{Encoder}
use Rattle.resolvo_encoder.proofs.BuildLemmas.{built_disjunction, built_in_range, built_encodes}
use Rattle.resolvo_encoder.proofs.EnrollLemmas.{disjunction_keeps, fixes_keep, fixes_add, fixes_extend}
use Rattle.resolvo_encoder.proofs.EncodesLemmas.{parent_variable_grows}
use Rattle.resolvo_encoder.proofs.RangeLemmas.{parent_below}
use Rattle.resolvo_encoder.proofs.NeedLemmas.{IsReady, need_keeps}
use Rattle.resolvo_encoder.proofs.RequireLemmas.{each_of, parent_grows, extends_then, some_one}

-- the literals of an added disjunction are its own
disjunction_there : {N : Type 0} (id : DenseId DisjunctionTag ℕ) (given : List Signed) (old new : FixedLists N) → FixesDisjunction id.raw given old new → id.raw < length new.disjunctions
disjunction_there id given old new f =
    let next : id.raw ≡ length old.disjunctions = f.next in
    let long : length new.disjunctions ≡ length old.disjunctions + 1 = ap length f.put ∙ length-append old.disjunctions (given ∷ []) in
    omega (arith, next, long)

disjunction_is : {N : Type 0} (id : DenseId DisjunctionTag ℕ) (given : List Signed) (old new : FixedLists N) → FixesDisjunction id.raw given old new → condition_in new (Some id) ≡ given
disjunction_is id given old new f = ap list_or_none (ap (slice_get new.disjunctions) f.next ∙ ap (λ (xs : List (List Signed)). slice_get xs (length old.disjunctions)) f.put ∙ get_last old.disjunctions given)

-- the last value is behind the others
pub deferred_last : {X : Type 0} (xs : List X) (x : X) (ys : List X) → ys ≡ xs ++ x ∷ [] → slice_get ys (length xs) ≡ Some x
deferred_last xs x ys is = subst (λ zs. slice_get zs (length xs) ≡ Some x) (sym is) (get_last xs x)

-- a value at a place is in the list
pub looked_up : {X : Type 0} (xs ys : List X) (i : ℕ) (x : X) → xs ≡ ys → i < length xs → x ≡ get_or xs i x → slice_get ys i ≡ Some x
looked_up xs ys i x same below is = subst (λ zs. slice_get zs i ≡ Some x) same (slice_get-get_or xs i x below ∙ ap Some (sym is))

-- none of these, nor of one more
pub none_more : {X : Type 0} (P : X → Type 0) (xs : List X) (x : X) (ys : List X) → ys ≡ xs ++ x ∷ [] → ((y : X) → Contains xs y → P y) → P x → (y : X) → Contains ys y → P y
none_more P xs x ys is all one y h = elim (contains_parts y xs (x ∷ []) (subst (λ zs. Contains zs y) is h)) [ inl k ↦ all y k | inr k ↦ subst P (sym (contains_one y x k)) one ]

module _ {N S : Type 0} (same : S → S → Bool) (exact : IsExact same) (p : Packages N S) (root : Rules) where
  -- a deferred case was added
  pub defer_keeps : (old : Encoder N S) (ds : Vec (Deferred S) Global) (d : Deferred S) → IsEncoding same p root old → ds.items ≡ old.deferred.items ++ d ∷ [] → IsCaseOf same p root d → IsEncoding same p root (record old { deferred = ds })
  defer_keeps old ds d e is own = record {
    coding = e.coding;
    tied = e.tied;
    spelled = e.spelled;
    rule = e.rule;
    positive = e.positive;
    named = e.named;
    candidates = e.candidates;
    listed = λ q c a. (let (s, fits, m) = e.listed q c a in (s, record { positive = fits.positive; present = fits.present; tracked = fits.tracked }, m));
    offered = λ q s h m. (let (c, a, fits) = e.offered q s h m in (c, a, record { positive = fits.positive; present = fits.present; tracked = fits.tracked }));
    fixed = e.fixed;
    queued = e.queued;
    asked = e.asked;
    gates = e.gates;
    forbid = e.forbid;
    recorded = record { packages = e.recorded.packages; version_sets = e.recorded.version_sets; matches = e.recorded.matches };
    marks = record { right = e.marks.right; registered = e.marks.registered; recorded = e.marks.recorded };
    cases = record {
      waiting = λ i x at. elim (get_push old.deferred.items d x i (subst (λ (xs : List (Deferred S)). slice_get xs i ≡ Some x) is at)) [ inl a ↦ e.cases.waiting i x a | inr (k, same_one) ↦ subst (IsCaseOf same p root) (sym same_one) own ];
      places = λ i h. (let low : i < length old.deferred.items = e.cases.places i h in let long : length old.deferred.items ≤ length ds.items = prefix_long old.deferred.items ds.items (d ∷ [], is) in omega (arith, low, long));
      fired = λ i x h at. e.cases.fired i x h (get_old old.deferred.items (d ∷ []) i x (e.cases.places i h) (subst (λ (xs : List (Deferred S)). slice_get xs i ≡ Some x) is at));
      cased = e.cases.cased;
      at_least_one = e.cases.at_least_one;
      there = e.cases.there;
    };
    within = e.within;
    encoded = λ i parent below at. parent_grows same exact p root old (record old { deferred = ds }) (solvable_of parent) (grows_same old.coding) (d ∷ [], is) (e.encoded i parent below at);
    wished = e.wished;
    called = e.called;
  }

  -- an encoded case has fired
  pub fire_keeps : (old new : Encoder N S) (index : ℕ) → IsEncoding same p root old → index < length old.deferred.items → ((i : ℕ) → Contains new.fired.keys i → Contains old.fired.keys i ⊎ (i ≡ index))
      → ((d : Deferred S) → slice_get old.deferred.items index ≡ Some d → IsNeedEncoded same p (E.rules_of old) d.parent d.need (case_of d.conjuncts.items)) → new ≡ record old { fired = new.fired } → IsEncoding same p root new
  fire_keeps old new index e below only encoded is = subst (λ (x : Encoder N S). IsEncoding same p root x) (sym is) (record {
    coding = e.coding;
    tied = e.tied;
    spelled = e.spelled;
    rule = e.rule;
    positive = e.positive;
    named = e.named;
    candidates = e.candidates;
    listed = λ q c a. (let (s, fits, m) = e.listed q c a in (s, record { positive = fits.positive; present = fits.present; tracked = fits.tracked }, m));
    offered = λ q s h m. (let (c, a, fits) = e.offered q s h m in (c, a, record { positive = fits.positive; present = fits.present; tracked = fits.tracked }));
    fixed = e.fixed;
    queued = e.queued;
    asked = e.asked;
    gates = e.gates;
    forbid = e.forbid;
    recorded = record { packages = e.recorded.packages; version_sets = e.recorded.version_sets; matches = e.recorded.matches };
    marks = record { right = e.marks.right; registered = e.marks.registered; recorded = e.marks.recorded };
    cases = record {
      waiting = e.cases.waiting;
      places = λ i h. elim (only i h) [ inl a ↦ e.cases.places i a | inr one ↦ subst (λ n. n < length old.deferred.items) (sym one) below ];
      fired = λ i d h at. elim (only i h) [ inl a ↦ e.cases.fired i d a at | inr one ↦ encoded d (subst (λ n. slice_get old.deferred.items n ≡ Some d) one at) ];
      cased = e.cases.cased;
      at_least_one = e.cases.at_least_one;
      there = e.cases.there;
    };
    within = e.within;
    encoded = λ i parent low at. parent_grows same exact p root old (record old { fired = new.fired }) (solvable_of parent) (grows_same old.coding) (prefix_same old.deferred.items) (e.encoded i parent low at);
    wished = e.wished;
    called = e.called;
  })

  -- the clause of a case was added, whose packages are recorded
  pub case_keeps : IsLawful p → (parent : Option S) (need : ConditionalRequirement) (case : List VersionSetId) (v : VariableId) (id : DenseId DisjunctionTag ℕ) (given : List Signed) (old : Encoder N S) (ls : FixedLists N) (new : Encoder N S) → IsEncoding same p root old
      → FixesDisjunction id.raw given old.lists ls → has_candidates old.lists need.requirement ≡ true → IsParentVariable old.coding.atoms.keys parent v → Contains (rules_for same p root parent).requirements need
      → Contains (cases_for same p need) case → AreMatched same p case → AreInRange (count_of old.coding.search) given → AreCaseLiterals same p old case given → EncodesNeed (Kind.Needs parent need case) v (Some id) need.requirement (record old { lists = ls }) new
      → IsEncoding same p root new × E.rules_of new (Rule.needs parent need case)
  case_keeps lawful parent need case v id given old ls new e fixes has_list present listed cased matched below at_least_one new_clause =
      let middle = disjunction_keeps same exact p root lawful id.raw given old ls e fixes in
      let has_still : has_candidates ls need.requirement ≡ true = ap (λ cs. is_some (slot_of cs need.requirement)) fixes.candidates ∙ has_list in
      let (keeps, rules) = need_keeps same exact p root lawful (Kind.Needs parent need case) v (Some id) need.requirement (record old { lists = ls }) new middle has_still (refl, present, conditioned, listed, cased, matched) ready new_clause in
      (keeps, rules (Rule.needs parent need case) refl)
    where
      literals : condition_in ls (Some id) ≡ given
      literals = disjunction_is id given old.lists ls fixes

      conditioned : IsCondition same p ls old.coding.atoms.keys (Some id) case
      conditioned = record {
        there = disjunction_there id given old.lists ls fixes;
        in_range = subst (AreInRange (suc (length old.coding.atoms.keys))) (sym literals) (subst (λ n. AreInRange n given) (count_is old.coding e.coding) below);
        spells = subst (λ (xs : List Signed). Spells (origin old.coding.atoms.keys) xs (case_literals same p case)) (sym literals) at_least_one.spells;
      }

      ready : IsReady same exact p root lawful (record old { lists = ls }) (Kind.Needs parent need case)
      ready who wanted vs w states h =
          let which : case ≡ vs = cc in
          let there = subst (λ (xs : List VersionSetId). Contains xs w) (sym which) h in
          at_least_one.sets w there

-- ---- whether a case holds

module _ {N S : Type 0} (same : S → S → Bool) (exact : IsExact same) where
  -- a case with a version set of which no match is chosen doesn't hold
  pub unmet_spent : (e : Encoder N S) (index : ℕ) (d : Deferred S) (c : DeferredConjunct S) → slice_get e.deferred.items index ≡ Some d → Contains d.conjuncts.items c → (IsOneChosen e (candidates_of c) → ⊥) → IsSpent same e index
  unmet_spent e index d c at present none = inr (λ p root lawful holds x there members chosen. elim (cases_Bool (case_holds same p members (case_of x.conjuncts.items))) [
    | inr fails ↦ fails
    | inl truth ↦
        let one : d ≡ x = some_one d x (sym at ∙ there) in
        let met : is_met same p members (version_set_of c) ≡ true = all_contained (is_met same p members) (version_set_of c) (case_of x.conjuncts.items) truth (contains_map version_set_of c x.conjuncts.items (subst (λ (y : Deferred S). Contains y.conjuncts.items c) one present)) in
        let (m, member, match) = any_contained (is_match same p (version_set_of c)) members met in
        let waits = holds.cases.waiting index x there in
        let matching : IsMatching same p c = each_of (IsMatching same p) x.conjuncts.items c waits.conjuncts (subst (λ (y : Deferred S). Contains y.conjuncts.items c) one present) in
        let (l, known, means) = chosen.each m member in
        let (positive, variable) = means_solvable e.coding.atoms.keys l m means in
        let literal : l ≡ yes l.variable = λ i. record { variable = l.variable; positive = positive i } in
        absurd (none (m, in_contained same exact p (candidates_of c) m (matching m ∙ match), (l.variable, variable, subst (λ (y : Signed). has (made_true (history e.coding.search)) y ≡ true) literal known)))
  ])

-- ---- a case is encoded

-- the variables of the case's clause exist
pub case_in_range : {N S : Type 0} (e : Encoder N S) (parent : Option S) (v : VariableId) (id : DenseId DisjunctionTag ℕ) (given : List Signed) (ls : FixedLists N) (r : Requirement) → IsBuilt e → FixesDisjunction id.raw given e.lists ls → IsParentVariable e.coding.atoms.keys parent v
    → AreInRange (count_of e.coding.search) given → AreInRange (count_of e.coding.search) (no v ∷ (condition_in ls (Some id) ++ literals_in (candidates_in ls r)))
case_in_range e parent v id given ls r built fixes present below = built_in_range (record e { lists = ls }) v (Some id) r (built_disjunction id.raw given e ls built fixes) (parent_below e built parent v present)
    (subst (AreInRange (count_of e.coding.search)) (sym (disjunction_is id given e.lists ls fixes)) below)

-- The steps that encode a case: candidates, the parent's variable, at-least-one clauses, its
-- literals, its clause.
pub record EncodesCase {N S : Type 0} (same : S → S → Bool) (parent : Option S) (need : ConditionalRequirement) (sets : List (ConditionSet N S)) (offered : List (Offered N S)) (old new : Encoder N S) : Type 0 where
  pub fixed : Encoder N S
  pub named : Encoder N S
  pub at_least_one : Encoder N S
  pub lists : FixedLists N
  pub variable : VariableId
  pub id : DenseId DisjunctionTag ℕ
  pub given : List Signed
  pub case : List VersionSetId
  pub is_case : case ≡ sets_case sets
  pub fixes : Fixes same need.requirement offered old fixed
  pub encodes : EncodesRules same [] fixed named
  pub present : IsParentVariable named.coding.atoms.keys parent variable
  pub negates : CaseLiterals same sets given named at_least_one
  pub disjoins : FixesDisjunction id.raw given at_least_one.lists lists
  pub states : EncodesNeed (Kind.Needs parent need case) variable (Some id) need.requirement (record at_least_one { lists = lists }) new

module _ {N S : Type 0} (same : S → S → Bool) (exact : IsExact same) (parent : Option S) (need : ConditionalRequirement) (sets : List (ConditionSet N S)) (offered : List (Offered N S)) (old new : Encoder N S) (h : EncodesCase same parent need sets offered old new) where
  case_grown : Extends h.fixed new
  case_grown = extends_then h.fixed h.named new h.encodes.extends (extends_then h.named h.at_least_one new h.negates.extends (record { grows = h.states.states.grows; trail = h.states.states.trail; softs = ap (λ (x : EncodedOnce N S). x.softs.items) h.states.recorded; parents = h.states.parents; encoded = h.states.encoded; deferred = h.states.deferred; fired = h.states.fired }))

  pub case_extends : Extends old new
  case_extends = extends_then old h.fixed new (fixes_extend same need.requirement offered old h.fixed h.fixes) case_grown

  pub case_adds : AddsCandidates need.requirement offered old new
  case_adds = fixes_add same need.requirement offered old h.fixed new h.fixes case_grown.grows (ap (λ (ls : FixedLists N). ls.candidates) h.states.lists ∙ h.disjoins.candidates ∙ ap (λ (ls : FixedLists N). ls.candidates) (h.negates.lists ∙ h.encodes.lists))

  pub case_built : IsBuilt new
  case_built = built_encodes (Kind.Needs parent need h.case) h.variable (Some h.id) need.requirement (record h.at_least_one { lists = h.lists }) new (built_disjunction h.id.raw h.given h.at_least_one h.lists h.negates.built h.disjoins) (λ name s place bit is. absurd cc) h.states

  pub case_encoded : (p : Packages N S) (root : Rules) → IsLawful p → IsEncoding same p root old → AreSets same p sets → AreOffered same p need.requirement offered → IsPrepared same p old need.requirement → Contains (rules_for same p root parent).requirements need
      → Contains (cases_for same p need) (sets_case sets) → AreMatched same p (sets_case sets) → IsEncoding same p root new × E.rules_of new (Rule.needs parent need (sets_case sets))
  case_encoded p root lawful e all_sets all_offered prepared listed cased matched =
      let (first, has) = fixes_keep same exact p root lawful need.requirement offered old h.fixed e all_offered prepared h.fixes in
      let (second, none) = h.encodes.encoding p root lawful first (λ r k. absurd (contains_none r k)) in
      let (third, at_least_one) = h.negates.encoding p root lawful second all_sets (λ v k. (parent, need, sets_case sets, listed, cased, k)) in
      let (last, rule) = case_keeps same exact p root lawful parent need h.case h.variable h.id h.given h.at_least_one h.lists new third h.disjoins (subst (λ ls. has_candidates ls need.requirement ≡ true) (sym (h.negates.lists ∙ h.encodes.lists)) has)
      (parent_variable_grows h.named h.at_least_one parent h.variable h.negates.extends h.present) listed (subst (λ vs. Contains (cases_for same p need) vs) (sym h.is_case) cased) (subst (λ vs. AreMatched same p vs) (sym h.is_case) matched)
      h.negates.in_range (subst (λ vs. AreCaseLiterals same p h.at_least_one vs h.given) (sym h.is_case) at_least_one) h.states in
      (last, subst (λ vs. E.rules_of new (Rule.needs parent need vs)) h.is_case rule)

-- a case whose version set excludes the parent, of a package that isn't marked, needs no clause
pub case_left_out : {N S : Type 0} (same : S → S → Bool) → IsExact same → (p : Packages N S) (rules : Rule N S → Type 0) (parent : Option S) (need : ConditionalRequirement) (sets : List (ConditionSet N S)) (s : S) (c : ConditionSet N S) → AreSets same p sets → parent ≡ Some s → Contains sets c → c.many ≡ false → Contains (offered_solvables c.outside.items) s
    → IsNeedEncoded same p rules parent need (sets_case sets)
case_left_out same exact p rules parent need sets s c all_sets who present unmarked there =
    let is_set = each_of (IsSet same p) sets c all_sets present in
    inr (inr (s, c.version_set, who, contains_map (λ (x : ConditionSet _ _). x.version_set) c sets present, sym ((is_set.outside unmarked).outside s) ∙ contained_in same exact p (offered_solvables c.outside.items) s there, sym (is_set.mark ∙ ap (is_many p) is_set.named) ∙ unmarked))
