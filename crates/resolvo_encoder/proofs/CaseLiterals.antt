-- At-least-one clauses for the registered solvables of a case's packages, and the literals of the
-- case.
use Rattle.std.proofs.Common.{◌≡◌, ◌<◌, ◌⊎◌, inl, inr, Bool, true, false, List, [], ◌∷◌, ◌++◌, Some, None, refl, sym, ◌∙◌, ap, subst, arith}
use Rattle.std.specs.Prelude.{Contains}
use Rattle.std.specs.List.{AllByRecursion}
use Rattle.std.proofs.lemmas.Bool.{both_ways, and_parts}
use Rattle.std.proofs.lemmas.List.{map-append}
use Rattle.resolvo_pool_core.specs.declared.id.VariableId.{VariableId}
use Rattle.resolvo_pool_core.specs.declared.id.VersionSetId.{VersionSetId}
use Rattle.resolvo_pool_core.specs.OnePass.{Literal}
use Rattle.resolvo_pool_core.specs.Provider.{listed}
use Rattle.resolvo_pool_core.specs.RuleKeeping.{Packages, Rules, IsLawful, is_in, is_outside, is_many}
use Rattle.resolvo_store_core.specs.Signed.{Signed}
use Rattle.resolvo_store_core.specs.Clauses.{no, candidate_literals as literals_in}
use Rattle.resolvo_store_core.specs.declared.lists.Candidate.{Candidate}
use Rattle.resolvo_sat.specs.State.{count_of}
use Rattle.resolvo_sat.specs.Steps.{AreInRange}
use Rattle.resolvo_sat.proofs.Literals.{has-cons, has_here, has_later, has-append}
use Rattle.resolvo_packages.specs.declared.package_source.Offered.{Offered}
use Rattle.resolvo_packages.specs.PackageSource.{offered_solvables}
use Rattle.resolvo_sat.specs.RuleClauses.{IsExact, Atom, Rule, plus, minus, case_literals, IsRule}
use Rattle.resolvo_sat.specs.Numbered.{meaning, Means, Spells}
use Rattle.resolvo_sat.proofs.GrowLemmas.{spells_agree}
use Rattle.resolvo_sat.proofs.Lists.{contains_none, contains_only, contains_one, contains_left, contains_right, contains_parts, contains_map, map_contains}
use Rattle.resolvo_sat.proofs.Members.{in_contained, contained_in, candidate_named, in_case, any_in_case, outside_in_case, matches_in_case, IsSetLiteral}
use Rattle.resolvo_state.specs.declared.atom.ProofAtom.TheVariants.{Solvable, AtLeastOne}
use Rattle.resolvo_state.specs.declared.solver_state.SolverState.{SolverState}
use Rattle.resolvo_state.specs.declared.registry.Registry.{Registry}
use Rattle.resolvo_state.specs.declared.atom.ProofAtom.{ProofAtom}
use Rattle.resolvo_state.specs.Atoms.{origin, solvable_of, Represents}
use Rattle.resolvo_state.specs.SolverState.{IsCoding, Grows}
use Rattle.resolvo_state.specs.Registered.{AreTied, IsInTracker, IsTracked, IsRegistered}
use Rattle.resolvo_store_core.specs.AtMostOne.{IsPrefixOf}
use Rattle.resolvo_state.proofs.Growth.{origin_grows, rules_grow, represents_grow, represents_in_range}
use Rattle.resolvo_state.proofs.Origins.{count_is, means_atom, solvable_means, solvable_represents, represents_solvable}
use Rattle.resolvo_state.proofs.Positions.{prefix_long}
use Rattle.resolvo_encoder.specs.Cases.{sets_case, IsSet}
use Rattle.resolvo_encoder.specs.Encoded.{IsNamed, IsEncoding, IsSetEncoded}
use Rattle.resolvo_encoder.specs.Encoded as E
use Rattle.resolvo_encoder.specs.AtLeastOneClauses.{AreThose, AddsAtLeastOne, Admits, TracksAtLeastOne, NamesPackage, AreCaseLiterals, CaseLiterals}
use Rattle.resolvo_encoder.specs.Steps.{IsBuilt, Extends, IsOfferedAs, IsListed, Enrols, IsAddable}
use Rattle.resolvo_encoder.specs.ClauseRules.{EncodesRules}
use Rattle.resolvo_encoder.specs.declared.conditions.ConditionSet.{ConditionSet}
use Rattle.resolvo_encoder.specs.declared.encoder.Encoder.{Encoder}
use Rattle.resolvo_encoder.specs.declared.encoder.EncodedOnce.{EncodedOnce}
use Rattle.resolvo_encoder.proofs.ConditionLemmas.{spells_join}
use Rattle.resolvo_encoder.proofs.NeedLemmas.{literal_in, in_literals}
use Rattle.resolvo_encoder.proofs.RequireLemmas.{each_of, some_one, extends_then, extends_same, registered_before, pending_stays, set_stays}
use Rattle.resolvo_encoder.proofs.EncodesLemmas.{built_recorded, at_least_one_recorded, queued_recorded, there_recorded}
use Rattle.resolvo_encoder.proofs.Parents.{prefix_contains}

-- `Extends` doesn't depend on `recorded`, except for its soft requirements
pub extends_recorded : {N S : Type 0} (old middle : Encoder N S) (x : EncodedOnce N S) → Extends old middle → x.softs.items ≡ middle.recorded.softs.items → Extends old (record middle { recorded = x })
extends_recorded old middle x h softs = record { grows = h.grows; trail = record { tracker = h.trail.tracker }; softs = softs ∙ h.softs; parents = h.parents; encoded = h.encoded; deferred = h.deferred; fired = h.fired }

-- the literals keep their meanings where variables are added
spells_grow : {N S : Type 0} (old new : SolverState N S) (ls : List Signed) (ms : List (Literal (Atom N S))) → IsCoding old → Grows old new → AreInRange (count_of old.search) ls → Spells (origin old.atoms.keys) ls ms → Spells (origin new.atoms.keys) ls ms
spells_grow old new ls ms coding grows below h = spells_agree (origin old.atoms.keys) (origin new.atoms.keys) (count_of old.search) (origin_grows old new coding grows) ls ms below h

range_grows : {N S : Type 0} (old new : SolverState N S) (ls : List Signed) → IsCoding old → IsCoding new → Grows old new → AreInRange (count_of old.search) ls → AreInRange (count_of new.search) ls
range_grows old new ls before after grows below l h =
    let low : l.variable.0 < count_of old.search = below l h in
    let first = count_is old before in
    let second = count_is new after in
    let long = prefix_long old.atoms.keys new.atoms.keys grows.atoms in
    omega (arith, low, first, second, long)

all_parts : {X : Type 0} (P : X → Type 0) (xs ys : List X) → AllByRecursion P (xs ++ ys) → AllByRecursion P xs × AllByRecursion P ys
all_parts P [] ys h = (tt, h)
all_parts P (x ∷ xs) ys (a, h) = let (b, c) = all_parts P xs ys h in ((a, b), c)

-- these are the solvables of the variables, with the package
pub record AreOf {N S : Type 0} (atoms : List (ProofAtom N S)) (variables : List VariableId) (name : N) (list : List (Offered N S)) : Type 0 where
  pub each : (v : VariableId) (s : S) → Contains variables v → solvable_of atoms v.0 ≡ Some s → Contains list (record { solvable = s; name = name })
  pub all : (o : Offered N S) → Contains list o → (o.name ≡ name) × ((v : VariableId) × Contains variables v × (solvable_of atoms v.0 ≡ Some o.solvable))

pub of_none : {N S : Type 0} (atoms : List (ProofAtom N S)) (name : N) → AreOf atoms [] name []
of_none atoms name = record { each = λ v s h is. absurd (contains_none v h); all = λ o h. absurd (contains_none o h) }

pub of_more : {N S : Type 0} (atoms : List (ProofAtom N S)) (vs : List VariableId) (name : N) (list : List (Offered N S)) (v : VariableId) (s : S) → solvable_of atoms v.0 ≡ Some s → AreOf atoms vs name list → AreOf atoms (vs ++ v ∷ []) name (list ++ record { solvable = s; name = name } ∷ [])
of_more {N} {S} atoms vs name list v s is h = record {
  each = λ w t a at. elim (contains_parts w vs (v ∷ []) a) [
    | inl k ↦ contains_left (let o : Offered N S = record { solvable = t; name = name } in o) list (record { solvable = s; name = name } ∷ []) (h.each w t k at)
    | inr k ↦ contains_right (let o : Offered N S = record { solvable = t; name = name } in o) list (record { solvable = s; name = name } ∷ [])
        (subst (λ (x : S). Contains (record { solvable = s; name = name } ∷ []) (let o : Offered N S = record { solvable = x; name = name } in o)) (some_one s t (sym is ∙ sym (ap (λ (x : VariableId). solvable_of atoms x.0) (contains_one w v k)) ∙ at)) (contains_only (let o : Offered N S = record { solvable = s; name = name } in o)))
  ];
  all = λ o a. elim (contains_parts o list (record { solvable = s; name = name } ∷ []) a) [
    | inl k ↦ (let (named, (w, present, at)) = h.all o k in (named, (w, contains_left w vs (v ∷ []) present, at)))
    | inr k ↦ (let one : o ≡ record { solvable = s; name = name } = contains_one o (record { solvable = s; name = name }) k in
        (ap (λ (x : Offered N S). x.name) one, (v, contains_right v vs (v ∷ []) (contains_only v), is ∙ ap (λ (x : Offered N S). Some x.solvable) (sym one))))
  ];
}

pub of_other : {N S : Type 0} (atoms : List (ProofAtom N S)) (vs : List VariableId) (name : N) (list : List (Offered N S)) (v : VariableId) → solvable_of atoms v.0 ≡ None → AreOf atoms vs name list → AreOf atoms (vs ++ v ∷ []) name list
of_other {N} {S} atoms vs name list v none h = record {
  each = λ w t a at. elim (contains_parts w vs (v ∷ []) a) [
    | inl k ↦ h.each w t k at
    | inr k ↦ (let no_one : None ≡ Some t = sym none ∙ sym (ap (λ (x : VariableId). solvable_of atoms x.0) (contains_one w v k)) ∙ at in absurd cc)
  ];
  all = λ o a. (let (named, (w, present, at)) = h.all o a in (named, (w, contains_left w vs (v ∷ []) present, at)));
}

-- they are the registered ones, where the variables are those of the package
pub those_of : {N S : Type 0} (e : Encoder N S) (name : N) (variables : List VariableId) (list : List (Offered N S)) → AreTied e.registry e.coding → ((v : VariableId) → Contains variables v → IsInTracker e.registry name v) → ((v : VariableId) → IsInTracker e.registry name v → Contains variables v)
    → AreOf e.coding.atoms.keys variables name list → AreThose e name list
those_of e name variables list tied tracked all h = record {
  each = λ s (v, present, there). elim (tied.rest name v there) [
    | inl placed ↦ inl (h.each v s (all v placed) (solvable_represents e.coding.atoms.keys v s present))
    | inr (inl queued) ↦ inr (inl (v, present, queued))
    | inr (inr marked) ↦ inr (inr marked)
  ];
  all = λ o a. (let (named, (v, present, at)) = h.all o a in (named, (v, represents_solvable e.coding.atoms.keys v o.solvable at, tied.registered name v (tracked v present))));
}

module _ {N S : Type 0} (same : S → S → Bool) (exact : IsExact same) where
  -- ---- one after another

  pub adds_none : (e : Encoder N S) → IsBuilt e → AddsAtLeastOne same [] e e
  adds_none e built = record {
    built = built;
    extends = extends_same e;
    lists = refl;
    registry = refl;
    at_least_one = refl;
    queued = refl;
    encoding = λ p root lawful holds fits. (holds, λ o h. absurd (contains_none o h));
  }

  pub adds_then : (xs ys : List (Offered N S)) (a b c : Encoder N S) → AddsAtLeastOne same xs a b → AddsAtLeastOne same ys b c → AddsAtLeastOne same (xs ++ ys) a c
  adds_then xs ys a b c f g = record {
    built = g.built;
    extends = extends_then a b c f.extends g.extends;
    lists = g.lists ∙ f.lists;
    registry = g.registry ∙ f.registry;
    at_least_one = g.at_least_one ∙ f.at_least_one;
    queued = g.queued ∙ f.queued;
    encoding = λ p root lawful holds fits.
        let (middle, first) = f.encoding p root lawful holds (λ o h. fits o (contains_left o xs ys h)) in
        let (last, second) = g.encoding p root lawful middle (λ o h. fits o (contains_right o xs ys h)) in
        (last, λ o h. elim (contains_parts o xs ys h) [ inl k ↦ rules_grow b.coding c.coding g.extends.grows (Rule.is_there o.name o.solvable) (first o k) | inr k ↦ second o k ]);
  }

  -- the clause was added and recorded
  pub adds_encoded : (o : Offered N S) (old middle : Encoder N S) (x : EncodedOnce N S) → EncodesRules same (Rule.is_there o.name o.solvable ∷ []) old middle → ((t : S) → Contains x.there.keys t → Contains middle.recorded.there.keys t ⊎ (t ≡ o.solvable))
      → x ≡ record middle.recorded { there = x.there } → AddsAtLeastOne same (o ∷ []) old (record middle { recorded = x })
  adds_encoded o old middle x encodes only others = record {
    built = built_recorded middle x encodes.built;
    extends = extends_recorded old middle x encodes.extends (ap (λ (y : EncodedOnce N S). y.softs.items) others);
    lists = encodes.lists;
    registry = encodes.registry;
    at_least_one = ap (λ (y : EncodedOnce N S). y.at_least_one) others ∙ ap (λ (y : EncodedOnce N S). y.at_least_one) encodes.recorded;
    queued = ap (λ (y : EncodedOnce N S). y.queued) others ∙ ap (λ (y : EncodedOnce N S). y.queued) encodes.recorded;
    encoding = λ p root lawful e fits.
        let (named, candidate) = fits o (contains_only o) in
        let (holds, rules) = encodes.encoding p root lawful e (λ r h. subst (IsRule same p root) (sym (contains_one r (Rule.is_there o.name o.solvable) h)) candidate) in
        let rule = rules (Rule.is_there o.name o.solvable) (contains_only (Rule.is_there o.name o.solvable)) in (
          there_recorded same exact p root middle x o.solvable holds only others (subst (λ n. E.rules_of middle (Rule.is_there n o.solvable)) named rule),
          λ q h. subst (λ (y : Offered N S). E.rules_of middle (Rule.is_there y.name y.solvable)) (sym (contains_one q o h)) rule,
        );
  }

  -- it was added before
  pub adds_known : (o : Offered N S) (e : Encoder N S) → IsBuilt e → Contains e.recorded.there.keys o.solvable → AddsAtLeastOne same (o ∷ []) e e
  adds_known o e built known = record {
    built = built;
    extends = extends_same e;
    lists = refl;
    registry = refl;
    at_least_one = refl;
    queued = refl;
    encoding = λ p root lawful holds fits. (
      holds,
      λ q h. subst (λ (y : Offered N S). E.rules_of e (Rule.is_there y.name y.solvable)) (sym (contains_one q o h)) (subst (λ n. E.rules_of e (Rule.is_there n o.solvable)) (sym (fits o (contains_only o)).0) (holds.cases.there o.solvable known)),
    );
  }

  -- ---- solvables of recorded packages

  pub admits_other : (o : Offered N S) (e : Encoder N S) → IsBuilt e → (Contains e.recorded.at_least_one.keys o.name → ⊥) → Admits same (o ∷ []) e e
  admits_other o e built other = record {
    added = [];
    each = λ q h named. absurd (other (subst (λ (y : Offered N S). Contains e.recorded.at_least_one.keys y.name) (contains_one q o h) named));
    only = λ q h. absurd (contains_none q h);
    adds = adds_none e built;
  }

  -- ---- a package of a case

  pub package_known : (name : N) (e : Encoder N S) → IsBuilt e → Contains e.recorded.at_least_one.keys name → TracksAtLeastOne same name e e
  package_known name e built known = record { built = built; extends = extends_same e; lists = refl; registry = refl; keeps = λ n h. h; at_least_one = known; queued = refl; encoding = λ p root lawful holds. holds }

  pub package_tracked : (name : N) (list : List (Offered N S)) (old middle : Encoder N S) (x : EncodedOnce N S) → AreThose old name list → AddsAtLeastOne same list old middle → ((n : N) → Contains x.at_least_one.keys n → Contains middle.recorded.at_least_one.keys n ⊎ (n ≡ name))
      → ((n : N) → Contains middle.recorded.at_least_one.keys n → Contains x.at_least_one.keys n) → Contains x.at_least_one.keys name → x ≡ record middle.recorded { at_least_one = x.at_least_one } → TracksAtLeastOne same name old (record middle { recorded = x })
  package_tracked name list old middle x those adds only keeps present others = record {
    built = built_recorded middle x adds.built;
    extends = extends_recorded old middle x adds.extends (ap (λ (y : EncodedOnce N S). y.softs.items) others);
    lists = adds.lists;
    registry = adds.registry;
    keeps = λ n h. keeps n (subst (λ ks. Contains ks.keys n) (sym adds.at_least_one) h);
    at_least_one = present;
    queued = ap (λ (y : EncodedOnce N S). y.queued) others ∙ adds.queued;
    encoding = λ p root lawful e.
        let (holds, rules) = adds.encoding p root lawful e (fits p root e) in
        at_least_one_recorded same exact p root middle x name holds only keeps others
        (λ s a. elim (those.each s (registered_before same exact p root lawful old middle e.tied adds.extends.grows adds.registry name s a)) [
          | inl there ↦ inl (rules (record { solvable = s; name = name }) there)
          | inr waits ↦ inr (pending_stays same exact p root lawful old middle adds.extends.grows adds.registry name s waits)
        ]);
  }
    where
      fits : (p : Packages N S) (root : Rules) → IsEncoding same p root old → (o : Offered N S) → Contains list o → IsListed same p o
      fits p root e o h =
          let (named, registered) = those.all o h in
          let own : name ≡ p.package_of o.solvable = e.named name o.solvable registered in
          (named ∙ own, subst (λ n. is_in same p (listed (p.candidates_of n)) o.solvable ≡ true) (sym (named ∙ own)) (e.candidates o.solvable (subst (λ n. IsRegistered old.registry old.coding n o.solvable) own registered)))

  -- a package of a case is named
  pub package_named : (name : N) (old : Encoder N S) (x : EncodedOnce N S) → IsBuilt old → IsPrefixOf old.recorded.queued.keys x.queued.keys → Contains x.queued.keys name → x ≡ record old.recorded { queued = x.queued } → NamesPackage same name old (record old { recorded = x })
  package_named name old x built prefix present others = record {
    built = built_recorded old x built;
    extends = extends_recorded old old x (extends_same old) (ap (λ (y : EncodedOnce N S). y.softs.items) others);
    lists = refl;
    registry = refl;
    keeps = named;
    matches = λ v h. subst (λ (y : EncodedOnce N S). Contains y.matches.keys v) (sym others) h;
    named = inr present;
    encoding = λ p root lawful e. queued_recorded same exact p root old x e named others;
  }
    where
      named : (n : N) → IsNamed old.recorded n → IsNamed x n
      named n (inl h) = inl (subst (λ (y : EncodedOnce N S). Contains y.at_least_one.keys n) (sym others) h)
      named n (inr h) = inr (prefix_contains old.recorded.queued.keys x.queued.keys n prefix h)

  -- it was recorded before
  pub named_known : (name : N) (e : Encoder N S) → IsBuilt e → Contains e.recorded.at_least_one.keys name → NamesPackage same name e e
  named_known name e built known = record { built = built; extends = extends_same e; lists = refl; registry = refl; keeps = λ n h. h; matches = λ v h. h; named = inl known; encoding = λ p root lawful holds. holds }

  -- ---- a version set of a case

  module _ (p : Packages N S) (lawful : IsLawful p) (set : ConditionSet N S) (is_set : IsSet same p set) (unmarked : set.many ≡ false) where
    -- its package isn't marked
    set_free : is_many p (p.set_package set.version_set) ≡ false
    set_free = sym (is_set.mark ∙ ap (is_many p) is_set.named) ∙ unmarked

    outside_is : (o : Offered N S) → Contains set.outside.items o → is_outside same p set.version_set o.solvable ≡ true
    outside_is o h = sym ((is_set.outside unmarked).outside o.solvable) ∙ contained_in same exact p (offered_solvables set.outside.items) o.solvable (contains_map (λ (y : Offered N S). y.solvable) o set.outside.items h)

    outside_offered : (s : S) → is_outside same p set.version_set s ≡ true → (o : Offered N S) × Contains set.outside.items o × (s ≡ o.solvable)
    outside_offered s h = map_contains (λ (y : Offered N S). y.solvable) s set.outside.items (in_contained same exact p (offered_solvables set.outside.items) s ((is_set.outside unmarked).outside s ∙ h))

    outside_named : (o : Offered N S) → Contains set.outside.items o → o.name ≡ p.package_of o.solvable
    outside_named o h = each_of (λ (y : Offered N S). y.name ≡ p.package_of y.solvable) set.outside.items o (is_set.outside unmarked).named h

    outside_listed : (e : Encoder N S) (o : Offered N S) → Contains set.outside.items o → IsAddable same p e o
    outside_listed e o h =
        let there = (and_parts _ _ (outside_is o h)).0 in
        let own : o.name ≡ p.set_package set.version_set = outside_named o h ∙ candidate_named same exact p lawful (p.set_package set.version_set) o.solvable there in
        ((outside_named o h, subst (λ n. is_in same p (listed (p.candidates_of n)) o.solvable ≡ true) (sym own) there), λ marked. absurd (both_ways _ set_free (subst (λ (n : N). is_many p n ≡ true) own marked)))

    -- the literals that no version of its package is chosen, or that a candidate outside it is
    -- chosen
    set_spells : (e : Encoder N S) (any : VariableId) (given : List (Candidate N)) → Represents e.coding.atoms.keys any (AtLeastOne set.name)
        → ((o : Offered N S) → Contains set.outside.items o → (c : Candidate N) × Contains given c × IsOfferedAs e.registry e.coding o c)
        → ((c : Candidate N) → Contains given c → (o : Offered N S) × Contains set.outside.items o × IsOfferedAs e.registry e.coding o c)
        → Spells (origin e.coding.atoms.keys) (no any ∷ literals_in given) (case_literals same p (set.version_set ∷ []))
    set_spells e any given present each all = record {
      only = λ l h. elim (has-cons (no any) (literals_in given) l h) [
        | inl is ↦ (let means = subst (λ (y : Signed). Means (origin e.coding.atoms.keys) y (minus (Atom.any_of (p.set_package set.version_set)))) is none in
            inr (means.0, subst (Contains (case_literals same p (set.version_set ∷ []))) means.1 (any_in_case same exact p (set.version_set ∷ []) set.version_set (contains_only set.version_set) set_free)))
        | inr a ↦
            let (c, there, is) = literal_in given l a in
            let (o, b, fits) = all c there in
            let means : Means (origin e.coding.atoms.keys) l (plus (Atom.solvable o.solvable)) = subst (λ (y : Signed). Means (origin e.coding.atoms.keys) y (plus (Atom.solvable o.solvable))) is (solvable_means e.coding.atoms.keys c.literal o.solvable fits.positive fits.present) in
            inr (means.0, subst (Contains (case_literals same p (set.version_set ∷ []))) means.1 (outside_in_case same exact p (set.version_set ∷ []) set.version_set o.solvable (contains_only set.version_set) set_free (outside_is o b)))
      ];
      each = λ m h.
          let (w, one, which) = in_case same exact p (set.version_set ∷ []) m h in
          let is_one : w ≡ set.version_set = contains_one w set.version_set one in
          elim which [
            | inl (marked, is) ↦ absurd (both_ways _ set_free (subst (λ v. is_many p (p.set_package v) ≡ true) is_one marked))
            | inr (free, inl is) ↦ (no any, has_here (no any) (literals_in given) (no any) refl, subst (Means (origin e.coding.atoms.keys) (no any)) (sym (is ∙ ap (λ v. minus (Atom.any_of (p.set_package v))) is_one)) none)
            | inr (free, inr (s, is, out)) ↦
                let (o, there, same_one) = outside_offered s (subst (λ v. is_outside same p v s ≡ true) is_one out) in
                let (c, given_has, fits) = each o there in
                (c.literal, has_later (no any) (literals_in given) c.literal (in_literals given c given_has), subst (Means (origin e.coding.atoms.keys) c.literal) (sym (is ∙ ap (λ y. plus (Atom.solvable y)) same_one)) (solvable_means e.coding.atoms.keys c.literal o.solvable fits.positive fits.present))
          ];
    }
      where
        none : Means (origin e.coding.atoms.keys) (no any) (minus (Atom.any_of (p.set_package set.version_set)))
        none = subst (λ n. Means (origin e.coding.atoms.keys) (no any) (minus (Atom.any_of n))) is_set.named (means_atom e.coding.atoms.keys (no any) (AtLeastOne set.name) present)

  -- its package, which isn't marked, is recorded, the candidates outside it are registered, and its
  -- literals are returned
  pub set_literals : (set : ConditionSet N S) (any : VariableId) (given : List (Candidate N)) (literals : List Signed) (old a b c : Encoder N S) → set.many ≡ false → NamesPackage same set.name old a → EncodesRules same [] a b → Represents b.coding.atoms.keys any (AtLeastOne set.name)
      → Enrols same set.outside.items given b c → literals ≡ no any ∷ literals_in given → CaseLiterals same (set ∷ []) literals old c
  set_literals set any given literals old a b c unmarked first_step encodes present enrols is = record {
    built = enrols.built;
    extends = extends_then old a c first_step.extends (extends_then a b c encodes.extends enrols.extends);
    lists = enrols.lists ∙ encodes.lists ∙ first_step.lists;
    keeps = λ n h. at_least_one_kept n (first_step.keeps n h);
    tracked = λ m u h. enrols.keeps m u (subst (λ (r : Registry N). IsTracked r m u) (sym (encodes.registry ∙ first_step.registry)) h);
    matches = λ v h. subst (λ (y : EncodedOnce N S). Contains y.matches.keys v) (sym (enrols.recorded ∙ encodes.recorded)) (first_step.matches v h);
    in_range = subst (AreInRange (count_of c.coding.search)) (sym is) below;
    encoding = λ p root lawful e sets of.
        let is_set : IsSet same p set = sets.0 in
        let first = first_step.encoding p root lawful e in
        let (second, none) = encodes.encoding p root lawful first (λ r h. absurd (contains_none r h)) in
        (enrols.encoding p root lawful second (outside_listed p lawful set is_set unmarked b), at_least_one p lawful is_set);
  }
    where
      at_least_one_kept : (n : N) → IsNamed a.recorded n → IsNamed c.recorded n
      at_least_one_kept n h = subst (λ (y : EncodedOnce N S). IsNamed y n) (sym (enrols.recorded ∙ encodes.recorded)) h

      represents_last : Represents c.coding.atoms.keys any (AtLeastOne set.name)
      represents_last = represents_grow b.coding c.coding any (AtLeastOne set.name) enrols.extends.grows present

      below : AreInRange (count_of c.coding.search) (no any ∷ literals_in given)
      below l h = elim (has-cons (no any) (literals_in given) l h) [
        | inl i ↦ subst (λ (y : Signed). y.variable.0 < count_of c.coding.search) i (represents_in_range c.coding any (AtLeastOne set.name) enrols.built.coding represents_last)
        | inr k ↦
            let (x, there, i) = literal_in given l k in
            let (o, from, fits) = enrols.all x there in
            subst (λ (y : Signed). y.variable.0 < count_of c.coding.search) i (represents_in_range c.coding x.literal.variable (Solvable o.solvable) enrols.built.coding fits.present)
      ]

      at_least_one : (p : Packages N S) → IsLawful p → IsSet same p set → AreCaseLiterals same p c (set.version_set ∷ []) literals
      at_least_one p lawful is_set = record {
        sets = λ v h. subst (λ w. IsSetEncoded same p c w) (sym (contains_one v set.version_set h)) (inl (
          set_free p lawful set is_set unmarked,
          subst (λ n. IsNamed c.recorded n) is_set.named (at_least_one_kept set.name first_step.named),
          λ s out.
              let (o, there, one) = outside_offered p lawful set is_set unmarked s out in
              let (x, from, fits) = enrols.each o there in
              subst (λ y. IsRegistered c.registry c.coding (p.package_of y) y) (sym one) (x.literal.variable, fits.present, subst (λ n. IsTracked c.registry n x.literal.variable) (outside_named p lawful set is_set unmarked o there) fits.tracked),
        ));
        spells = subst (λ (ls : List Signed). Spells (origin c.coding.atoms.keys) ls (case_literals same p (set.version_set ∷ []))) (sym is) (set_spells p lawful set is_set unmarked c any given represents_last enrols.each enrols.all);
      }

  -- ---- the version sets of a case

  case-append : (p : Packages N S) (vs ws : List VersionSetId) (l : Literal (Atom N S)) → Contains (case_literals same p (vs ++ ws)) l → Contains (case_literals same p vs ++ case_literals same p ws) l
  case-append p vs ws l h =
      let (w, there, which) = in_case same exact p (vs ++ ws) l h in
      elim (contains_parts w vs ws there) [
        | inl k ↦ contains_left l (case_literals same p vs) (case_literals same p ws) (present p vs w l k which)
        | inr k ↦ contains_right l (case_literals same p vs) (case_literals same p ws) (present p ws w l k which)
      ]
    where
      present : (p : Packages N S) (vs : List VersionSetId) (w : VersionSetId) (l : Literal (Atom N S)) → Contains vs w → IsSetLiteral same exact p w l → Contains (case_literals same p vs) l
      present p vs w l k (inl (marked, is)) = subst (Contains (case_literals same p vs)) (sym is) (matches_in_case same exact p vs w k marked)
      present p vs w l k (inr (free, inl is)) = subst (Contains (case_literals same p vs)) (sym is) (any_in_case same exact p vs w k free)
      present p vs w l k (inr (free, inr (s, is, out))) = subst (Contains (case_literals same p vs)) (sym is) (outside_in_case same exact p vs w s k free out)

  append-case : (p : Packages N S) (vs ws : List VersionSetId) (l : Literal (Atom N S)) → Contains (case_literals same p vs ++ case_literals same p ws) l → Contains (case_literals same p (vs ++ ws)) l
  append-case p vs ws l h = elim (contains_parts l (case_literals same p vs) (case_literals same p ws) h) [
    | inl k ↦ (let (w, there, which) = in_case same exact p vs l k in present w (contains_left w vs ws there) which)
    | inr k ↦ (let (w, there, which) = in_case same exact p ws l k in present w (contains_right w vs ws there) which)
  ]
    where
      present : (w : VersionSetId) → Contains (vs ++ ws) w → IsSetLiteral same exact p w l → Contains (case_literals same p (vs ++ ws)) l
      present w k (inl (marked, is)) = subst (Contains (case_literals same p (vs ++ ws))) (sym is) (matches_in_case same exact p (vs ++ ws) w k marked)
      present w k (inr (free, inl is)) = subst (Contains (case_literals same p (vs ++ ws))) (sym is) (any_in_case same exact p (vs ++ ws) w k free)
      present w k (inr (free, inr (s, is, out))) = subst (Contains (case_literals same p (vs ++ ws))) (sym is) (outside_in_case same exact p (vs ++ ws) w s k free out)

  -- the literals of two cases are those of both as one
  case_literals_join : (p : Packages N S) (e : Encoder N S) (vs ws : List VersionSetId) (ls ms : List Signed) → AreCaseLiterals same p e vs ls → AreCaseLiterals same p e ws ms → AreCaseLiterals same p e (vs ++ ws) (ls ++ ms)
  case_literals_join p e vs ws ls ms f g = record {
    sets = λ v h. elim (contains_parts v vs ws h) [ inl k ↦ f.sets v k | inr k ↦ g.sets v k ];
    spells = record {
      only = λ l h. elim (joined.only l h) [ inl z ↦ inl z | inr (other, c) ↦ inr (other, append-case p vs ws (meaning (origin e.coding.atoms.keys) l) c) ];
      each = λ m h. joined.each m (case-append p vs ws m h);
    };
  }
    where
      joined : Spells (origin e.coding.atoms.keys) (ls ++ ms) (case_literals same p vs ++ case_literals same p ws)
      joined = spells_join (origin e.coding.atoms.keys) ls ms (case_literals same p vs) (case_literals same p ws) f.spells g.spells

  pub case_literals_none : (e : Encoder N S) → IsBuilt e → CaseLiterals same [] [] e e
  case_literals_none e built = record {
    built = built;
    extends = extends_same e;
    lists = refl;
    keeps = λ n h. h;
    tracked = λ m u h. h;
    matches = λ v h. h;
    in_range = λ l h. absurd (both_ways false refl h);
    encoding = λ p root lawful holds sets of. (
      holds,
      record {
        sets = λ v h. absurd (contains_none v h);
        spells = record { only = λ l h. absurd (both_ways false refl h); each = λ m h. absurd (contains_none m h) };
      },
    );
  }

  pub case_literals_more : (xs : List (ConditionSet N S)) (set : ConditionSet N S) (ls ms : List Signed) (a b c : Encoder N S) → CaseLiterals same xs ls a b → CaseLiterals same (set ∷ []) ms b c → CaseLiterals same (xs ++ set ∷ []) (ls ++ ms) a c
  case_literals_more xs set ls ms a b c f g = record {
    built = g.built;
    extends = extends_then a b c f.extends g.extends;
    lists = g.lists ∙ f.lists;
    keeps = λ n h. g.keeps n (f.keeps n h);
    tracked = λ m u h. g.tracked m u (f.tracked m u h);
    matches = λ v h. g.matches v (f.matches v h);
    in_range = λ l h. elim (has-append ls ms l h) [ inl k ↦ range_grows b.coding c.coding ls f.built.coding g.built.coding g.extends.grows f.in_range l k | inr k ↦ g.in_range l k ];
    encoding = λ p root lawful e sets of.
        let (before, own) = all_parts (IsSet same p) xs (set ∷ []) sets in
        let (middle, first) = f.encoding p root lawful e before (λ v h. of v (among v (contains_left v (sets_case xs) (set.version_set ∷ []) h))) in
        let (last, second) = g.encoding p root lawful middle own (λ v h. of v (among v (contains_right v (sets_case xs) (set.version_set ∷ []) h))) in
        (last, subst (λ vs. AreCaseLiterals same p c vs (ls ++ ms)) (sym (map-append (λ (x : ConditionSet N S). x.version_set) xs (set ∷ []))) (case_literals_join p c (sets_case xs) (set.version_set ∷ []) ls ms (stays p root first) second));
  }
    where
      among : (v : VersionSetId) → Contains (sets_case xs ++ set.version_set ∷ []) v → Contains (sets_case (xs ++ set ∷ [])) v
      among v h = subst (λ vs. Contains vs v) (sym (map-append (λ (x : ConditionSet N S). x.version_set) xs (set ∷ []))) h

      stays : (p : Packages N S) (root : Rules) → AreCaseLiterals same p b (sets_case xs) ls → AreCaseLiterals same p c (sets_case xs) ls
      stays p root h = record {
        sets = λ v k. set_stays same exact p root b c v g.extends.grows g.keeps g.matches g.tracked (h.sets v k);
        spells = spells_grow b.coding c.coding ls (case_literals same p (sets_case xs)) f.built.coding g.extends.grows f.in_range h.spells;
      }
