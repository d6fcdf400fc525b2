-- Rules that forbid solvables are encoded as clauses, one after another.
use Rattle.std.proofs.Common.{◌≡◌, ◌<◌, ◌⊎◌, inl, inr, Bool, true, false, ◌||◌, List, [], ◌∷◌, ◌++◌, map, length, Option, Some, None, refl, sym, ◌∙◌, ap, subst, arith, ℕ}
use Rattle.resolvo_sat.specs.State.{history}
use Rattle.resolvo_sat.specs.SearchEnd.{IsSoftChoice}
use Rattle.resolvo_sat.specs.First.{IsFirstPick}
use Rattle.std.specs.Prelude.{Contains}
use Rattle.std.proofs.lemmas.List.{map-append}
use Rattle.resolvo_pool_core.specs.declared.id.VariableId.{VariableId}
use Rattle.resolvo_pool_core.specs.declared.id.VersionSetId.{VersionSetId}
use Rattle.resolvo_pool_core.specs.declared.requirement.Requirement.TheVariants.{Single}
use Rattle.resolvo_pool_core.specs.Provider.{listing_or_empty}
use Rattle.resolvo_pool_core.specs.Text.{solvable_of}
use Rattle.resolvo_pool_core.specs.RuleKeeping.{Packages, Rules, is_in, is_many, rules_for, is_match, is_outside, listing_for}
use Rattle.resolvo_store_core.specs.Signed.{Signed}
use Rattle.resolvo_store_core.specs.Clauses.{yes, no, root as root_variable}
use Rattle.resolvo_sat.specs.Steps.{AreInRange}
use Rattle.resolvo_packages.specs.declared.package_source.ForbiddenSolvable.{ForbiddenSolvable}
use Rattle.resolvo_packages.specs.declared.package_source.Offered.{Offered}
use Rattle.resolvo_packages.specs.declared.package_source.ForbiddenBy.{ForbiddenBy}
use Rattle.resolvo_packages.specs.declared.package_source.ForbiddenBy.TheVariants.{Locked, Excluded}
use Rattle.resolvo_packages.specs.PackageSource.{offered_solvables, AreOffered, AreOutside}
use Rattle.resolvo_packages.specs.Forbidden.{KeepsOut, forbidden_solvables, AreForbidden}
use Rattle.resolvo_sat.specs.RuleClauses as rules
use Rattle.resolvo_sat.specs.RuleClauses.{IsExact, Atom, Rule, ForbidReason, plus, minus, IsOfCase, IsRule, IsForbiddenIn, IsForbidden, literals_of, parent_literals}
use Rattle.resolvo_sat.specs.Numbered.{Spells, AreCalledFor}
use Rattle.resolvo_sat.proofs.Lists.{contains_none, contains_only, contains_left, contains_right, contains_parts, contains_one, contains_map, map_contains}
use Rattle.resolvo_sat.proofs.Members.{in_contained, contained_in}
use Rattle.resolvo_state.specs.declared.atom.ProofAtom.{ProofAtom}
use Rattle.resolvo_state.specs.declared.atom.ProofAtom.TheVariants.{Solvable, AtLeastOne, Outside, Matches}
use Rattle.resolvo_state.specs.declared.solver_state.SolverState.{SolverState}
use Rattle.resolvo_state.specs.Kinds.{Kind}
use Rattle.resolvo_state.specs.Atoms.{origin, Represents}
use Rattle.resolvo_state.specs.SolverState.{Gives}
use Rattle.resolvo_state.specs.Registered.{IsRegistered}
use Rattle.resolvo_state.specs.ClauseKinds.{rule_of}
use Rattle.resolvo_state.proofs.Growth.{grows_same, rules_grow, represents_grow}
use Rattle.resolvo_state.proofs.Origins.{means_atom}
use Rattle.resolvo_state.proofs.Positions.{prefix_same}
use Rattle.resolvo_state.proofs.RegisterLemmas.{digits_more}
use Rattle.resolvo_encoder.specs.declared.encoder.Encoder.{Encoder}
use Rattle.resolvo_encoder.specs.declared.encoder.EncodedOnce.{EncodedOnce}
use Rattle.resolvo_encoder.specs.Encoded.{IsEncoding, IsMarkKnown, IsRecorded, IsParentVariable, HasOrder}
use Rattle.resolvo_encoder.specs.Encoded as E
use Rattle.resolvo_encoder.specs.Steps.{IsBuilt, Extends}
use Rattle.resolvo_encoder.specs.ClauseRules.{reason_of, IsRestraint, IsPair, EncodesPair, EncodesRules, forbid_rules, limit_rules, out_rules, match_rules}
use Rattle.resolvo_encoder.proofs.BuildLemmas.{built_gives, built_rest, trail_on}
use Rattle.resolvo_encoder.proofs.Denials.{Reads, pair_members, pair_spells, one_spells, not_digit}
use Rattle.resolvo_encoder.proofs.NeedLemmas.{gives_keeps, clause_keeps}
use Rattle.resolvo_encoder.proofs.RequireLemmas.{each_of, parent_grows, extends_same, extends_then, set_stays}

-- the variables of a pair exist
pub pair_in_range : (count : ℕ) (a b : Signed) (literals : List Signed) → IsPair a b literals → a.variable.0 < count → b.variable.0 < count → AreInRange count literals
pair_in_range count a b literals pair first second l h = elim (pair_members a b l literals pair h) [
  | inl is ↦ subst (λ (x : Signed). x.variable.0 < count) is first
  | inr is ↦ subst (λ (x : Signed). x.variable.0 < count) is second
]

pub pair_long : (a b : Signed) (literals : List Signed) → IsPair a b literals → 0 < length literals
pair_long a b literals (inl two) = subst (λ (x : List Signed). 0 < length x) (sym two) (omega arith)
pair_long a b literals (inr (both, one)) = subst (λ (x : List Signed). 0 < length x) (sym one) (omega arith)

-- the parent keeps its variable
pub parent_variable_grows : {N S : Type 0} (old new : Encoder N S) (parent : Option S) (v : VariableId) → Extends old new → IsParentVariable old.coding.atoms.keys parent v → IsParentVariable new.coding.atoms.keys parent v
parent_variable_grows old new None v h is = is
parent_variable_grows old new (Some s) v h present = represents_grow old.coding new.coding v (Solvable s) h.grows present

-- the first literal of a parent's clause denies the parent
pub parent_reads : {N S : Type 0} (atoms : List (ProofAtom N S)) (parent : Option S) (v : VariableId) → IsParentVariable atoms parent v → Reads (origin atoms) (no v) (parent_literals parent)
parent_reads atoms None v is = inl (ap no is, refl)
parent_reads atoms (Some s) v present = inr (minus (Atom.solvable s), refl, means_atom atoms (no v) (Solvable s) present)

or_false : (b : Bool) → (b || false) ≡ b
or_false true = refl
or_false false = refl

module _ {N S : Type 0} (same : S → S → Bool) (exact : IsExact same) where
  -- ---- one after another

  pub encodes_none : (e : Encoder N S) → IsBuilt e → EncodesRules same [] e e
  encodes_none e built = record {
    built = built;
    extends = extends_same e;
    lists = refl;
    registry = refl;
    recorded = refl;
    encoding = λ p root lawful holds rules. (holds, λ r h. absurd (contains_none r h));
  }

  pub encodes_then : (xs ys : List (Rule N S)) (a b c : Encoder N S) → EncodesRules same xs a b → EncodesRules same ys b c → EncodesRules same (xs ++ ys) a c
  encodes_then xs ys a b c f g = record {
    built = g.built;
    extends = extends_then a b c f.extends g.extends;
    lists = g.lists ∙ f.lists;
    registry = g.registry ∙ f.registry;
    recorded = g.recorded ∙ f.recorded;
    encoding = λ p root lawful holds rules.
        let (middle, first) = f.encoding p root lawful holds (λ r h. rules r (contains_left r xs ys h)) in
        let (last, second) = g.encoding p root lawful middle (λ r h. rules r (contains_right r xs ys h)) in
        (last, λ r h. elim (contains_parts r xs ys h) [ inl k ↦ rules_grow b.coding c.coding g.extends.grows r (first r k) | inr k ↦ second r k ]);
  }

  -- one more of a list
  pub encodes_more : {X : Type 0} (rule : X → Rule N S) (xs : List X) (x : X) (a b c : Encoder N S) → EncodesRules same (map rule xs) a b → EncodesRules same (rule x ∷ []) b c → EncodesRules same (map rule (xs ++ x ∷ [])) a c
  encodes_more rule xs x a b c f g = subst (λ (rs : List (Rule N S)). EncodesRules same rs a c) (sym (map-append rule xs (x ∷ []))) (encodes_then (map rule xs) (rule x ∷ []) a b c f g)

  -- a variable was added, or nothing
  pub gives_encodes : (atom : ProofAtom N S) (v : VariableId) (old : Encoder N S) (c : SolverState N S) → IsBuilt old → Gives atom v old.coding c → EncodesRules same [] old (record old { coding = c })
  gives_encodes atom v old c built gives = record {
    built = built_gives atom v old c built gives;
    extends = record { grows = gives.grows; trail = gives.trail; softs = refl; parents = refl; encoded = refl; deferred = refl; fired = refl };
    lists = refl;
    registry = refl;
    recorded = refl;
    encoding = λ p root lawful holds rules. (
      gives_keeps same exact p root lawful atom v old (record old { coding = c }) holds gives (record { registry = refl; lists = refl; queue = refl; gates = refl; recorded = refl; parents = refl; encoded = refl; deferred = refl; fired = refl }),
      λ r h. absurd (contains_none r h),
    );
  }

  -- a clause of two literals was added, which are the rule's
  pub pair_encodes : (x : Kind N S) (rule : Rule N S) (a b : Signed) (old new : Encoder N S) → IsBuilt old → rule_of x ≡ Some rule → IsRestraint rule
      → ((p : Packages N S) (literals : List Signed) → IsPair a b literals → Spells (origin old.coding.atoms.keys) literals (literals_of same p rule)) → EncodesPair x a b old new → EncodesRules same (rule ∷ []) old new
  pair_encodes x rule a b old new built is denial spells new_clause = record {
    built = built_rest old new built new_clause.states.coding new_clause.states.grows (digits_more x old.coding new.coding new_clause.states.kinds (not_digit x rule is denial)) new_clause.rest new_clause.same_queue (trail_on old.coding new.coding new_clause.states.trail);
    extends = record { grows = new_clause.states.grows; trail = new_clause.states.trail; softs = ap (λ (x : EncodedOnce N S). x.softs.items) new_clause.rest.recorded; parents = new_clause.rest.parents; encoded = new_clause.rest.encoded; deferred = new_clause.rest.deferred; fired = new_clause.rest.fired };
    lists = new_clause.rest.lists;
    registry = new_clause.rest.registry;
    recorded = new_clause.rest.recorded;
    encoding = λ p root lawful holds rules.
        let (keeps, present) = clause_keeps same exact p root lawful x rule new_clause.literals new_clause.number old new holds is denial (rules rule (contains_only rule)) (spells p new_clause.literals new_clause.pair) new_clause.states new_clause.rest in
        (keeps, λ r h. subst (λ (y : Rule N S). E.rules_of new y) (sym (contains_one r rule h)) present);
  }

  -- the parent's version set forbids a solvable
  pub limit_encodes : (parent : Option S) (v : VersionSetId) (s : S) (first second : VariableId) (old new : Encoder N S) → IsBuilt old → IsParentVariable old.coding.atoms.keys parent first → Represents old.coding.atoms.keys second (Solvable s)
      → EncodesPair (Kind.Limits parent v s) (no first) (no second) old new → EncodesRules same (Rule.limits parent v s ∷ []) old new
  limit_encodes parent v s first second old new built is present = pair_encodes (Kind.Limits parent v s) (Rule.limits parent v s) (no first) (no second) old new built refl tt
      (λ p literals pair. pair_spells (origin old.coding.atoms.keys) (no first) (no second) literals (parent_literals parent) (minus (Atom.solvable s) ∷ []) pair (parent_reads old.coding.atoms.keys parent first is)
      (inr (minus (Atom.solvable s), refl, means_atom old.coding.atoms.keys (no second) (Solvable s) present)))

  -- it forbids all candidates outside it
  pub outside_encodes : (parent : Option S) (v : VersionSetId) (first second : VariableId) (old new : Encoder N S) → IsBuilt old → IsParentVariable old.coding.atoms.keys parent first → Represents old.coding.atoms.keys second (Outside v)
      → EncodesPair (Kind.LimitsOutside parent v) (no first) (no second) old new → EncodesRules same (Rule.limits_outside parent v ∷ []) old new
  outside_encodes parent v first second old new built is present = pair_encodes (Kind.LimitsOutside parent v) (Rule.limits_outside parent v) (no first) (no second) old new built refl tt
      (λ p literals pair. pair_spells (origin old.coding.atoms.keys) (no first) (no second) literals (parent_literals parent) (minus (Atom.outside v) ∷ []) pair (parent_reads old.coding.atoms.keys parent first is)
      (inr (minus (Atom.outside v), refl, means_atom old.coding.atoms.keys (no second) (Outside v) present)))

  -- a solvable is outside it
  pub out_encodes : (v : VersionSetId) (s : S) (first second : VariableId) (old new : Encoder N S) → IsBuilt old → Represents old.coding.atoms.keys first (Solvable s) → Represents old.coding.atoms.keys second (Outside v)
      → EncodesPair (Kind.IsOut v s) (no first) (yes second) old new → EncodesRules same (Rule.is_out v s ∷ []) old new
  out_encodes v s first second old new built is present = pair_encodes (Kind.IsOut v s) (Rule.is_out v s) (no first) (yes second) old new built refl tt
      (λ p literals pair. pair_spells (origin old.coding.atoms.keys) (no first) (yes second) literals (minus (Atom.solvable s) ∷ []) (plus (Atom.outside v) ∷ []) pair
      (inr (minus (Atom.solvable s), refl, means_atom old.coding.atoms.keys (no first) (Solvable s) is)) (inr (plus (Atom.outside v), refl, means_atom old.coding.atoms.keys (yes second) (Outside v) present)))

  -- an at-least-one clause
  pub at_least_one_encodes : (n : N) (s : S) (first second : VariableId) (old new : Encoder N S) → IsBuilt old → Represents old.coding.atoms.keys first (Solvable s) → Represents old.coding.atoms.keys second (AtLeastOne n)
      → EncodesPair (Kind.IsThere n s) (no first) (yes second) old new → EncodesRules same (Rule.is_there n s ∷ []) old new
  at_least_one_encodes n s first second old new built is present = pair_encodes (Kind.IsThere n s) (Rule.is_there n s) (no first) (yes second) old new built refl tt
      (λ p literals pair. pair_spells (origin old.coding.atoms.keys) (no first) (yes second) literals (minus (Atom.solvable s) ∷ []) (plus (Atom.any_of n) ∷ []) pair
      (inr (minus (Atom.solvable s), refl, means_atom old.coding.atoms.keys (no first) (Solvable s) is)) (inr (plus (Atom.any_of n), refl, means_atom old.coding.atoms.keys (yes second) (AtLeastOne n) present)))

  -- a solvable matches a version set
  pub match_encodes : (v : VersionSetId) (s : S) (first second : VariableId) (old new : Encoder N S) → IsBuilt old → Represents old.coding.atoms.keys first (Solvable s) → Represents old.coding.atoms.keys second (Matches v)
      → EncodesPair (Kind.Matches v s) (no first) (yes second) old new → EncodesRules same (Rule.matches v s ∷ []) old new
  match_encodes v s first second old new built is present = pair_encodes (Kind.Matches v s) (Rule.matches v s) (no first) (yes second) old new built refl tt
      (λ p literals pair. pair_spells (origin old.coding.atoms.keys) (no first) (yes second) literals (minus (Atom.solvable s) ∷ []) (plus (Atom.matches v) ∷ []) pair
      (inr (minus (Atom.solvable s), refl, means_atom old.coding.atoms.keys (no first) (Solvable s) is)) (inr (plus (Atom.matches v), refl, means_atom old.coding.atoms.keys (yes second) (Matches v) present)))

  -- a solvable is forbidden, beside the root or alone
  pub forbid_encodes : (x : Kind N S) (w : ForbidReason S) (s : S) (first v : VariableId) (old new : Encoder N S) → IsBuilt old → rule_of x ≡ Some (Rule.forbids w s) → (first ≡ v) ⊎ (first ≡ root_variable) → Represents old.coding.atoms.keys v (Solvable s)
      → EncodesPair x (no first) (no v) old new → EncodesRules same (Rule.forbids w s ∷ []) old new
  forbid_encodes x w s first v old new built is (inl one) present pair = pair_encodes x (Rule.forbids w s) (no v) (no v) old new built is tt
      (λ p literals both. one_spells (origin old.coding.atoms.keys) (no v) literals (minus (Atom.solvable s)) both (means_atom old.coding.atoms.keys (no v) (Solvable s) present))
      (subst (λ (u : VariableId). EncodesPair x (no u) (no v) old new) one pair)
  forbid_encodes x w s first v old new built is (inr top) present pair = pair_encodes x (Rule.forbids w s) (no first) (no v) old new built is tt
      (λ p literals both. pair_spells (origin old.coding.atoms.keys) (no first) (no v) literals [] (minus (Atom.solvable s) ∷ []) both (parent_reads old.coding.atoms.keys None first top)
      (inr (minus (Atom.solvable s), refl, means_atom old.coding.atoms.keys (no v) (Solvable s) present)))
      pair

  -- ---- records

  -- a solvable is forbidden by the listing of its package
  pub kept_by_listing : (p : Packages N S) (n : N) (b : ForbiddenSolvable S) → (p.package_of b.solvable ≡ n) × KeepsOut same (listing_or_empty (p.candidates_of n)) b.solvable b.why → rules.KeepsOut same p (reason_of b.why) b.solvable
  kept_by_listing p n b (named, kept) = go b.why (subst (λ m. KeepsOut same (listing_or_empty (p.candidates_of m)) b.solvable b.why) (sym named) kept)
    where
      go : (why : ForbiddenBy S) → KeepsOut same (listing_for same p b.solvable) b.solvable why → rules.KeepsOut same p (reason_of why) b.solvable
      go (Locked l) (is, other, there) = (is, other, contained_in same exact p (listing_for same p b.solvable).candidates b.solvable there)
      go (Excluded reason) h = inl h

  module _ (p : Packages N S) (root : Rules) where
    -- the locks and exclusions of a package are rules of the problem
    pub forbids_are_rules : (n : N) (list : List (ForbiddenSolvable S)) → AreForbidden same p n list → (r : Rule N S) → Contains (forbid_rules list) r → IsRule same p root r
    forbids_are_rules n list barred r h =
        let (b, there, is) = map_contains (λ (x : ForbiddenSolvable S). Rule.forbids (reason_of x.why) x.solvable) r list h in
        subst (IsRule same p root) (sym is) (kept_by_listing p n b (each_of _ list b barred.all there))

    pub forbids_encoded : (n : N) (list : List (ForbiddenSolvable S)) (rules : Rule N S → Type 0) → AreForbidden same p n list → ((r : Rule N S) → Contains (forbid_rules list) r → rules r) → (s : S) → IsForbiddenIn same p n s → IsForbidden rules s
    forbids_encoded n list rules barred each s (listed, forbids) =
        let (b, there, is) = map_contains (λ (x : ForbiddenSolvable S). x.solvable) s list (in_contained same exact p (forbidden_solvables list) s (barred.each s listed forbids)) in
        subst (λ y. IsForbidden rules y) (sym is) (reason_of b.why, each (Rule.forbids (reason_of b.why) b.solvable) (contains_map (λ (x : ForbiddenSolvable S). Rule.forbids (reason_of x.why) x.solvable) b list there))

    -- the solvables offered as outside a version set are exactly those outside it
    offered_outside : (v : VersionSetId) (list : List (Offered N S)) (o : Offered N S) → AreOutside same p v list → Contains list o → is_outside same p v o.solvable ≡ true
    offered_outside v list o outside h = sym (outside.outside o.solvable) ∙ contained_in same exact p (offered_solvables list) o.solvable (contains_map (λ (x : Offered N S). x.solvable) o list h)

    pub outs_are_rules : (v : VersionSetId) (list : List (Offered N S)) → AreOutside same p v list → (parent : Option S) → Contains (rules_for same p root parent).constraints v → (r : Rule N S) → Contains (out_rules v list) r → IsRule same p root r
    outs_are_rules v list outside parent limited r h =
        let (o, there, is) = map_contains (λ (x : Offered N S). Rule.is_out v x.solvable) r list h in
        subst (IsRule same p root) (sym is) (parent, limited, offered_outside v list o outside there)

    pub limits_are_rules : (parent : Option S) (v : VersionSetId) (list : List (Offered N S)) → AreOutside same p v list → Contains (rules_for same p root parent).constraints v → (r : Rule N S) → Contains (limit_rules parent v list) r → IsRule same p root r
    limits_are_rules parent v list outside limited r h =
        let (o, there, is) = map_contains (λ (x : Offered N S). Rule.limits parent v x.solvable) r list h in
        subst (IsRule same p root) (sym is) (limited, offered_outside v list o outside there)

    pub outside_encoded : (v : VersionSetId) (list : List (Offered N S)) (rule : S → Rule N S) (rules : Rule N S → Type 0) → AreOutside same p v list → ((r : Rule N S) → Contains (map (λ (o : Offered N S). rule o.solvable) list) r → rules r)
        → (s : S) → is_outside same p v s ≡ true → rules (rule s)
    outside_encoded v list rule rules outside each s h =
        let (o, there, is) = map_contains (λ (x : Offered N S). x.solvable) s list (in_contained same exact p (offered_solvables list) s (outside.outside s ∙ h)) in
        subst (λ y. rules (rule y)) (sym is) (each (rule o.solvable) (contains_map (λ (x : Offered N S). rule x.solvable) o list there))

    -- the solvables offered as matches of a version set are exactly those
    offered_match : (v : VersionSetId) (list : List (Offered N S)) (s : S) → AreOffered same p (Single v) list → is_in same p (offered_solvables list) s ≡ is_match same p v s
    offered_match v list s offered = offered.matches s ∙ or_false (is_match same p v s)

    pub matches_are_rules : (v : VersionSetId) (list : List (Offered N S)) → AreOffered same p (Single v) list → is_many p (p.set_package v) ≡ true → IsOfCase same p root v → (r : Rule N S) → Contains (match_rules v list) r → IsRule same p root r
    matches_are_rules v list offered marked of r h =
        let (o, there, is) = map_contains (λ (x : Offered N S). Rule.matches v x.solvable) r list h in
        subst (IsRule same p root) (sym is) (
          of,
          sym (offered_match v list o.solvable offered) ∙ contained_in same exact p (offered_solvables list) o.solvable (contains_map (λ (x : Offered N S). x.solvable) o list there),
          marked,
        )

    pub matches_encoded : (v : VersionSetId) (list : List (Offered N S)) (rules : Rule N S → Type 0) → AreOffered same p (Single v) list → ((r : Rule N S) → Contains (match_rules v list) r → rules r) → (s : S) → is_match same p v s ≡ true → rules (Rule.matches v s)
    matches_encoded v list rules offered each s h =
        let (o, there, is) = map_contains (λ (x : Offered N S). x.solvable) s list (in_contained same exact p (offered_solvables list) s (offered_match v list s offered ∙ h)) in
        subst (λ y. rules (Rule.matches v y)) (sym is) (each (Rule.matches v o.solvable) (contains_map (λ (x : Offered N S). Rule.matches v x.solvable) o list there))

    -- The encoded packages, version sets and solvables are recorded.
    pub recorded_keeps : (old : Encoder N S) (x : EncodedOnce N S) → IsEncoding same p root old → IsRecorded same p (E.rules_of old) x
        → ((n : N) → E.IsNamed old.recorded n → E.IsNamed x n) → ((v : VersionSetId) → Contains old.recorded.matches.keys v → Contains x.matches.keys v) → ((n : N) → Contains x.packages.keys n → IsMarkKnown same p old n)
        → ((n : N) (s : S) → Contains x.at_least_one.keys n → IsRegistered old.registry old.coding n s → E.rules_of old (Rule.is_there n s) ⊎ E.IsPending old n s)
        → ((s : S) → Contains x.there.keys s → E.rules_of old (Rule.is_there (p.package_of s) s)) → x.softs.items ≡ old.recorded.softs.items → IsEncoding same p root (record old { recorded = x })
    recorded_keeps old x e recorded keeps matches known at_least_one there softs = record {
      coding = e.coding;
      tied = e.tied;
      spelled = e.spelled;
      rule = e.rule;
      positive = e.positive;
      named = e.named;
      candidates = e.candidates;
      listed = λ q c a. (let (s, fits, m) = e.listed q c a in (s, record { positive = fits.positive; present = fits.present; tracked = fits.tracked }, m));
      offered = λ q s h m. (let (c, a, fits) = e.offered q s h m in (c, a, record { positive = fits.positive; present = fits.present; tracked = fits.tracked }));
      fixed = e.fixed;
      queued = e.queued;
      asked = e.asked;
      gates = e.gates;
      forbid = e.forbid;
      recorded = record { packages = recorded.packages; version_sets = recorded.version_sets; matches = recorded.matches };
      marks = record { right = e.marks.right; registered = e.marks.registered; recorded = known };
      cases = record {
        waiting = e.cases.waiting;
        places = e.cases.places;
        fired = e.cases.fired;
        cased = λ parent need case v present h. set_stays same exact p root old (record old { recorded = x }) v (grows_same old.coding) keeps matches (λ m u a. a) (e.cases.cased parent need case v present h);
        at_least_one = at_least_one;
        there = there;
      };
      within = e.within;
      encoded = λ i parent below at. parent_grows same exact p root old (record old { recorded = x }) (solvable_of parent) (grows_same old.coding) (prefix_same old.deferred.items) (e.encoded i parent below at);
      wished = λ s a. e.wished s (subst (λ (ws : List S). Contains ws s) softs a);
      called = subst (λ (ws : List S). AreCalledFor (origin old.coding.atoms.keys) (λ known l. IsSoftChoice same p (E.rules_of old) ws l ⊎ IsFirstPick same p (HasOrder old) (E.rules_of old) known l) (history old.coding.search)) (sym softs) e.called;
    }

    pub package_recorded : (old : Encoder N S) (x : EncodedOnce N S) (n : N) → IsEncoding same p root old → ((m : N) → Contains x.packages.keys m → Contains old.recorded.packages.keys m ⊎ (m ≡ n)) → x ≡ record old.recorded { packages = x.packages }
        → IsMarkKnown same p old n → ((s : S) → IsForbiddenIn same p n s → IsForbidden (E.rules_of old) s) → IsEncoding same p root (record old { recorded = x })
    package_recorded old x n e only others known forbids = subst (λ (y : EncodedOnce N S). IsEncoding same p root (record old { recorded = y })) (sym others) (recorded_keeps old (record old.recorded { packages = x.packages }) e (record {
      packages = λ m s h barred. elim (only m h) [ inl a ↦ e.recorded.packages m s a barred | inr is ↦ forbids s (subst (λ y. IsForbiddenIn same p y s) is barred) ];
      version_sets = e.recorded.version_sets;
      matches = e.recorded.matches;
    }) (λ m h. h) (λ v h. h) (λ m h. elim (only m h) [ inl a ↦ e.marks.recorded m a | inr is ↦ subst (λ y. IsMarkKnown same p old y) (sym is) known ]) e.cases.at_least_one e.cases.there refl)

    pub set_recorded : (old : Encoder N S) (x : EncodedOnce N S) (v : VersionSetId) → IsEncoding same p root old → ((w : VersionSetId) → Contains x.version_sets.keys w → Contains old.recorded.version_sets.keys w ⊎ (w ≡ v)) → x ≡ record old.recorded { version_sets = x.version_sets }
        → ((s : S) → is_outside same p v s ≡ true → E.rules_of old (Rule.is_out v s)) → IsEncoding same p root (record old { recorded = x })
    set_recorded old x v e only others outside = subst (λ (y : EncodedOnce N S). IsEncoding same p root (record old { recorded = y })) (sym others) (recorded_keeps old (record old.recorded { version_sets = x.version_sets }) e (record {
      packages = e.recorded.packages;
      version_sets = λ w s h out. elim (only w h) [
        | inl a ↦ e.recorded.version_sets w s a out
        | inr is ↦ subst (λ y. E.rules_of old (Rule.is_out y s)) (sym is) (outside s (subst (λ y. is_outside same p y s ≡ true) is out))
      ];
      matches = e.recorded.matches;
    }) (λ m h. h) (λ v h. h) e.marks.recorded e.cases.at_least_one e.cases.there refl)

    -- a version set is recorded for its matches
    pub matches_recorded : (old : Encoder N S) (x : EncodedOnce N S) (v : VersionSetId) → IsEncoding same p root old → ((w : VersionSetId) → Contains old.recorded.matches.keys w → Contains x.matches.keys w) → ((w : VersionSetId) → Contains x.matches.keys w → Contains old.recorded.matches.keys w ⊎ (w ≡ v))
        → x ≡ record old.recorded { matches = x.matches } → ((s : S) → is_match same p v s ≡ true → E.rules_of old (Rule.matches v s)) → IsEncoding same p root (record old { recorded = x })
    matches_recorded old x v e keeps only others matching = subst (λ (y : EncodedOnce N S). IsEncoding same p root (record old { recorded = y })) (sym others) (recorded_keeps old (record old.recorded { matches = x.matches }) e (record {
      packages = e.recorded.packages;
      version_sets = e.recorded.version_sets;
      matches = λ w s h m. elim (only w h) [
        | inl a ↦ e.recorded.matches w s a m
        | inr is ↦ subst (λ y. E.rules_of old (Rule.matches y s)) (sym is) (matching s (subst (λ y. is_match same p y s ≡ true) is m))
      ];
    }) (λ m h. h) keeps e.marks.recorded e.cases.at_least_one e.cases.there refl)

    -- a package is recorded whose registered solvables have at-least-one clauses
    pub at_least_one_recorded : (old : Encoder N S) (x : EncodedOnce N S) (n : N) → IsEncoding same p root old → ((m : N) → Contains x.at_least_one.keys m → Contains old.recorded.at_least_one.keys m ⊎ (m ≡ n)) → ((m : N) → Contains old.recorded.at_least_one.keys m → Contains x.at_least_one.keys m) → x ≡ record old.recorded { at_least_one = x.at_least_one }
        → ((s : S) → IsRegistered old.registry old.coding n s → E.rules_of old (Rule.is_there n s) ⊎ E.IsPending old n s) → IsEncoding same p root (record old { recorded = x })
    at_least_one_recorded old x n e only keeps others there = subst (λ (y : EncodedOnce N S). IsEncoding same p root (record old { recorded = y })) (sym others) (recorded_keeps old (record old.recorded { at_least_one = x.at_least_one }) e (record { packages = e.recorded.packages; version_sets = e.recorded.version_sets; matches = e.recorded.matches }) (λ m h. elim h [ inl k ↦ inl (keeps m k) | inr k ↦ inr k ]) (λ v h. h) e.marks.recorded
        (λ m s h a. elim (only m h) [ inl b ↦ e.cases.at_least_one m s b a | inr is ↦ subst (λ y. E.rules_of old (Rule.is_there y s) ⊎ E.IsPending old y s) (sym is) (there s (subst (λ y. IsRegistered old.registry old.coding y s) is a)) ]) e.cases.there refl)

    -- other packages are named: each that was is, or is recorded
    pub queued_recorded : (old : Encoder N S) (x : EncodedOnce N S) → IsEncoding same p root old → ((n : N) → E.IsNamed old.recorded n → E.IsNamed x n) → x ≡ record old.recorded { queued = x.queued } → IsEncoding same p root (record old { recorded = x })
    queued_recorded old x e named others = subst (λ (y : EncodedOnce N S). IsEncoding same p root (record old { recorded = y })) (sym others)
        (recorded_keeps old (record old.recorded { queued = x.queued }) e (record { packages = e.recorded.packages; version_sets = e.recorded.version_sets; matches = e.recorded.matches }) (λ n h. subst (λ (y : EncodedOnce N S). E.IsNamed y n) others (named n h)) (λ v h. h) e.marks.recorded e.cases.at_least_one e.cases.there refl)

    -- a solvable is recorded that has an at-least-one clause
    pub there_recorded : (old : Encoder N S) (x : EncodedOnce N S) (s : S) → IsEncoding same p root old → ((t : S) → Contains x.there.keys t → Contains old.recorded.there.keys t ⊎ (t ≡ s)) → x ≡ record old.recorded { there = x.there }
        → E.rules_of old (Rule.is_there (p.package_of s) s) → IsEncoding same p root (record old { recorded = x })
    there_recorded old x s e only others present = subst (λ (y : EncodedOnce N S). IsEncoding same p root (record old { recorded = y })) (sym others) (recorded_keeps old (record old.recorded { there = x.there }) e (record { packages = e.recorded.packages; version_sets = e.recorded.version_sets; matches = e.recorded.matches }) (λ m h. h) (λ v h. h) e.marks.recorded e.cases.at_least_one
        (λ t h. elim (only t h) [ inl b ↦ e.cases.there t b | inr is ↦ subst (λ y. E.rules_of old (Rule.is_there (p.package_of y) y)) (sym is) present ]) refl)

pub built_recorded : {N S : Type 0} (e : Encoder N S) (x : EncodedOnce N S) → IsBuilt e → IsBuilt (record e { recorded = x })
built_recorded e x b = record { coding = b.coding; tied = b.tied; candidates = b.candidates; gates = b.gates; within = b.within; clauses = b.clauses; queue = b.queue; seen = b.seen }
