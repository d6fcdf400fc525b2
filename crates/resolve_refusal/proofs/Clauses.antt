-- The clause of each step of a proof, and that of the report's step that writes it.
use Rattle.std.proofs.Common.{◌≡◌, ◌==◌, inl, inr, ℕ, zero, suc, ◌/◌, Bool, true, false, List, [], ◌∷◌, ◌++◌, map, length, Option, Some, None, refl, sym, ap, subst, ◌∙◌, arith}
use Rattle.std.specs.Prelude.{◌&&◌, ◌<◌, not, filter, option_map, unwrap_or, Contains, slice_get, slice_index_or, nat_lt}
use Rattle.std.specs.Int.{bit_at}
use Rattle.std.proofs.lemmas.Bool.{cases_Bool, and_parts, and_from, eqb-true}
use Rattle.std.proofs.lemmas.Bool.Decides.{Decides-ltb}
use Rattle.std.proofs.lemmas.Option.{slice_get-get_or, slice_get_within, get_or_from_slice_get, unwrap_or-slice_get}
use Rattle.std.proofs.lemmas.Nat.Bits.{bit_at_lowest, bit_at-suc}
use Rattle.resolvo_text.specs.Line.{Version, Spec, Cond, Line, Needs, Limits}
use Rattle.resolvo_text.specs.Matches as lines
use Rattle.resolvo_catalogue_core.specs.Listed.{listed}
use Rattle.resolvo_catalogue_core.specs.Questions.{ReadRequest}
use Rattle.resolvo_catalogue_core.specs.Sets.{is_many}
use Rattle.resolvo_terms.proofs.Places.{at_from_contains, contains_from_at, each_left}
use Rattle.resolvo_pool_core.specs.declared.id.VersionSetId.{VersionSetId}
use Rattle.resolvo_pool_core.specs.declared.id.StringId.{StringId}
use Rattle.resolvo_intern.specs.declared.pool.Solvable.{Solvable}
use Rattle.resolvo_pool_core.specs.declared.requirement.Requirement.{Requirement}
use Rattle.resolvo_pool_core.specs.declared.requirement.Requirement.TheVariants.{Single, Union}
use Rattle.resolvo_pool_core.specs.declared.requirement.ConditionalRequirement.{ConditionalRequirement}
use Rattle.resolvo_pool_core.specs.OnePass as pass
use Rattle.resolvo_pool_core.specs.Provider as pool
use Rattle.resolvo_pool_core.specs.RuleKeeping.{rules_of, rules_for}
use Rattle.resolvo_pool_core.specs.RuleKeeping as pool_rules
use Rattle.resolvo_pool_core.specs.Text.{alternatives_of}
use Rattle.resolvo_store_core.specs.AtMostOne.{digit}
use Rattle.resolvo_sat.specs.RuleClauses.{Atom, Rule, IsExact, plus, minus, solvables, parent_literals, set_literals, case_literals, candidate_literals, AreMatched, same_requirement, has_plain_need, has_condition, literals_of}
use Rattle.resolvo_sat.proofs.Lists.{contains_none, contains_cases, contains_first, contains_later, contains_left, contains_right, contains_parts, contains_map, map_contains, contains_filter, filter_contains, any_contained, contained_all}
use Rattle.resolvo_state.specs.declared.atom.ProofAtom.{ProofAtom}
use Rattle.resolvo_state.specs.declared.atom.ProofAtom.TheVariants as atom
use Rattle.resolvo_state.specs.Atoms.{atom_of}
use Rattle.resolvo_proof.specs.Members.{SameMembers}
use Rattle.resolvo_proof.specs.Steps.{literal_in}
use Rattle.resolvo_proof.specs.declared.step.ProofLiteral.{ProofLiteral}
use Rattle.resolvo_terms.specs.Terms.{NameId, AreEach}
use Rattle.resolvo_catalogue.specs.Ids.{SolvableId, solvable_id, solvables_of, IsPackage, IsSpec, IsNeed, IsSolvable}
use Rattle.resolvo_catalogue.specs.Known.{name_text, name_of, set_at, spec_at, members_of, alternatives_at}
use Rattle.resolvo_catalogue.specs.Dependencies.{VersionDependencies, no_lines}
use Rattle.resolvo_catalogue.specs.Provider.{Provider, packages_of, candidates_of, matches, deps_at, needs_of, dependencies_of}
use Rattle.resolvo_catalogue.specs.Over.{IsOver, AreAsked}
use Rattle.resolvo_catalogue.specs.KeptSets.{DistinguishesIds, root_of}
use Rattle.resolvo_catalogue.specs.declared.provider.RequestIds.{RequestIds}
use Rattle.resolvo_terms.specs.declared.terms.Numbers.{Numbers}
use Rattle.resolvo_catalogue.proofs.Alike.{member_place, listed_is, is_package, match_same, in_from, in_to, outside_same}
use Rattle.resolvo_catalogue.proofs.KeptAlike.{its_version, package_alike, mark_alike}
use Rattle.resolvo_catalogue.proofs.RulesKept.{con_from}
use Rattle.resolvo_catalogue.proofs.MarkLemmas.{one_some}
use Rattle.resolvo_report.specs.Value as in_report
use Rattle.resolvo_checker.specs.StepClauses as judge
use Rattle.resolvo_checker.proofs.Sets.{is_contained}
use Rattle.resolve_refusal.specs.RefusedReport.{version_at, place_at}
use Rattle.resolve_refusal.specs.Lines.{NeedsAs}
use Rattle.resolve_refusal.specs.Refusal.{IsVersion, IsRequirement, IsKnownAtom, atom_at, literal_at, AreLiterals, IsOfPlace, IsForbiddenBy}
use Rattle.resolve_refusal.proofs.ForbidLemmas.{forbid_clause}
use Rattle.resolve_refusal.proofs.RenameLemmas.{IsKnown, IsKnownClause, name, name_literal, name_clause, version_is, name_is, spec_is, specs_are, members_known}

-- the digit of a place is its bit
digit_bit : (k i : ℕ) → digit k i ≡ (bit_at k i == 1)
digit_bit k zero = ap (λ (n : ℕ). n == 1) (sym (bit_at_lowest k))
digit_bit k (suc i) = digit_bit (k / 2) i ∙ ap (λ (n : ℕ). n == 1) (sym (bit_at-suc k i))

-- the image of each element of a list
each_contained : {X Y : Type 0} (R : X → Y → Type 0) (xs : List X) (ys : List Y) → AreEach R xs ys → (x : X) → Contains xs x → (y : Y) × R x y
each_contained R [] ys each x h = absurd (contains_none x h)
each_contained R (z ∷ xs) [] each x h = absurd each
each_contained R (z ∷ xs) (y ∷ ys) each x h = elim (contains_cases x z xs h) [
  | inl e ↦ (y, subst (λ w. R w y) (sym e) each.0)
  | inr a ↦ each_contained R xs ys each.1 x a
]

-- the limits of a version are among its dependencies
pub limits_known : (deps : List VersionDependencies) (k : ℕ) (v : VersionSetId) → Contains (slice_index_or deps k no_lines).constrains v → slice_get deps k ≡ Some (slice_index_or deps k no_lines)
limits_known [] k v h = absurd (contains_none v h)
limits_known (t ∷ deps) zero v h = refl
limits_known (t ∷ deps) (suc k) v h = limits_known deps k v h

same_requirement_is : (r q : Requirement) → same_requirement r q ≡ true → r ≡ q
same_requirement_is (Single v) (Single w) h = (let e : v.0 ≡ w.0 = eqb-true v.0 w.0 h in λ i. Single (record { 0 = e i }))
same_requirement_is (Union v) (Union w) h = (let e : v.0 ≡ w.0 = eqb-true v.0 w.0 h in λ i. Union (record { 0 = e i }))
same_requirement_is (Single v) (Union w) h = absurd cc
same_requirement_is (Union v) (Single w) h = absurd cc

module _ (catalogue : List Line) (provider : Provider) (over : IsOver catalogue provider) where
  -- The second clause has the names of the first one's literals, which are known.
  pub record Spells (c : List (pass.Literal (Atom NameId SolvableId))) (d : List (pass.Literal in_report.Atom)) : Type 0 where
    pub known : IsKnownClause catalogue provider over c
    pub only : (l : pass.Literal (Atom NameId SolvableId)) → Contains c l → Contains d (name_literal catalogue provider over l)
    pub each : (m : pass.Literal in_report.Atom) → Contains d m → (l : pass.Literal (Atom NameId SolvableId)) × Contains c l × (m ≡ name_literal catalogue provider over l)

  pub spelled_members : (c : List (pass.Literal (Atom NameId SolvableId))) (d : List (pass.Literal in_report.Atom)) → Spells c d → SameMembers (name_clause catalogue provider over c) d
  spelled_members c d s = record {
    only = λ m h. (let (l, a, e) = map_contains (name_literal catalogue provider over) m c h in subst (λ x. Contains d x) (sym e) (s.only l a));
    each = λ m h. (let (l, a, e) = s.each m h in subst (λ x. Contains (name_clause catalogue provider over c) x) (sym e) (contains_map (name_literal catalogue provider over) l c a));
  }

  spelled_none : Spells [] []
  spelled_none = record { known = λ l h. absurd (contains_none l h); only = λ l h. absurd (contains_none l h); each = λ m h. absurd (contains_none m h) }

  spelled_more : (l : pass.Literal (Atom NameId SolvableId)) (m : pass.Literal in_report.Atom) (c : List (pass.Literal (Atom NameId SolvableId))) (d : List (pass.Literal in_report.Atom))
      → IsKnown catalogue provider over l.atom → m ≡ name_literal catalogue provider over l → Spells c d → Spells (l ∷ c) (m ∷ d)
  spelled_more l m c d known is s = record {
    known = λ x h. elim (contains_cases x l c h) [ inl e ↦ subst (λ (y : pass.Literal (Atom NameId SolvableId)). IsKnown catalogue provider over y.atom) (sym e) known | inr a ↦ s.known x a ];
    only = λ x h. elim (contains_cases x l c h) [
      | inl e ↦ contains_first (name_literal catalogue provider over x) m d (is ∙ ap (name_literal catalogue provider over) (sym e))
      | inr a ↦ contains_later (name_literal catalogue provider over x) m d (s.only x a)
    ];
    each = λ x h. elim (contains_cases x m d h) [
      | inl e ↦ (l, contains_first l l c refl, e ∙ is)
      | inr a ↦ (let (y, b, e) = s.each x a in (y, contains_later y l c b, e))
    ];
  }

  spelled_append : (c e : List (pass.Literal (Atom NameId SolvableId))) (d f : List (pass.Literal in_report.Atom)) → Spells c d → Spells e f → Spells (c ++ e) (d ++ f)
  spelled_append c e d f s t = record {
    known = λ x h. elim (contains_parts x c e h) [ inl a ↦ s.known x a | inr a ↦ t.known x a ];
    only = λ x h. elim (contains_parts x c e h) [
      | inl a ↦ contains_left (name_literal catalogue provider over x) d f (s.only x a)
      | inr a ↦ contains_right (name_literal catalogue provider over x) d f (t.only x a)
    ];
    each = λ x h. elim (contains_parts x d f h) [
      | inl a ↦ (let (y, b, g) = s.each x a in (y, contains_left y c e b, g))
      | inr a ↦ (let (y, b, g) = t.each x a in (y, contains_right y c e b, g))
    ];
  }

  -- ---- versions

  pub is_listed : (s : SolvableId) → IsVersion catalogue provider.ids s → judge.is_listed catalogue (version_at catalogue s) ≡ true
  is_listed s (v, e) = is_contained (listed catalogue) (version_at catalogue s) (subst (λ (x : Version). Contains (listed catalogue) x) (sym (version_is catalogue provider over s v e)) (contains_from_at (listed catalogue) v s.raw e))

  pub fails_spelled : (parent : Option SolvableId) → ((s : SolvableId) → parent ≡ Some s → IsVersion catalogue provider.ids s) → Spells (parent_literals parent) (judge.place_fails (place_at catalogue parent))
  fails_spelled None known = spelled_none
  fails_spelled (Some s) known = spelled_more (minus (Atom.solvable s)) (judge.not_in (version_at catalogue s)) [] [] (known s refl) refl spelled_none

  module _ (same : SolvableId → SolvableId → Bool) (exact : IsExact same) where
    apart : DistinguishesIds same
    apart s t = (exact.one s t, λ e. subst (λ x. same s x ≡ true) e (exact.own s))

    -- a candidate is a listed version
    candidate_listed : (n : NameId) (s : SolvableId) → Contains (pool.listed (candidates_of provider n)) s → IsVersion catalogue provider.ids s
    candidate_listed n s h =
        let (i, x, at, there, is) = member_place (λ (y : Solvable ℕ). y.name.raw == n.raw) 0 provider.ids.solvables s (subst (λ (xs : List SolvableId). Contains xs s) (listed_is provider _) h) in
        let (v, e, more) = each_left (IsSolvable provider.ids) provider.ids.solvables (listed catalogue) over.versions i x there in
        (v, subst (λ (k : ℕ). slice_get (listed catalogue) k ≡ Some v) (let e : i ≡ s.raw = omega (arith, at) in e) e)

    -- the candidates of a version set's package that pass a test, and the listed versions that pass one
    tested_spelled : (w : VersionSetId) (test : SolvableId → Bool) (source : Version → Bool)
        → ((x : SolvableId) (v : Version) → slice_get (listed catalogue) x.raw ≡ Some v → (pool_rules.is_in same (packages_of provider) (pool.listed (candidates_of provider (set_at provider.ids w).0)) x && test x) ≡ source v)
        → Spells (solvables (filter test (pool.listed (candidates_of provider (set_at provider.ids w).0)))) (judge.each_listed catalogue source)
    tested_spelled w test source alike = record {
      known = λ l h. (
          let (x, a, e) = map_contains (λ (y : SolvableId). plus (Atom.solvable y)) l (filter test candidates) h in
          subst (λ (y : pass.Literal (Atom NameId SolvableId)). IsKnown catalogue provider over y.atom) (sym e) (candidate_listed (set_at provider.ids w).0 x (filter_contains test x candidates a).0)
          );
      only = λ l h. (
          let (x, a, e) = map_contains (λ (y : SolvableId). plus (Atom.solvable y)) l (filter test candidates) h in
          let (b, t) = filter_contains test x candidates a in
          let (v, g) = candidate_listed (set_at provider.ids w).0 x b in
          let m : source v ≡ true = sym (alike x v g) ∙ and_from _ _ (in_to provider (listed catalogue) over.versions over.once same apart candidates x b) t in
          let there : Contains (judge.each_listed catalogue source) (judge.is_in v) = contains_map judge.is_in v (filter source (listed catalogue)) (contains_filter source v (listed catalogue) (contains_from_at (listed catalogue) v x.raw g) m) in
          subst (λ y. Contains (judge.each_listed catalogue source) (name_literal catalogue provider over y)) (sym e) (subst (λ (u : Version). Contains (judge.each_listed catalogue source) (judge.is_in u)) (sym (version_is catalogue provider over x v g)) there)
          );
      each = λ m h. (
          let (v, a, e) = map_contains judge.is_in m (filter source (listed catalogue)) h in
          let (b, t) = filter_contains source v (listed catalogue) a in
          let (k, g) = at_from_contains (listed catalogue) v b in
          let x : SolvableId = solvable_id k in
          let p = and_parts _ _ (alike x v g ∙ t) in (
            plus (Atom.solvable x),
            contains_map (λ (y : SolvableId). plus (Atom.solvable y)) x (filter test candidates) (contains_filter test x candidates (in_from provider (listed catalogue) over.versions over.once same apart candidates x p.0) p.1),
            e ∙ ap judge.is_in (sym (version_is catalogue provider over x v g)),
          )
          );
    }
      where
        candidates : List SolvableId
        candidates = pool.listed (candidates_of provider (set_at provider.ids w).0)

    -- the matches of a version set, and the listed versions that its SPEC matches
    matches_spelled : (w : VersionSetId) (s : Spec) → IsSpec provider.ids w s
        → Spells (solvables (filter (matches provider w) (pool.listed (candidates_of provider (set_at provider.ids w).0)))) (judge.each_listed catalogue (lines.matches s))
    matches_spelled w s spec = tested_spelled w (matches provider w) (lines.matches s) (λ x v e. match_same provider (listed catalogue) over.versions over.once same apart w s x v spec e)

    -- the candidates outside a version set, and the listed versions outside its SPEC
    others_spelled : (w : VersionSetId) (s : Spec) → IsSpec provider.ids w s
        → Spells (solvables (filter (λ x. not (matches provider w x)) (pool.listed (candidates_of provider (set_at provider.ids w).0)))) (judge.each_listed catalogue (judge.is_outside s))
    others_spelled w s spec = tested_spelled w (λ x. not (matches provider w x)) (judge.is_outside s) (λ x v e. outside_same provider (listed catalogue) over.versions over.once same apart w s x v spec e)

    -- a candidate that a version set matches is a listed version, which its SPEC matches
    pub is_its_match : (v : VersionSetId) (spec : Spec) (s : SolvableId) → IsSpec provider.ids v spec → pool_rules.is_match same (packages_of provider) v s ≡ true
        → IsVersion catalogue provider.ids s × (lines.matches (spec_at provider.ids v) (version_at catalogue s) ≡ true)
    is_its_match v spec s is match =
        let among = in_from provider (listed catalogue) over.versions over.once same apart (pool.listed (candidates_of provider (set_at provider.ids v).0)) s (and_parts _ _ match).0 in
        let (w, e) = candidate_listed (set_at provider.ids v).0 s among in
        let matched : lines.matches spec w ≡ true = sym (match_same provider (listed catalogue) over.versions over.once same apart v spec s w is e) ∙ match in
        let named : spec ≡ spec_at provider.ids v = sym (spec_is catalogue provider over v spec is) in
        let at : w ≡ version_at catalogue s = sym (version_is catalogue provider over s w e) in
        ((w, e), subst (λ (x : Spec). lines.matches x (version_at catalogue s) ≡ true) named (subst (λ (x : Version). lines.matches spec x ≡ true) at matched))

    -- the package of a version set
    set_package : (v : VersionSetId) (s : Spec) → IsSpec provider.ids v s → IsPackage provider.ids (set_at provider.ids v).0 s.name
    set_package v s (n, e, named) =
        let set : (set_at provider.ids v).0 ≡ n = ap (λ (x : NameId × Numbers). x.0) (get_or_from_slice_get provider.ids.version_sets v.0 _ _ e) in
        subst (λ (m : NameId). IsPackage provider.ids m s.name) (sym set) named

    -- the provider and the lines mark the package of a version set alike, which has a match
    pub set_alike : (v : VersionSetId) (s : Spec) (x : SolvableId) → IsSpec provider.ids v s → pool_rules.is_match same (packages_of provider) v x ≡ true
        → pool_rules.is_many (packages_of provider) (set_at provider.ids v).0 ≡ is_many catalogue s.name
    set_alike v s x is match =
        let n = (set_at provider.ids v).0 in
        let among = in_from provider (listed catalogue) over.versions over.once same apart (pool.listed (candidates_of provider n)) x (and_parts _ _ match).0 in
        package_alike provider catalogue over same apart n s.name (set_package v s is) x (subst (λ (xs : List SolvableId). Contains xs x) (listed_is provider (solvables_of provider.ids n.raw)) among)

    -- a version set of a case, and its SPEC
    set_spelled : (v : VersionSetId) (s : Spec) → IsSpec provider.ids v s → (x : SolvableId) × (pool_rules.is_match same (packages_of provider) v x ≡ true) → Spells (set_literals same (packages_of provider) v) (judge.spec_fails catalogue s)
    set_spelled v s is (x, match) =
        let n = (set_at provider.ids v).0 in
        let alike = set_alike v s x is match in
        let its = set_package v s is in
        let text : s.name ≡ name_text provider.ids n = sym (name_is catalogue provider over n s.name its) in
        let spec : s ≡ spec_at provider.ids v = sym (spec_is catalogue provider over v s is) in
        elim (cases_Bool (is_many catalogue s.name)) [
          | inl many ↦ rw (alike ∙ many, many) (spelled_more (minus (Atom.matches v)) _ [] [] (s, is) (λ i. record { atom = in_report.MatchesOf (spec i); positive = false }) spelled_none)
          | inr one ↦ rw (alike ∙ one, one) (spelled_more (minus (Atom.any_of n)) _ _ _ (s.name, its) (λ i. record { atom = in_report.AnyOf (text i); positive = false }) (others_spelled v s is))
        ]

    -- a case of a condition, whose version sets have matches, and its SPECs
    case_spelled : (vs : List VersionSetId) (ss : List Spec) → AreEach (IsSpec provider.ids) vs ss → AreMatched same (packages_of provider) vs → Spells (case_literals same (packages_of provider) vs) (judge.case_fails catalogue ss)
    case_spelled [] [] h matched = spelled_none
    case_spelled [] (s ∷ ss) h matched = absurd h
    case_spelled (v ∷ vs) [] h matched = absurd h
    case_spelled (v ∷ vs) (s ∷ ss) h matched = spelled_append _ _ _ _ (set_spelled v s h.0 (matched v (contains_first v v vs refl))) (case_spelled vs ss h.1 (λ w a. matched w (contains_later w v vs a)))

    candidates_spelled : (vs : List VersionSetId) (ss : List Spec) → AreEach (IsSpec provider.ids) vs ss → Spells (candidate_literals same (packages_of provider) vs) (judge.some_match catalogue ss)
    candidates_spelled [] [] h = spelled_none
    candidates_spelled [] (s ∷ ss) h = absurd h
    candidates_spelled (v ∷ vs) [] h = absurd h
    candidates_spelled (v ∷ vs) (s ∷ ss) h = spelled_append _ _ _ _ (matches_spelled v s h.0) (candidates_spelled vs ss h.1)

    -- the candidates that meet a requirement, and the listed matches of its alternatives
    pub alternatives_spelled : (r : Requirement) → IsRequirement catalogue provider.ids r → Spells (candidate_literals same (packages_of provider) (alternatives_of (members_of provider.ids) r)) (judge.some_match catalogue (alternatives_at provider.ids r))
    alternatives_spelled r known =
        let (ss, each) = members_known catalogue provider over r known in
        subst (λ (ts : List Spec). Spells (candidate_literals same (packages_of provider) (alternatives_of (members_of provider.ids) r)) (judge.some_match catalogue ts)) (sym (specs_are catalogue provider over _ ss each))
        (candidates_spelled (alternatives_of (members_of provider.ids) r) ss each)

    -- ---- rules

    -- a solvable with a need is a listed version, and the need is known
    pub needed : (s : SolvableId) (need : ConditionalRequirement) → Contains (rules_of (dependencies_of provider s)).requirements need → IsVersion catalogue provider.ids s × ((source : List Spec × Option Cond) × IsNeed provider.ids need source)
    needed s need h = go (slice_get provider.deps s.raw) refl
      where
        rules_are : (o : Option VersionDependencies) → slice_get provider.deps s.raw ≡ o → deps_at provider s ≡ unwrap_or o no_lines
        rules_are o e = sym (unwrap_or-slice_get provider.deps s.raw no_lines) ∙ ap (λ (x : Option VersionDependencies). unwrap_or x no_lines) e

        line_is : (t : VersionDependencies) (why : Option StringId) → Contains (rules_of (needs_of t why)).requirements need → Contains t.requirements need
        line_is t None a = a
        line_is t (Some w) a = absurd (contains_none need a)

        go : (o : Option VersionDependencies) → slice_get provider.deps s.raw ≡ o → IsVersion catalogue provider.ids s × ((source : List Spec × Option Cond) × IsNeed provider.ids need source)
        go None e = absurd (contains_none need (line_is no_lines None (subst (λ (t : VersionDependencies). Contains (rules_of (needs_of t t.unknown)).requirements need) (rules_are None e) h)))
        go (Some t) e =
            let (numbers, all, are_deps) = over.deps.each s.raw t e in
            let (source, is) = each_contained (IsNeed provider.ids) t.requirements _ are_deps.requirements need (line_is t t.unknown (subst (λ (x : VersionDependencies). Contains (rules_of (needs_of x x.unknown)).requirements need) (rules_are (Some t) e) h)) in
            let below : s.raw < length provider.deps = slice_get_within provider.deps s.raw t e in
            let long : length provider.deps ≡ length (listed catalogue) = over.deps.as_many in
            let none : Version = record { name = []; number = 0 } in
            ((_, slice_get-get_or (listed catalogue) s.raw none (omega (arith, below, long))), (source, is))

    -- so is a need of the root
    pub asked_for : (source : ReadRequest) (ids : RequestIds) → AreAsked provider.ids source ids → (parent : Option SolvableId) (need : ConditionalRequirement) → Contains (rules_for same (packages_of provider) (root_of ids) parent).requirements need
        → ((s : SolvableId) → parent ≡ Some s → IsVersion catalogue provider.ids s) × ((x : List Spec × Option Cond) × IsNeed provider.ids need x)
    asked_for source ids asked None need h = (λ s e. absurd cc, each_contained (IsNeed provider.ids) ids.requirements.items _ asked.requirements need h)
    asked_for source ids asked (Some s) need h =
        let (v, r) = needed s need h in
        ((λ t e. (let at : s ≡ t = one_some e in subst (λ (x : SolvableId). IsVersion catalogue provider.ids x) at v)), r)

    pub gate_asked : (s : SolvableId) (r : Requirement) → has_plain_need (rules_of (dependencies_of provider s)).requirements r ≡ true → IsVersion catalogue provider.ids s × IsRequirement catalogue provider.ids r
    gate_asked s r h =
        let (need, a, t) = any_contained (λ (n : ConditionalRequirement). not (has_condition n.condition) && same_requirement r n.requirement) _ h in
        let is : r ≡ need.requirement = same_requirement_is r need.requirement (and_parts (not (has_condition need.condition)) _ t).1 in
        let (v, (source, (alternatives, condition))) = needed s need a in
        (v, subst (λ (q : Requirement). IsRequirement catalogue provider.ids q) (sym is) (source.0, alternatives))

    -- ---- the clauses of steps

    -- the step of a report has a clause, which spells this one
    abbrev pub IsSpelled : List Line → List (pass.Literal (Atom NameId SolvableId)) → in_report.Step → Type 0
    IsSpelled request c step = (d : judge.Clause) × (judge.clause_of catalogue request step ≡ Some d) × Spells c d

    pub need_spelled : (request : List Line) (parent : Option SolvableId) (r : Requirement) (case : List VersionSetId) (line k : ℕ) → ((s : SolvableId) → parent ≡ Some s → IsVersion catalogue provider.ids s) → IsRequirement catalogue provider.ids r
        → (specs : List Spec) × AreEach (IsSpec provider.ids) case specs → AreMatched same (packages_of provider) case → IsOfPlace catalogue request (place_at catalogue parent) (NeedsAs (alternatives_at provider.ids r) (map (spec_at provider.ids) case) k) line
        → IsSpelled request (parent_literals parent ++ (case_literals same (packages_of provider) case ++ candidate_literals same (packages_of provider) (alternatives_of (members_of provider.ids) r))) (in_report.Need (place_at catalogue parent) line k)
    need_spelled request parent r case line k listed known (specs, each) matched (l, is_line, (condition, is, (at, first))) =
        let line_is : judge.line_of catalogue request (place_at catalogue parent) line ≡ Some (Needs (alternatives_at provider.ids r) condition) = is_line ∙ ap (λ (x : Line). Some x) is in
        let cased : judge.case_at condition k ≡ Some specs = at ∙ ap (λ (ss : List Spec). Some ss) (specs_are catalogue provider over case specs each) in (
          judge.place_fails (place_at catalogue parent) ++ (judge.case_fails catalogue specs ++ judge.some_match catalogue (alternatives_at provider.ids r)),
          ap (judge.need_clause catalogue (place_at catalogue parent) k) line_is
              ∙ ap (option_map (λ ss. judge.place_fails (place_at catalogue parent) ++ (judge.case_fails catalogue ss ++ judge.some_match catalogue (alternatives_at provider.ids r)))) cased,
          spelled_append _ _ _ _ (fails_spelled parent listed) (spelled_append _ _ _ _ (case_spelled case specs each matched) (alternatives_spelled r known)),
        )

    pub gate_spelled : (request : List Line) (s : SolvableId) (r : Requirement) (line : ℕ) → IsVersion catalogue provider.ids s → IsRequirement catalogue provider.ids r
        → judge.line_of catalogue request (in_report.OfVersion (version_at catalogue s)) line ≡ Some (Needs (alternatives_at provider.ids r) None)
        → IsSpelled request (minus (Atom.solvable s) ∷ plus (Atom.gate r) ∷ []) (in_report.Gate (version_at catalogue s) line)
    gate_spelled request s r line listed known needs = (
      judge.not_in (version_at catalogue s) ∷ judge.literal (in_report.SharedBy (alternatives_at provider.ids r)) true ∷ [],
      ap (judge.gate_clause (version_at catalogue s)) needs,
      spelled_more (minus (Atom.solvable s)) _ _ _ listed refl (spelled_more (plus (Atom.gate r)) _ [] [] known refl spelled_none),
    )

    pub shared_spelled : (request : List Line) (r : Requirement) → IsRequirement catalogue provider.ids r
        → IsSpelled request (minus (Atom.gate r) ∷ candidate_literals same (packages_of provider) (alternatives_of (members_of provider.ids) r)) (in_report.Shared (alternatives_at provider.ids r))
    shared_spelled request r known = (_, refl, spelled_more (minus (Atom.gate r)) _ _ _ known refl (alternatives_spelled r known))

    pub digit_spelled : (request : List Line) (s : SolvableId) (place bit : ℕ) → IsVersion catalogue provider.ids s → bit < 32 → pool_rules.is_many (packages_of provider) (name_of provider.ids s) ≡ false
        → IsSpelled request (literals_of same (packages_of provider) (Rule.has_digit s bit (digit place bit))) (in_report.Digit (version_at catalogue s) place bit)
    digit_spelled request s place bit known below unmarked =
        let (v, e) = known in
        let at : version_at catalogue s ≡ v = version_is catalogue provider over s v e in
        let packaged = is_package provider (listed catalogue) over.versions over.once same apart s v e in
        let text : (version_at catalogue s).name ≡ name_text provider.ids (name_of provider.ids s) = ap (λ (x : Version). x.name) at ∙ sym (name_is catalogue provider over (name_of provider.ids s) v.name packaged) in
        let lists : judge.is_listed catalogue (version_at catalogue s) ≡ true = is_listed s known in
        let one : is_many catalogue (version_at catalogue s).name ≡ false = ap (λ (x : Version). is_many catalogue x.name) at ∙ (sym (mark_alike provider catalogue over same apart s v e) ∙ unmarked) in
        let within : nat_lt bit 32 ≡ true = (Decides-ltb bit 32).1 below in (
          judge.not_in (version_at catalogue s) ∷ judge.literal (in_report.BitOf bit (version_at catalogue s).name) (bit_at place bit == 1) ∷ [],
          rw (lists, one, within) refl,
          spelled_more (minus (Atom.solvable s)) _ _ _ known refl (spelled_more _ _ [] [] (v.name, packaged) (λ i. record { atom = in_report.BitOf bit (text i); positive = sym (digit_bit place bit) i }) spelled_none),
        )

    -- a limit of a parent is known, and so is the parent
    pub limited : (source : ReadRequest) (ids : RequestIds) → AreAsked provider.ids source ids → (parent : Option SolvableId) (v : VersionSetId) → Contains (rules_for same (packages_of provider) (root_of ids) parent).constraints v
        → ((s : SolvableId) → parent ≡ Some s → IsVersion catalogue provider.ids s) × ((spec : Spec) × IsSpec provider.ids v spec)
    limited source ids asked None v h = (let (spec, is) = each_contained (IsSpec provider.ids) ids.constraints.items _ asked.constraints v h in ((λ s e. absurd cc), (spec, is)))
    limited source ids asked (Some s) v h =
        let has : Contains (deps_at provider s).constrains v = con_from (deps_at provider s) (deps_at provider s).unknown v h in
        let there = limits_known provider.deps s.raw v has in
        let (numbers, all, are_deps) = over.deps.each s.raw (deps_at provider s) there in
        let (spec, is) = each_contained (IsSpec provider.ids) (deps_at provider s).constrains _ are_deps.constrains v has in
        let below : s.raw < length provider.deps = slice_get_within provider.deps s.raw _ there in
        let long : length provider.deps ≡ length (listed catalogue) = over.deps.as_many in
        let none : Version = record { name = []; number = 0 } in
        ((λ t e. (let at : s ≡ t = one_some e in subst (λ (x : SolvableId). IsVersion catalogue provider.ids x) at (_, slice_get-get_or (listed catalogue) s.raw none (omega (arith, below, long))))), (spec, is))

    -- a solvable outside a version set is a listed version, outside its SPEC
    pub is_out : (v : VersionSetId) (spec : Spec) (s : SolvableId) → IsSpec provider.ids v spec → pool_rules.is_outside same (packages_of provider) v s ≡ true
        → IsVersion catalogue provider.ids s × (judge.is_outside (spec_at provider.ids v) (version_at catalogue s) ≡ true)
    is_out v spec s is out =
        let among = in_from provider (listed catalogue) over.versions over.once same apart (pool.listed (candidates_of provider (set_at provider.ids v).0)) s (and_parts _ _ out).0 in
        let (w, e) = candidate_listed (set_at provider.ids v).0 s among in
        let deps : judge.is_outside spec w ≡ true = sym (outside_same provider (listed catalogue) over.versions over.once same apart v spec s w is e) ∙ out in
        let named : spec ≡ spec_at provider.ids v = sym (spec_is catalogue provider over v spec is) in
        let at : w ≡ version_at catalogue s = sym (version_is catalogue provider over s w e) in
        ((w, e), subst (λ (x : Spec). judge.is_outside x (version_at catalogue s) ≡ true) named (subst (λ (x : Version). judge.is_outside spec x ≡ true) at deps))

    pub limit_spelled : (request : List Line) (parent : Option SolvableId) (v : VersionSetId) (line : ℕ) → ((s : SolvableId) → parent ≡ Some s → IsVersion catalogue provider.ids s) → (spec : Spec) × IsSpec provider.ids v spec
        → judge.line_of catalogue request (place_at catalogue parent) line ≡ Some (Limits (spec_at provider.ids v))
        → IsSpelled request (parent_literals parent ++ minus (Atom.outside v) ∷ []) (in_report.Limit (place_at catalogue parent) line)
    limit_spelled request parent v line versions known limits = (
      judge.place_fails (place_at catalogue parent) ++ judge.literal (in_report.OutsideOf (spec_at provider.ids v)) false ∷ [],
      ap (judge.limit_clause (place_at catalogue parent)) limits,
      spelled_append _ _ _ _ (fails_spelled parent versions) (spelled_more (minus (Atom.outside v)) _ [] [] known refl spelled_none),
    )

    pub limit_forbids_spelled : (request : List Line) (parent : Option SolvableId) (v : VersionSetId) (s : SolvableId) (line : ℕ) → ((s : SolvableId) → parent ≡ Some s → IsVersion catalogue provider.ids s) → (spec : Spec) × IsSpec provider.ids v spec
        → pool_rules.is_outside same (packages_of provider) v s ≡ true → judge.line_of catalogue request (place_at catalogue parent) line ≡ Some (Limits (spec_at provider.ids v))
        → IsSpelled request (parent_literals parent ++ minus (Atom.solvable s) ∷ []) (in_report.LimitBars (place_at catalogue parent) line (version_at catalogue s))
    limit_forbids_spelled request parent v s line versions (spec, is) out limits =
        let (version, outside) = is_out v spec s is out in
        let lists : judge.is_listed catalogue (version_at catalogue s) ≡ true = is_listed s version in
        let clause : judge.limit_bars_clause catalogue (place_at catalogue parent) (version_at catalogue s) (Some (Limits (spec_at provider.ids v))) ≡ Some (judge.place_fails (place_at catalogue parent) ++ judge.not_in (version_at catalogue s) ∷ []) = rw (lists, outside) refl in (
          judge.place_fails (place_at catalogue parent) ++ judge.not_in (version_at catalogue s) ∷ [],
          ap (judge.limit_bars_clause catalogue (place_at catalogue parent) (version_at catalogue s)) limits ∙ clause,
          spelled_append _ _ _ _ (fails_spelled parent versions) (spelled_more (minus (Atom.solvable s)) _ [] [] version refl spelled_none),
        )

    pub outside_spelled : (request : List Line) (v : VersionSetId) (s : SolvableId) → (spec : Spec) × IsSpec provider.ids v spec → pool_rules.is_outside same (packages_of provider) v s ≡ true
        → IsSpelled request (minus (Atom.solvable s) ∷ plus (Atom.outside v) ∷ []) (in_report.Outside (spec_at provider.ids v) (version_at catalogue s))
    outside_spelled request v s (spec, is) out =
        let (version, outside) = is_out v spec s is out in
        let lists : judge.is_listed catalogue (version_at catalogue s) ≡ true = is_listed s version in (
          judge.not_in (version_at catalogue s) ∷ judge.literal (in_report.OutsideOf (spec_at provider.ids v)) true ∷ [],
          rw (lists, outside) refl,
          spelled_more (minus (Atom.solvable s)) _ _ _ version refl (spelled_more (plus (Atom.outside v)) _ [] [] (spec, is) refl spelled_none),
        )

    pub match_spelled : (request : List Line) (v : VersionSetId) (s : SolvableId) → (spec : Spec) × IsSpec provider.ids v spec → pool_rules.is_match same (packages_of provider) v s ≡ true
        → pool_rules.is_many (packages_of provider) (set_at provider.ids v).0 ≡ true
        → IsSpelled request (minus (Atom.solvable s) ∷ plus (Atom.matches v) ∷ []) (in_report.Matches (spec_at provider.ids v) (version_at catalogue s))
    match_spelled request v s (spec, is) match marked =
        let (version, matched) = is_its_match v spec s is match in
        let lists : judge.is_listed catalogue (version_at catalogue s) ≡ true = is_listed s version in
        let many : is_many catalogue (spec_at provider.ids v).name ≡ true = ap (λ (x : Spec). is_many catalogue x.name) (spec_is catalogue provider over v spec is) ∙ (sym (set_alike v spec s is match) ∙ marked) in (
          judge.not_in (version_at catalogue s) ∷ judge.literal (in_report.MatchesOf (spec_at provider.ids v)) true ∷ [],
          rw (lists, matched, many) refl,
          spelled_more (minus (Atom.solvable s)) _ _ _ version refl (spelled_more (plus (Atom.matches v)) _ [] [] (spec, is) refl spelled_none),
        )

    -- a candidate of a package is a version of it
    pub candidate_of : (n : NameId) (s : SolvableId) → pool_rules.is_in same (packages_of provider) (pool.listed (candidates_of provider n)) s ≡ true → IsVersion catalogue provider.ids s × IsPackage provider.ids n (version_at catalogue s).name
    candidate_of n s h =
        let among = in_from provider (listed catalogue) over.versions over.once same apart (pool.listed (candidates_of provider n)) s h in
        let (v, e, packaged) = its_version provider catalogue over same apart n s (subst (λ (xs : List SolvableId). Contains xs s) (listed_is provider (solvables_of provider.ids n.raw)) among) in
        ((v, e), subst (λ (w : Version). IsPackage provider.ids n w.name) (sym (version_is catalogue provider over s v e)) packaged)

    pub any_spelled : (request : List Line) (n : NameId) (s : SolvableId) → pool_rules.is_in same (packages_of provider) (pool.listed (candidates_of provider n)) s ≡ true
        → IsSpelled request (minus (Atom.solvable s) ∷ plus (Atom.any_of n) ∷ []) (in_report.Any (version_at catalogue s))
    any_spelled request n s there =
        let (version, packaged) = candidate_of n s there in
        let text : (version_at catalogue s).name ≡ name_text provider.ids n = sym (name_is catalogue provider over n (version_at catalogue s).name packaged) in
        let lists : judge.is_listed catalogue (version_at catalogue s) ≡ true = is_listed s version in (
          judge.not_in (version_at catalogue s) ∷ judge.literal (in_report.AnyOf (version_at catalogue s).name) true ∷ [],
          rw lists refl,
          spelled_more (minus (Atom.solvable s)) _ _ _ version refl (spelled_more (plus (Atom.any_of n)) _ [] [] ((version_at catalogue s).name, packaged) (λ i. record { atom = in_report.AnyOf (text i); positive = true }) spelled_none),
        )

    pub forbid_spelled : (request : List Line) (s : SolvableId) (t : in_report.Step) → IsVersion catalogue provider.ids s → IsForbiddenBy catalogue (version_at catalogue s) t → IsSpelled request (minus (Atom.solvable s) ∷ []) t
    forbid_spelled request s t version forbids = (
      judge.not_in (version_at catalogue s) ∷ [],
      forbid_clause catalogue request (version_at catalogue s) t (is_listed s version) forbids,
      spelled_more (minus (Atom.solvable s)) _ [] [] version refl spelled_none,
    )

  -- ---- derived clauses

  known_atom : (a : ProofAtom NameId SolvableId) → IsKnownAtom catalogue provider.ids a → IsKnown catalogue provider over (atom_of a)
  known_atom (atom.Solvable s) h = h
  known_atom (atom.AtLeastOne n) (name, is, fits) = (name, is)
  known_atom (atom.Gate r) (ss, are, fit) = (ss, are)
  known_atom (atom.Outside v) (s, is, fits) = (s, is)
  known_atom (atom.Matches v) ((s, is, fits), many) = (s, is)
  known_atom (atom.Bit n bit) ((name, is, fits), below, one) = (name, is)

  named_atom : (a : ProofAtom NameId SolvableId) → name catalogue provider over (atom_of a) ≡ atom_at catalogue provider.ids a
  named_atom (atom.Solvable s) = refl
  named_atom (atom.AtLeastOne n) = refl
  named_atom (atom.Gate r) = refl
  named_atom (atom.Outside v) = refl
  named_atom (atom.Matches v) = refl
  named_atom (atom.Bit n bit) = refl

  is_atom : (a : ProofAtom NameId SolvableId) → IsKnownAtom catalogue provider.ids a → judge.is_atom catalogue (atom_at catalogue provider.ids a) ≡ true
  is_atom (atom.Solvable s) h = is_listed s h
  is_atom (atom.AtLeastOne n) h = refl
  is_atom (atom.Gate r) h = refl
  is_atom (atom.Outside v) h = refl
  is_atom (atom.Matches v) (known, many) = many
  is_atom (atom.Bit n bit) (known, below, one) = rw one refl

  named_literal : (l : ProofLiteral NameId SolvableId) → name_literal catalogue provider over (literal_in l) ≡ judge.literal_of (literal_at catalogue provider.ids l)
  named_literal l i = record { atom = named_atom l.atom i; positive = l.positive }

  pub literals_spelled : (literals : List (ProofLiteral NameId SolvableId)) (written : List in_report.Literal) → ((l : ProofLiteral NameId SolvableId) → Contains literals l → IsKnownAtom catalogue provider.ids l.atom)
      → AreLiterals catalogue provider.ids literals written → Spells (map literal_in literals) (map judge.literal_of written)
  literals_spelled literals written known are = record {
    known = λ l h. (let (k, a, e) = map_contains literal_in l literals h in subst (λ (x : pass.Literal (Atom NameId SolvableId)). IsKnown catalogue provider over x.atom) (sym e) (known_atom k.atom (known k a)));
    only = λ l h. (
        let (k, a, e) = map_contains literal_in l literals h in
        let there = contains_map judge.literal_of (literal_at catalogue provider.ids k) written ((are (literal_at catalogue provider.ids k)).1 (k, a, refl)) in
        subst (λ x. Contains (map judge.literal_of written) x) (sym (ap (name_literal catalogue provider over) e ∙ named_literal k)) there
        );
    each = λ m h. (
        let (w, b, e) = map_contains judge.literal_of m written h in
        let (k, a, is) = (are w).0 b in
        (literal_in k, contains_map literal_in k literals a, e ∙ (ap judge.literal_of is ∙ sym (named_literal k)))
        );
  }

  pub derived_spelled : (request : List Line) (literals : List (ProofLiteral NameId SolvableId)) (written : List in_report.Literal) (causes : List ℕ) → ((l : ProofLiteral NameId SolvableId) → Contains literals l → IsKnownAtom catalogue provider.ids l.atom)
      → AreLiterals catalogue provider.ids literals written → judge.clause_of catalogue request (in_report.Derive written causes) ≡ Some (map judge.literal_of written)
  derived_spelled request literals written causes known are = rw (contained_all (λ (l : in_report.Literal). judge.is_atom catalogue l.atom) written
      (λ w b. (let (k, a, is) = (are w).0 b in ap (λ (l : in_report.Literal). judge.is_atom catalogue l.atom) is ∙ is_atom k.atom (known k a)))) refl
