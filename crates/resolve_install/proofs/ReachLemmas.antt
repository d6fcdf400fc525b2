-- A version that is reached over a provider is reached over the lines.
use Rattle.std.proofs.Common.{◌≡◌, inl, inr, ℕ, suc, Bool, true, false, List, [], ◌∷◌, Option, Some, None, refl, sym, ap, subst, ◌∙◌, if◌then◌else◌}
use Rattle.std.specs.Prelude.{Contains, slice_get, option_to_list}
use Rattle.std.specs.List.{flat_map}
use Rattle.std.specs.Option.{option_map_or}
use Rattle.std.proofs.lemmas.Bool.{false≢true}
use Rattle.resolvo_text.specs.Line.{Version, Spec, Cond, Line, Needs}
use Rattle.resolvo_text.specs.Matches as lines
use Rattle.resolvo_text.specs.Matches.{Set}
use Rattle.resolvo_catalogue_core.specs.Grammar.{line_at, owner_of}
use Rattle.resolvo_catalogue_core.specs.Answers.{Reason, ForRequest, ForVersion}
use Rattle.resolvo_catalogue_core.specs.Listed.{listed, members}
use Rattle.resolvo_catalogue_core.specs.declared.rule.VersionNo.{VersionNo}
use Rattle.resolvo_terms.proofs.Places.{at_from_contains, no_element, first_element, element_cases}
use Rattle.resolve_order.specs.Order.{line_named, IsAsked, AreReached}
use Rattle.resolve_order.specs.Order as texts
use Rattle.resolve_order.proofs.Elements.{map_element, mapped_element}
use Rattle.resolvo_pool_core.specs.declared.requirement.ConditionalRequirement.{ConditionalRequirement}
use Rattle.resolvo_pool_core.specs.RuleKeeping.{Rules, is_in, meets, binds, is_member, rules_for, IsSingle, IsReached}
use Rattle.resolvo_pool_core.specs.RuleKeeping as kept
use Rattle.resolvo_catalogue.specs.Ids.{SolvableId, IsNeed, solvables_of}
use Rattle.resolvo_terms.specs.Terms.{AreEach}
use Rattle.resolvo_catalogue.specs.Known.{name_of}
use Rattle.resolvo_catalogue.specs.Dependencies.{need_in, lines_at}
use Rattle.resolvo_catalogue.specs.Over.{IsOver, AreDependenciesAt}
use Rattle.resolvo_catalogue_core.specs.Questions.{BelongsTo}
use Rattle.resolvo_catalogue.specs.Provider.{Provider, candidates_of, deps_at, packages_of}
use Rattle.resolvo_catalogue.specs.KeptSets.{Represents, DistinguishesIds}
use Rattle.resolvo_pool_core.specs.Provider as pool
use Rattle.resolvo_catalogue.proofs.MarkLemmas.{one_some}
use Rattle.resolvo_catalogue.proofs.Elements.{flat_from, flat_to, option_from, option_to, each_from_left, need_from, from_lines}
use Rattle.resolvo_catalogue.proofs.RulesKept.{req_from, member_from, member_to}
use Rattle.resolvo_catalogue.proofs.Alike.{listed_is, in_from, in_to, need_binds, meets_same}
use Rattle.resolvo_catalogue.proofs.KeptAlike.{deps_of_it, its_version}
use Rattle.resolve_install.specs.Numbers.{numbers_of}

-- ---- the versions of solvables

abbrev number : SolvableId → VersionNo
number s = record { 0 = s.raw }

abbrev numbered : List Version → VersionNo → List Version
numbered versions n = option_to_list (slice_get versions n.0)

-- where each solvable has a version, the solvables represent the set of these
pub members_represent : (versions : List Version) (chosen : List SolvableId) → ((s : SolvableId) → Contains chosen s → (v : Version) × (slice_get versions s.raw ≡ Some v)) → Represents versions chosen (members versions (numbers_of chosen))
members_represent versions chosen has = record {
  each = λ s c. let v = has s c in (v.0, v.1, flat_to (numbered versions) (numbers_of chosen) (number s) v.0 (map_element number chosen s c) (option_to (slice_get versions s.raw) v.0 v.1));
  all = λ v c.
      let f = flat_from (numbered versions) (numbers_of chosen) v c in
      let s = mapped_element number chosen f.0 f.1 in
      (s.0, s.1, ap (λ (n : VersionNo). slice_get versions n.0) s.2 ∙ option_from (slice_get versions f.0.0) v f.2);
}

-- ---- the solvables of a part of the versions

abbrev is_of : List Version → Set → SolvableId → Bool
is_of versions part s = option_map_or (λ (v : Version). lines.is_member v part) (slice_get versions s.raw) false

abbrev if_of : List Version → Set → SolvableId → List SolvableId
if_of versions part s = if is_of versions part s then s ∷ [] else []

-- the chosen solvables whose versions are in the part
abbrev part_of : List Version → List SolvableId → Set → List SolvableId
part_of versions chosen part = flat_map (if_of versions part) chosen

one_if : (b : Bool) (s t : SolvableId) → Contains (if b then s ∷ [] else []) t → (s ≡ t) × (b ≡ true)
one_if true s t c = elim (element_cases s [] t c) [ inl is ↦ (is, refl) | inr more ↦ absurd (no_element t more) ]
one_if false s t c = absurd (no_element t c)

if_one : (b : Bool) (s : SolvableId) → b ≡ true → Contains (if b then s ∷ [] else []) s
if_one true s h = first_element s []
if_one false s h = absurd (false≢true h)

module _ (versions : List Version) (chosen : List SolvableId) (part : Set) where
  of_version : (s : SolvableId) (v : Version) → slice_get versions s.raw ≡ Some v → is_of versions part s ≡ lines.is_member v part
  of_version s v e = rw e refl

  from_part : (s : SolvableId) → Contains (part_of versions chosen part) s → Contains chosen s × (is_of versions part s ≡ true)
  from_part s c =
      let f = flat_from (if_of versions part) chosen s c in
      let one = one_if (is_of versions part f.0) f.0 s f.2 in
      (subst (λ (t : SolvableId). Contains chosen t) one.0 f.1, subst (λ (t : SolvableId). is_of versions part t ≡ true) one.0 one.1)

  to_part : (s : SolvableId) (v : Version) → Contains chosen s → slice_get versions s.raw ≡ Some v → Contains part v → Contains (part_of versions chosen part) s
  to_part s v c e inside = flat_to (if_of versions part) chosen s s c (if_one (is_of versions part s) s (of_version s v e ∙ member_to v part inside))

  part_represents : (set : Set) → Represents versions chosen set → ((v : Version) → Contains part v → Contains set v) → Represents versions (part_of versions chosen part) part
  part_represents set represents within = record {
    each = λ s c.
        let f = from_part s c in
        let v = represents.each s f.0 in
        (v.0, v.1, member_from v.0 part (sym (of_version s v.0 v.1) ∙ f.1));
    all = λ v c. let s = represents.all v (within v c) in (s.0, to_part s.0 v s.1 s.2 c, s.2);
  }

-- ---- reached versions

module _ (p : Provider) (catalogue request : List Line) (over : IsOver catalogue p) (same : SolvableId → SolvableId → Bool) (apart : DistinguishesIds same) (root : Rules) where
  found : (xs : List SolvableId) (s : SolvableId) → is_in same (packages_of p) xs s ≡ true → Contains xs s
  found xs s h = in_from p (listed catalogue) over.versions over.once same apart xs s h

  held : (xs : List SolvableId) (s : SolvableId) → Contains xs s → is_in same (packages_of p) xs s ≡ true
  held xs s h = in_to p (listed catalogue) over.versions over.once same apart xs s h

  -- a solvable of a set of candidates has a version
  pub has_version : (chosen : List SolvableId) → IsSingle same (packages_of p) chosen → (s : SolvableId) → Contains chosen s → (v : Version) × (slice_get (listed catalogue) s.raw ≡ Some v)
  has_version chosen single s c =
      let n = name_of p.ids s in
      let among = found (pool.listed (candidates_of p n)) s (single.listed s (held chosen s c)) in
      let v = its_version p catalogue over same apart n s (subst (λ (xs : List SolvableId). Contains xs s) (listed_is p (solvables_of p.ids n.raw)) among) in
      (v.0, v.1)

  module _ (needs_are : AreEach (IsNeed p.ids) root.requirements (flat_map need_in request)) (chosen : List SolvableId) (set : Set) (represents : Represents (listed catalogue) chosen set)
      (wishes : List SolvableId) (wished : Set) (wish_has : (s : SolvableId) → Contains wishes s → (v : Version) × (slice_get (listed catalogue) s.raw ≡ Some v) × Contains wished v) where
    module _ (part : Set) (closed : texts.IsClosed catalogue request set wished part) where
      inner : Represents (listed catalogue) (part_of (listed catalogue) chosen part) part
      inner = part_represents (listed catalogue) chosen part set represents closed.within

      -- the version of a need by its line is in the part
      given_by : (reason : Reason) (need : ConditionalRequirement) (source : List Spec × Option Cond) (s : SolvableId) → IsAsked catalogue part reason → line_named catalogue request reason ≡ Some (Needs source.0 source.1) → IsNeed p.ids need source
          → binds same (packages_of p) (part_of (listed catalogue) chosen part) need ≡ true → meets same (packages_of p) need.requirement s ≡ true → is_in same (packages_of p) chosen s ≡ true → is_in same (packages_of p) (part_of (listed catalogue) chosen part) s ≡ true
      given_by reason need source s asked line is binding meeting inside =
          let c = found chosen s inside in
          let v = represents.each s c in
          let xs = part_of (listed catalogue) chosen part in
          let matched = sym (meets_same p (listed catalogue) over.versions over.once same apart xs part inner over.once.below need.requirement source.0 s v.0 is.0 v.1) ∙ meeting in
          let holding = sym (need_binds p (listed catalogue) over.versions over.once same apart xs part inner over.once.below need source is) ∙ binding in
          held xs s (to_part (listed catalogue) chosen part s v.0 c v.1 (closed.needed reason v.0 asked (source.0, source.1, line, matched, holding) v.2))

      -- the line of a version that has a need
      line_at_need : (t : SolvableId) (w : Version) → slice_get (listed catalogue) t.raw ≡ Some w → (known : AreDependenciesAt p.ids catalogue t.raw (deps_at p t)) (source : List Spec × Option Cond) → (l : Line) × Contains (lines_at catalogue known.0) l × Contains (need_in l) source
          → (n : ℕ) × (line_at catalogue n ≡ Some (Needs source.0 source.1)) × (owner_of catalogue n ≡ Some w)
      line_at_need t w e known source f =
          let at = from_lines (listed catalogue) catalogue t.raw w e known.0 known.1 f.0 f.1 in
          let is = need_from f.0 source f.2 in
          (at.0, at.1 ∙ ap (λ (l : Line). Some l) is, subst (λ (l : Line). BelongsTo w (owner_of catalogue at.0) l) is at.2)

      given : (parent : Option SolvableId) (need : ConditionalRequirement) (s : SolvableId) → is_member same (packages_of p) root (part_of (listed catalogue) chosen part) parent ≡ true → Contains (rules_for same (packages_of p) root parent).requirements need
          → binds same (packages_of p) (part_of (listed catalogue) chosen part) need ≡ true → meets same (packages_of p) need.requirement s ≡ true → is_in same (packages_of p) chosen s ≡ true → is_in same (packages_of p) (part_of (listed catalogue) chosen part) s ≡ true
      given None need s hm hc binding meeting inside =
          let source = each_from_left (IsNeed p.ids) root.requirements (flat_map need_in request) needs_are need hc in
          let f = flat_from need_in request source.0 source.1 in
          let at = at_from_contains request (Needs source.0.0 source.0.1) (subst (λ (l : Line). Contains request l) (need_from f.0 source.0 f.2) f.1) in
          given_by (ForRequest (suc at.0)) need source.0 s tt at.1 source.2 binding meeting inside
      given (Some t) need s hm hc binding meeting inside =
          let w = inner.each t (found (part_of (listed catalogue) chosen part) t hm) in
          let known = deps_of_it p catalogue over same apart t w.0 w.1 in
          let source = each_from_left (IsNeed p.ids) (deps_at p t).requirements (flat_map need_in (lines_at catalogue known.0)) known.2.requirements need (req_from (deps_at p t) (deps_at p t).unknown need hc) in
          let f = flat_from need_in (lines_at catalogue known.0) source.0 source.1 in
          let at = line_at_need t w.0 w.1 known source.0 f in
          given_by (ForVersion w.0 at.0) need source.0 s (w.2, at.2) at.1 source.2 binding meeting inside

      wish_part : (s : SolvableId) → is_in same (packages_of p) wishes s ≡ true → is_in same (packages_of p) chosen s ≡ true → is_in same (packages_of p) (part_of (listed catalogue) chosen part) s ≡ true
      wish_part s h inside =
          let v = wish_has s (found wishes s h) in
          held (part_of (listed catalogue) chosen part) s (to_part (listed catalogue) chosen part s v.0 (found chosen s inside) v.1 (closed.wished v.0 v.2))

      closed_part : kept.IsClosed same (packages_of p) root wishes chosen (part_of (listed catalogue) chosen part)
      closed_part = record {
        inside = λ s h. held chosen s (from_part (listed catalogue) chosen part s (found (part_of (listed catalogue) chosen part) s h)).0;
        wished = wish_part;
        matches = given;
      }

    -- solvables that are reached from the root and the wishes represent versions that are
    pub reached_alike : ((s : SolvableId) → is_in same (packages_of p) chosen s ≡ true → IsReached same (packages_of p) root wishes chosen s) → AreReached catalogue request set wished
    reached_alike all part closed v c =
        let xs = part_of (listed catalogue) chosen part in
        let s = represents.all v c in
        let w = (inner part closed).each s.0 (found xs s.0 (all s.0 (held chosen s.0 s.1) xs (closed_part part closed))) in
        subst (λ (x : Version). Contains part x) (one_some (sym w.1 ∙ s.2)) w.2
