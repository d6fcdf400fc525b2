-- The needs of a provider's root and members are those of lines, and sets of versions represent
-- solvables.
use Rattle.std.proofs.Common.{◌≡◌, inl, inr, ℕ, zero, suc, Bool, true, false, List, [], ◌∷◌, Option, Some, None, refl, sym, ap, subst, ◌∙◌}
use Rattle.std.specs.Prelude.{Contains, slice_get, ◌||◌, not, bytes_eq}
use Rattle.std.specs.List.{list_any, flat_map}
use Rattle.resolvo_text.specs.Line.{Version, Spec, Cond, Line, Listed, Needs, Limits}
use Rattle.resolvo_text.specs.Matches as texts
use Rattle.resolvo_text.specs.Matches.{Set}
use Rattle.resolvo_catalogue_core.specs.Grammar.{line_at, AreRequestLines}
use Rattle.resolvo_catalogue_core.specs.Listed.{listed}
use Rattle.resolvo_catalogue_core.specs.Questions.{ReadRequest}
use Rattle.resolvo_catalogue_core.specs.Rules.{keeps_in_request, obeys, binds as binds_of}
use Rattle.resolvo_catalogue_core.specs.Sets as sets
use Rattle.resolvo_terms.proofs.Places.{at_from_contains, no_element, first_element, later_element, element_cases}
use Rattle.resolvo_catalogue_core.proofs.TableLemmas.{listed_has}
use Rattle.resolvo_pool_core.specs.declared.id.VersionSetId.{VersionSetId}
use Rattle.resolvo_pool_core.specs.declared.requirement.ConditionalRequirement.{ConditionalRequirement}
use Rattle.resolvo_pool_core.specs.RuleKeeping.{Rules, is_in, is_member, is_outside, meets, binds, rules_for, IsRuleKeeping}
use Rattle.resolvo_terms.specs.Terms.{NameId}
use Rattle.resolvo_catalogue.specs.Ids.{SolvableId, solvable_id, IsNeed, IsSpec, AreAlternatives}
use Rattle.resolvo_catalogue.specs.Known.{name_of}
use Rattle.resolvo_catalogue.specs.Dependencies.{need_in, limit_in, lines_at}
use Rattle.resolvo_catalogue.specs.Provider.{Provider, deps_at, packages_of}
use Rattle.resolvo_catalogue.specs.Over.{IsOver, AreAsked}
use Rattle.resolvo_catalogue.specs.KeptSets.{Represents, DistinguishesIds, root_of}
use Rattle.resolvo_catalogue.specs.declared.provider.RequestIds.{RequestIds}
use Rattle.resolvo_catalogue.proofs.Alike.{is_package, in_from, in_to, need_binds, meets_same, outside_same}
use Rattle.resolvo_catalogue.proofs.Elements.{flat_from, flat_to, each_from_left, each_from_right, need_from, limit_from, from_lines, to_lines}
use Rattle.resolvo_catalogue.proofs.KeptAlike.{deps_of_it, kept_alike, mark_alike}
use Rattle.resolvo_catalogue.proofs.MarkLemmas.{one_some}
use Rattle.resolvo_catalogue.proofs.PassLemmas.{all_from}
use Rattle.resolvo_catalogue.proofs.RulesKept.{bound, member_from, member_to, met_member, within_from, req_from, req_to}
use Rattle.resolve_answer.specs.First.{IsLineOf, IsNeeded}

-- ---- solvables for a set of listed versions

pub solvables_for : (catalogue : List Line) (set : Set) → ((v : Version) → Contains set v → Contains catalogue (Listed v)) → (chosen : List SolvableId) × Represents (listed catalogue) chosen set
solvables_for catalogue [] there = ([], record { each = λ s c. absurd (no_element s c); all = λ v c. absurd (no_element v c) })
solvables_for catalogue (v ∷ vs) there =
    let k = listed_has catalogue v (there v (first_element v vs)) in
    let (chosen, represents) = solvables_for catalogue vs (λ w c. there w (later_element v vs w c)) in (
      solvable_id k.0 ∷ chosen,
      record {
        each = λ s c. elim (element_cases (solvable_id k.0) chosen s c) [
          | inl is ↦ (v, subst (λ (t : SolvableId). slice_get (listed catalogue) t.raw ≡ Some v) is k.1, first_element v vs)
          | inr m ↦ let w = represents.each s m in (w.0, w.1, later_element v vs w.0 w.2)
        ];
        all = λ w c. elim (element_cases v vs w c) [
          | inl is ↦ (solvable_id k.0, first_element (solvable_id k.0) chosen, k.1 ∙ ap (λ (u : Version). Some u) is)
          | inr m ↦ let s = represents.all w m in (s.0, later_element (solvable_id k.0) chosen s.0 s.1, s.2)
        ];
      },
    )

module _ (p : Provider) (catalogue : List Line) (over : IsOver catalogue p) (same : SolvableId → SolvableId → Bool) (apart : DistinguishesIds same) (source : ReadRequest) (asked : RequestIds) (asks : AreAsked p.ids source asked)
    (chosen : List SolvableId) (set : Set) (represents : Represents (listed catalogue) chosen set) where
  abbrev KeepsRules : Type 0
  KeepsRules = IsRuleKeeping same (packages_of p) (root_of asked) chosen

  pub found : (s : SolvableId) → is_in same (packages_of p) chosen s ≡ true → Contains chosen s
  found s h = in_from p (listed catalogue) over.versions over.once same apart chosen s h

  pub held : (s : SolvableId) → Contains chosen s → is_in same (packages_of p) chosen s ≡ true
  held s c = in_to p (listed catalogue) over.versions over.once same apart chosen s c

  binds_parsed : (need : ConditionalRequirement) (source : List Spec × Option Cond) → IsNeed p.ids need source → binds same (packages_of p) chosen need ≡ texts.condition_holds source.1 set
  binds_parsed need source is = need_binds p (listed catalogue) over.versions over.once same apart chosen set represents over.once.below need source is

  meets_parsed : (need : ConditionalRequirement) (source : List Spec × Option Cond) (x : SolvableId) (v : Version) → IsNeed p.ids need source → slice_get (listed catalogue) x.raw ≡ Some v → meets same (packages_of p) need.requirement x ≡ list_any (λ (s : Spec). texts.matches s v) source.0
  meets_parsed need source x v is e = meets_same p (listed catalogue) over.versions over.once same apart chosen set represents over.once.below need.requirement source.0 x v is.0 e

  -- each binding need of the root or a member is that of a line
  pub needed_by : (parent : Option SolvableId) (need : ConditionalRequirement) → is_member same (packages_of p) (root_of asked) chosen parent ≡ true → Contains (rules_for same (packages_of p) (root_of asked) parent).requirements need → binds same (packages_of p) chosen need ≡ true
      → (alternatives : List Spec) × AreAlternatives p.ids need.requirement alternatives × IsNeeded catalogue source.lines set alternatives
  needed_by None need m c b =
      let s = each_from_left (IsNeed p.ids) asked.requirements.items (flat_map need_in source.lines) asks.requirements need c in
      let l = flat_from need_in source.lines s.0 s.1 in (
        s.0.0,
        s.2.0,
        record {
          owner = None;
          condition = s.0.1;
          line = subst (λ (x : Line). Contains source.lines x) (need_from l.0 s.0 l.2) l.1;
          member = refl;
          holds = sym (binds_parsed need s.0 s.2) ∙ b;
        },
      )
  needed_by (Some t) need m c b =
      let v = represents.each t (found t m) in
      let owned = deps_of_it p catalogue over same apart t v.0 v.1 in
      let s = each_from_left (IsNeed p.ids) (deps_at p t).requirements (flat_map need_in (lines_at catalogue owned.0)) owned.2.requirements need (req_from (deps_at p t) (deps_at p t).unknown need c) in
      let l = flat_from need_in (lines_at catalogue owned.0) s.0 s.1 in
      let is : l.0 ≡ Needs s.0.0 s.0.1 = need_from l.0 s.0 l.2 in
      let at = from_lines (listed catalogue) catalogue t.raw v.0 v.1 owned.0 owned.1 (Needs s.0.0 s.0.1) (subst (λ (x : Line). Contains (lines_at catalogue owned.0) x) is l.1) in (
        s.0.0,
        s.2.0,
        record {
          owner = Some v.0;
          condition = s.0.1;
          line = (at.0, at.1, at.2);
          member = member_to v.0 set v.2;
          holds = sym (binds_parsed need s.0 s.2) ∙ b;
        },
      )

  -- ---- where the solvables keep the provider's rules

  module _ (keeps : KeepsRules) where
    met_for : (parent : Option SolvableId) (need : ConditionalRequirement) (source : List Spec × Option Cond) → is_member same (packages_of p) (root_of asked) chosen parent ≡ true → Contains (rules_for same (packages_of p) (root_of asked) parent).requirements need → IsNeed p.ids need source → texts.condition_holds source.1 set ≡ true
        → (v : Version) × Contains set v × (list_any (λ (s : Spec). texts.matches s v) source.0 ≡ true)
    met_for parent need source m c is holding =
        let x = keeps.obeys.requirements_met parent need m c (binds_parsed need source is ∙ holding) in
        let v = represents.each x.0 (found x.0 x.1) in
        (v.0, v.2, sym (meets_parsed need source x.0 v.0 is v.1) ∙ x.2)

    -- a member matches each need
    pub needed_met : (alternatives : List Spec) → IsNeeded catalogue source.lines set alternatives → (v : Version) × Contains set v × (list_any (λ (s : Spec). texts.matches s v) alternatives ≡ true)
    needed_met alternatives needed = go needed.owner needed.line needed.member
      where
        go : (owner : Option Version) → IsLineOf catalogue source.lines owner (Needs alternatives needed.condition) → binds_of owner set ≡ true → (v : Version) × Contains set v × (list_any (λ (s : Spec). texts.matches s v) alternatives ≡ true)
        go None line member =
            let need_parsed : List Spec × Option Cond = (alternatives, needed.condition) in
            let need = each_from_right (IsNeed p.ids) asked.requirements.items (flat_map need_in source.lines) asks.requirements need_parsed (flat_to need_in source.lines (Needs alternatives needed.condition) need_parsed line (first_element need_parsed [])) in
            met_for None need.0 need_parsed refl need.1 need.2 needed.holds
        go (Some v) line member =
            let need_parsed : List Spec × Option Cond = (alternatives, needed.condition) in
            let s = represents.all v (member_from v set member) in
            let owned = deps_of_it p catalogue over same apart s.0 v s.2 in
            let l = to_lines (listed catalogue) catalogue s.0.raw v s.2 owned.0 owned.1 line.0 (Needs alternatives needed.condition) line.1 line.2 in
            let need = each_from_right (IsNeed p.ids) (deps_at p s.0).requirements (flat_map need_in (lines_at catalogue owned.0)) owned.2.requirements need_parsed (flat_to need_in (lines_at catalogue owned.0) (Needs alternatives needed.condition) need_parsed l (first_element need_parsed [])) in
            met_for (Some s.0) need.0 need_parsed (held s.0 s.1) (req_to (deps_at p s.0) (deps_at p s.0).unknown need.0 (keeps.known s.0 (held s.0 s.1)) need.1) need.2 needed.holds

    -- one member a package that isn't marked
    pub one_each : (v w : Version) → Contains set v → Contains set w → v.name ≡ w.name → sets.is_many catalogue v.name ≡ false → v ≡ w
    one_each v w c d e_name unmarked =
        let s = represents.all v c in
        let t = represents.all w d in
        let at_s : slice_get p.ids.names (name_of p.ids s.0).raw ≡ Some v.name = is_package p (listed catalogue) over.versions over.once same apart s.0 v s.2 in
        let raws : (name_of p.ids s.0).raw ≡ (name_of p.ids t.0).raw = over.once.names (name_of p.ids s.0).raw (name_of p.ids t.0).raw w.name (at_s ∙ ap (λ (x : List ℕ). Some x) e_name) (is_package p (listed catalogue) over.versions over.once same apart t.0 w t.2) in
        let is : s.0 ≡ t.0 = keeps.single.one s.0 t.0 (held s.0 s.1) (held t.0 t.1) (ap (λ (k : ℕ). let id : NameId = record { raw = k; tag = record {} } in id) raws) (mark_alike p catalogue over same apart s.0 v s.2 ∙ unmarked) in
        one_some (sym s.2 ∙ ap (λ (x : SolvableId). slice_get (listed catalogue) x.raw) is ∙ t.2)

  -- ---- where the set keeps the lines

  nothing_asked : (n : ℕ) → keeps_in_request [] n set ≡ true
  nothing_asked zero = refl
  nothing_asked (suc n) = refl

  abbrev free : Rules
  free = record { requirements = []; constraints = [] }

  module _ (keeps : sets.IsRuleKeeping catalogue source.lines set) where
    line_kept : (l : Line) → Contains source.lines l → obeys None l set ≡ true
    line_kept l c =
        let at = at_from_contains source.lines l c in
        let e : line_at source.lines (suc at.0) ≡ Some l = at.1 in
        sym (rw e refl) ∙ keeps.request_lines (suc at.0)

    -- the rules but those of the root
    others_kept : IsRuleKeeping same (packages_of p) free chosen
    others_kept =
        let none : AreRequestLines catalogue [] = λ n line e. absurd (cc (e)) in
        (kept_alike p catalogue [] over none free tt tt same apart chosen set represents).1 (record { single = keeps.single; catalogue_lines = keeps.catalogue_lines; request_lines = nothing_asked })

    asked_met : (need : List Spec × Option Cond) → Contains (flat_map need_in source.lines) need → texts.condition_holds need.1 set ≡ true → (v : Version) × Contains set v × (list_any (λ (s : Spec). texts.matches s v) need.0 ≡ true)
    asked_met need c holding =
        let l = flat_from need_in source.lines need c in
        let obeyed = line_kept (Needs need.0 need.1) (subst (λ (x : Line). Contains source.lines x) (need_from l.0 need l.2) l.1) in
        met_member need.0 set (bound true (texts.condition_holds need.1 set) (texts.is_met_by_one need.0 set) obeyed refl holding)

    requirement_met : (parent : Option SolvableId) (need : ConditionalRequirement) → is_member same (packages_of p) (root_of asked) chosen parent ≡ true → Contains (rules_for same (packages_of p) (root_of asked) parent).requirements need → binds same (packages_of p) chosen need ≡ true
        → (s : SolvableId) × (is_in same (packages_of p) chosen s ≡ true) × (meets same (packages_of p) need.requirement s ≡ true)
    requirement_met (Some t) need m c b = others_kept.obeys.requirements_met (Some t) need m c b
    requirement_met None need m c b =
        let (l, there, is) = each_from_left (IsNeed p.ids) asked.requirements.items (flat_map need_in source.lines) asks.requirements need c in
        let (v, in_set, match) = asked_met l there (sym (binds_parsed need l is) ∙ b) in
        let x = represents.all v in_set in
        (x.0, held x.0 x.1, meets_parsed need l x.0 v is x.2 ∙ match)

    constraint_kept : (parent : Option SolvableId) (w : VersionSetId) (s : SolvableId) → is_member same (packages_of p) (root_of asked) chosen parent ≡ true → Contains (rules_for same (packages_of p) (root_of asked) parent).constraints w → is_in same (packages_of p) chosen s ≡ true → is_outside same (packages_of p) w s ≡ false
    constraint_kept (Some t) w s m c h = others_kept.obeys.constraints_kept (Some t) w s m c h
    constraint_kept None w s m c h =
        let spec = each_from_left (IsSpec p.ids) asked.constraints.items (flat_map limit_in source.lines) asks.constraints w c in
        let l = flat_from limit_in source.lines spec.0 spec.1 in
        let obeyed = line_kept (Limits spec.0) (subst (λ (x : Line). Contains source.lines x) (limit_from l.0 spec.0 l.2) l.1) in
        let v = represents.each s (found s h) in
        outside_same p (listed catalogue) over.versions over.once same apart w spec.0 s v.0 spec.2 v.1
        ∙ within_from spec.0 v.0 (all_from (λ (x : Version). not (bytes_eq x.name spec.0.name) || texts.matches spec.0 x) set v.0 obeyed v.2)

    -- the solvables keep the provider's rules
    pub keeps_rules : KeepsRules
    keeps_rules = record {
      single = others_kept.single;
      obeys = record { requirements_met = requirement_met; constraints_kept = constraint_kept };
      allowed = others_kept.allowed;
      known = others_kept.known;
    }
